-- What `parts` reads.
use Rattle.std.proofs.Common.{sym}
use Rattle.reference_model.proofs.ReferenceReading.{reference_only}
use Rattle.ref_resolve.specs.ComponentsOfParts.{components_of}
use Rattle.query_text.proofs.BaseLaws.{no_reference}
use Rattle.query_text.proofs.bases.reference.Goals as goal

pub returns-in-Ok : goal.returns-in-Ok
returns-in-Ok c =
    sym (reference_only c.args.text.now (components_of c.in-Ok.parts) c.in-Ok.ensures.found)

pub returns-in-Err : goal.returns-in-Err
returns-in-Err c = no_reference c.args.text.now c.in-Err.ensures.only
