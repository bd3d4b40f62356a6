-- What `strip_prefix` leaves.
use Rattle.std.proofs.Common.{arith}
use Rattle.std.proofs.lemmas.Str.Pattern.{strip_prefix_char}
use Rattle.link_model.specs.Characters.{slash}
use Rattle.ref_resolve.proofs.CutLaws.{stripped}
use Rattle.registrant.proofs.options.after_slash.Goals as goal

pub returns : goal.returns
returns c =
    stripped slash c.args.path.now c.strip_prefix.result
    (strip_prefix_char slash c.args.path.now c.strip_prefix.result
    c.strip_prefix.ensures.cases (omega arith))
