-- A path up to the offset that `rfind` gives.
use Rattle.std.proofs.Common.{Some, None, sym, ◌∙◌, arith}
use Rattle.std.proofs.lemmas.Str.Pattern.{rfind_char}
use Rattle.link_model.specs.Characters.{slash}
use Rattle.ref_resolve.proofs.CutLaws.{front_range}
use Rattle.ref_resolve.proofs.MergedPaths.{up_to_offset, up_to_nowhere}
use Rattle.ref_resolve.proofs.resolution.directory.Goals as goal

pub returns-in-Some : goal.returns-in-Some
returns-in-Some c =
    let found =
    rfind_char slash c.args.path.now (Some c.in-Some.offset) c.in-Some.ensures.cases
    (omega arith) in
    c.range.ensures.value
    ∙ front_range c.args.path.now c.in-Some.offset
    ∙ sym (up_to_offset c.args.path.now c.in-Some.offset (found.0) (found.1) (found.2))

pub returns-in-None : goal.returns-in-None
returns-in-None c =
    let nowhere = rfind_char slash c.args.path.now None c.in-None.ensures.cases (omega arith) in
    sym (up_to_nowhere c.args.path.now nowhere)
