-- A text up to its first mark, from the offset that `find` gives.
use Rattle.std.proofs.Common.{Some, None, sym, ◌∙◌}
use Rattle.std.proofs.lemmas.Str.Pattern.{find_char}
use Rattle.ref_resolve.proofs.CutLaws.{octet_nowhere, through_offset, through_nowhere, front_range}
use Rattle.ref_resolve.proofs.cuts.through.Goals as goal

pub returns-in-Some : goal.returns-in-Some
returns-in-Some c =
    let found =
    find_char c.args.mark c.args.text.now (Some c.in-Some.offset) c.in-Some.ensures.cases
    c.requires in
    let value =
    through_offset c.args.mark c.in-Some.offset c.args.text.now (found.0) (found.1) (found.2) in
    c.range.ensures.value ∙ front_range c.args.text.now c.in-Some.offset ∙ sym value

pub returns-in-None : goal.returns-in-None
returns-in-None c =
    let nowhere = find_char c.args.mark c.args.text.now None c.in-None.ensures.cases c.requires in
    sym (through_nowhere c.args.mark c.args.text.now
    (octet_nowhere c.args.mark c.args.text.now nowhere))
