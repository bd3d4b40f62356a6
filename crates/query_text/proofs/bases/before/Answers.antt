-- What stands before the first mark, from what `split_once` finds.
use Rattle.std.proofs.Common.{Some, None, sym}
use Rattle.std.proofs.lemmas.Str.Pattern.{split_parts}
use Rattle.ref_resolve.proofs.CutLaws.{octet_nowhere, before_parts}
use Rattle.query_text.proofs.bases.before.Goals as goal
use Rattle.reference_model.proofs.ReferenceCuts.{before_alone}

pub returns-in-Some : goal.returns-in-Some
returns-in-Some c =
    let parts =
    split_parts c.args.mark c.args.text.now (Some (c.in-Some.front, c.in-Some.field-0-1))
    c.in-Some.ensures.cases c.requires in
    sym (before_parts c.args.mark c.args.text.now c.in-Some.front.now c.in-Some.field-0-1.now
    (parts.0) (parts.1))

pub returns-in-None : goal.returns-in-None
returns-in-None c =
    let nowhere = split_parts c.args.mark c.args.text.now None c.in-None.ensures.cases c.requires in
    sym (before_alone c.args.mark c.args.text.now
    (octet_nowhere c.args.mark c.args.text.now nowhere))
