-- A text cut at its first mark, from the offset that `find` gives.
use Rattle.std.proofs.Common.{Some, None, sym, ◌∙◌}
use Rattle.std.proofs.lemmas.Str.Pattern.{find_char}
use Rattle.ref_resolve.proofs.CutLaws.{octet_nowhere, from_nowhere, before_offset, from_offset}
use Rattle.ref_resolve.proofs.cuts.split_from.Goals as goal
use Rattle.reference_model.proofs.ReferenceCuts.{before_alone}

pub returns-in-Some-clause-before : goal.returns-in-Some-clause-before
returns-in-Some-clause-before c =
    let found =
    find_char c.args.mark c.args.text.now (Some c.in-Some.offset) c.in-Some.ensures.cases
    c.requires in
    c.split_at.ensures.front
    ∙ sym (before_offset c.args.mark c.in-Some.offset c.args.text.now (found.0) (found.1) (found.2))

pub returns-in-Some-clause-from : goal.returns-in-Some-clause-from
returns-in-Some-clause-from c =
    let found =
    find_char c.args.mark c.args.text.now (Some c.in-Some.offset) c.in-Some.ensures.cases
    c.requires in
    c.split_at.ensures.back
    ∙ sym (from_offset c.args.mark c.in-Some.offset c.args.text.now (found.0) (found.1) (found.2))

pub returns-in-None-clause-before : goal.returns-in-None-clause-before
returns-in-None-clause-before c =
    let nowhere = find_char c.args.mark c.args.text.now None c.in-None.ensures.cases c.requires in
    sym (before_alone c.args.mark c.args.text.now
    (octet_nowhere c.args.mark c.args.text.now nowhere))

pub returns-in-None-clause-from : goal.returns-in-None-clause-from
returns-in-None-clause-from c =
    let nowhere = find_char c.args.mark c.args.text.now None c.in-None.ensures.cases c.requires in
    sym (from_nowhere c.args.mark c.args.text.now
    (octet_nowhere c.args.mark c.args.text.now nowhere))
