-- What stands round the first mark, from what `split_once` finds.
use Rattle.std.proofs.Common.{Some, None, sym}
use Rattle.std.proofs.lemmas.Str.Pattern.{split_parts}
use Rattle.ref_resolve.proofs.CutLaws.{octet_nowhere, before_parts, after_parts}
use Rattle.registrant.proofs.options.cut.Goals as goal
use Rattle.reference_model.proofs.ReferenceCuts.{before_alone, after_none}

pub returns-in-Some-clause-before : goal.returns-in-Some-clause-before
returns-in-Some-clause-before c =
    let parts =
    split_parts c.args.mark c.args.text.now (Some (c.in-Some.front, c.in-Some.back))
    c.in-Some.ensures.cases c.requires in
    sym (before_parts c.args.mark c.args.text.now c.in-Some.front.now c.in-Some.back.now (parts.0)
    (parts.1))

pub returns-in-Some-clause-after : goal.returns-in-Some-clause-after
returns-in-Some-clause-after c =
    let parts =
    split_parts c.args.mark c.args.text.now (Some (c.in-Some.front, c.in-Some.back))
    c.in-Some.ensures.cases c.requires in
    sym (after_parts c.args.mark c.args.text.now c.in-Some.front.now c.in-Some.back.now (parts.0)
    (parts.1))

pub returns-in-None-clause-before : goal.returns-in-None-clause-before
returns-in-None-clause-before c =
    let nowhere = split_parts c.args.mark c.args.text.now None c.in-None.ensures.cases c.requires in
    sym (before_alone c.args.mark c.args.text.now
    (octet_nowhere c.args.mark c.args.text.now nowhere))

pub returns-in-None-clause-after : goal.returns-in-None-clause-after
returns-in-None-clause-after c =
    let nowhere = split_parts c.args.mark c.args.text.now None c.in-None.ensures.cases c.requires in
    sym (after_none c.args.mark c.args.text.now (octet_nowhere c.args.mark c.args.text.now nowhere))
