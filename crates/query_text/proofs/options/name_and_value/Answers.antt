-- What stands round the first equals sign, from what `split_once` finds.
use Rattle.std.proofs.Common.{ℕ, List, [], Some, None, Option, unwrap_or, rules, sym, ap}
use Rattle.std.proofs.lemmas.Str.Pattern.{split_parts}
use Rattle.link_model.specs.Characters.{equals_sign}
use Rattle.ref_resolve.proofs.CutLaws.{octet_nowhere, before_parts, after_parts}
use Rattle.query_text.proofs.options.name_and_value.Goals as goal
use Rattle.reference_model.proofs.ReferenceCuts.{before_alone, after_none}

pub returns-in-Some-clause-name : goal.returns-in-Some-clause-name
returns-in-Some-clause-name c =
    let parts =
    split_parts equals_sign c.args.option.now (Some (c.in-Some.name, c.in-Some.value))
    c.in-Some.ensures.cases (search rules) in
    sym (before_parts equals_sign c.args.option.now c.in-Some.name.now c.in-Some.value.now (parts.0)
    (parts.1))

pub returns-in-Some-clause-value : goal.returns-in-Some-clause-value
returns-in-Some-clause-value c =
    let parts =
    split_parts equals_sign c.args.option.now (Some (c.in-Some.name, c.in-Some.value))
    c.in-Some.ensures.cases (search rules) in
    sym (ap (λ (o : Option (List ℕ)). unwrap_or o [])
    (after_parts equals_sign c.args.option.now c.in-Some.name.now c.in-Some.value.now
    (parts.0) (parts.1)))

pub returns-in-None-clause-name : goal.returns-in-None-clause-name
returns-in-None-clause-name c =
    let nowhere =
    split_parts equals_sign c.args.option.now None c.in-None.ensures.cases (search rules) in
    sym (before_alone equals_sign c.args.option.now
    (octet_nowhere equals_sign c.args.option.now nowhere))

pub returns-in-None-clause-value : goal.returns-in-None-clause-value
returns-in-None-clause-value c =
    let nowhere =
    split_parts equals_sign c.args.option.now None c.in-None.ensures.cases (search rules) in
    sym (ap (λ (o : Option (List ℕ)). unwrap_or o []) (after_none equals_sign c.args.option.now
    (octet_nowhere equals_sign c.args.option.now nowhere)))
