use Rattle.std.proofs.Common.{◌≡◌, ◌∙◌, refl, sym, ap, length, vec_len, rules, Bor}
use Rattle.std.proofs.lemmas.List.{length-map}
use Rattle.rd_base.specs.declared.queries.Criterion.{Criterion}
use Rattle.distinct_criteria.proofs.DistinctLaws.{few_distinct, query_all}
use Rattle.distinct_criteria.proofs.distinct.without_repeated.Goals as goal

pub returns-then-criteria-lt2 : goal.returns-then-criteria-lt2
returns-then-criteria-lt2 c =
    query_all c.args.query.now c.as_slice-criteria.result.now _ c.as_slice-criteria.ensures refl
    (few_distinct c.as_slice-criteria.result.now c.if-criteria-lt2.true)

pub returns-then-len-criteria : goal.returns-then-len-criteria
returns-then-len-criteria c =
    let size : vec_len c.in_ok-kept.kept ≡ length c.in_ok-kept.kept.items = search rules in
    query_all c.args.query.now c.as_slice-criteria.result.now c.len.result
    c.as_slice-criteria.ensures
    (c.len.ensures ∙ size
    ∙ sym (length-map c.in_ok-kept.kept.items (λ (k : Bor Criterion). k.now))
    ∙ ap length c.in_ok-kept.ensures) c.if-len-criteria.true
