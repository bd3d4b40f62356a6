use Rattle.std.proofs.Common.{◌≡◌, ℕ, List, IfOk, subst}
use Rattle.directory_core.proofs.DistinctLaws.{asked_by, few_distinct, same_listing}
use Rattle.directory_core.proofs.directory.Directory.lookup.Goals as goal

pub returns-in-Some-clause-listing : goal.returns-in-Some-clause-listing
returns-in-Some-clause-listing g c first history stands =
    let asked =
    asked_by c.in_ok-distinct.field-0 c.args.query.now c.in-Some.distinct c.in-Some.is
    c.in_ok-distinct.ensures in
    subst (λ (text : List ℕ). IfOk c.look.result (λ octets. octets ≡ text))
    (same_listing c.args.query.now c.in-Some.distinct history c.args.now.0 asked)
    (c.look.ensures.listing first history stands)

pub returns-in-Some-clause-counted : goal.returns-in-Some-clause-counted
returns-in-Some-clause-counted g c entries criterion are among =
    let asked =
    asked_by c.in_ok-distinct.field-0 c.args.query.now c.in-Some.distinct c.in-Some.is
    c.in_ok-distinct.ensures in
    few_distinct c.args.steps.now c.look.new.steps c.args.query.now c.in-Some.distinct entries
    asked (λ other within. c.look.ensures.counted entries other are within) criterion among
