use Rattle.std.proofs.Common.{◌≡◌, ◌||◌, length}
use Rattle.std.specs.List.{list_all}
use Rattle.record_model.specs.Matching as model
use Rattle.listing.specs.JudgedEndpoints.{AreJudged}
use Rattle.listing.proofs.link_filters.link_listed_by.Given as goal

abbrev pub invariant-criteria : goal.invariant-criteria
invariant-criteria l = record {
  judged : AreJudged l.record_of l.left l.rest;
  same : list_all (λ criterion.
      model.link_matches criterion l.link || model.endpoint_matches criterion l.record_of)
      l.rest
      ≡ list_all (λ criterion.
      model.link_matches criterion l.link || model.endpoint_matches criterion l.record_of)
      l.criteria;
}

abbrev pub decreases-criteria : goal.decreases-criteria
decreases-criteria l = length l.rest
