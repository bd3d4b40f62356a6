use Rattle.std.proofs.Common.{◌≡◌, length}
use Rattle.std.specs.List.{list_any}
use Rattle.record_model.specs.Matching as model
use Rattle.listing.proofs.criteria.any_link_matches.Given as goal

abbrev pub invariant-links : goal.invariant-links
invariant-links l =
    list_any (model.link_matches l.criterion) l.left
    ≡ list_any (model.link_matches l.criterion) l.fn.links

abbrev pub decreases-links : goal.decreases-links
decreases-links l = length l.left
