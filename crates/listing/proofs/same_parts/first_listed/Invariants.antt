use Rattle.std.proofs.Common.{◌≡◌, ◌≤◌, length}
use Rattle.listing.specs.ListedLinks.{lines_by}
use Rattle.listing.specs.LinkFilters.{sifts}
use Rattle.listing.proofs.same_parts.first_listed.Given as goal

abbrev pub invariant-links : goal.invariant-links
invariant-links l = record {
  same : lines_by (sifts l.link_filter) l.fn.links ≡ lines_by (sifts l.link_filter) l.left;
  few : length l.left ≤ length l.fn.links;
}

abbrev pub decreases-links : goal.decreases-links
decreases-links l = length l.left
