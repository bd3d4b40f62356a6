use Rattle.std.proofs.Common.{◌≡◌, length}
use Rattle.record_model.specs.ListingLines.{same_lines}
use Rattle.listing.specs.ListedLinks.{lines_by}
use Rattle.listing.specs.LinkFilters.{sifts}
use Rattle.listing.proofs.same_parts.same_link_by_link.Given as goal

abbrev pub invariant-links : goal.invariant-links
invariant-links l =
    same_lines (lines_by (sifts l.old) l.old_rest) (lines_by (sifts l.new) l.new_rest)
    ≡ same_lines (lines_by (sifts l.old) l.old_items) (lines_by (sifts l.new) l.new_items)

abbrev pub decreases-links : goal.decreases-links
decreases-links l = length l.old_rest
