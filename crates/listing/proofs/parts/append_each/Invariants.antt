use Rattle.std.proofs.Common.{◌≡◌, ◌≤◌, ◌++◌, ◌+◌, ◌-◌, ℕ, List, length, min}
use Rattle.listing.specs.AppendedLines.{appended, shown_lines}
use Rattle.listing.specs.ListedLinks.{lines_by}
use Rattle.listing.specs.LinkFilters.{sifts}
use Rattle.listing.proofs.parts.append_each.Given as goal

abbrev pub invariant-links : goal.invariant-links
invariant-links l = record {
  text :
      appended l.into (shown_lines l.to_skip l.to_write (lines_by (sifts l.link_filter) l.left))
      ≡ appended l.initial.into
      (shown_lines l.skip l.most (lines_by (sifts l.link_filter) l.fn.links));
  front : (more : List ℕ) × (l.into ≡ l.initial.into ++ more);
  few_skipped : l.to_skip ≤ l.skip;
  few_written : l.to_write ≤ l.most;
  skipped :
      min l.to_skip (length (lines_by (sifts l.link_filter) l.left)) + (l.skip - l.to_skip)
      ≡ min l.skip (length (lines_by (sifts l.link_filter) l.fn.links));
  written :
      length (shown_lines l.to_skip l.to_write (lines_by (sifts l.link_filter) l.left))
      + (l.most - l.to_write)
      ≡ length (shown_lines l.skip l.most (lines_by (sifts l.link_filter) l.fn.links));
}

abbrev pub decreases-links : goal.decreases-links
decreases-links l = length l.left
