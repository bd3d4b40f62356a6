use Rattle.std.proofs.Common.{◌≡◌, length}
use Rattle.record_model.specs.ListingLines.{same_lines}
use Rattle.listing.specs.ListedLinks.{all_lines}
use Rattle.listing.proofs.AlikeLaws.{tail_of}
use Rattle.listing.proofs.alike_links.same_lines_in_text.Given as goal

abbrev pub invariant-links : goal.invariant-links
invariant-links l = record {
  text : tail_of l.left ≡ tail_of l.others;
  same :
      same_lines (all_lines l.left) (all_lines l.others)
      ≡ same_lines (all_lines l.fn.old) (all_lines l.fn.new);
}

abbrev pub decreases-links : goal.decreases-links
decreases-links l = length l.left
