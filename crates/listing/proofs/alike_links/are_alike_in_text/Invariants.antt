use Rattle.std.proofs.Common.{◌≡◌, length}
use Rattle.listing.specs.AlikeLinks.{AreAllAlike}
use Rattle.listing.proofs.AlikeLaws.{tail_of}
use Rattle.listing.proofs.alike_links.are_alike_in_text.Given as goal

abbrev pub invariant-links : goal.invariant-links
invariant-links l = record {
  text : tail_of l.left ≡ tail_of l.others;
  alike : AreAllAlike l.left l.others → AreAllAlike l.fn.old l.fn.new;
}

abbrev pub decreases-links : goal.decreases-links
decreases-links l = length l.left
