use Rattle.std.proofs.Common.{true, length}
use Rattle.listing.specs.AlikeLinks.{AreLeftAlike}
use Rattle.listing.proofs.alike_links.after_alike.Given as goal

abbrev pub invariant-links : goal.invariant-links
invariant-links l = AreLeftAlike true l.fn.old l.fn.new l.left l.others

abbrev pub decreases-links : goal.decreases-links
decreases-links l = length l.left
