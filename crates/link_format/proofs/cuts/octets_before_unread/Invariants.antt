-- The octets read and the count of those left make the count of all.
use Rattle.std.proofs.Common.{length}
use Rattle.link_format.specs.declared.cuts.Quotes.TheVariants.{Unread}
use Rattle.link_format.proofs.CutLemmas.{Counted}
use Rattle.link_format.proofs.cuts.octets_before_unread.Given as goal

abbrev pub invariant-octets : goal.invariant-octets
invariant-octets l = Counted l.fn.separator Unread l.text Unread l.rest

abbrev pub decreases-octets : goal.decreases-octets
decreases-octets l = length l.rest
