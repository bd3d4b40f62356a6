-- The octets read in the string and the count of those left make the count of all, whatever the
-- separator is.
use Rattle.std.proofs.Common.{ℕ, length}
use Rattle.link_format.specs.declared.cuts.Quotes.TheVariants.{Inside}
use Rattle.link_format.proofs.CutLemmas.{Counted}
use Rattle.link_format.proofs.cuts.after_quotes.Given as goal

abbrev pub invariant-octets : goal.invariant-octets
invariant-octets l = (separator : ℕ) → Counted separator Inside l.text Inside l.rest

abbrev pub decreases-octets : goal.decreases-octets
decreases-octets l = length l.rest
