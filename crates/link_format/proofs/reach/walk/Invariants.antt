-- The octets left are read from the point that was reached, and after the octets of UTF-8 that are
-- due.
use Rattle.std.proofs.Common.{length}
use Rattle.link_format.specs.Points.{point_in}
use Rattle.link_format.proofs.WalkLemmas.{Walked}
use Rattle.link_format.proofs.reach.walk.Given as goal

abbrev pub invariant-octets : goal.invariant-octets
invariant-octets l = Walked l.body l.rest (point_in l.point) l.tails

abbrev pub decreases-octets : goal.decreases-octets
decreases-octets l = length l.rest
