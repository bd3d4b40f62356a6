-- All octets before those that are left stay.
use Rattle.std.proofs.Common.{length}
use Rattle.link_format.specs.Points.{point_in}
use Rattle.link_format.specs.Staying.{StaysUpTo}
use Rattle.link_format.proofs.reach.after_staying.Given as goal

abbrev pub invariant-staying : goal.invariant-staying
invariant-staying l = StaysUpTo (point_in l.point) l.octets l.rest

abbrev pub decreases-staying : goal.decreases-staying
decreases-staying l = length l.rest
