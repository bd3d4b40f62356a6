-- What is left has a full stop after a slash where the whole path has one.
use Rattle.std.proofs.Common.{◌≡◌, length}
use Rattle.ref_resolve.specs.PlainPaths.{has_no_dot_after_slash}
use Rattle.ref_resolve.proofs.dot_segments.has_no_dot_after_slash.Given as goal

abbrev pub decreases-octets : goal.decreases-octets
decreases-octets l = length l.rest

abbrev pub invariant-octets : goal.invariant-octets
invariant-octets l = record { same : has_no_dot_after_slash l.rest ≡ has_no_dot_after_slash l.path }
