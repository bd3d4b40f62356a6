use Rattle.std.proofs.Common.{◌≡◌, ◌++◌, length}
use Rattle.directory_core.specs.Races.{runs_of}
use Rattle.directory_core.proofs.races.racers_of.Given as goal

abbrev pub invariant-criteria : goal.invariant-criteria
invariant-criteria l = l.cursors.items ++ runs_of l.index l.rest ≡ runs_of l.index l.criteria

abbrev pub decreases-criteria : goal.decreases-criteria
decreases-criteria l = length l.rest
