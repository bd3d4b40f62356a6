use Rattle.std.proofs.Common.{◌≡◌, ◌<◌, length, map}
use Rattle.directory_core.specs.Races.{whole}
use Rattle.directory_core.proofs.RaceLaws.{IsFair, left_of}
use Rattle.directory_core.proofs.races.race.Given as goal

abbrev pub invariant-turns : goal.invariant-turns
invariant-turns g l = record {
  within : l.at < length l.cursors;
  same : map whole l.cursors ≡ map whole l.fn.cursors;
  fair : IsFair l.fn.steps l.steps (length l.fn.cursors) l.at l.at l.cursors;
}

abbrev pub decreases-turns : goal.decreases-turns
decreases-turns g l = left_of l.cursors
