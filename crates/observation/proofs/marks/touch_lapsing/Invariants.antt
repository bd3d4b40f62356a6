use Rattle.std.proofs.Common.{◌≡◌, false, List, length}
use Rattle.observers.specs.Standing.{Standing}
use Rattle.observation.specs.Marks.{all_lapsed}
use Rattle.observation.specs.Watching.{AreWatched}
use Rattle.observation.proofs.marks.touch_lapsing.Given as goal

abbrev pub invariant-records : goal.invariant-records
invariant-records l = record {
  left : all_lapsed l.lapsing l.watches ≡ all_lapsed l.initial.lapsing l.initial.watches;
  none : l.lapses ≡ false → l.watches ≡ l.initial.watches;
  watched : (standing : List Standing)
      → AreWatched l.initial.watches standing
      → AreWatched l.watches standing;
}

abbrev pub decreases-records : goal.decreases-records
decreases-records l = length l.lapsing
