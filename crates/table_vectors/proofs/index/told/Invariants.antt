use Rattle.std.proofs.Common.{length}
use Rattle.table_vectors.proofs.index.told.Given as goal

abbrev pub decreases-loop-number : goal.decreases-loop-number
decreases-loop-number g l = length l.carriers
