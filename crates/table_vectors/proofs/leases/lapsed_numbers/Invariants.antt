use Rattle.std.proofs.Common.{length}
use Rattle.table_vectors.proofs.leases.lapsed_numbers.Given as goal

abbrev pub decreases-loop-number : goal.decreases-loop-number
decreases-loop-number g l = length l.lapsed
