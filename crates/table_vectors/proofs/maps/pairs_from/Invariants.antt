use Rattle.std.proofs.Common.{length}
use Rattle.table_vectors.proofs.maps.pairs_from.Given as goal

abbrev pub decreases-loop-key : goal.decreases-loop-key
decreases-loop-key g l = length l.left
