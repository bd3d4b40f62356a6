use Rattle.std.proofs.Common.{◌≡◌, ◌+◌, ◌<◌, ◌^◌, length}
use Rattle.query_text.specs.Walks.{start_of, faults_from}
use Rattle.query_text.proofs.faults.fault.Given as goal

abbrev pub invariant-options : goal.invariant-options
invariant-options g l = record {
  same :
      faults_from l.walk (g.Q.Pieces.left l.queries)
      ≡ faults_from (start_of l.fn.kind) (g.Q.Pieces.left l.fn.queries);
  room : 0 < l.walk.index → l.walk.index + length (g.Q.Pieces.left l.queries) < 2 ^ 63;
}

abbrev pub decreases-options : goal.decreases-options
decreases-options g l = length (g.Q.Pieces.left l.queries)
