use Rattle.std.proofs.Common.{◌≡◌, ◌+◌, ◌<◌, ◌^◌, length}
use Rattle.query_text.specs.Walks.{start_of, faults_from}
use Rattle.query_text.specs.GivenParameters.{values_in, values_of}
use Rattle.query_text.proofs.ParametersKept.{joined}
use Rattle.query_text.proofs.given_parameters.gathered.Given as goal

abbrev pub invariant-options : goal.invariant-options
invariant-options g l = record {
  same :
      faults_from l.walk (g.Q.Pieces.left l.queries)
      ≡ faults_from (start_of l.fn.kind) (g.Q.Pieces.left l.fn.queries);
  kind : l.walk.kind ≡ l.fn.kind;
  given :
      joined (values_in l.given) (values_of (g.Q.Pieces.left l.queries))
      ≡ values_of (g.Q.Pieces.left l.fn.queries);
  room : 0 < l.walk.index → l.walk.index + length (g.Q.Pieces.left l.queries) < 2 ^ 63;
}

abbrev pub decreases-options : goal.decreases-options
decreases-options g l = length (g.Q.Pieces.left l.queries)
