use Rattle.std.proofs.Common.{◌≡◌, false, length}
use Rattle.query_text.specs.Faultless.{AreFaultless}
use Rattle.query_text.specs.GivenParameters.{values_in, values_of}
use Rattle.query_text.proofs.ParametersKept.{joined}
use Rattle.query_text.proofs.faultless.given_by.Given as goal

abbrev pub invariant-options : goal.invariant-options
invariant-options g l = record {
  good : AreFaultless false (g.Q.Pieces.left l.queries);
  given :
      joined (values_in l.given) (values_of (g.Q.Pieces.left l.queries))
      ≡ values_of (g.Q.Pieces.left l.fn.queries);
}

abbrev pub decreases-options : goal.decreases-options
decreases-options g l = length (g.Q.Pieces.left l.queries)
