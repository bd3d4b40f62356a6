use Rattle.std.proofs.Common.{◌≡◌, true, length}
use Rattle.query_text.specs.AskedOptions.{wanted_in, wanted_of}
use Rattle.query_text.specs.Faultless.{AreFaultless}
use Rattle.query_text.proofs.OptionsKept.{joined}
use Rattle.query_text.proofs.faultless.asked_by.Given as goal

abbrev pub invariant-options : goal.invariant-options
invariant-options g l = record {
  good : AreFaultless true (g.Q.Pieces.left l.queries);
  asked :
      joined (wanted_in l.asked) (wanted_of (g.Q.Pieces.left l.queries))
      ≡ wanted_of (g.Q.Pieces.left l.fn.queries);
}

abbrev pub decreases-options : goal.decreases-options
decreases-options g l = length (g.Q.Pieces.left l.queries)
