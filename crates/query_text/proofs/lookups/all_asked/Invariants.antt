use Rattle.std.proofs.Common.{◌≡◌, ◌+◌, ◌<◌, ◌^◌, length}
use Rattle.record_model.specs.declared.readings.Reading.TheVariants as reading
use Rattle.query_text.specs.Walks.{start_of, faults_from}
use Rattle.query_text.specs.AskedOptions.{wanted_in, wanted_of}
use Rattle.query_text.proofs.OptionsKept.{joined}
use Rattle.query_text.proofs.lookups.all_asked.Given as goal

abbrev pub invariant-options : goal.invariant-options
invariant-options g l = record {
  same :
      faults_from l.walk (g.Q.Pieces.left l.queries)
      ≡ faults_from (start_of reading.Lookup) (g.Q.Pieces.left l.fn.queries);
  kind : l.walk.kind ≡ reading.Lookup;
  asked :
      joined (wanted_in l.asked) (wanted_of (g.Q.Pieces.left l.queries))
      ≡ wanted_of (g.Q.Pieces.left l.fn.queries);
  room : 0 < l.walk.index → l.walk.index + length (g.Q.Pieces.left l.queries) < 2 ^ 63;
}

abbrev pub decreases-options : goal.decreases-options
decreases-options g l = length (g.Q.Pieces.left l.queries)
