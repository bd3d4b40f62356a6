-- From what the options ask for.
use Rattle.std.proofs.Common.{true, refl, sym, ap, ◌∙◌}
use Rattle.record_model.specs.declared.readings.Reading.TheVariants as reading
use Rattle.query_text.specs.AskedOptions.{query_of}
use Rattle.query_text.proofs.FaultlessLaws.{options_faultless}
use Rattle.query_text.proofs.LookupResults.{query_seen}
use Rattle.query_text.proofs.faultless.faultless_lookup_query.Goals as goal

pub asked_by-requires : goal.asked_by-requires
asked_by-requires g c k = (
  (refl, tt),
  options_faultless reading.Lookup true (g.Q.Pieces.left c.args.queries) refl c.requires,
)

pub returns : goal.returns
returns g c =
    c.query_of.ensures
    ∙ (ap (query_of c.args.kind) c.in_ok-asked.ensures
    ∙ sym (query_seen c.args.kind (g.Q.Pieces.left c.args.queries)))
