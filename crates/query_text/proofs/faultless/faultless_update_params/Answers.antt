-- From what the parameters give.
use Rattle.std.proofs.Common.{false, refl, sym, ap, ◌∙◌}
use Rattle.record_model.specs.declared.readings.Reading.TheVariants as reading
use Rattle.record_model.proofs.AllowedLaws.{update_allowed}
use Rattle.query_text.specs.GivenParameters.{update_of}
use Rattle.query_text.proofs.FaultlessLaws.{options_faultless, update_read}
use Rattle.query_text.proofs.Results.{update_seen}
use Rattle.query_text.proofs.faultless.faultless_update_params.Goals as goal

pub given_by-requires : goal.given_by-requires
given_by-requires g c k = (
  (refl, tt),
  options_faultless reading.Update false (g.Q.Pieces.left c.args.queries) refl c.requires,
)

pub returns-clause-value : goal.returns-clause-value
returns-clause-value g c =
    c.update_of.ensures
    ∙ (ap update_of c.in_ok-given.ensures ∙ sym (update_seen (g.Q.Pieces.left c.args.queries)))

pub returns-clause-allowed : goal.returns-clause-allowed
returns-clause-allowed g c =
    update_allowed (g.Q.Pieces.left c.args.queries) c.update_of.result
    (update_read (g.Q.Pieces.left c.args.queries) c.update_of.result c.requires
    (returns-clause-value g c))
