-- From what the parameters give.
use Rattle.std.proofs.Common.{false, refl, sym, ap, ◌∙◌}
use Rattle.record_model.proofs.AllowedLaws.{registration_allowed}
use Rattle.query_text.specs.GivenParameters.{registration_of}
use Rattle.query_text.specs.Outcomes.{registering}
use Rattle.query_text.proofs.FaultlessLaws.{
  options_faultless,
  registering_no_lookup,
  registering_no_update,
  registration_read,
}
use Rattle.query_text.proofs.Results.{registration_seen}
use Rattle.query_text.proofs.faultless.faultless_reg_params.Goals as goal

pub given_by-requires : goal.given_by-requires
given_by-requires g c k = (
  (refl, tt),
  options_faultless (registering c.requires.0) false (g.Q.Pieces.left c.args.queries)
      (registering_no_lookup c.requires.0) c.requires.1,
)

pub returns-clause-value : goal.returns-clause-value
returns-clause-value g c =
    c.registration_of.ensures
    ∙ (ap registration_of c.in_ok-given.ensures
    ∙ sym (registration_seen (g.Q.Pieces.left c.args.queries)))

pub returns-clause-allowed : goal.returns-clause-allowed
returns-clause-allowed g c =
    registration_allowed (registering c.requires.0) (g.Q.Pieces.left c.args.queries)
    c.registration_of.result (registering_no_update c.requires.0)
    (registration_read c.requires.0 (g.Q.Pieces.left c.args.queries) c.registration_of.result
    c.requires.1 (returns-clause-value g c))
