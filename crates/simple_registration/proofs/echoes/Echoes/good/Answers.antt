use Rattle.std.proofs.Common.{ap, ◌∙◌, find}
use Rattle.simple_registration.specs.Challenges.{ChallengeTable, is_to}
use Rattle.event_model.proofs.ChallengeLaws.{answers_found}
use Rattle.simple_registration.proofs.ChallengeLaws.{good_is}
use Rattle.simple_registration.proofs.echoes.Echoes.good.Goals as goal

pub returns-in-Some : goal.returns-in-Some
returns-in-Some c events stands =
    c.is_answered_by.ensures
    ∙ (ap (answers_found c.args.now.0 c.args.value.now) c.in-Some.ensures
    ∙ (ap (λ (t : ChallengeTable).
    answers_found c.args.now.0 c.args.value.now (find (is_to c.args.peer.now) t.challenges))
    c.self.view_is
    ∙ good_is c.args.now.0 c.args.peer.now c.args.value.now events c.args.self.now stands))

pub returns-in-None : goal.returns-in-None
returns-in-None c events stands =
    ap (answers_found c.args.now.0 c.args.value.now) c.in-None.ensures
    ∙ (ap (λ (t : ChallengeTable).
    answers_found c.args.now.0 c.args.value.now (find (is_to c.args.peer.now) t.challenges))
    c.self.view_is
    ∙ good_is c.args.now.0 c.args.peer.now c.args.value.now events c.args.self.now stands)
