use Rattle.std.proofs.Common.{◌≡◌, ◌+◌, ◌%◌, ◌^◌, List, ◌∷◌, length, take}
use Rattle.std.proofs.Common.{sym, ap, ◌∙◌, arith}
use Rattle.std.proofs.lemmas.List.{length-take}
use Rattle.event_model.specs.Challenges.{Challenge, next_challenge}
use Rattle.simple_registration.specs.Challenges.{ChallengeTable, value_of, challenge_made}
use Rattle.simple_registration.proofs.ChallengeLaws.{value_is, ChallengesStandFor-challenged}
use Rattle.simple_registration.proofs.echoes.Echoes.challenge.Goals as goal

pub invariant_of-self : goal.invariant_of-self
invariant_of-self c =
    let was = c.self.invariant in
    let room = c.push_latest.ensures.room in
    let ok = c.push_latest.new.rows.ok.0 in
    let long = ap (λ (xs : List Challenge). length xs) c.push_latest.ensures.items in
    let cut = length-take 1_024 (c.new.result ∷ c.self.inside.rows.items) in
    (omega (arith, was.0, room), omega (arith, ok, long, cut))

pub returns-clause-value : goal.returns-clause-value
returns-clause-value c events stands =
    c.value_of-value.ensures
    ∙ (ap (λ (t : ChallengeTable). value_of c.args.word t.made) c.self.view_is
    ∙ value_is c.args.word events c.args.self.now stands)

pub returns-clause-challenged : goal.returns-clause-challenged
returns-clause-challenged c events e stands is at =
    let value = next_challenge c.args.word events in
    let made : c.value_of-value.result ≡ value =
    c.value_of-value.ensures
    ∙ (ap (λ (t : ChallengeTable). value_of c.args.word t.made) c.self.view_is
    ∙ value_is c.args.word events c.args.self.now stands) in
    ChallengesStandFor-challenged c.args.self.now _ c.args.peer value e events stands is
    (c.push_latest.ensures.items
    ∙ (ap (λ (x : Challenge). take 1_024 (x ∷ c.self.inside.rows.items))
    (c.new.ensures
    ∙ (ap (λ v. challenge_made c.args.now.0 c.args.peer v) made
    ∙ ap (λ m. challenge_made m c.args.peer value) (sym at)))
    ∙ ap (λ (t : ChallengeTable).
    take 1_024 (challenge_made e.moment c.args.peer value ∷ t.challenges)) c.self.view_is))
    (ap (λ (t : ChallengeTable). (t.made + 1) % 2 ^ 32) c.self.view_is)
