-- What a table of challenges stands for, as it is used and changed (RFC 9175 section 2.3), and
-- which notes leave it.
use Rattle.std.proofs.Common.{
  ◌≡◌,
  ℕ,
  ◌+◌,
  ◌%◌,
  ◌^◌,
  false,
  List,
  [],
  ◌∷◌,
  take,
  find,
  sym,
  ap,
  ◌∙◌,
}
use Rattle.std.specs.List.{list_any}
use Rattle.rd_base.specs.declared.peers.Peer.{Peer}
use Rattle.event_model.specs.declared.notes.Note.{Note}
use Rattle.event_model.specs.declared.notes.Note.TheVariants as note
use Rattle.event_model.specs.Events.{Event, noted}
use Rattle.event_model.specs.Challenges.{
  is_challenge,
  challenges,
  challenges_made,
  next_challenge,
  is_good,
  Challenge,
  latest_challenges,
}
use Rattle.event_model.proofs.AsideTables.{latest_challenges-noted, challenges_made-noted}
use Rattle.event_model.proofs.ChallengeLaws.{
  latest_challenges-Challenged,
  challenges_made-Challenged,
  answers_found,
  is_good-found,
}
use Rattle.simple_registration.specs.Challenges.{
  ChallengeTable,
  ChallengesStandFor,
  is_to,
  value_of,
  challenge_made,
}

-- notes of a row that are no challenges
pub ChallengesStandFor-noted : (t : ChallengeTable) (place moment word : ℕ) (notes : List Note)
    (events : List Event)
    → list_any is_challenge notes ≡ false
    → ChallengesStandFor events t
    → ChallengesStandFor (noted place moment word notes events) t
ChallengesStandFor-noted t place moment word notes events none stands = record {
  latest = stands.latest ∙ sym (latest_challenges-noted place moment word notes events none);
  made = stands.made ∙ sym (challenges_made-noted place moment word notes events none);
}

-- none yet
pub ChallengesStandFor-none : (t : ChallengeTable)
    → t.challenges ≡ []
    → t.made ≡ 0
    → ChallengesStandFor [] t
unfolding challenges challenges_made latest_challenges
ChallengesStandFor-none t none zero_made = record { latest = none; made = zero_made }

-- the value of the next one
pub value_is : (word : ℕ) (events : List Event) (t : ChallengeTable)
    → ChallengesStandFor events t
    → value_of word t.made ≡ next_challenge word events
unfolding next_challenge
value_is word events t stands = ap (value_of word) stands.made

-- one more
pub ChallengesStandFor-challenged : (t more : ChallengeTable) (peer : Peer) (value : List ℕ)
    (e : Event) (events : List Event)
    → ChallengesStandFor events t
    → e.note ≡ note.Challenged peer value
    → more.challenges ≡ take 1_024 (challenge_made e.moment peer value ∷ t.challenges)
    → more.made ≡ (t.made + 1) % 2 ^ 32
    → ChallengesStandFor (e ∷ events) more
ChallengesStandFor-challenged t more peer value e events stands is latest made = record {
  latest =
      latest
      ∙ ap (λ (xs : List Challenge). take 1_024 (challenge_made e.moment peer value ∷ xs))
      stands.latest
      ∙ sym (latest_challenges-Challenged e peer value events is);
  made =
      made
      ∙ ap (λ n. (n + 1) % 2 ^ 32) stands.made
      ∙ sym (challenges_made-Challenged e peer value events is);
}

-- a value is good where it answers the latest challenge of the peer that is kept
pub good_is : (now : ℕ) (peer : Peer) (value : List ℕ) (events : List Event)
    (t : ChallengeTable)
    → ChallengesStandFor events t
    → answers_found now value (find (is_to peer) t.challenges) ≡ is_good now peer value events
good_is now peer value events t stands =
    ap (λ (xs : List Challenge). answers_found now value (find (is_to peer) xs)) stands.latest
    ∙ sym (is_good-found now peer value events)
