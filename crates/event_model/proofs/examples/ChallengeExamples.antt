-- Challenges, computed on events: which values are good, and what the next one is.
use Rattle.std.proofs.Common.{
  ◌≡◌,
  ℕ,
  ◌+◌,
  ◌-◌,
  true,
  false,
  List,
  [],
  ◌∷◌,
  ◌++◌,
  map,
  length,
  refl,
}
use Rattle.std.specs.List.{range_with_len}
use Rattle.rd_base.specs.declared.peers.Host.TheVariants as host
use Rattle.event_model.specs.declared.notes.Note.{Note}
use Rattle.event_model.specs.declared.notes.Note.TheVariants as note
use Rattle.event_model.specs.Events.{Event}
use Rattle.event_model.specs.Challenges.{
  challenges_made,
  next_challenge,
  is_good,
  latest_challenges,
}
use Rattle.event_model.proofs.OnLiterals.{events_on_literals}
use Rattle.event_model.proofs.ManyObservers.{peer}

-- an event at a moment
abbrev at : ℕ → Note → Event
at moment n = record { place = 0; moment = moment; word = 0; note = n }

-- peer k is challenged at a moment by a value of one octet
abbrev challenges_at : ℕ → ℕ → ℕ → Event
challenges_at moment k octet = at moment (note.Challenged (peer k) (octet ∷ []))

-- ---- the value

good_value : is_good 1_000 (peer 1) (7 ∷ []) (challenges_at 1_000 1 7 ∷ []) ≡ true
unfolding events_on_literals
good_value = refl

other_value : is_good 1_000 (peer 1) (8 ∷ []) (challenges_at 1_000 1 7 ∷ []) ≡ false
unfolding events_on_literals
other_value = refl

longer_value : is_good 1_000 (peer 1) (7 ∷ 0 ∷ []) (challenges_at 1_000 1 7 ∷ []) ≡ false
unfolding events_on_literals
longer_value = refl

unasked_value : is_good 1_000 (peer 1) (7 ∷ []) [] ≡ false
unfolding events_on_literals
unasked_value = refl

-- one that is good for another peer
value_of_another : is_good 1_000 (peer 2) (7 ∷ []) (challenges_at 1_000 1 7 ∷ []) ≡ false
unfolding events_on_literals
value_of_another = refl

-- the same address with another port is another peer
value_of_another_port :
    is_good 1_000 (record { host = host.V4 (192 ∷ 0 ∷ 3 ∷ 1 ∷ []); port = 5684 }) (7 ∷ [])
    (challenges_at 1_000 1 7 ∷ [])
    ≡ false
unfolding events_on_literals
value_of_another_port = refl

-- two challenges of a peer: the later alone is good
earlier_value :
    is_good 1_000 (peer 1) (7 ∷ []) (challenges_at 1_000 1 8 ∷ challenges_at 1_000 1 7 ∷ [])
    ≡ false
unfolding events_on_literals
earlier_value = refl

later_value :
    is_good 1_000 (peer 1) (8 ∷ []) (challenges_at 1_000 1 8 ∷ challenges_at 1_000 1 7 ∷ [])
    ≡ true
unfolding events_on_literals
later_value = refl

-- the challenge of another peer changes nothing, and neither does another note
beside_another :
    is_good 1_000 (peer 1) (7 ∷ []) (challenges_at 1_000 2 8 ∷ challenges_at 1_000 1 7 ∷ [])
    ≡ true
unfolding events_on_literals
beside_another = refl

-- one value for two peers is good for both, and each at the age of its own
beside_same_value :
    is_good 1_000 (peer 1) (7 ∷ []) (challenges_at 1_000 2 7 ∷ challenges_at 1_000 1 7 ∷ [])
    ≡ true
unfolding events_on_literals
beside_same_value = refl

old_beside_young :
    is_good 248_000 (peer 1) (7 ∷ []) (challenges_at 1_001 2 7 ∷ challenges_at 1_000 1 7 ∷ [])
    ≡ false
unfolding events_on_literals
old_beside_young = refl

young_beside_old :
    is_good 248_000 (peer 2) (7 ∷ []) (challenges_at 1_001 2 7 ∷ challenges_at 1_000 1 7 ∷ [])
    ≡ true
unfolding events_on_literals
young_beside_old = refl

beside_other_notes :
    is_good 1_000 (peer 1) (7 ∷ [])
    (at 1_000 (note.Admitted (peer 1) 1) ∷ challenges_at 1_000 1 7 ∷ [])
    ≡ true
unfolding events_on_literals
beside_other_notes = refl

-- ---- its age: 247 seconds

young_value : is_good 247_999 (peer 1) (7 ∷ []) (challenges_at 1_000 1 7 ∷ []) ≡ true
unfolding events_on_literals
young_value = refl

old_value : is_good 248_000 (peer 1) (7 ∷ []) (challenges_at 1_000 1 7 ∷ []) ≡ false
unfolding events_on_literals
old_value = refl

-- ---- how many

-- so many other peers are challenged after the first, peer 1
abbrev others_after : ℕ → List Event
others_after n = map (λ k. challenges_at 0 (n + 1 - k) 9) (range_with_len 0 n)

among_latest :
    is_good 0 (peer 1) (7 ∷ []) (others_after 1_023 ++ challenges_at 0 1 7 ∷ []) ≡ true
unfolding events_on_literals
among_latest = refl

no_more_among_latest :
    is_good 0 (peer 1) (7 ∷ []) (others_after 1_024 ++ challenges_at 0 1 7 ∷ []) ≡ false
unfolding events_on_literals
no_more_among_latest = refl

-- challenges are counted, and not peers
one_peer_often :
    is_good 0 (peer 1) (7 ∷ [])
    (map (λ k. challenges_at 0 2 9) (range_with_len 0 1_024) ++ challenges_at 0 1 7 ∷ [])
    ≡ false
unfolding events_on_literals
one_peer_often = refl

-- and no other notes
among_other_notes :
    is_good 0 (peer 1) (7 ∷ [])
    (map (λ k. at 0 (note.Admitted (peer 2) k)) (range_with_len 0 1_024)
    ++ challenges_at 0 1 7 ∷ [])
    ≡ true
unfolding events_on_literals
among_other_notes = refl

-- what is kept of them
latest_are_shown :
    latest_challenges (challenges_at 3 2 9
    ∷ at 2 (note.Admitted (peer 1) 1)
    ∷ challenges_at 1 1 7
    ∷ [])
    ≡ record { peer = peer 2; value = 9 ∷ []; moment = 3 }
    ∷ record { peer = peer 1; value = 7 ∷ []; moment = 1 }
    ∷ []
unfolding events_on_literals
latest_are_shown = refl

latest_are_kept : length (latest_challenges (others_after 1_025)) ≡ 1_024
unfolding events_on_literals
latest_are_kept = refl

-- ---- the next value: a word, and how many were made, each in four octets

first_challenge : next_challenge 7 [] ≡ 0 ∷ 0 ∷ 0 ∷ 7 ∷ 0 ∷ 0 ∷ 0 ∷ 0 ∷ []
unfolding events_on_literals
first_challenge = refl

third_challenge :
    next_challenge 0x01020304 (others_after 2)
    ≡ 1 ∷ 2 ∷ 3 ∷ 4 ∷ 0 ∷ 0 ∷ 0 ∷ 2 ∷ []
unfolding events_on_literals
third_challenge = refl

counted : challenges_made (others_after 259) ≡ 259
unfolding events_on_literals
counted = refl

challenge_after_259 :
    next_challenge 0xffffffff (others_after 259)
    ≡ 255 ∷ 255 ∷ 255 ∷ 255 ∷ 0 ∷ 0 ∷ 1 ∷ 3 ∷ []
unfolding events_on_literals
challenge_after_259 = refl

-- other notes are not counted
challenge_after_others :
    next_challenge 7 (at 0 (note.Admitted (peer 1) 1) ∷ others_after 1)
    ≡ 0 ∷ 0 ∷ 0 ∷ 7 ∷ 0 ∷ 0 ∷ 0 ∷ 1 ∷ []
unfolding events_on_literals
challenge_after_others = refl
