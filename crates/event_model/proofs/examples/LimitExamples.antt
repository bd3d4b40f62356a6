-- Tables at their limits, computed on events: kept answers, observers, and queries that are
-- observed.
use Rattle.std.proofs.Common.{◌≡◌, ℕ, ◌-◌, true, false, List, [], ◌∷◌, map, is_some, refl}
use Rattle.std.specs.List.{range_with_len}
use Rattle.event_model.specs.declared.notes.Note.{Note}
use Rattle.event_model.specs.declared.notes.Note.TheVariants as note
use Rattle.event_model.specs.declared.notes.Observer.{Observer}
use Rattle.event_model.specs.Events.{Event}
use Rattle.event_model.specs.KeptAnswers.{kept_answer}
use Rattle.event_model.specs.Observers.{has_room_for}
use Rattle.event_model.proofs.OnLiterals.{events_on_literals}
use Rattle.event_model.proofs.ManyObservers.{peer, page_query, observers_of_queries}

-- an event at the moment 0
abbrev at_first : Note → Event
at_first n = record { place = 0; moment = 0; word = 0; note = n }

-- an answer of peer k is kept, each under the same request key
abbrev keeps : ℕ → Event
keeps k = at_first (note.Kept (peer k) (1 ∷ []) (2 ∷ []) (3 ∷ []))

-- 65 peers, the 65th the latest
abbrev answers_of_65 : List Event
answers_of_65 = map keeps (map (λ k. 65 - k) (range_with_len 0 65))

-- the answer of the first is no longer kept, and that of the second is
first_is_gone : is_some (kept_answer 0 (peer 1, 1 ∷ []) answers_of_65) ≡ false
unfolding events_on_literals
first_is_gone = refl

second_is_kept : is_some (kept_answer 0 (peer 2, 1 ∷ []) answers_of_65) ≡ true
unfolding events_on_literals
second_is_kept = refl

-- where the first is used once more before the last is kept, it stays, and the second goes
first_is_used :
    is_some (kept_answer 0 (peer 1, 1 ∷ []) (keeps 65
    ∷ at_first (note.Used (peer 1) (1 ∷ []))
    ∷ map keeps (map (λ k. 64 - k) (range_with_len 0 64))))
    ≡ true
unfolding events_on_literals
first_is_used = refl

second_is_gone :
    is_some (kept_answer 0 (peer 2, 1 ∷ []) (keeps 65
    ∷ at_first (note.Used (peer 1) (1 ∷ []))
    ∷ map keeps (map (λ k. 64 - k) (range_with_len 0 64))))
    ≡ false
unfolding events_on_literals
second_is_gone = refl

-- an answer lives while its last use is less than 247 seconds old
old_answer : is_some (kept_answer 247_000 (peer 1, 1 ∷ []) (keeps 1 ∷ [])) ≡ false
unfolding events_on_literals
old_answer = refl

young_answer : is_some (kept_answer 246_999 (peer 1, 1 ∷ []) (keeps 1 ∷ [])) ≡ true
unfolding events_on_literals
young_answer = refl

-- as many observers of one query as there may be
abbrev observers_of_one : ℕ → List Observer
observers_of_one n = observers_of_queries (λ k. page_query 0) n

full_of_observers : has_room_for (page_query 0) (observers_of_one 1024) ≡ false
unfolding events_on_literals
full_of_observers = refl

room_for_one : has_room_for (page_query 0) (observers_of_one 1023) ≡ true
unfolding events_on_literals
room_for_one = refl

-- observers of so many queries
abbrev observers_of_many : ℕ → List Observer
observers_of_many n = observers_of_queries page_query n

full_of_queries : has_room_for (page_query 256) (observers_of_many 256) ≡ false
unfolding events_on_literals
full_of_queries = refl

room_for_known_query : has_room_for (page_query 255) (observers_of_many 256) ≡ true
unfolding events_on_literals
room_for_known_query = refl

room_for_new_query : has_room_for (page_query 255) (observers_of_many 255) ≡ true
unfolding events_on_literals
room_for_new_query = refl
