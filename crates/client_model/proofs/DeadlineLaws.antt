-- The deadlines of a request are those of any message that waits for its acknowledgement.
use Rattle.std.proofs.Common.{◌≡◌, suc, List, [], ◌∷◌, map, length, refl, ap}
use Rattle.event_model.specs.Events.{Event as Noted}
use Rattle.event_model.specs.Flights.{deadline}
use Rattle.client_model.specs.Requests.{Asked}
use Rattle.client_model.specs.Verdicts.{wait_end}

as_many : (again : List Noted) → length (map (λ (e : Noted). e.moment) again) ≡ length again
as_many [] = refl
as_many (e ∷ again) = ap suc (as_many again)

-- of a request that one event sent first, and others retransmitted, the newest first
pub wait_end-deadline : (a : Asked) (first : Noted) (again : List Noted)
    → first.moment ≡ a.at
    → first.word ≡ a.word
    → wait_end a (map (λ e. e.moment) again) ≡ deadline first again
unfolding wait_end deadline
wait_end-deadline a first [] moment word = rw (moment, word) refl
wait_end-deadline a first (e ∷ again) moment word =
    rw (word, as_many again) refl
