-- What contracts see of a seat.
use Rattle.std.specs.Prelude.{◌≡◌, ℕ, zero, suc, Bool, List, [], ◌∷◌, ◌++◌, Option}
use Rattle.std.specs.List.{All}
use Rattle.atomic_table.specs.Seated.{TableId}
use Rattle.history_model.specs.declared.entries.Entry.{Entry}
use Rattle.history_model.specs.Live.{IsFront}
use Rattle.rd_base.specs.declared.peers.Peer.{Peer}
use Rattle.event_model.specs.KeptAnswers.{Answer}
use Rattle.journal_model.specs.declared.rows.Row.{Row}
use Rattle.journal_model.specs.declared.steps.Step.{Step}
use Rattle.journal_model.specs.Seats.{Seat, MakesRow, LooksFrom}
use Rattle.turn_lock.specs.Histories.{AllBelow}

-- A hall: which one it is, and how many workers it has.
pub record HallSeen : Type 0 where
  pub id : TableId
  pub workers : ℕ

-- What a seat shows.
pub record SeatSeen : Type 0 where
  -- Its hall.
  pub hall : HallSeen
  -- Its number, which is that of its worker.
  pub worker : ℕ
  -- The journal that it has seen, up to its own last row.
  pub seen : List Row
  -- The rows that the seat made.
  pub mine : List Row
  -- The history that it has met: each prefix that it showed is a prefix of it.
  pub met : List Entry
  -- The latest moment of its rows and looks, or 0 if there is none.
  pub last : ℕ
  -- How many Message IDs its rows and looks drew, modulo 2^64.
  pub drawn : ℕ

-- Returns the seat with two things that no code stores: the prefixes that it showed since its last
-- turn, and the prefix of its last look.
abbrev pub seat_of : SeatSeen → List (List Entry) → List Entry → Seat
seat_of s shown front = record {
  worker = s.worker;
  seen = s.seen;
  mine = s.mine;
  shown = shown;
  front = front;
  last = s.last;
  drawn = s.drawn;
}

-- Prefixes that the seat may have shown: it has met all of them.
pub record MayHaveShown (s : SeatSeen) (shown : List (List Entry)) (front : List Entry)
    : Type 0 where
  pub all_met : All (λ f. IsFront f s.met) shown
  pub front_met : IsFront front s.met

-- States that a seat made the row of a step at its turn, whatever prefixes it showed since its last
-- one. It has shown none since then.
abbrev pub MakesStep : SeatSeen → Step → Bool → List (Peer × List ℕ) → SeatSeen → Type 0
MakesStep before s starved sent after = (shown : List (List Entry)) (front : List Entry)
    → MayHaveShown before shown front
    → MakesRow (seat_of before shown front) s starved sent (seat_of after [] front)

-- States that a seat looked from the history that it has met now, whatever prefixes it showed since
-- its last turn. It showed that history.
abbrev pub LooksAtMet : SeatSeen → Step → Bool → List (Peer × List ℕ) → Option Answer → SeatSeen
    → Type 0
LooksAtMet before s starved sent held after = (shown : List (List Entry)) (front : List Entry)
    → MayHaveShown before shown front
    → LooksFrom (seat_of before shown front) s starved sent held
    (seat_of after (after.met ∷ shown) after.met)

-- A seat of this hall. Each row that it has seen is of one of the hall's workers, whose numbers are
-- below their count.
pub record IsOfHall (hall : HallSeen) (seat : SeatSeen) : Type 0 where
  pub is : seat.hall ≡ hall
  pub below : AllBelow (λ (r : Row). r.step.worker) hall.workers seat.seen

-- Returns a seat that has made no step.
abbrev pub new_seat : HallSeen → ℕ → SeatSeen
new_seat hall worker = record {
  hall = hall;
  worker = worker;
  seen = [];
  mine = [];
  met = [];
  last = 0;
  drawn = 0;
}

-- Returns `n` new seats, numbered from 0.
abbrev pub new_seats : HallSeen → ℕ → List SeatSeen
new_seats hall zero = []
new_seats hall (suc n) = new_seats hall n ++ new_seat hall n ∷ []
