-- The calls of a seat, one after another.
use Rattle.std.specs.Prelude.{◌≡◌, ℕ, Bool, List, [], ◌∷◌, Option}
use Rattle.std.specs.List.{AllByRecursion}
use Rattle.rd_base.specs.declared.peers.Peer.{Peer}
use Rattle.event_model.specs.KeptAnswers.{Answer}
use Rattle.history_model.specs.declared.entries.Entry.{Entry}
use Rattle.history_model.specs.Live.{IsFront}
use Rattle.journal_model.specs.declared.rows.Row.{Row}
use Rattle.journal_model.specs.declared.steps.Step.{Step}
use Rattle.journal_model.specs.Journal.{entries}
use Rattle.journal_model.specs.Seats.{IsSeat}
use Rattle.rd_seat.specs.Seats.{HallSeen, SeatSeen, seat_of, new_seat}
use Rattle.rd_seat.specs.Seats.{MakesStep, LooksAtMet}

-- The result of one call of a seat. The call is a step at its turn, which made a row, or a look. A
-- look has the journal that the seat had seen, and the prefix that answered it.
pub data Call : Type 0 where
  turn : Row → Call
  look : List Row → List Entry → Call

-- A seat after calls, the latest first. The contract of each call holds. The seat began as a new
-- seat. A step left its row as the last one that is seen. A look was answered from what is met
-- after it.
pub data HasCalled (hall : HallSeen) (worker : ℕ) : List Call → SeatSeen → Type 0 where
  begun : HasCalled hall worker [] (new_seat hall worker)
  turned : {calls : List Call} {before : SeatSeen} → (r : Row) (found : List Row) (s : Step)
      (starved : Bool) (sent : List (Peer × List ℕ)) (after : SeatSeen)
      → HasCalled hall worker calls before → IsFront before.met after.met
      → MakesStep before s starved sent after → after.seen ≡ r ∷ found
      → HasCalled hall worker (turn r ∷ calls) after
  looked : {calls : List Call} {before : SeatSeen} → (s : Step) (starved : Bool)
      (sent : List (Peer × List ℕ)) (held : Option Answer) (after : SeatSeen)
      → HasCalled hall worker calls before → IsFront before.met after.met
      → LooksAtMet before s starved sent held after
      → HasCalled hall worker (look before.seen after.met ∷ calls) after

-- Returns the rows that calls made, the latest first.
abbrev pub rows_made : List Call → List Row
rows_made [] = []
rows_made (turn r ∷ calls) = r ∷ rows_made calls
rows_made (look seen front ∷ calls) = rows_made calls

-- Returns the prefixes from which looks were answered, the latest first.
abbrev pub fronts_shown : List Call → List (List Entry)
fronts_shown [] = []
fronts_shown (turn r ∷ calls) = fronts_shown calls
fronts_shown (look seen front ∷ calls) = front ∷ fronts_shown calls

-- States that each look's prefix begins with the entries that the seat had seen, and with the
-- prefix of each earlier look.
abbrev pub FrontsGoOn : List Call → Type 0
FrontsGoOn [] = Unit {0}
FrontsGoOn (turn r ∷ calls) = FrontsGoOn calls
FrontsGoOn (look seen front ∷ calls) = IsFront (entries seen) front
    × AllByRecursion (λ earlier. IsFront earlier front) (fronts_shown calls) × FrontsGoOn calls

-- A seat after any calls, which is a seat of the journal. Its own rows are those of its worker in
-- what it has seen, each once and in order. They are exactly the rows that its calls made. The
-- prefixes of its looks continue what it had seen, and each other.
pub record IsSeatAfter (calls : List Call) (seat : SeatSeen) : Type 0 where
  pub shown : List (List Entry)
  pub front : List Entry
  pub is_seat : IsSeat (seat_of seat shown front)
  pub rows : seat.mine ≡ rows_made calls
  pub fronts : FrontsGoOn calls

-- States that each seat after calls for which the contracts hold is such a seat.
abbrev pub SeatsAreSeats : Type 0
SeatsAreSeats = (hall : HallSeen) (worker : ℕ) (calls : List Call) (seat : SeatSeen)
    → HasCalled hall worker calls seat → IsSeatAfter calls seat
