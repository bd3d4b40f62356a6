-- Seats: a worker's share in a desk that many workers share. Its desk steps are rows of one
-- journal, each made at a turn of the seat. Its looks take no turn. Each is answered from a prefix
-- of the history that holds all that the seat had seen.
use Rattle.std.specs.Prelude.{
  ◌≡◌,
  ◌⊎◌,
  ℕ,
  ◌+◌,
  ◌%◌,
  ◌^◌,
  ◌≤◌,
  Bool,
  false,
  ◌==◌,
  max,
  List,
  [],
  ◌∷◌,
  ◌++◌,
  filter,
  Option,
  None,
}
use Rattle.std.specs.List.{All}
use Rattle.rd_base.specs.declared.peers.Peer.{Peer}
use Rattle.message_model.specs.Reading.{reading}
use Rattle.history_model.specs.declared.entries.Entry.{Entry}
use Rattle.history_model.specs.Live.{IsFront, last_moment}
use Rattle.event_model.specs.KeptAnswers.{Answer}
use Rattle.journal_model.specs.declared.steps.Step.{Step}
use Rattle.journal_model.specs.declared.steps.StepKind.TheVariants as step
use Rattle.journal_model.specs.declared.rows.Row.{Row}
use Rattle.journal_model.specs.Journal.{is_look, entries}
use Rattle.journal_model.specs.Effects.{Effects}
use Rattle.journal_model.specs.Looks.{looked, held_after}
use Rattle.journal_model.specs.Rows.{row}
use Rattle.journal_model.specs.Machine.{Job, job_after}

-- What a seat shows.
pub record Seat : Type 0 where
  -- Its number, which is that of its worker.
  pub worker : ℕ
  -- The journal that it has seen, up to its own last row.
  pub seen : List Row
  -- The rows of it that the seat made.
  pub mine : List Row
  -- The prefixes from which its looks were answered since its last turn, the latest first.
  pub shown : List (List Entry)
  -- The prefix of its last look, empty before the first.
  pub front : List Entry
  -- The greatest moment of its rows and looks, or 0 if there is none.
  pub last : ℕ
  -- How many Message IDs its rows and looks drew, modulo 2^64.
  pub drawn : ℕ

-- Returns a seat that made no step.
abbrev pub new_seat : ℕ → Seat
new_seat worker = record {
  worker = worker;
  seen = [];
  mine = [];
  shown = [];
  front = [];
  last = 0;
  drawn = 0;
}

-- Returns the rows of a journal that a worker made.
unfoldable pub rows_of : ℕ → List Row → List Row
rows_of worker rows = filter (λ r. r.step.worker == worker) rows

-- A journal that continues another: that one with further rows.
pub record GoesOn (earlier later : List Row) : Type 0 where
  pub further : List Row
  pub whole : later ≡ further ++ earlier

-- States that one of two histories is a prefix of the other, so neither has an entry where the
-- other has another one.
abbrev pub Agree : List Entry → List Entry → Type 0
Agree history other = IsFront history other ⊎ IsFront other history

-- A step of a seat, which names its worker, and how many Message IDs the seat drew before.
pub record IsStepOf (seat : Seat) (s : Step) : Type 0 where
  pub worker : s.worker ≡ seat.worker
  pub drawn : s.drawn ≡ seat.drawn

-- Returns the number of Message IDs drawn after `drew` more, modulo 2^64.
abbrev pub drawn_more : ℕ → ℕ → ℕ
drawn_more drawn drew = (drawn + drew) % 2 ^ 64

-- ---- desk steps

-- Returns the job that a row leaves its worker with, if the worker held none in it.
abbrev pub job_left : Row → List Row → Option Job
job_left r before = job_after r.step.kind r before None

-- Returns a seat after a row that it made at its turn, after the journal that it found.
abbrev pub after_row : Seat → List Row → Row → Seat
after_row seat found r = record {
  worker = seat.worker;
  seen = r ∷ found;
  mine = r ∷ seat.mine;
  shown = [];
  front = seat.front;
  last = max seat.last r.moment.0;
  drawn = drawn_more seat.drawn r.drew;
}

-- One desk step of a seat, at its turn. The journal that it finds continues what the seat had seen,
-- by rows of other workers. Compare its history with each prefix that was shown since the last
-- turn: one is a prefix of the other. The seat makes the row of its step after that journal, and
-- sends what the row sends.
pub record MakesRow (before : Seat) (s : Step) (starved : Bool) (sent : List (Peer × List ℕ))
    (after : Seat) : Type 0 where
  pub found : List Row
  pub goes_on : GoesOn before.seen found
  pub by_others : rows_of before.worker found ≡ rows_of before.worker before.seen
  pub agrees : All (λ front. Agree front (entries found)) before.shown
  pub desk : is_look s.kind ≡ false
  pub own : IsStepOf before s
  pub sends : sent ≡ (row found s starved).sent
  pub seat : after ≡ after_row before found (row found s starved)

-- ---- looks

-- Returns the moment of a look from a prefix. It is the greatest of three: the moment passed in,
-- that of the seat's last row or look, and that of the prefix's last entry.
abbrev pub look_moment : Seat → Step → List Entry → ℕ
look_moment seat s front = max s.handed.0 (max seat.last (last_moment front))

-- Returns what a look of a seat does, from a prefix.
abbrev pub seat_looked : Seat → Step → Bool → List Entry → Effects
seat_looked seat s starved front =
    looked starved front (look_moment seat s front) s (reading s.datagram)

-- Returns the body that it leaves the worker with the job to keep.
abbrev pub seat_held : Seat → Step → Bool → List Entry → Option Answer
seat_held seat s starved front =
    held_after starved front (look_moment seat s front) (reading s.datagram)

-- Returns a seat after a look from a prefix.
abbrev pub after_look : Seat → Step → Bool → List Entry → Seat
after_look seat s starved front = record {
  worker = seat.worker;
  seen = seat.seen;
  mine = seat.mine;
  shown = front ∷ seat.shown;
  front = front;
  last = look_moment seat s front;
  drawn = drawn_more seat.drawn (seat_looked seat s starved front).drew;
}

-- One look of a seat. It is answered from a prefix that holds all entries that the seat had seen,
-- and all of the prefix of its last look.
pub record LooksFrom (before : Seat) (s : Step) (starved : Bool) (sent : List (Peer × List ℕ))
    (held : Option Answer) (after : Seat) : Type 0 where
  pub front : List Entry
  pub holds_seen : IsFront (entries before.seen) front
  pub holds_shown : IsFront before.front front
  pub look : s.kind ≡ step.Look
  pub own : IsStepOf before s
  pub sends : sent ≡ (seat_looked before s starved front).sent
  pub holds : held ≡ seat_held before s starved front
  pub seat : after ≡ after_look before s starved front

-- ---- what holds of every seat

-- A seat, as every seat is. Its own rows are those of its worker in what it has seen, each once and
-- in their order. No row of it has a later moment than its last. Each prefix that it showed since
-- its last turn is a prefix of that of its last look.
pub record IsSeat (seat : Seat) : Type 0 where
  pub mine : seat.mine ≡ rows_of seat.worker seat.seen
  pub moments : All (λ r. r.moment.0 ≤ seat.last) seat.mine
  pub shown : All (λ front. IsFront front seat.front) seat.shown
