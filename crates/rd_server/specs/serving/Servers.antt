-- The ends of a server: what each exposes before its service and after it, and the sums of all.
use Rattle.std.specs.Prelude.{◌≡◌, ◌⊎◌, ℕ, ◌<◌, List, [], ◌∷◌, ◌++◌, length, slice_index_or}
use Rattle.std.specs.Prelude.{Option, Some, None, Ok, Err, IfOk, IfSome, IfNone, All, ⊤}
use Rattle.std.specs.Io.KnownBytes.{Appends}
use Rattle.udp_link.specs.declared.links.Link as links
use Rattle.udp_link.specs.declared.clocks.Clock as clocks
use Rattle.rd_seat.specs.Seats.{HallSeen, SeatSeen, IsOfHall, new_seat}
use Rattle.rd_seat.specs.Runs as runs
use Rattle.rd_seat.specs.Runs.{HasCalled, IsSeatAfter}
use Rattle.rd_server.specs.declared.serving.ends.End.{End}
use Rattle.rd_server.specs.declared.serving.served.Served.{Served}
use Rattle.rd_server.specs.declared.serving.served.ServeFault.TheVariants as fault
use Rattle.rd_server.specs.declared.serving.serve_status.ServeStatus.{ServeStatus}
use Rattle.rd_server.specs.declared.serving.serve_status.ServeStatus.TheVariants as status
use Rattle.rd_server.specs.serving.Workers.{WorkerSeen, link_seen, worker_seen}
use Rattle.rd_server.specs.serving.Service.{Serves, CountsTold}
use Rattle.rd_server.specs.serving.Endings.{none_served, both_served, served_line}

-- Returns an end that has a seat or none, and has not been served.
abbrev pub seated : {L C : Type 0} → End L C → Option SeatSeen → End L C
seated end seat =
    record { link = end.link; clock = end.clock; seat = seat; outcome = Err fault.Memory }

-- An end without a seat, which was not served.
pub record IsUnserved {L C : Type 0} (end : End L C) : Type 0 where
  pub seat : end.seat ≡ None
  pub outcome : end.outcome ≡ Err fault.Memory

-- States that each seat that an end has is one of this hall.
abbrev pub AreOfHall : {L C : Type 0} → HallSeen → List (End L C) → Type 0
AreOfHall hall ends = All (λ end. IfSome end.seat (λ seat. seat.hall ≡ hall)) ends

-- The ends with the new seats of their numbers, in a hall that has as many workers as there are
-- ends. The link and the clock of each are as they were.
pub record AreSeated {L C : Type 0} (hall : HallSeen) (old new : List (End L C)) : Type 0 where
  pub workers : hall.workers ≡ length old
  pub each : (worker : ℕ) (d : End L C) → worker < length old
      → slice_index_or new worker d
      ≡ seated (slice_index_or old worker d) (Some (new_seat hall worker))

-- The ends that keep their links and clocks as they were, and have no seat.
pub record AreLeft {L C : Type 0} (old new : List (End L C)) : Type 0 where
  pub unserved : All IsUnserved new
  pub each : (worker : ℕ) (d : End L C) → worker < length old
      → slice_index_or new worker d ≡ seated (slice_index_or old worker d) None

module _ {L C : Type 0} (l : links.Ghosts L) (c : clocks.Ghosts C) where
  -- Returns a worker with this seat, and the link and the clock of an end.
  abbrev pub end_seen : SeatSeen → End L C → WorkerSeen
  end_seen seat end = worker_seen l c seat end.link end.clock

  -- An end whose seat, which was this one, served this number of receives. It keeps the seat and
  -- the result of the service.
  pub record EndServes (number : ℕ) (before : SeatSeen) (old new : End L C) : Type 0 where
    pub seat : SeatSeen
    pub kept : new.seat ≡ Some seat
    pub serves : Serves number (end_seen before old) (end_seen seat new) new.outcome
    pub told : IfOk new.outcome
        (λ served. CountsTold served (end_seen before old).link (end_seen seat new).link)

  -- An end that served by this seat of a hall, from where the seat was. The seat is still one of
  -- that hall. Whatever calls it had made before, it made further ones.
  pub record EndGoesOn (number : ℕ) (hall : HallSeen) (before : SeatSeen) (old new : End L C)
      : Type 0 where
    pub serves : EndServes number before old new
    pub of_hall : IsOfHall hall before → IsOfHall hall serves.seat
    pub called : (worker : ℕ) (earlier : List runs.Call) → HasCalled hall worker earlier before
        → (calls : List runs.Call) × HasCalled hall worker (calls ++ earlier) serves.seat

  -- States that each end that has a seat served by it. An end without a seat was not served, and
  -- its link and its clock are as they were.
  abbrev pub EachGoesOn : ℕ → HallSeen → List (End L C) → List (End L C) → Type 0
  EachGoesOn number hall old new = (worker : ℕ) (d : End L C) → worker < length old
      → IfSome (slice_index_or old worker d).seat (λ before. EndGoesOn number hall before
      (slice_index_or old worker d) (slice_index_or new worker d))
      × IfNone (slice_index_or old worker d).seat
      (slice_index_or new worker d ≡ seated (slice_index_or old worker d) None)

  -- An end that has the seat of its number in one new hall, and served by it. After its calls the
  -- seat is still one of that hall, and one of its journal.
  pub record EndServed (number : ℕ) (hall : HallSeen) (worker : ℕ) (old new : End L C)
      : Type 0 where
    pub serves : EndServes number (new_seat hall worker) old new
    pub of_hall : IsOfHall hall serves.seat
    pub calls : List runs.Call
    pub is_seat : IsSeatAfter calls serves.seat

  -- States that each end was served so.
  abbrev pub EachServed : ℕ → HallSeen → List (End L C) → List (End L C) → Type 0
  EachServed number hall old new = (worker : ℕ) (d : End L C) → worker < length old
      → EndServed number hall worker (slice_index_or old worker d) (slice_index_or new worker d)

  -- States what became of the ends of a server. All were served in one hall, which has as many
  -- workers as there are ends; or no hall was made, and no link and no clock was used.
  abbrev pub AreServed : ℕ → List (End L C) → List (End L C) → ServeStatus → Type 0
  AreServed number old new result = ((hall : HallSeen)
      × (hall.workers ≡ length old) × EachServed number hall old new)
      ⊎ (AreLeft old new × (result ≡ status.Memory))

module _ {L C : Type 0} (l : links.Ghosts L) where
  -- States that these are the sums of all ends, in order, added to those of the ends before. Each
  -- end was served to the end. If its link exposes its datagrams, its counts are how many were
  -- taken that are not too long, and by how many those that are gone grew.
  abbrev pub AddUp : Served → List (End L C) → List (End L C) → Served → Type 0
  AddUp before [] [] sums = sums ≡ before
  AddUp before (old ∷ olds) (new ∷ news) sums = (one : Served)
      × (new.outcome ≡ Ok one)
      × CountsTold one (link_seen l old.link) (link_seen l new.link)
      × AddUp (both_served before one) olds news sums
  AddUp before _ _ sums = ⊥

  -- States that the sums are those of all ends, if the line is written.
  abbrev pub PrintsSums : List (End L C) → List (End L C) → Option (List ℕ) → Option (List ℕ)
      → ServeStatus → Type 0
  PrintsSums olds news before now status.Done = (sums : Served)
      × Appends before now (served_line sums) × AddUp none_served olds news sums
  PrintsSums olds news before now _ = ⊤
