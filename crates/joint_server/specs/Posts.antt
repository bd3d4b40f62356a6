-- The workers of a server over UDP and TCP: what each has before its service and after it.
use Rattle.std.specs.Prelude.{◌≡◌, ℕ, ◌<◌, ◌^◌, List, ◌++◌, length, slice_index_or}
use Rattle.std.specs.Prelude.{Option, Some, None, Err, IfOk, IfSome, IfNone, All, ⊤}
use Rattle.udp_link.specs.declared.links.Link as links
use Rattle.udp_link.specs.declared.clocks.Clock as clocks
use Rattle.rd_seat.specs.Callers.{caller_seen}
use Rattle.rd_seat.specs.Seats.{HallSeen, SeatSeen, IsOfHall, new_seat}
use Rattle.rd_seat.specs.Runs as runs
use Rattle.rd_seat.specs.Runs.{HasCalled}
use Rattle.rd_server.specs.declared.serving.served.ServeFault.TheVariants as fault
use Rattle.rd_server.specs.serving.Servers as servers
use Rattle.rd_server.specs.serving.Servers.{end_seen}
use Rattle.rd_server.specs.serving.Service.{Serves, CountsTold}
use Rattle.rd_server.specs.serving.Sums.{IsBelow, worker_most}
use Rattle.tcp_door.specs.Lanes.{LaneSeen}
use Rattle.joint_server.specs.declared.posts.Post.{Post}
use Rattle.joint_server.specs.declared.posts.Post.TheVariants as post
use Rattle.joint_server.specs.declared.posts.Stand.{Stand}
use Rattle.joint_server.specs.Standing.{AttendsDoor, IsFew}

-- Returns the seat of a worker, if it has one.
abbrev pub seat_of : {L E C : Type 0} → Post L E C → Option SeatSeen
seat_of (post.Udp end) = end.seat
seat_of (post.Tcp stand) = stand.seat

-- States that there is a seat.
abbrev pub HasSeat : Option SeatSeen → Type 0
HasSeat None = ⊥
HasSeat (Some seat) = ⊤

-- Returns a stand that has a seat or none, and has not been served.
abbrev pub stand_seated : {E C : Type 0} → Stand E C → Option SeatSeen → Stand E C
stand_seated stand seat = record {
  door = stand.door;
  clock = stand.clock;
  seat = seat;
  outcome = Err fault.Memory;
}

-- Returns a worker that has a seat or none, and has not been served.
abbrev pub seated : {L E C : Type 0} → Post L E C → Option SeatSeen → Post L E C
seated (post.Udp end) seat = post.Udp (servers.seated end seat)
seated (post.Tcp stand) seat = post.Tcp (stand_seated stand seat)

-- States that each seat that a worker has is one of this hall.
abbrev pub AreOfHall : {L E C : Type 0} → HallSeen → List (Post L E C) → Type 0
AreOfHall hall posts = All (λ p. IfSome (seat_of p) (λ seat. seat.hall ≡ hall)) posts

-- The workers with the new seats of their numbers, in a hall that has as many workers. What else
-- each has is as it was.
pub record AreSeated {L E C : Type 0} (hall : HallSeen) (old new : List (Post L E C)) : Type 0
  where
    pub workers : hall.workers ≡ length old
    pub each : (worker : ℕ) (d : Post L E C) → worker < length old
        → slice_index_or new worker d
        ≡ seated (slice_index_or old worker d) (Some (new_seat hall worker))

-- States that the workers have no seat, and what else each has is as it was.
abbrev pub AreLeft : {L E C : Type 0} → List (Post L E C) → List (Post L E C) → Type 0
AreLeft old new = (worker : ℕ) (d : Post _ _ _) → worker < length old
    → slice_index_or new worker d ≡ seated (slice_index_or old worker d) None

-- States that the counts of a worker are within their limits.
abbrev pub IsWithin : {L E C : Type 0} → Post L E C → Type 0
IsWithin (post.Udp end) = IfOk end.outcome (IsBelow worker_most)
IsWithin (post.Tcp stand) = IfOk stand.outcome (IsFew (10 ^ 12))

module _ {L E C : Type 0} (l : links.Ghosts L) (seen : E → LaneSeen) (c : clocks.Ghosts C) where
  -- States what became of a worker's service by this seat, which led to that one. One over UDP
  -- served datagrams, as `serve` of `rd_server` says. One over TCP served connections, as `attend`
  -- of `coap_stream` says of each, with peers of its own lane.
  abbrev pub ServesBy : ℕ → SeatSeen → SeatSeen → Post L E C → Post L E C → Type 0
  ServesBy number before after (post.Udp old) (post.Udp new) =
      Serves number (end_seen l c before old) (end_seen l c after new) new.outcome
      × IfOk new.outcome (λ served.
      CountsTold served (end_seen l c before old).link (end_seen l c after new).link)
  ServesBy number before after (post.Tcp old) (post.Tcp new) =
      AttendsDoor (seen old.door) (seen new.door) (caller_seen c before old.clock)
      (caller_seen c after new.clock) new.outcome
  ServesBy number before after _ _ = ⊥

  -- A worker that served with this seat. It made this number of receives, or asked its door this
  -- number of times. It keeps the seat.
  pub record PostServes (number : ℕ) (before : SeatSeen) (old new : Post L E C) : Type 0 where
    pub seat : SeatSeen
    pub kept : seat_of new ≡ Some seat
    pub serves : ServesBy number before seat old new

  -- A worker that served with this seat of a hall, from the seat's present state. The seat is still
  -- one of that hall. Whatever calls it had made before, it made further ones.
  pub record PostGoesOn (number : ℕ) (hall : HallSeen) (before : SeatSeen) (old new : Post L E C)
      : Type 0 where
    pub serves : PostServes number before old new
    pub of_hall : IsOfHall hall before → IsOfHall hall serves.seat
    pub called : (worker : ℕ) (earlier : List runs.Call) → HasCalled hall worker earlier before
        → (calls : List runs.Call) × HasCalled hall worker (calls ++ earlier) serves.seat

  -- States that each worker that has a seat served by it. One without a seat was not served.
  abbrev pub EachGoesOn : ℕ → HallSeen → List (Post L E C) → List (Post L E C) → Type 0
  EachGoesOn number hall old new = (worker : ℕ) (d : Post L E C) → worker < length old
      → IfSome (seat_of (slice_index_or old worker d)) (λ before. PostGoesOn number hall before
      (slice_index_or old worker d) (slice_index_or new worker d))
      × IfNone (seat_of (slice_index_or old worker d))
      (slice_index_or new worker d ≡ seated (slice_index_or old worker d) None)
