-- Connections that one worker serves, one after another, with one seat. The last comes first.
use Rattle.std.specs.Prelude.{◌≡◌, ℕ, ◌+◌, ◌*◌, ◌≤◌, List, [], ◌∷◌, length}
use Rattle.std.specs.Prelude.{Option, Some, None, Result, Ok, Err, ⊤}
use Rattle.rd_base.specs.Outside.{Rose}
use Rattle.rd_seat.specs.Chains.{Chain}
use Rattle.rd_seat.specs.Callers.{CallerSeen}
use Rattle.rd_server.specs.declared.serving.served.ServeFault.{ServeFault}
use Rattle.rd_server.specs.declared.serving.served.ServeFault.TheVariants as fault
use Rattle.tcp_door.specs.Lanes.{LaneSeen, IsLet, IsShut, IsPeerOf}
use Rattle.coap_stream.specs.declared.talked.TalkFault.{TalkFault}
use Rattle.coap_stream.specs.declared.talked.Talked.{Talked}
use Rattle.coap_stream.specs.Endings.{Attends}
use Rattle.coap_stream.specs.Serving.{Connection}
use Rattle.coap_stream.specs.Serving as serving
use Rattle.joint_server.specs.declared.attended.Attended.{Attended}

-- Returns the number of requests that a conversation passed to the seat. It is 0 if a read or a
-- write failed.
abbrev pub asked_of : Result Talked TalkFault → ℕ
asked_of talked = serving.asked_of talked

-- A connection whose conversation led the seat and the clock from one state to the other.
pub record WasAttended (before : CallerSeen) (c : Connection) (after : CallerSeen)
    : Type 0 where
  pub begins : c.before.caller ≡ before
  pub ends : c.after.caller ≡ after
  pub attends : Attends c.peer c.before c.after c.result

-- States that a connection has the peer of its number in the lane.
abbrev pub WasNumbered : ℕ → ℕ → Connection → ℕ → Type 0
WasNumbered lane before c after = IsPeerOf lane before c.peer × (after ≡ before + 1)

-- ---- one turn

-- A connection that was opened and served.
pub record IsTurned (door door_then : LaneSeen) (before after : CallerSeen) (asked : ℕ)
    : Type 0 where
  pub connection : Connection
  pub let_in : IsLet door door_then connection.peer
  pub attended : WasAttended before connection after
  pub counts : asked ≡ asked_of connection.result

-- States the result of one turn: a connection was served, or there was none, or the door failed.
abbrev pub TurnMade : LaneSeen → LaneSeen → CallerSeen → CallerSeen
    → Result (Option ℕ) ServeFault → Type 0
TurnMade door door_then before after (Ok (Some asked)) =
    IsTurned door door_then before after asked
TurnMade door door_then before after (Ok None) = (door_then ≡ door) × (after ≡ before)
TurnMade door door_then before after (Err fault.Link) =
    IsShut door door_then × (after ≡ before)
TurnMade door door_then before after (Err fault.Memory) = ⊥

-- Returns the counts after a turn.
abbrev pub counted : Attended → Option ℕ → Attended
counted attended None = attended
counted attended (Some asked) =
    record { connections = attended.connections + 1; asked = attended.asked + asked }

-- States the limit of a turn that is counted: a connection made at most 65,536 requests.
abbrev pub AsksFew : Option ℕ → Type 0
AsksFew None = ⊤
AsksFew (Some asked) = asked ≤ 65_536

abbrev pub TakesTurn : LaneSeen → LaneSeen → CallerSeen → CallerSeen → Attended → Attended
    → Result (Unit {0}) ServeFault → Type 0
TakesTurn door door_then before after old new (Ok done) =
    (turned : Option ℕ) × TurnMade door door_then before after (Ok turned)
    × AsksFew turned × (new ≡ counted old turned)
TakesTurn door door_then before after old new (Err why) =
    TurnMade door door_then before after (Err why)

-- ---- all of them

abbrev pub asked_of_all : List Connection → ℕ
asked_of_all [] = 0
asked_of_all (c ∷ earlier) = asked_of_all earlier + asked_of c.result

-- Connections that were served one after another. Each has a peer of its own in the lane. Each
-- conversation led the seat and the clock on from where the one before it had led them.
pub record Stands (connections : List Connection) (door door_then : LaneSeen)
    (before after : CallerSeen) : Type 0 where
  pub attended : Chain WasAttended before connections after
  pub numbered : Chain (WasNumbered door.lane) door.opened connections door_then.opened
  pub lane : door_then.lane ≡ door.lane

-- States how the service ends: these are the counts, or the door failed.
abbrev pub EndsAs : List Connection → ℕ → ℕ → Result Attended ServeFault → Type 0
EndsAs connections faults faults_then (Ok attended) =
    (attended.connections ≡ length connections)
    × (attended.asked ≡ asked_of_all connections)
    × (faults_then ≡ faults)
EndsAs connections faults faults_then (Err fault.Link) =
    (faults ≤ faults_then) × Rose faults faults_then
EndsAs connections faults faults_then (Err fault.Memory) = ⊥

-- The service of a worker that accepts connections at a door.
pub record AttendsDoor (door door_then : LaneSeen) (before after : CallerSeen)
    (result : Result Attended ServeFault) : Type 0 where
  pub connections : List Connection
  pub stands : Stands connections door door_then before after
  pub ends : EndsAs connections door.faults door_then.faults result

-- The service so far.
pub record StandsSo (door door_now : LaneSeen) (before now : CallerSeen) (attended : Attended)
    : Type 0 where
  pub connections : List Connection
  pub stands : Stands connections door door_now before now
  pub count : attended.connections ≡ length connections
  pub sum : attended.asked ≡ asked_of_all connections
  pub faults : door_now.faults ≡ door.faults

-- Counts of at most this number of connections.
pub record IsFew (turns : ℕ) (attended : Attended) : Type 0 where
  pub connections : attended.connections ≤ turns
  pub asked : attended.asked ≤ 65_536 * turns
