-- Connections that are served one after the other by one seat. The last comes first.
use Rattle.std.specs.Prelude.{◌≡◌, ◌⊎◌, ℕ, ◌+◌, ◌<◌, ◌≤◌, true, false}
use Rattle.std.specs.Prelude.{List, [], ◌∷◌, ◌++◌, length, take}
use Rattle.std.specs.Prelude.{codes, Option, Some, None, Result, Ok, Err, ⊤}
use Rattle.std.specs.Fmt.{decimal}
use Rattle.std.specs.Io.KnownBytes.{Appends}
use Rattle.rd_base.specs.declared.peers.Peer.{Peer}
use Rattle.rd_base.specs.Outside.{Rose}
use Rattle.rd_base.specs.declared.outside.Source as sources
use Rattle.rd_base.specs.declared.outside.Sink as sinks
use Rattle.udp_link.specs.Links.{Datagram}
use Rattle.udp_link.specs.Told.{WhereTold, Stays}
use Rattle.rd_seat.specs.Chains.{Chain}
use Rattle.rd_seat.specs.Callers.{CallerSeen, ClockSeen}
use Rattle.rd_seat.specs.Seats.{HallSeen, SeatSeen, IsOfHall, new_seat}
use Rattle.coap_stream.specs.declared.talked.TalkFault.TheVariants as fault
use Rattle.coap_stream.specs.declared.talked.TalkFault.{TalkFault}
use Rattle.coap_stream.specs.declared.talked.Talked.{Talked}
use Rattle.coap_stream.specs.declared.doors.Opened.{Opened}
use Rattle.coap_stream.specs.declared.doors.Opened.TheVariants as opened
use Rattle.coap_stream.specs.declared.serving.StreamsStatus.{StreamsStatus}
use Rattle.coap_stream.specs.declared.serving.StreamsStatus.TheVariants as status
use Rattle.coap_stream.specs.declared.serving.StreamsFault.{StreamsFault}
use Rattle.coap_stream.specs.declared.serving.StreamsFault.TheVariants as streams_fault
use Rattle.coap_stream.specs.Asked.{asked_in_all}
use Rattle.coap_stream.specs.Spoken.{IsPut}
use Rattle.coap_stream.specs.Endings.{TalkSeen, Talks}

-- ---- what a listener opens

-- States that a connection is the first of those that were to come, and that its source has its
-- octets. A failure opens none.
abbrev pub Opens : {S K : Type 0} → (S → Option (List ℕ)) → Option (List Datagram)
    → Option (List Datagram) → Opened S K → Type 0
Opens left before now (opened.One peer source sink) = WhereTold
    (λ old new. (octets : List ℕ) × (old ≡ (peer, octets) ∷ new)
    × (left source ≡ Some octets))
    before now
Opens left before now opened.Failed = Stays before now

-- States that the count rose if the call failed, and that it is the same otherwise.
abbrev pub CountsOpened : {S K : Type 0} → ℕ → ℕ → Opened S K → Type 0
CountsOpened before now (opened.One peer source sink) = now ≡ before
CountsOpened before now opened.Failed = (before ≤ now) × Rose before now

-- Returns the peer of the connection that was opened.
abbrev pub opened_peer : {S K : Type 0} → Opened S K → Option Peer
opened_peer (opened.One peer source sink) = Some peer
opened_peer opened.Failed = None

-- ---- connections

-- A connection that was served: its peer, what contracts see before its conversation and after it,
-- and the result of the conversation.
pub record Connection : Type 0 where
  pub peer : Peer
  pub before : TalkSeen
  pub after : TalkSeen
  pub result : Result Talked TalkFault

-- A connection whose conversation led the seat and the clock from one state to the other.
pub record WasServed (before : CallerSeen) (c : Connection) (after : CallerSeen) : Type 0 where
  pub begins : c.before.caller ≡ before
  pub ends : c.after.caller ≡ after
  pub talks : Talks c.peer c.before c.after c.result

-- A connection whose peer and octets were the first of those that were to come.
pub record WasOpened (before : List Datagram) (c : Connection) (now : List Datagram)
    : Type 0 where
  pub octets : List ℕ
  pub first : before ≡ (c.peer, octets) ∷ now
  pub told : c.before.source.left ≡ Some octets

-- Returns how many requests a conversation passed to the seat. A conversation with a failed read or
-- write counts none.
abbrev pub asked_of : Result Talked TalkFault → ℕ
asked_of (Ok talked) = talked.asked
asked_of (Err why) = 0

abbrev pub asked_of_all : List Connection → ℕ
asked_of_all [] = 0
asked_of_all (c ∷ earlier) = asked_of_all earlier + asked_of c.result

-- States that a conversation did not run out of memory.
abbrev pub IsFed : Result Talked TalkFault → Type 0
IsFed (Err fault.Starved) = ⊥
IsFed _ = ⊤

abbrev pub AreFed : List Connection → Type 0
AreFed [] = ⊤
AreFed (c ∷ earlier) = AreFed earlier × IsFed c.result

-- States that the last conversation ran out of memory, and none before it.
abbrev pub IsLastStarved : List Connection → Type 0
IsLastStarved [] = ⊥
IsLastStarved (c ∷ earlier) = (c.result ≡ Err fault.Starved) × AreFed earlier

-- States that none of the reads and writes of a conversation failed.
abbrev pub IsUnfailed : Result Talked TalkFault → Type 0
IsUnfailed (Err fault.Read) = ⊥
IsUnfailed (Err fault.Write) = ⊥
IsUnfailed _ = ⊤

abbrev pub AreUnfailed : List Connection → Type 0
AreUnfailed [] = ⊤
AreUnfailed (c ∷ earlier) = AreUnfailed earlier × IsUnfailed c.result

-- Sources and sinks of which no call fails.
pub record NeverFail {S K : Type 0} (s : sources.Ghosts S) (k : sinks.Ghosts K) : Type 0 where
  pub reads : (source : S) → s.faults source ≡ 0
  pub writes : (out : K) → k.faults out ≡ 0

-- Connections that were opened one after the other. One seat held their conversations.
pub record Serves (connections : List Connection) (before after : CallerSeen)
    (coming now : Option (List Datagram)) : Type 0 where
  pub served : Chain WasServed before connections after
  pub opened : WhereTold (λ old new. Chain WasOpened old connections new) coming now

-- States the result: this number of connections was served, or opening one failed, or memory ran
-- out.
abbrev pub EndsAs : ℕ → List Connection → ℕ → ℕ → Result ℕ StreamsFault → Type 0
EndsAs count connections faults faults_then (Ok asked) =
    (length connections ≡ count)
    × AreFed connections
    × (asked ≡ asked_of_all connections)
    × (faults_then ≡ faults)
EndsAs count connections faults faults_then (Err streams_fault.Link) =
    (length connections < count)
    × AreFed connections
    × (faults ≤ faults_then)
    × Rose faults faults_then
EndsAs count connections faults faults_then (Err streams_fault.Memory) =
    (length connections ≤ count) × IsLastStarved connections × (faults_then ≡ faults)

-- Returns how many requests a conversation counts, unless it ran out of memory.
abbrev pub asked_unless : Result Talked TalkFault → Result ℕ StreamsFault
asked_unless (Ok talked) = Ok talked.asked
asked_unless (Err fault.Read) = Ok 0
asked_unless (Err fault.Write) = Ok 0
asked_unless (Err fault.Starved) = Err streams_fault.Memory

-- One connection that was opened and served; `sure` says that no call of its source and sink fails.
pub record Served (sure : Type 0) (before after : CallerSeen)
    (coming now : Option (List Datagram)) (faults faults_then : ℕ)
    (result : Result ℕ StreamsFault) : Type 0 where
  pub connection : Connection
  pub serves : Serves (connection ∷ []) before after coming now
  pub is : result ≡ asked_unless connection.result
  pub stands : faults_then ≡ faults
  pub unfailed : sure → IsUnfailed connection.result

-- States that one connection was served so, or that it could not be opened.
abbrev pub ServesOne : Type 0 → CallerSeen → CallerSeen → Option (List Datagram)
    → Option (List Datagram) → ℕ → ℕ → Result ℕ StreamsFault → Type 0
ServesOne sure before after coming now faults faults_then (Err streams_fault.Link) =
    (after ≡ before) × Stays coming now × (faults ≤ faults_then) × Rose faults faults_then
ServesOne sure before after coming now faults faults_then (Err streams_fault.Memory) =
    Served sure before after coming now faults faults_then (Err streams_fault.Memory)
ServesOne sure before after coming now faults faults_then (Ok asked) =
    Served sure before after coming now faults faults_then (Ok asked)

-- The connections that were served so, one after the other, up to `count`.
pub record ServesAll (sure : Type 0) (count : ℕ) (before after : CallerSeen)
    (coming now : Option (List Datagram)) (faults faults_then : ℕ)
    (result : Result ℕ StreamsFault) : Type 0 where
  pub connections : List Connection
  pub serves : Serves connections before after coming now
  pub ends : EndsAs count connections faults faults_then result
  pub unfailed : sure → AreUnfailed connections

-- The connections that were served so far.
pub record ServedSo (sure : Type 0) (done asked : ℕ) (before now : CallerSeen)
    (coming left : Option (List Datagram)) (faults faults_now : ℕ) : Type 0 where
  pub connections : List Connection
  pub serves : Serves connections before now coming left
  pub fed : AreFed connections
  pub count : length connections ≡ done
  pub sum : asked ≡ asked_of_all connections
  pub stands : faults_now ≡ faults
  pub unfailed : sure → AreUnfailed connections

-- ---- what is written

-- Returns the line with these numbers of connections and requests.
abbrev pub talked_line : ℕ → ℕ → List ℕ
talked_line count asked =
    codes "talked " ++ (decimal count ++ (codes " " ++ (decimal asked ++ codes "\n")))

-- States the final status, by the result. The line is written, or a prefix of it if the count of
-- the output's faults rose.
abbrev pub Concludes : ℕ → Result ℕ StreamsFault → Option (List ℕ) → Option (List ℕ)
    → ℕ → ℕ
    → StreamsStatus → Type 0
Concludes count (Ok asked) old new faults faults_then status.Done =
    IsPut old new faults faults_then (talked_line count asked) true
Concludes count (Ok asked) old new faults faults_then status.Write =
    IsPut old new faults faults_then (talked_line count asked) false
Concludes count (Ok asked) old new faults faults_then status.Memory =
    Appends old new [] × (faults_then ≡ faults)
Concludes count (Err streams_fault.Link) old new faults faults_then status.Link =
    Appends old new [] × (faults_then ≡ faults)
Concludes count (Err streams_fault.Memory) old new faults faults_then status.Memory =
    Appends old new [] × (faults_then ≡ faults)
Concludes count _ old new faults faults_then _ = ⊥

-- ---- all of it

-- States that the count is what the first of the streams pass to the seat. This holds if the
-- listener exposes its streams, and no call of their sources and sinks fails.
abbrev pub CountsStreams : ℕ → Option (List Datagram) → Result ℕ StreamsFault → Type 0
CountsStreams count None outcome = ⊤
CountsStreams count (Some streams) (Err why) = ⊤
CountsStreams count (Some streams) (Ok asked) =
    (count ≤ length streams) × (asked ≡ asked_in_all (take count streams))

-- What a listener and an output show.
pub record DoorSeen : Type 0 where
  pub coming : Option (List Datagram)
  pub faults : ℕ

pub record OutSeen : Type 0 where
  pub holds : Option (List ℕ)
  pub faults : ℕ

abbrev pub out_seen : {K : Type 0} → sinks.Ghosts K → K → OutSeen
out_seen g out = record { holds = g.holds out; faults = g.faults out }

-- The seat of a new hall that served all connections, and the status that is their result. The seat
-- still belongs to that hall.
pub record ServesBySeat (sure : Type 0) (count : ℕ) (before after : ClockSeen)
    (door door_then : DoorSeen) (out out_then : OutSeen) (result : StreamsStatus) : Type 0 where
  pub hall : HallSeen
  pub alone : hall.workers ≡ 1
  pub seat : SeatSeen
  pub of_hall : IsOfHall hall seat
  pub outcome : Result ℕ StreamsFault
  pub all : ServesAll sure count (record { seat = new_seat hall 0; clock = before })
      (record { seat = seat; clock = after }) door.coming door_then.coming
      door.faults door_then.faults outcome
  pub counts : sure → CountsStreams count door.coming outcome
  pub concludes : Concludes count outcome out.holds out_then.holds out.faults out_then.faults
      result

-- States the same, or that memory ran out before the first connection was opened.
abbrev pub ServesStreams : Type 0 → ℕ → ClockSeen → ClockSeen → DoorSeen → DoorSeen
    → OutSeen
    → OutSeen → StreamsStatus → Type 0
ServesStreams sure count before after door door_then out out_then result =
    ServesBySeat sure count before after door door_then out out_then result
    ⊎ (result ≡ status.Memory) × (after ≡ before) × (door_then ≡ door)
    × (out_then ≡ out)
