-- The parts of a tick, one after the other: notifications are retransmitted, due observers get new
-- ones, and requests of fetches are retransmitted (RFC 7252 section 4.2, RFC 7641 sections 1.3 and
-- 4.5).
use Rattle.std.specs.Prelude.{
  ℕ,
  ◌+◌,
  ◌*◌,
  ◌/◌,
  Bool,
  true,
  false,
  not,
  ◌&&◌,
  ◌||◌,
  ◌==◌,
  nat_le,
  List,
  [],
  ◌∷◌,
  length,
  fold,
  find,
  Option,
  Some,
  None,
  option_map,
  unwrap_or,
  bytes_eq,
  if◌then◌else◌,
}
use Rattle.rd_base.specs.declared.peers.Peer.{Peer}
use Rattle.message_model.specs.declared.blocks.Block.{Block}
use Rattle.message_model.specs.declared.messages.Kind4.TheVariants.{Con}
use Rattle.message_model.specs.Message.{Message}
use Rattle.message_model.specs.Spelling.{spelling}
use Rattle.history_model.specs.Listing.{listing, tag}
use Rattle.event_model.specs.declared.notes.Note.{Note}
use Rattle.event_model.specs.declared.notes.Note.TheVariants as note
use Rattle.event_model.specs.declared.notes.Observer.{Observer}
use Rattle.event_model.specs.Same.{is_same_peer}
use Rattle.event_model.specs.Events.{Event, noted}
use Rattle.event_model.specs.KeptAnswers.{Answer}
use Rattle.event_model.specs.Observers.{name_of, observers, observe_value, last_body_formed}
use Rattle.event_model.specs.Flights.{
  Flight,
  OctetsSent,
  max_again,
  deadline,
  flight,
  is_waited_for,
}
use Rattle.event_model.specs.Due.{Transition, is_due}
use Rattle.event_model.specs.Fetches.{
  Request,
  fetches,
  last_request,
  request_noted,
  is_waiting,
  resendings,
  fetch_deadline,
}
use Rattle.journal_model.specs.declared.steps.Step.{Step}
use Rattle.journal_model.specs.declared.rows.Row.{Row}
use Rattle.journal_model.specs.Journal.{events, entries, now, row_at, transitions}
use Rattle.journal_model.specs.Effects.{Effects, Reply, nothing, joined, noting, mid_of}
use Rattle.journal_model.specs.Bodies.{body_reply, is_long}

-- The most notifications that one tick builds.
abbrev pub max_notifications : ℕ
max_notifications = 64

-- Returns whether octets begin a confirmable message with this Message ID: version 1, type 0 (RFC
-- 7252 section 3).
abbrev pub is_confirmable_with : ℕ → List ℕ → Bool
is_confirmable_with mid (first ∷ code ∷ high ∷ low ∷ others) =
    first / 16 == 4 && high * 256 + low == mid
is_confirmable_with mid _ = false

-- Returns the confirmable message with this Message ID that a row sent to a peer.
abbrev pub confirmable_sent : Option Row → Peer → ℕ → Option (Peer × List ℕ)
confirmable_sent None peer mid = None
confirmable_sent (Some r) peer mid =
    find (λ d. is_same_peer d.0 peer && is_confirmable_with mid d.1) r.sent

-- Returns the octets of the confirmable message with a Message ID that the row of a place sent to a
-- peer. Returns none if it sent no such message.
unfoldable pub octets_sent : List Row → OctetsSent
octets_sent rows place peer mid =
    unwrap_or (option_map (λ d. d.1) (confirmable_sent (row_at place rows) peer mid)) []

-- Sends the same octets once more, and notes this.
abbrev pub sent_again : Option (Peer × List ℕ) → Note → Effects
sent_again None n = noting (n ∷ [])
sent_again (Some d) n = record { sent = d ∷ []; notes = n ∷ []; drew = 0 }

-- Sends the message that the row at a place sent to a peer with this Message ID once more.
abbrev pub repeating : List Row → ℕ → Peer → ℕ → Note → Effects
repeating rows place peer mid n = sent_again (confirmable_sent (row_at place rows) peer mid) n

-- Does one thing after the other, for each of some things.
abbrev pub each_of : {A : Type 0} → (A → Effects) → List A → Effects
each_of does [] = nothing
each_of does (x ∷ xs) = joined (does x) (each_of does xs)

-- What is due of a message that waits for its acknowledgement (RFC 7252 section 4.2).
pub data Due : Type 0 where
  not_yet : Due
  retransmission : Due
  giving_up : Due

-- Returns what is due, by whether the timeout has ended, and whether that was the last one.
abbrev pub due_by : Bool → Bool → Due
due_by false last = not_yet
due_by true true = giving_up
due_by true false = retransmission

-- Retransmits a notification whose timeout has ended. After the last time its observer is removed.
abbrev pub notification_again : Due → List Row → Observer → Flight → Effects
notification_again not_yet rows o f = nothing
notification_again giving_up rows o f = noting (note.Unwatched o.peer o.token ∷ [])
notification_again retransmission rows o f =
    repeating rows f.formed.place o.peer f.mid (note.Again o.peer f.mid)

-- Retransmits the notification in flight to an observer, if that is due at a moment.
abbrev pub flight_again : List Row → ℕ → Observer → Option Flight → Effects
flight_again rows moment o None = nothing
flight_again rows moment o (Some f) =
    notification_again
    (due_by (nat_le (deadline f.formed f.again) moment) (nat_le max_again (length f.again))) rows o
    f

-- Does the first part of a tick: retransmits the notifications in flight whose timeout has ended.
unfoldable pub notifications_again : List Row → ℕ → Effects
notifications_again rows moment =
    each_of (λ o. flight_again rows moment o (flight o (events rows))) (observers (events rows))

-- What the notifications of a tick are made from: the rows before it, its moment and step, and the
-- transitions up to its own.
pub record Ticking : Type 0 where
  pub rows : List Row
  pub moment : ℕ
  pub step : Step
  pub transitions : List Transition

-- Returns the tick itself as a transition: time passes in it.
abbrev pub transition_of_tick : List Row → ℕ → Transition
transition_of_tick rows moment = record {
  place = length rows;
  before = entries rows;
  moment_before = now rows;
  after = entries rows;
  moment_after = moment;
}

-- Returns what the notifications of a tick are made from, by its step and moment.
abbrev pub ticking : List Row → ℕ → Step → Ticking
ticking rows moment s = record {
  rows = rows;
  moment = moment;
  step = s;
  transitions = transition_of_tick rows moment ∷ transitions rows;
}

-- Returns the events with what the tick noted so far.
abbrev pub events_with : Ticking → Effects → List Event
events_with t done = noted (length t.rows) t.moment t.step.word done.notes (events t.rows)

-- Returns the block that an observer gets: the first, of the size that it requested.
abbrev pub first_block : Observer → Option Block
first_block o = Some (record { num = 0; more = false; szx = o.szx })

-- Returns the block that a notification names. It has a Block2 option only if the body is longer
-- than that block.
abbrev pub block_shown : Observer → List ℕ → Option Block
block_shown o body = if is_long (first_block o) body then first_block o else None

-- Returns the notification of an observer: a confirmable 2.05 with the listing, its tag and the
-- next Observe value (RFC 7641 section 4.2).
abbrev pub notification_of : Observer → ℕ → Reply → Message
notification_of o mid reply = record {
  kind = Con;
  code = reply.code;
  mid = mid;
  token = o.token;
  options = reply.options;
  payload = reply.payload;
}

-- Sends a notification of a new listing, which is kept if it is longer than the block size.
abbrev pub notified : Ticking → Effects → Observer → Answer → ℕ → Effects
notified t done o answer mid = record {
  sent = (
    o.peer,
    spelling
        (notification_of o mid (body_reply (Some answer.tag)
        (Some (observe_value (events_with t done)))
        (block_shown o answer.body) answer.body)),
  )
      ∷ [];
  notes = note.Formed o.peer o.token answer.body (Some mid)
      ∷ (if is_long (first_block o) answer.body then note.Kept o.peer o.key answer.body answer.tag
      ∷ [] else []);
  drew = 1;
}

-- Returns whether the listing equals the body that was last built.
abbrev pub is_unchanged : Option (List ℕ) → List ℕ → Bool
is_unchanged None body = false
is_unchanged (Some last) body = bytes_eq last body

-- Sends an observer the listing if that is new, and otherwise notes that it is unchanged.
abbrev pub notified_unless : Bool → Ticking → Effects → Observer → Answer → Effects
notified_unless true t done o answer = noting (note.Unchanged o.peer o.token ∷ [])
notified_unless false t done o answer =
    notified t done o answer (mid_of t.step.worker (t.step.drawn + done.drew))

-- Returns the listing of an observer at the moment of the tick.
abbrev pub listing_for : Ticking → Observer → Answer
listing_for t o = record {
  body = listing o.query (entries t.rows) t.moment;
  tag = tag (entries t.rows) t.moment;
}

-- Sends an observer its listing, if the tick considers the observer. Otherwise it gets nothing.
abbrev pub notified_if : Bool → Ticking → Effects → Observer → Effects
notified_if false t done o = nothing
notified_if true t done o =
    notified_unless
    (is_unchanged (last_body_formed (name_of o) (events_with t done)) (listing_for t o).body) t
    done o (listing_for t o)

-- Returns whether the tick considers an observer. The observer is due, no notification is in flight
-- to its peer, and the tick has not built as many as it may.
abbrev pub is_looked_at : Ticking → Effects → Observer → Bool
is_looked_at t done o =
    not (nat_le max_notifications done.drew)
    && is_due o (events_with t done) t.transitions
    && not (is_waited_for o.peer (events_with t done))

-- Does one observer after others, with what the tick did for those.
abbrev pub notification_next : Ticking → Effects → Observer → Effects
notification_next t done o = joined done (notified_if (is_looked_at t done o) t done o)

-- Does the second part of a tick, after the first: sends due observers a notification, one after
-- the other.
unfoldable pub notifications : Ticking → Effects → Effects
notifications t done = fold (notification_next t) done (observers (events_with t done))

-- Retransmits a request of a fetch whose timeout has ended. After the last time, and if a separate
-- response did not arrive, the fetch ends.
abbrev pub request_again : Due → List Row → Peer → Event → Option Request → Effects
request_again due rows peer e None = nothing
request_again not_yet rows peer e (Some request) = nothing
request_again giving_up rows peer e (Some request) = noting (note.Ceased peer ∷ [])
request_again retransmission rows peer e (Some request) =
    repeating rows e.place peer request.mid (note.Resent peer)

-- Retransmits the request of the fetch with a peer, if that is due at a moment.
abbrev pub fetch_again : List Row → ℕ → Peer → Option Event → Effects
fetch_again rows moment peer None = nothing
fetch_again rows moment peer (Some e) =
    request_again
    (due_by (nat_le (fetch_deadline peer e (events rows)) moment)
    (is_waiting peer (events rows) || nat_le max_again (length (resendings peer (events rows)))))
    rows peer e (request_noted e.note)

-- Does the third part of a tick: retransmits the requests of fetches whose timeout has ended.
unfoldable pub requests_again : List Row → ℕ → Effects
requests_again rows moment =
    each_of (λ peer. fetch_again rows moment peer (last_request peer (events rows)))
    (fetches (events rows))

-- Does a tick: one part strictly after the other. If memory ran out, the new notifications are left
-- out.
unfoldable pub tick_effects : Bool → List Row → ℕ → Step → Effects
tick_effects true rows moment s = joined (notifications_again rows moment)
    (requests_again rows moment)
tick_effects false rows moment s =
    joined (notifications (ticking rows moment s) (notifications_again rows moment))
    (requests_again rows moment)
