-- Notifications in flight, and when a message is retransmitted (RFC 7252 section 4.2).
use Rattle.std.specs.Prelude.{
  ℕ,
  ◌+◌,
  ◌*◌,
  ◌%◌,
  ◌^◌,
  Bool,
  false,
  ◌&&◌,
  ◌==◌,
  List,
  [],
  ◌∷◌,
  length,
  filter,
  Option,
  Some,
  None,
  is_some,
  option_map,
  option_and_then,
  if◌then◌else◌,
}
use Rattle.std.specs.List.{list_any}
use Rattle.rd_base.specs.declared.peers.Peer.{Peer}
use Rattle.event_model.specs.declared.transmission.TheConstants.{
  MAX_RETRANSMIT,
  ACK_TIMEOUT,
  ACK_TIMEOUTS,
}
use Rattle.event_model.specs.declared.notes.Note.{Note}
use Rattle.event_model.specs.declared.notes.Note.TheVariants as note
use Rattle.event_model.specs.declared.notes.Observer.{Observer}
use Rattle.event_model.specs.Same.{RequestName, is_same_peer, is_same_request}
use Rattle.event_model.specs.Events.{Event, last_event, has_event, events_since}
use Rattle.event_model.specs.Observers.{name_of, observers}

-- How often a message is retransmitted (RFC 7252 section 4.8, MAX_RETRANSMIT).
abbrev pub max_again : ℕ
max_again = MAX_RETRANSMIT

-- Returns the initial timeout in milliseconds, from 2,000 to 3,000 (RFC 7252 section 4.8,
-- ACK_TIMEOUT, ACK_RANDOM_FACTOR).
abbrev pub first_wait : ℕ → ℕ
first_wait word = ACK_TIMEOUT + word % ACK_TIMEOUTS

-- Returns the moment of the last of these events, or another moment if there are none.
abbrev pub moment_of_last : List Event → ℕ → ℕ
moment_of_last [] moment = moment
moment_of_last (e ∷ before) moment = e.moment

-- Returns the moment at which the timeout of a message ends that the row of an event sent first,
-- and those of other events retransmitted. The timeout doubles with each retransmission, and counts
-- from the last sending (RFC 7252 section 4.2).
unfoldable pub deadline : Event → List Event → ℕ
deadline first again = moment_of_last again first.moment + first_wait first.word * 2 ^ length again

-- The timing of a message that waits for its acknowledgement. It is when the message was last sent,
-- how many milliseconds it waits from then on, and how often it was retransmitted.
pub record Retransmission : Type 0 where
  pub sent : ℕ
  pub wait : ℕ
  pub again : ℕ

-- Returns the timing of a message that the row of an event sent first, and those of other events
-- retransmitted, the newest first.
abbrev pub retransmission : Event → List Event → Retransmission
retransmission first again = record {
  sent = moment_of_last again first.moment;
  wait = first_wait first.word * 2 ^ length again;
  again = length again;
}

-- A message that waits for its acknowledgement: its Message ID, its octets, and its timing.
pub record Sent : Type 0 where
  pub mid : ℕ
  pub octets : List ℕ
  pub resend : Retransmission

-- The octets that the row of a place sent to a peer in the confirmable message with a Message ID.
abbrev pub OctetsSent : Type 0
OctetsSent = ℕ → Peer → ℕ → List ℕ

-- Returns whether a note says that a body was built for an observer.
abbrev pub is_forming_for : RequestName → Note → Bool
is_forming_for name (note.Formed peer token body mid) = is_same_request (peer, token) name
is_forming_for name _ = false

-- Returns the Message ID of the notification that a note builds.
abbrev pub notification_mid : Note → Option ℕ
notification_mid (note.Formed peer token body mid) = mid
notification_mid _ = None

-- Returns whether a note says that the notification with a peer and a Message ID was acknowledged.
abbrev pub is_landing_of : Peer → ℕ → Note → Bool
is_landing_of peer mid (note.Landed p m) = is_same_peer p peer && m == mid
is_landing_of peer mid _ = false

-- Returns whether a note says that the notification with a peer and a Message ID was retransmitted.
abbrev pub is_again_of : Peer → ℕ → Note → Bool
is_again_of peer mid (note.Again p m) = is_same_peer p peer && m == mid
is_again_of peer mid _ = false

-- A notification in flight: its Message ID, the event that built it, and those that retransmitted
-- it, the newest first. A table shows it as `Sent`, but rows need these events. By them a tick
-- finds which row sent the notification first, and when it is retransmitted.
pub record Flight : Type 0 where
  pub mid : ℕ
  pub formed : Event
  pub again : List Event

-- Returns the notification with a Message ID that an event built, if no later event acknowledges
-- it.
abbrev pub flight_after : Peer → Event → List Event → ℕ → Option Flight
flight_after peer formed later mid =
    if has_event (is_landing_of peer mid) later then None
    else Some (record
    { mid = mid; formed = formed; again = filter (λ e. is_again_of peer mid e.note) later })

-- Returns the notification in flight to an observer: what was last built for it, if that is a
-- notification and was not acknowledged since.
unfoldable pub flight : Observer → List Event → Option Flight
flight o events =
    option_and_then
    (λ formed. option_and_then
    (flight_after o.peer formed (events_since (is_forming_for (name_of o)) events))
    (notification_mid formed.note))
    (last_event (is_forming_for (name_of o)) events)

-- Returns whether a notification is in flight to one of the observers of a peer, which then gets no
-- other (RFC 7252 section 4.7, NSTART).
unfoldable pub is_waited_for : Peer → List Event → Bool
is_waited_for peer events =
    list_any (λ o. is_same_peer o.peer peer && is_some (flight o events)) (observers events)

-- Returns a notification in flight to a peer as a message that waits, by the octets that rows sent.
abbrev pub notification_sent : OctetsSent → Peer → Flight → Sent
notification_sent octets peer f = record {
  mid = f.mid;
  octets = octets f.formed.place peer f.mid;
  resend = retransmission f.formed f.again;
}

-- Returns the notification in flight to an observer as such a message.
unfoldable pub waiting_notification : OctetsSent → List Event → Observer → Option Sent
waiting_notification octets events o = option_map (notification_sent octets o.peer)
    (flight o events)
