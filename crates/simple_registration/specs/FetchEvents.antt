-- The events of a journal that a table of fetches stands for, and what it answers by them (RFC 9176
-- section 5.1).
use Rattle.std.specs.Prelude.{
  ◌≡◌,
  ℕ,
  ◌+◌,
  Bool,
  false,
  ◌&&◌,
  ◌||◌,
  nat_le,
  List,
  ◌++◌,
  length,
  Option,
  Some,
  None,
  if◌then◌else◌,
}
use Rattle.std.specs.Prelude.{Result, Ok, Err}
use Rattle.rd_base.specs.declared.peers.Peer.{Peer}
use Rattle.message_model.specs.Message.{Message}
use Rattle.message_model.specs.Responses.{block_in, is_elsewhere, ends_by}
use Rattle.event_model.specs.declared.notes.Note.TheVariants as note
use Rattle.event_model.specs.Events.{Event}
use Rattle.event_model.specs.Flights.{OctetsSent, max_again}
use Rattle.event_model.specs.Fetches.{
  Request,
  max_fetches,
  fetches,
  is_fetching,
  last_request,
  request_of,
  gathered,
  collected,
  tag_of_first,
  fetches_started,
  fetches_running,
  is_waiting,
  resendings,
  fetch_deadline,
}
use Rattle.exchange_core.specs.declared.resends.Again.{Again}
use Rattle.exchange_core.specs.declared.resends.Again.TheVariants as again
use Rattle.simple_registration.specs.declared.asks.Ask.{Ask}
use Rattle.simple_registration.specs.declared.hearing.Heard.{Heard}
use Rattle.simple_registration.specs.declared.starts.StartFault.{StartFault}
use Rattle.simple_registration.specs.declared.starts.StartFault.TheVariants as fault
use Rattle.simple_registration.specs.Responses.{has_names_of, heard_block, heard_by}
use Rattle.simple_registration.specs.Table.{Table}

-- A table that stands for events and for the octets that rows sent. Its fetches are those in
-- progress, and it counts those that started.
pub record FetchesStandFor (octets : OctetsSent) (events : List Event) (t : Table) : Type 0 where
  pub running : t.fetches ≡ fetches_running octets events
  pub started : t.started ≡ fetches_started events

-- Returns the reason why no fetch of a peer starts after these events: its fetch is in progress, or
-- as many fetches are as may be. Returns none if one starts.
abbrev pub start_refusal : Peer → List Event → Option StartFault
start_refusal peer events =
    if is_fetching peer events then Some (fault.Fetching peer)
    else if nat_le max_fetches (length (fetches events)) then Some fault.FullFetches
    else None

-- States that a start is refused for this reason, and not refused without one, unless memory ran
-- out.
abbrev pub IsRefusedAs : Result Ask StartFault → Option StartFault → Type 0
IsRefusedAs (Ok ask) refusal = refusal ≡ None
IsRefusedAs (Err fault.Starved) refusal = Unit {0}
IsRefusedAs (Err f) refusal = refusal ≡ Some f

-- Returns whether there is a request, and a response has its token and its Message ID.
abbrev pub has_names_of_request : Message → Option Request → Bool
has_names_of_request m None = false
has_names_of_request m (Some request) = has_names_of m request.token request.mid

-- Returns whether a response belongs to the fetch of a peer that is in progress after these events.
abbrev pub belongs_after : Peer → Message → List Event → Bool
belongs_after peer m events =
    is_fetching peer events && has_names_of_request m (request_of (last_request peer events))

-- Returns the result of a response to a request of the fetch of a peer after these events, if a
-- further request has this Message ID.
abbrev pub heard_after : ℕ → Peer → Message → Request → List Event → Heard
heard_after mid peer m request events =
    heard_by (is_elsewhere (block_in m) (length (collected peer events)))
    (ends_by m (tag_of_first (gathered peer events)) (length (collected peer events)))
    (heard_block (block_in m) mid peer request.token request.params
    (collected peer events ++ m.payload))

-- Returns what is due at a moment for the fetch of a peer, by the event of its last request.
-- Nothing is due before the deadline. Then a retransmission is due, or the end of the fetch if the
-- request was retransmitted the most times allowed or was acknowledged.
unfoldable pub fetch_due : ℕ → Peer → Event → List Event → Again
fetch_due now peer e events =
    if nat_le (fetch_deadline peer e events) now
    then (if is_waiting peer events || nat_le max_again (length (resendings peer events))
    then again.GaveUp
    else again.Send)
    else again.Wait
