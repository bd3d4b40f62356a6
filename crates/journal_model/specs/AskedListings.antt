-- What a message that a row sends was requested for: the listing of a query or the source of a
-- registration, and a block of it (RFC 9176 sections 5.3.3 and 6, RFC 7641 section 4.2).
use Rattle.std.specs.Prelude.{ℕ, Bool, true, false, List, find, Option, None, option_map}
use Rattle.std.specs.Prelude.{Result, Ok, Err, if◌then◌else◌}
use Rattle.rd_base.specs.declared.peers.Peer.{Peer}
use Rattle.message_model.specs.declared.messages.Unread.{Unread}
use Rattle.message_model.specs.Message.{Message}
use Rattle.message_model.specs.Reading.{reading}
use Rattle.event_model.specs.declared.notes.Observer.{Observer}
use Rattle.event_model.specs.Same.{RequestName, is_same_request}
use Rattle.event_model.specs.Observers.{name_of, observers}
use Rattle.journal_model.specs.declared.steps.StepKind.{StepKind}
use Rattle.journal_model.specs.declared.steps.StepKind.TheVariants as step
use Rattle.journal_model.specs.declared.rows.Row.{Row}
use Rattle.journal_model.specs.Journal.{events}
use Rattle.journal_model.specs.Requests.{asked_block, number_of, szx_of}
use Rattle.journal_model.specs.Sought.{Sought, listing_of, sought_in, has_tag}
use Rattle.journal_model.specs.PlacedRows.{Placed}

-- Returns the observer with a peer and a token.
abbrev pub observer_named : RequestName → List Row → Option Observer
observer_named name rows = find (λ o. is_same_request (name_of o) name) (observers (events rows))

-- What is requested: what is sought, and a block of its body, by its number and the exponent of its
-- size.
pub record Asked : Type 0 where
  pub sought : Sought
  pub number : ℕ
  pub szx : ℕ

-- Returns what an observer requests with each notification: the first block of the listing of its
-- query.
abbrev pub asked_by_observer : Observer → Asked
asked_by_observer o = record { sought = listing_of o.query; number = 0; szx = o.szx }

-- Returns a block of what is sought, as a request asks for it.
abbrev pub asked_of : Message → Sought → Asked
asked_of m what = record {
  sought = what;
  number = number_of (asked_block m);
  szx = szx_of (asked_block m);
}

-- Returns what a request from a peer asks for, if the peer and the token of its response are its
-- own.
abbrev pub asked_in : RequestName → Peer → Result Message Unread → Option Asked
asked_in name peer (Err fault) = None
asked_in name peer (Ok m) =
    if is_same_request (peer, m.token) name then option_map (asked_of m) (sought_in m) else None

-- Returns what is requested in the message with a token that a row sends to a peer. In a tick the
-- observer with both requests it, and otherwise the request with both.
abbrev pub asked_at : StepKind → RequestName → Placed → Option Asked
asked_at step.Tick name here =
    option_map (λ o. asked_by_observer o) (observer_named name here.before)
asked_at _ name here = asked_in name here.row.step.peer (reading here.row.step.datagram)

-- Returns whether the datagram is a request that seeks a listing or a source.
abbrev pub seeks_links : Result Message Unread → Bool
seeks_links (Err fault) = false
seeks_links (Ok m) = has_tag (sought_in m)

-- Returns whether what a row sends answers such a request, or is a notification: time passes in the
-- row, or its datagram is such a request.
abbrev pub answers_with_links : StepKind → Result Message Unread → Bool
answers_with_links step.Admit read = seeks_links read
answers_with_links step.Look read = seeks_links read
answers_with_links (step.Commit place) read = seeks_links read
answers_with_links (step.Keep body tag) read = seeks_links read
answers_with_links step.Tick read = true
answers_with_links (step.Begin first) read = false
