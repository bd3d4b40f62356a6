-- A fetch in progress: what a response means for it, what is due of its request, and how it
-- changes.
use Rattle.std.specs.Prelude.{
  ℕ,
  ◌+◌,
  Bool,
  true,
  false,
  nat_lt,
  List,
  ◌++◌,
  length,
  Option,
  Some,
  None,
  if◌then◌else◌,
}
use Rattle.message_model.specs.declared.blocks.Block.{Block}
use Rattle.message_model.specs.Message.{Message}
use Rattle.message_model.specs.Responses.{block_in, is_elsewhere, tag_in, ends_by}
use Rattle.event_model.specs.Flights.{Retransmission, Sent, first_wait}
use Rattle.event_model.specs.Fetches.{Fetch, response_wait}
use Rattle.exchange_core.specs.declared.resends.Again.{Again}
use Rattle.exchange_core.specs.declared.resends.Again.TheVariants as again
use Rattle.exchange_core.specs.Retransmissions.{kept_due, kept_after}
use Rattle.simple_registration.specs.declared.hearing.Heard.{Heard}
use Rattle.simple_registration.specs.Responses.{has_names_of, request_after, heard_block, heard_by}

-- Returns whether a response answers the last request of the fetch.
abbrev pub is_answered_by : Message → Fetch → Bool
is_answered_by m f = has_names_of m f.token f.waits.mid

-- Returns the result of a response to the fetch, if a further request has this Message ID.
abbrev pub heard_of : ℕ → Message → Fetch → Heard
heard_of mid m f =
    heard_by (is_elsewhere (block_in m) (length f.body)) (ends_by m f.tag (length f.body))
    (heard_block (block_in m) mid f.peer f.token f.params (f.body ++ m.payload))

-- Returns the tag of the first block: the stored one, or this one if no block has come.
abbrev pub first_tag : Option (Option (List ℕ)) → Option (List ℕ) → Option (Option (List ℕ))
first_tag None tag = Some tag
first_tag (Some first) tag = Some first

-- Returns a request that is first sent at a moment, in a row with a word.
abbrev pub sent_first : ℕ → ℕ → ℕ → List ℕ → Sent
sent_first now word mid octets = record {
  mid = mid;
  octets = octets;
  resend = record { sent = now; wait = first_wait word; again = 0 };
}

-- Returns the fetch after one more block.
abbrev pub with_block : List ℕ → Option (List ℕ) → Fetch → Fetch
with_block octets tag f = record f { body = f.body ++ octets; tag = first_tag f.tag tag }

-- Returns the fetch after another request.
abbrev pub with_request : ℕ → ℕ → ℕ → ℕ → List ℕ → Fetch → Fetch
with_request number now word mid octets f = record f {
  number = number;
  asked = now;
  waits = sent_first now word mid octets;
  acknowledged = false;
}

-- Returns the fetch after the block of a response and the request for the next.
abbrev pub with_next : ℕ → ℕ → ℕ → Message → Block → Fetch → Fetch
with_next now word mid m b f =
    with_request (b.num + 1) now word mid (request_after mid f.token b)
    (with_block m.payload (tag_in m) f)

-- Returns the fetch after its request was acknowledged.
abbrev pub awaiting : Fetch → Fetch
awaiting f = record f { acknowledged = true }

-- Returns what is due at a moment for a fetch that awaits a separate response. Nothing is due until
-- it has waited as long as it may.
abbrev pub due_apart : ℕ → Fetch → Again
due_apart now f = if nat_lt now (f.asked + response_wait) then again.Wait else again.GaveUp

-- Returns what is due for a fetch at a moment.
abbrev pub due_of : ℕ → Fetch → Again
due_of now f = if f.acknowledged then due_apart now f else kept_due now f.waits.resend

-- Returns the fetch after what was due for it at a moment.
abbrev pub after_due : Again → ℕ → Fetch → Fetch
after_due due now f = record f {
  waits =
      record
      { mid = f.waits.mid; octets = f.waits.octets; resend = kept_after due now f.waits.resend };
}
