-- Responses to fetches: blocks of the device's own list, and the registration that the last one
-- completes (RFC 9176 section 5.1, RFC 7959 section 2.4).
use Rattle.std.specs.Prelude.{
  ℕ,
  ◌+◌,
  Bool,
  true,
  false,
  ◌&&◌,
  List,
  [],
  ◌∷◌,
  ◌++◌,
  length,
  Option,
  Some,
  None,
  is_none,
  bytes_eq,
  if◌then◌else◌,
}
use Rattle.message_model.specs.declared.blocks.Block.{Block}
use Rattle.message_model.specs.declared.messages.Kind4.{Kind4}
use Rattle.message_model.specs.declared.messages.Kind4.TheVariants.{Con}
use Rattle.message_model.specs.Message.{Message}
use Rattle.message_model.specs.OptionTable.{first_bad_option}
use Rattle.message_model.specs.Responses.{has_mid_of, block_in, is_elsewhere, tag_in, ends_by}
use Rattle.event_model.specs.declared.notes.Note.TheVariants as note
use Rattle.event_model.specs.Events.{Event}
use Rattle.event_model.specs.Fetches.{
  Request,
  is_fetching,
  last_request,
  request_of,
  gathered,
  collected,
  tag_of_first,
}
use Rattle.journal_model.specs.declared.steps.Step.{Step}
use Rattle.journal_model.specs.declared.rows.Row.{Row}
use Rattle.journal_model.specs.Journal.{events, entries}
use Rattle.journal_model.specs.Effects.{Effects, nothing, joined, noting, acknowledging, resetting}
use Rattle.journal_model.specs.Changes.{registration}
use Rattle.journal_model.specs.Commits.{asking}

-- Returns whether the response is to this request, and has no unrecognized critical option (RFC
-- 7252 section 5.3.2).
abbrev pub is_response_to : Message → Request → Bool
is_response_to m request =
    bytes_eq m.token request.token
    && has_mid_of m.kind m.mid request.mid
    && is_none (first_bad_option m.options)

-- Returns the request that an event made, if the response is to it.
abbrev pub answered_request : Message → Option Request → Option Request
answered_request m None = None
answered_request m (Some request) = if is_response_to m request then Some request else None

-- Returns the last request of the running fetch with the sender, if the response is to it.
abbrev pub fetch_of : Step → Message → List Event → Option Request
fetch_of s m events =
    if is_fetching s.peer events
    then answered_request m (request_of (last_request s.peer events))
    else None

-- Rejects a confirmable response that belongs to no fetch by a Reset, and ignores any other (RFC
-- 7252 section 4.2).
abbrev pub strange : Step → Message → Kind4 → Effects
strange s m Con = resetting s m.mid
strange s m _ = nothing

-- Acknowledges a confirmable response that belongs to a fetch, before anything else (RFC 7252
-- section 5.2.2).
abbrev pub acknowledgement : Step → Message → Kind4 → Effects
acknowledgement s m Con = acknowledging s m.mid
acknowledgement s m _ = nothing

-- Returns whether the response ends the fetch without a registration, by the blocks that arrived
-- and by how much is collected.
abbrev pub ends_fetch : Message → List (List ℕ × Option (List ℕ)) → ℕ → Bool
ends_fetch m blocks size = ends_by m (tag_of_first blocks) size

-- Requests the next block, with the size of the one that arrived.
abbrev pub next_asked : Step → Request → Block → Effects
next_asked s request b =
    asking s s.drawn request.token request.params (b.num + 1)
    (Some (record { num = b.num + 1; more = false; szx = b.szx }))

-- Registers the whole body, or refuses it without a response. The fetch ends in both cases.
abbrev pub completed : List Row → ℕ → Step → Request → List ℕ → Effects
completed rows moment s request body =
    noting ((registration (entries rows) moment s request.params body [] []).notes
    ++ note.Ceased s.peer
    ∷ [])

-- Gathers a block that more follow, and requests the next. The last one completes the body.
abbrev pub gathering : Bool → Option Block → List Row → ℕ → Step → Message → Request → Effects
gathering more None rows moment s m request =
    completed rows moment s request (collected s.peer (events rows) ++ m.payload)
gathering false (Some b) rows moment s m request =
    completed rows moment s request (collected s.peer (events rows) ++ m.payload)
gathering true (Some b) rows moment s m request =
    joined (noting (note.Gathered s.peer m.payload (tag_in m) ∷ [])) (next_asked s request b)

-- Returns whether more blocks follow.
abbrev pub more_follow : Option Block → Bool
more_follow None = false
more_follow (Some b) = b.more

-- What a response is to a fetch.
pub data ResponseUse : Type 0 where
  of_elsewhere : ResponseUse
  the_end : ResponseUse
  next_part : ResponseUse

-- Returns what a response is to a fetch. The first argument is whether its block begins elsewhere
-- than what is collected ends. The second is whether it ends the fetch without a registration.
abbrev pub response_use : Bool → Bool → ResponseUse
response_use true ends = of_elsewhere
response_use false true = the_end
response_use false false = next_part

-- Handles a response to a fetch, which is ignored, or the end, or the next block.
abbrev pub response_taken : ResponseUse → List Row → ℕ → Step → Message → Request
    → Effects
response_taken of_elsewhere rows moment s m request = nothing
response_taken the_end rows moment s m request = noting (note.Ceased s.peer ∷ [])
response_taken next_part rows moment s m request =
    gathering (more_follow (block_in m)) (block_in m) rows moment s m request

-- Handles a response to this request of a fetch.
abbrev pub response_to : List Row → ℕ → Step → Message → Request → Effects
response_to rows moment s m request =
    response_taken
    (response_use (is_elsewhere (block_in m) (length (collected s.peer (events rows))))
    (ends_fetch m (gathered s.peer (events rows)) (length (collected s.peer (events rows)))))
    rows moment s m request

-- Handles a response, by the request that it answers.
abbrev pub response_to_request : Option Request → List Row → ℕ → Step → Message → Effects
response_to_request None rows moment s m = strange s m m.kind
response_to_request (Some request) rows moment s m =
    joined (acknowledgement s m m.kind) (response_to rows moment s m request)

-- Handles a response.
unfoldable pub response_effects : List Row → ℕ → Step → Message → Effects
response_effects rows moment s m = response_to_request (fetch_of s m (events rows)) rows moment s m
