-- The outcome of a registration, and of a replacement of links, whose body arrives whole or in
-- blocks (RFC 7959 sections 2.5 and 2.9).
use Rattle.std.specs.Prelude.{
  ℕ,
  ◌+◌,
  Bool,
  true,
  false,
  nat_lt,
  List,
  [],
  ◌∷◌,
  ◌++◌,
  length,
  codes,
  Option,
  Some,
  None,
}
use Rattle.message_model.specs.declared.blocks.Block.{Block}
use Rattle.message_model.specs.Message.{Message, Opt}
use Rattle.message_model.specs.Codes as codes_of
use Rattle.message_model.specs.OptionTable as table
use Rattle.message_model.specs.Blocks.{block_value}
use Rattle.message_model.specs.Request.{queries_in}
use Rattle.message_model.specs.RequestKey.{key_in}
use Rattle.message_model.specs.Uploads.{max_body, collected_before, is_one_too_many}
use Rattle.record_model.specs.Parameters.{registration_values}
use Rattle.event_model.specs.declared.notes.Note.TheVariants as note
use Rattle.event_model.specs.Uploads.{live_upload, live_uploads}
use Rattle.journal_model.specs.declared.steps.Step.{Step}
use Rattle.journal_model.specs.declared.rows.Row.{Row}
use Rattle.journal_model.specs.Journal.{events, entries}
use Rattle.journal_model.specs.Requests.{sent_block}
use Rattle.journal_model.specs.Changes.{
  Outcome,
  refused,
  Purpose,
  to_register,
  to_replace,
  body_used,
}

-- Returns Block1 in the response to a block (RFC 7959 section 2.3).
abbrev pub block1_option : Block → List Opt
block1_option b = (table.block1, block_value b) ∷ []

-- Returns the outcome of a block: 2.31 if more follow. The last block is the end of the whole body,
-- and its upload ends if the body's change is accepted.
abbrev pub block_taken : Bool
    → Purpose
    → List Row
    → ℕ
    → Step
    → Message
    → Block
    → List ℕ
    → Outcome
block_taken true purpose rows moment s m b body = record {
  reply = record { code = codes_of.continue; options = block1_option b; payload = [] };
  notes = note.Piece s.peer (key_in m) b.num m.payload ∷ [];
}
block_taken false purpose rows moment s m b body =
    body_used purpose (entries rows) moment s body (block1_option b)
    (note.Finished s.peer (key_in m) ∷ [])

-- The room for a block that continues what is collected.
pub data BlockRoom : Type 0 where
  collects_too_much : BlockRoom
  lives_with_too_many : BlockRoom
  fits_in : BlockRoom

-- Returns whether there is room for a block: first whether too much would be collected, and then
-- whether too many uploads would live.
abbrev pub block_room : Bool → Bool → BlockRoom
block_room true many = collects_too_much
block_room false true = lives_with_too_many
block_room false false = fits_in

-- Returns the outcome of a block that continues what is collected, by the room for it.
abbrev pub block_unless : BlockRoom
    → Purpose
    → List Row
    → ℕ
    → Step
    → Message
    → Block
    → List ℕ
    → Outcome
block_unless collects_too_much purpose rows moment s m b body =
    refused codes_of.request_entity_too_large (codes "size")
block_unless lives_with_too_many purpose rows moment s m b body =
    refused codes_of.service_unavailable (codes "uploads")
block_unless fits_in purpose rows moment s m b body =
    block_taken b.more purpose rows moment s m b body

-- Returns the outcome of a block, by what is collected before it. It is refused if that does not
-- end where the block begins.
abbrev pub block_after : Option (List ℕ)
    → Option (List ℕ)
    → Purpose
    → List Row
    → ℕ
    → Step
    → Message
    → Block
    → Outcome
block_after None upload purpose rows moment s m b =
    refused codes_of.request_entity_incomplete (codes "order")
block_after (Some collected) upload purpose rows moment s m b =
    block_unless
    (block_room (nat_lt max_body (length collected + length m.payload))
    (is_one_too_many b upload (live_uploads moment (events rows))))
    purpose rows moment s m b (collected ++ m.payload)

-- Returns the outcome of a block of links, by the live upload of its name.
abbrev pub block_with : Option (List ℕ)
    → Purpose
    → List Row
    → ℕ
    → Step
    → Message
    → Block
    → Outcome
block_with upload purpose rows moment s m b =
    block_after (collected_before b upload) upload purpose rows moment s m b

-- Returns the outcome of a block of links.
unfoldable pub block_uploaded : Purpose → List Row → ℕ → Step → Message → Block → Outcome
block_uploaded purpose rows moment s m b =
    block_with (live_upload moment (s.peer, key_in m) (events rows)) purpose rows moment s m b

-- Returns the outcome of links that arrive whole, or of a block of them.
abbrev pub links_outcome : Option Block → Purpose → List Row → ℕ → Step → Message → Outcome
links_outcome None purpose rows moment s m =
    body_used purpose (entries rows) moment s m.payload [] []
links_outcome (Some b) purpose rows moment s m = block_uploaded purpose rows moment s m b

-- Returns the outcome of a registration.
unfoldable pub registering : List Row → ℕ → Step → Message → Outcome
registering rows moment s m =
    links_outcome (sent_block m) (to_register (registration_values (queries_in m))) rows moment s m

-- Returns the outcome of a replacement of the links of a registration.
unfoldable pub replacing : List Row → ℕ → Step → Message → ℕ → Outcome
replacing rows moment s m number =
    links_outcome (sent_block m) (to_replace number) rows moment s m
