-- Responses with a body, whole or a block of it (RFC 7959 section 2.4, RFC 7641 section 3).
use Rattle.std.specs.Prelude.{
  ℕ,
  Bool,
  true,
  nat_lt,
  List,
  [],
  ◌∷◌,
  ◌++◌,
  length,
  codes,
  Option,
  Some,
  None,
  if◌then◌else◌,
}
use Rattle.message_model.specs.declared.blocks.Block.{Block}
use Rattle.message_model.specs.Message.{Opt}
use Rattle.message_model.specs.Numbers.{uint_bytes}
use Rattle.message_model.specs.Codes as codes_of
use Rattle.message_model.specs.OptionTable as table
use Rattle.message_model.specs.Blocks.{block_size, block_value, block_of}
use Rattle.message_model.specs.Refusals.{link_format}
use Rattle.journal_model.specs.Effects.{Reply, diagnostic}
use Rattle.journal_model.specs.Requests.{number_of, szx_of}

-- Returns the option of an entity tag, if there is one.
abbrev pub tag_option : Option (List ℕ) → List Opt
tag_option None = []
tag_option (Some tag) = (table.etag, tag) ∷ []

-- Returns the option of an Observe value, if there is one.
abbrev pub observe_option : Option ℕ → List Opt
observe_option None = []
observe_option (Some value) = (table.observe, uint_bytes value) ∷ []

-- Returns the option of a block of the response, if there is one.
abbrev pub block2_option : Option Block → List Opt
block2_option None = []
block2_option (Some b) = (table.block2, block_value b) ∷ []

-- Returns the block that the response names: one if a block was requested, or if more follow.
abbrev pub answered_block : Option Block → Bool → Option Block
answered_block None more =
    if more then Some (record { num = 0; more = true; szx = szx_of None }) else None
answered_block (Some b) more = Some (record { num = b.num; more = more; szx = b.szx })

-- Returns 2.05 with a part of a body, which more may follow, or 4.00 if the requested block lies
-- after the end.
abbrev pub part_reply : Option (List ℕ) → Option ℕ → Option Block → Option (List ℕ × Bool) → Reply
part_reply tag observe asked None = diagnostic codes_of.bad_request (codes "block")
part_reply tag observe asked (Some part) = record {
  code = codes_of.content;
  options =
      tag_option tag
      ++ (observe_option observe
      ++ ((table.content_format, uint_bytes link_format)
      ∷ block2_option (answered_block asked part.1)));
  payload = part.0;
}

-- Returns the response with the requested block of a body, or the first block if none is requested,
-- under a tag and an Observe value.
unfoldable pub body_reply : Option (List ℕ) → Option ℕ → Option Block → List ℕ → Reply
body_reply tag observe asked body =
    part_reply tag observe asked (block_of body (number_of asked) (szx_of asked))

-- Returns whether the body is longer than the block size.
abbrev pub is_long : Option Block → List ℕ → Bool
is_long asked body = nat_lt (block_size (szx_of asked)) (length body)
