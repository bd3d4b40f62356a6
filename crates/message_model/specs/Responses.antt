-- A response to a fetch: which request it answers, which block it is, and what ends the fetch (RFC
-- 9176 section 5.1, RFC 7959 section 2.4).
use Rattle.std.specs.Prelude.{
  ℕ,
  ◌+◌,
  ◌*◌,
  Bool,
  true,
  false,
  not,
  ◌&&◌,
  ◌||◌,
  ◌==◌,
  nat_lt,
  List,
  length,
  Option,
  Some,
  None,
  is_some,
  is_none,
  bytes_eq,
}
use Rattle.message_model.specs.declared.blocks.Block.{Block}
use Rattle.message_model.specs.declared.messages.Kind4.{Kind4}
use Rattle.message_model.specs.declared.messages.Kind4.TheVariants.{Ack}
use Rattle.message_model.specs.Message.{Message}
use Rattle.message_model.specs.Codes as codes_of
use Rattle.message_model.specs.OptionTable.{first_of}
use Rattle.message_model.specs.Blocks.{block_size, block_read}
use Rattle.message_model.specs.Uploads.{max_body}
use Rattle.message_model.specs.Request.{format_in, block2_in, etags_in}
use Rattle.message_model.specs.Refusals.{is_other_format, says_no_block}

-- Returns whether a response may have this Message ID. A piggybacked response has that of the last
-- request; any other may have any (RFC 7252 section 5.2).
abbrev pub has_mid_of : Kind4 → ℕ → ℕ → Bool
has_mid_of Ack mid asked = mid == asked
has_mid_of _ mid asked = true

-- Returns the block that the value of a Block2 option encodes, if there is an option and it encodes
-- one.
abbrev pub block_said : Option (List ℕ) → Option Block
block_said None = None
block_said (Some value) = block_read value

-- Returns the block that a response is, if it is one.
abbrev pub block_in : Message → Option Block
block_in m = block_said (block2_in m)

-- Returns whether a block begins elsewhere than at the end of what is collected. The response is
-- then ignored.
abbrev pub is_elsewhere : Option Block → ℕ → Bool
is_elsewhere None size = false
is_elsewhere (Some b) size = not (b.num * block_size b.szx == size)

-- Returns whether more blocks follow a block that does not have the block size.
abbrev pub is_cut_short : Option Block → ℕ → Bool
is_cut_short None size = false
is_cut_short (Some b) size = b.more && not (size == block_size b.szx)

-- Returns whether two tags are the same; to have none counts as a value.
abbrev pub is_same_tag : Option (List ℕ) → Option (List ℕ) → Bool
is_same_tag None None = true
is_same_tag (Some tag) (Some other) = bytes_eq tag other
is_same_tag _ _ = false

-- Returns whether a tag differs from that of the first block, if one has arrived.
abbrev pub is_other_tag : Option (Option (List ℕ)) → Option (List ℕ) → Bool
is_other_tag None tag = false
is_other_tag (Some first) tag = not (is_same_tag first tag)

-- Returns the entity tag of a response: the first that is recognized.
abbrev pub tag_in : Message → Option (List ℕ)
tag_in m = first_of (etags_in m)

-- Returns whether a response ends the fetch without a registration. The arguments are the tag of
-- the first block, if one has arrived, and the size of what is collected. A response ends it in
-- each of these cases:
-- - it is no 2.05, or has another format;
-- - its Block2 has the reserved exponent, or its block is cut short;
-- - it is no block, but a first block has arrived;
-- - its tag differs from that of the first block;
-- - the body would be too long.
abbrev pub ends_by : Message → Option (Option (List ℕ)) → ℕ → Bool
ends_by m first size =
    not (m.code == codes_of.content)
    || is_other_format (format_in m)
    || says_no_block (block2_in m)
    || is_cut_short (block_in m) (length m.payload)
    || (is_none (block2_in m) && is_some first)
    || is_other_tag first (tag_in m)
    || nat_lt max_body (size + length m.payload)
