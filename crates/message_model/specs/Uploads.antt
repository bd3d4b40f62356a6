-- Bodies that arrive in blocks (RFC 7959 section 2.5): which upload a block continues, and how much
-- is collected.
use Rattle.std.specs.Prelude.{
  ℕ,
  ◌*◌,
  Bool,
  ◌&&◌,
  ◌==◌,
  nat_le,
  List,
  [],
  length,
  Option,
  Some,
  None,
  is_none,
  option_and_then,
  if◌then◌else◌,
}
use Rattle.message_model.specs.declared.uploads.TheConstants.{MAX_BODY, MAX_UPLOADS}
use Rattle.message_model.specs.declared.blocks.Block.{Block}
use Rattle.message_model.specs.Blocks.{block_size}

-- The most octets of a body.
abbrev pub max_body : ℕ
max_body = MAX_BODY

-- The most uploads that are live at a time.
abbrev pub max_uploads : ℕ
max_uploads = MAX_UPLOADS

-- Returns what is collected, if a block at this offset continues it: it ends there.
abbrev pub continues_at : ℕ → List ℕ → Option (List ℕ)
continues_at offset body = if length body == offset then Some body else None

-- Returns what is collected before a block: nothing before the first, and before another block the
-- live upload, if it ends where the block begins.
abbrev pub collected_before : Block → Option (List ℕ) → Option (List ℕ)
collected_before b upload =
    if b.num == 0 then Some [] else option_and_then (continues_at (b.num * block_size b.szx)) upload

-- Returns whether a block would begin one upload too many. It is the first and more follow, no
-- upload of its name is live, and `max_uploads` others are.
abbrev pub is_one_too_many : Block → Option (List ℕ) → ℕ → Bool
is_one_too_many b upload live = b.num == 0 && b.more && is_none upload && nat_le max_uploads live
