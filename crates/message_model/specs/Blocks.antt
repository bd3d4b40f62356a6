-- Blocks of a body (RFC 7959 section 2.2).
use Rattle.std.specs.Prelude.{
  ◌≡◌,
  ◌<◌,
  ◌≤◌,
  ◌^◌,
  ℕ,
  ◌+◌,
  ◌*◌,
  ◌/◌,
  ◌%◌,
  Bool,
  true,
  false,
  not,
  ◌&&◌,
  List,
  [],
  ◌++◌,
  length,
  take,
  drop,
  Option,
  Some,
  None,
  ◌==◌,
  nat_lt,
  nat_le,
  if◌then◌else◌,
}
use Rattle.message_model.specs.declared.blocks.TheConstants.{RESERVED_SZX}
use Rattle.message_model.specs.declared.blocks.Block.{Block}
use Rattle.message_model.specs.Numbers.{uint_of, uint_bytes}

-- The reserved exponent of a block size (RFC 7959 section 2.2).
abbrev pub reserved_szx : ℕ
reserved_szx = RESERVED_SZX

-- Returns the size of a block in octets, by its exponent (RFC 7959 section 2.2).
abbrev pub block_size : ℕ → ℕ
block_size szx = 2 ^ (szx + 4)

-- A block that has a value: its number fits 20 bits, and its exponent is not the reserved one (RFC
-- 7959 section 2.2).
pub record IsBlock (b : Block) : Type 0 where
  pub num : b.num < 2 ^ 20
  pub szx : b.szx < reserved_szx

-- Returns the block that 24 bits encode: 20 of number, one of more, three of exponent. There is
-- none if the exponent is the reserved one (RFC 7959 section 2.2).
abbrev pub block_from : ℕ → Option Block
block_from n =
    if n % 8 == reserved_szx then None
    else Some (record { num = n / 16; more = n / 8 % 2 == 1; szx = n % 8 })

-- Returns the block that the value of a Block option encodes, if it encodes one (RFC 7959 section
-- 2.2).
unfoldable pub block_read : List ℕ → Option Block
block_read value = block_from (uint_of value)

-- Returns the bit that says whether more blocks follow (RFC 7959 section 2.2).
abbrev pub more_bit : Bool → ℕ
more_bit true = 1
more_bit false = 0

-- Returns the value of a Block option that encodes this block (RFC 7959 section 2.2).
unfoldable pub block_value : Block → List ℕ
block_value b = uint_bytes (b.num * 16 + more_bit b.more * 8 + b.szx)

-- Returns the block of a body with this number, and whether more follow; there is none past the
-- body's end (RFC 7959 section 2.2). Every body has a block of number 0, the empty body too.
unfoldable pub block_of : List ℕ → ℕ → ℕ → Option (List ℕ × Bool)
block_of body num szx =
    if nat_lt 0 num && nat_le (length body) (num * block_size szx) then None
    else Some (
      take (block_size szx) (drop (num * block_size szx) body),
      nat_lt
          ((num + 1) * block_size szx) (length body),
    )

-- The block of a body with this number, described by its offset and its end (RFC 7959 section 2.2).
pub record IsPiece (body : List ℕ) (num size : ℕ) (piece : List ℕ) (more : Bool) : Type 0 where
  pub offset : drop (num * size) body ≡ piece ++ drop ((num + 1) * size) body
  pub full : more ≡ true → length piece ≡ size
  pub last : more ≡ false → drop ((num + 1) * size) body ≡ []
  pub most : length piece ≤ size

-- Returns whether a payload of this size does not fit its block. A block that more follow has
-- exactly the block size, and the last block is no longer (RFC 7959 section 2.2).
abbrev pub is_misfit : Block → ℕ → Bool
is_misfit b size = if b.more then not (size == block_size b.szx) else nat_lt (block_size b.szx) size
