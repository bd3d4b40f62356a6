-- What values of the code stand for: a line that is read octet by octet, a piece of it, and the
-- remaining links.
use Rattle.std.specs.Prelude.{
  ℕ,
  Bool,
  ◌+◌,
  ◌*◌,
  ◌-◌,
  ◌^◌,
  ◌<◌,
  ◌≤◌,
  ◌≡◌,
  List,
  [],
  ◌∷◌,
  ◌++◌,
  length,
  drop,
  flat_map,
  Option,
  Some,
  None,
}
use Rattle.rd_base.specs.declared.records.Item.{Item}
use Rattle.link_model.specs.Quoting.{escaped_character}
use Rattle.record_model.specs.ListingLines.{extra_attribute, link_line}
use Rattle.listing.specs.declared.octets.Octets.{Octets}
use Rattle.listing.specs.declared.pieces.Piece.{Piece}
use Rattle.listing.specs.ListedLinks.{lines_by}
use Rattle.listing.specs.Pieces.{octets_of_pieces}

-- Returns the octets that are left.
abbrev pub left : Octets → List ℕ
left o =
    o.run.now
    ++ (flat_map escaped_character o.escaped.now
    ++ (octets_of_pieces (drop o.at o.pieces) ++ flat_map extra_attribute o.extra.now))

-- The number of pieces of an attribute, plus one.
abbrev pub attribute_weight : ℕ
attribute_weight = 10

-- Returns the most pieces that are left, plus one for each attribute.
abbrev pub pieces_left : Octets → ℕ
pieces_left o = length o.extra.now * attribute_weight + (length o.pieces - o.at)

-- States that the octet is the first of those that were left. Without an octet, none was left.
abbrev pub Gives : Option ℕ → List ℕ → List ℕ → Type 0
Gives (Some c) before now = before ≡ c ∷ now
Gives None before now = before ≡ []

-- States that the piece is the one at this index. Without a piece, the index is not below their
-- number.
abbrev pub PieceAt : List Piece → ℕ → Option Piece → Type 0
PieceAt pieces at (Some piece) =
    (drop at pieces ≡ piece ∷ drop (at + 1) pieces) × (at < length pieces) × (at + 1 < 2 ^ 64)
PieceAt pieces at None = length pieces ≤ at

-- States that the link is the first that passes the test, with those after it. Without a link, none
-- passes.
abbrev pub FirstListed : (Item → Bool) → List Item → Option (Item × List Item) → Type 0
FirstListed test items (Some (item, more)) =
    (lines_by test items ≡ link_line item ∷ lines_by test more) × (length more < length items)
FirstListed test items None = lines_by test items ≡ []
