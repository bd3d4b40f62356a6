-- The octets of the pieces of a line.
use Rattle.std.specs.Prelude.{ℕ, List, ◌++◌, flat_map}
use Rattle.rd_base.specs.declared.records.Record.{Record}
use Rattle.record_model.specs.ListingLines.{bracketed, own_pairs, quoted_attribute}
use Rattle.record_model.specs.Matching.{location}
use Rattle.link_model.specs.Quoting.{escaped_character}
use Rattle.listing.specs.declared.pieces.Piece.{Piece}
use Rattle.listing.specs.declared.pieces.Piece.TheVariants.{Plain, Escaped}

-- Returns the octets of a piece.
abbrev pub octets_of_piece : Piece → List ℕ
octets_of_piece (Plain text) = text.now
octets_of_piece (Escaped text) = flat_map escaped_character text.now

-- Returns the octets of pieces, one after another.
abbrev pub octets_of_pieces : List Piece → List ℕ
octets_of_pieces pieces = flat_map octets_of_piece pieces

-- Returns the part of an endpoint's line before its extra attributes.
unfoldable pub own_line : Record → List ℕ
own_line r = bracketed (location r.number) ++ flat_map quoted_attribute (own_pairs r)
