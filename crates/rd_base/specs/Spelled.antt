-- The octets of a text, wherever they lie.
use Rattle.std.specs.Prelude.{ℕ, List}
use Rattle.std.specs.String.{string_bytes}
use Rattle.rd_base.specs.declared.texts.Spelled.{Spelled}
use Rattle.rd_base.specs.declared.texts.Spelled.TheVariants as spelled

-- Returns the octets of a text.
abbrev pub octets_of : Spelled → List ℕ
octets_of (spelled.Short text) = text.bytes
octets_of (spelled.Long text) = string_bytes text
