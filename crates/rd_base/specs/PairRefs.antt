-- Borrowed parts of links as contracts see them.
use Rattle.std.specs.Prelude.{ℕ, List, Option, option_map}
use denote.Ref.{Bor}
use Rattle.rd_base.specs.declared.attributes.Pair.{Pair}
use Rattle.rd_base.specs.declared.links_builder.LinkParts.{LinkParts}
use Rattle.rd_base.specs.declared.link_reading.PairRef.{PairRef}
use Rattle.rd_base.specs.declared.records.Item.{Item}

-- Returns the attribute that is borrowed.
abbrev pub pair_seen : PairRef → Pair
pair_seen p = record { name = p.name.now; value = p.value.now }

-- Returns a text that may exist.
abbrev pub text_seen : Option (Bor (List ℕ)) → Option (List ℕ)
text_seen o = option_map (λ text. text.now) o

-- Returns the link with these parts and these attributes.
abbrev pub link_made : LinkParts → List ℕ → List Pair → Item
link_made p raw pairs = record {
  target_ref = p.target_ref.now;
  anchor_ref = text_seen p.anchor_ref;
  target = p.target.now;
  anchor = text_seen p.anchor;
  raw = raw;
  pairs = pairs;
}
