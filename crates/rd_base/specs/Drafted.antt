-- What a builder of links holds: the links that were added, and the attributes of the next.
use Rattle.std.specs.Prelude.{ℕ, ◌≤◌, List, drop, length}
use Rattle.std.specs.List.{All}
use Rattle.std.specs.String.{string_bytes}
use Rattle.rd_base.specs.declared.attributes.Pair.{Pair}
use Rattle.rd_base.specs.declared.link_texts.LinkTexts.{LinkTexts}
use Rattle.rd_base.specs.declared.link_texts.PairSpans.{PairSpans}
use Rattle.rd_base.specs.declared.records.Item.{Item}
use Rattle.rd_base.specs.LinkTexts.{AreLinks, HoldsPair, links_in, pairs_of}

-- What a builder holds: links, and the attributes of the next, as they were written and with their
-- values.
pub record Drafted : Type 0 where
  pub links : List Item
  pub raw : List ℕ
  pub pairs : List Pair

-- Returns what a builder holds, by its parts.
abbrev pub drafted : List Item → List ℕ → List Pair → Drafted
drafted links raw pairs = record { links = links; raw = raw; pairs = pairs }

-- States that the attributes of the next link are at their stretches in what was written of them,
-- or apart.
abbrev pub AreWaiting : List ℕ → List ℕ → List PairSpans → ℕ → Type 0
AreWaiting raw apart pairs taken = All (HoldsPair raw apart) (drop taken pairs)

-- Returns what a builder holds by its texts, where `taken` attributes precede those of the next
-- link.
abbrev pub drafted_in : LinkTexts → List ℕ → ℕ → Drafted
drafted_in t raw taken =
    drafted (links_in t) raw (pairs_of raw (string_bytes t.apart) (drop taken t.pairs.items))

-- What always holds of a builder's texts, where `taken` attributes precede those of the next link.
pub record IsDrafted (t : LinkTexts) (raw : List ℕ) (taken : ℕ) : Type 0 where
  pub links : AreLinks t
  pub waiting : AreWaiting raw (string_bytes t.apart) t.pairs.items taken
  pub within : taken ≤ length t.pairs.items
