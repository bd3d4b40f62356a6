-- Links by the spans of their parts: in the texts of all links, or apart if they have escapes
-- there.
use Rattle.std.specs.Prelude.{ℕ, ◌≡◌, List, [], ◌∷◌, map, Option, option_map}
use Rattle.std.specs.List.{All}
use Rattle.std.specs.String.{string_bytes}
use Rattle.rd_base.specs.declared.attributes.Pair.{Pair}
use Rattle.rd_base.specs.declared.link_texts.LineSpans.{LineSpans}
use Rattle.rd_base.specs.declared.link_texts.LinkSpans.{LinkSpans}
use Rattle.rd_base.specs.declared.link_texts.LinkTexts.{LinkTexts}
use Rattle.rd_base.specs.declared.link_texts.PairSpans.{PairSpans}
use Rattle.rd_base.specs.declared.records.Item.{Item}
use Rattle.rd_base.specs.LinkLines.{comma, line_by, listed, submitted}
use Rattle.rd_base.specs.Spans.{
  part,
  placed,
  IsStretch,
  IsStretchIfAny,
  IsPlacedIfAny,
  IsText,
  IsTextAt,
  IsWithin,
}

-- Returns an attribute by its stretches in the attributes of its link as they were written.
abbrev pub pair_of : List ℕ → List ℕ → PairSpans → Pair
pair_of raw apart p = record { name = placed raw apart p.name; value = placed raw apart p.value }

-- Returns attributes by their stretches.
abbrev pub pairs_of : List ℕ → List ℕ → List PairSpans → List Pair
pairs_of raw apart pairs = map (pair_of raw apart) pairs

-- States that the name and the value of an attribute are texts at its stretches.
abbrev pub HoldsPair : List ℕ → List ℕ → PairSpans → Type 0
HoldsPair raw apart p = IsStretch raw apart p.name × IsStretch raw apart p.value

-- The spans of a line with these parts.
pub record IsLineAt (text apart : List ℕ) (s : LineSpans) (t r : List ℕ) (a : Option (List ℕ)) :
    Type 0 where
  pub target : IsTextAt text s.target t
  pub raw : IsTextAt text s.raw r
  pub anchor : IsPlacedIfAny text apart s.anchor a
  pub line : IsTextAt text s.line (line_by t r a)

-- Spans at which there are texts, the line of which has these parts.
pub record HoldsLine (text apart : List ℕ) (s : LineSpans) : Type 0 where
  pub target : IsText text s.target
  pub raw : IsText text s.raw
  pub anchor : IsStretchIfAny text apart s.anchor
  pub line : IsText text s.line
  pub spelled :
      part text s.line
      ≡ line_by (part text s.target) (part text s.raw) (option_map (placed text apart) s.anchor)

-- Returns the link with these spans.
abbrev pub link_of : List ℕ → List ℕ → List ℕ → List PairSpans → LinkSpans → Item
link_of source listed apart pairs l = record {
  target_ref = part source l.submitted.target;
  anchor_ref = option_map (placed source apart) l.submitted.anchor;
  target = part listed l.listed.target;
  anchor = option_map (placed listed apart) l.listed.anchor;
  raw = part source l.submitted.raw;
  pairs = pairs_of (part source l.submitted.raw) apart (part pairs l.pairs);
}

-- Spans at which there are the parts of a link.
pub record Holds (source_text listed_text apart : List ℕ) (all : List PairSpans) (l : LinkSpans) :
    Type 0 where
  pub submitted : HoldsLine source_text apart l.submitted
  pub listed : HoldsLine listed_text apart l.listed
  pub same : part listed_text l.listed.raw ≡ part source_text l.submitted.raw
  pub within : IsWithin all l.pairs
  pub pairs : All (HoldsPair (part source_text l.submitted.raw) apart) (part all l.pairs)

-- Returns the links with these spans.
abbrev pub links_of : List ℕ → List ℕ → List ℕ → List PairSpans → List LinkSpans → List Item
links_of source listed apart pairs links = map (link_of source listed apart pairs) links

-- Spans at which there are the parts of all links, whose lines make both texts.
pub record HoldsAll (source_text listed_text apart : List ℕ) (pairs : List PairSpans)
    (links : List LinkSpans) : Type 0 where
  pub each : All (Holds source_text listed_text apart pairs) links
  pub source : source_text ≡ submitted (links_of source_text listed_text apart pairs links)
  pub listed : listed_text ≡ listed (links_of source_text listed_text apart pairs links)

-- Returns what precedes the line of the next link.
abbrev pub comma_after : {X : Type 0} → List X → List ℕ
comma_after [] = []
comma_after (x ∷ xs) = comma ∷ []

-- Returns the link with these spans in these texts.
abbrev pub link_in : LinkTexts → LinkSpans → Item
link_in t =
    link_of (string_bytes t.source) (string_bytes t.listed) (string_bytes t.apart) t.pairs.items

-- States that the parts of a link are at its spans in these texts.
abbrev pub HoldsIn : LinkTexts → LinkSpans → Type 0
HoldsIn t =
    Holds (string_bytes t.source) (string_bytes t.listed) (string_bytes t.apart) t.pairs.items

-- Returns all links of these texts.
abbrev pub links_in : LinkTexts → List Item
links_in t =
    links_of (string_bytes t.source) (string_bytes t.listed) (string_bytes t.apart) t.pairs.items
    t.links.items

-- States that these are the texts of links.
abbrev pub AreLinks : LinkTexts → Type 0
AreLinks t =
    HoldsAll (string_bytes t.source) (string_bytes t.listed) (string_bytes t.apart) t.pairs.items
    t.links.items
