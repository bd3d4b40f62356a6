-- Parts of a text, and texts that are in it or apart from it.
use Rattle.std.specs.Prelude.{ℕ, ◌≡◌, ◌≤◌, ⊤, List, [], length, Option, Some, None}
use Rattle.std.specs.List.{slice_range}
use Rattle.std.specs.Str.{IsUtf8}
use Rattle.rd_base.specs.declared.spans.Span.{Span}
use Rattle.rd_base.specs.declared.spans.Stretch.{Stretch}
use Rattle.rd_base.specs.declared.spans.Stretch.TheVariants as stretch

-- Returns the part at a span.
abbrev pub part : {X : Type 0} → List X → Span → List X
part xs s = slice_range xs s.from s.upto

-- States that a span is within a list.
abbrev pub IsWithin : {X : Type 0} → List X → Span → Type 0
IsWithin xs s = (s.from ≤ s.upto) × (s.upto ≤ length xs)

-- States that a span is within a text, and that its part is a text.
abbrev pub IsText : List ℕ → Span → Type 0
IsText xs s = IsWithin xs s × IsUtf8 (part xs s)

-- States that this is the part at a span.
abbrev pub IsAt : {X : Type 0} → List X → Span → List X → Type 0
IsAt xs s x = IsWithin xs s × (part xs s ≡ x)

-- States that this text is the part at a span.
abbrev pub IsTextAt : List ℕ → Span → List ℕ → Type 0
IsTextAt xs s x = IsAt xs s x × IsUtf8 x

-- Returns the part at a stretch: in the text, or apart from it.
abbrev pub placed : List ℕ → List ℕ → Stretch → List ℕ
placed text apart (stretch.Here s) = part text s
placed text apart (stretch.Apart s) = part apart s

-- States that there is a text at a stretch.
abbrev pub IsStretch : List ℕ → List ℕ → Stretch → Type 0
IsStretch text apart (stretch.Here s) = IsText text s
IsStretch text apart (stretch.Apart s) = IsText apart s

-- States that this text is at a stretch.
abbrev pub IsPlacedAt : List ℕ → List ℕ → Stretch → List ℕ → Type 0
IsPlacedAt text apart (stretch.Here s) x = IsTextAt text s x
IsPlacedAt text apart (stretch.Apart s) x = IsTextAt apart s x

-- Returns what a text that was given a stretch adds to what lies apart.
abbrev pub kept_apart : Stretch → List ℕ → List ℕ
kept_apart (stretch.Here s) x = []
kept_apart (stretch.Apart s) x = x

-- States that there is a text at a stretch, if there is a stretch.
abbrev pub IsStretchIfAny : List ℕ → List ℕ → Option Stretch → Type 0
IsStretchIfAny text apart None = ⊤
IsStretchIfAny text apart (Some p) = IsStretch text apart p

-- States that this text is at a stretch, or that there is neither.
abbrev pub IsPlacedIfAny : List ℕ → List ℕ → Option Stretch → Option (List ℕ) → Type 0
IsPlacedIfAny text apart None None = ⊤
IsPlacedIfAny text apart None (Some x) = ⊥
IsPlacedIfAny text apart (Some p) None = ⊥
IsPlacedIfAny text apart (Some p) (Some x) = IsPlacedAt text apart p x

-- Returns what a text adds to what lies apart, if it exists.
abbrev pub kept_apart_if_any : Option Stretch → Option (List ℕ) → List ℕ
kept_apart_if_any None x = []
kept_apart_if_any (Some p) None = []
kept_apart_if_any (Some p) (Some x) = kept_apart p x
