-- Lines that are skipped, and lines that are appended one after another.
use Rattle.std.proofs.Common.{
  not,
  true,
  ◌≡◌,
  ℕ,
  ◌+◌,
  List,
  [],
  ◌∷◌,
  ◌++◌,
  flat_map,
  map,
  refl,
  sym,
  ap,
  ◌∙◌,
  append_assoc,
  append-nil,
  add-one,
  arith,
}
use Rattle.std.specs.List.{join_with_byte, list_all}
use Rattle.rd_base.specs.declared.records.Item.{Item}
use Rattle.rd_base.specs.LinkLines.{listed}
use Rattle.link_model.specs.Characters.{comma, is_empty}
use Rattle.record_model.specs.ListingLines.{link_line}
use Rattle.listing.specs.AppendedLines.{appended, separated, shown_lines}

-- what follows the first line stands after commas
pub join-cons : (line : List ℕ) (lines : List (List ℕ))
    → join_with_byte comma (line ∷ lines) ≡ line ++ flat_map (λ l. comma ∷ l) lines
join-cons line [] = sym (append-nil line)
join-cons line (next ∷ lines) = ap (λ (xs : List ℕ). line ++ comma ∷ xs) (join-cons next lines)

-- a line after a text, and then others
pub appended-cons : (text line rest : List ℕ) (c : ℕ) (lines : List (List ℕ))
    → line ≡ c ∷ rest
    → appended (separated text ++ line) lines ≡ appended text (line ∷ lines)
unfolding appended
appended-cons [] line rest c lines begins =
    ap (λ (l : List ℕ). appended l lines) begins
    ∙ sym (join-cons (c ∷ rest) lines)
    ∙ ap (λ (l : List ℕ). join_with_byte comma (l ∷ lines)) (sym begins)
appended-cons (d ∷ ds) line rest c lines begins =
    append_assoc ((d ∷ ds) ++ comma ∷ []) line (flat_map (λ l. comma ∷ l) lines)
    ∙ append_assoc (d ∷ ds) (comma ∷ []) (line ++ flat_map (λ l. comma ∷ l) lines)

-- no line leaves the text as it is
pub appended-nil : (text : List ℕ) → appended text [] ≡ text
unfolding appended
appended-nil [] = refl
appended-nil (c ∷ cs) = append-nil (c ∷ cs)

-- lines into an empty text are joined
pub appended-joined : (lines : List (List ℕ)) → appended [] lines ≡ join_with_byte comma lines
unfolding appended
appended-joined lines = refl

-- no line is shown of none
pub shown_none : (skip most : ℕ) → shown_lines skip most [] ≡ []
shown_none skip most = grind arith

-- a line that is skipped
pub skip_one : (skip left most : ℕ) (line : List ℕ) (lines : List (List ℕ))
    → skip ≡ left + 1
    → shown_lines skip most (line ∷ lines) ≡ shown_lines left most lines
skip_one skip left most line lines e = rw (e, add-one) refl

-- a line that is written
pub write_one : (most left : ℕ) (line : List ℕ) (lines : List (List ℕ))
    → most ≡ left + 1
    → shown_lines 0 most (line ∷ lines) ≡ line ∷ shown_lines 0 left lines
write_one most left line lines e = rw (e, add-one) refl

-- lines after lines, of which none is empty
pub appended-append : (text : List ℕ) (lines more : List (List ℕ))
    → list_all (λ line. not (is_empty line)) lines ≡ true
    → appended (appended text lines) more ≡ appended text (lines ++ more)
appended-append text [] more full = ap (λ (t : List ℕ). appended t more) (appended-nil text)
appended-append text ((c ∷ rest) ∷ lines) more full =
    ap (λ (t : List ℕ). appended t more) (sym (appended-cons text (c ∷ rest) rest c lines refl))
    ∙ appended-append (separated text ++ c ∷ rest) lines more full
    ∙ appended-cons text (c ∷ rest) rest c (lines ++ more) refl
appended-append text ([] ∷ lines) more full = cc

-- the lines of links as one text, after another text
pub appended-all : (text : List ℕ) (items : List Item)
    → (items ≡ [] → ⊥)
    → separated text ++ listed items ≡ appended text (map link_line items)
unfolding appended listed
appended-all text [] some = absurd (some refl)
appended-all [] (x ∷ xs) some = refl
appended-all (c ∷ cs) (x ∷ xs) some =
    append_assoc (c ∷ cs) (comma ∷ []) (listed (x ∷ xs))
    ∙ ap (λ (t : List ℕ). (c ∷ cs) ++ comma ∷ t) (join-cons (link_line x) (map link_line xs))

-- of no links there are none
pub appended-none : (text : List ℕ) (items : List Item)
    → items ≡ []
    → text ≡ appended text (map link_line items)
appended-none text items none = rw none (sym (appended-nil text))
