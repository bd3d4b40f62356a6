-- Where a print is not noted, no text that was noted begins with a text of this print.
use Rattle.std.proofs.Common.{
  ◌≡◌,
  ℕ,
  ◌*◌,
  ◌%◌,
  ◌^◌,
  ◌<◌,
  ◌==◌,
  ap,
  bit_or,
  w64,
  Bool,
  true,
  false,
  List,
  [],
  ◌∷◌,
  ◌++◌,
  length,
  nat_eq,
  slice_index_or,
  refl,
  sym,
  subst,
  ◌∙◌,
  arith,
  eqb-true,
}
use Rattle.std.specs.Int.{bit_at}
use Rattle.std.specs.List.{AllByRecursion, starts_with}
use Rattle.std.proofs.lemmas.Bool.{false≢true, and_parts, eqb-false}
use Rattle.std.proofs.lemmas.Nat.Bits.{bit_at_set_same, bit_at_set_other}
use Rattle.std.proofs.lemmas.List.{get_or-set_same, get_or-set_other, length-set}
use Rattle.watch_table.specs.Prints.{
  bit_of,
  fronts_noted,
  is_noted,
  noted,
  print_after,
  print_from,
  print_of,
  text_noted,
  texts_noted,
  word_of,
}

-- as many notes as there are places
abbrev pub AreNotes : List ℕ → Type 0
AreNotes notes = length notes ≡ 128

-- ---- one print

word_within : (print : ℕ) → word_of print < 128
unfolding word_of
word_within print = omega arith

bit_within : (print : ℕ) → bit_of print < 64
unfolding bit_of
bit_within print = omega arith

noted_full : (notes : List ℕ) (print : ℕ) → AreNotes notes → AreNotes (noted notes print)
noted_full notes print full =
    length-set notes (word_of print)
    (bit_or (slice_index_or notes (word_of print) 0) (1 * 2 ^ bit_of print % 2 ^ 64))
    ∙ full

-- what stands at the index of the print then
word_noted : (notes : List ℕ) (print : ℕ)
    → AreNotes notes
    → slice_index_or (noted notes print) (word_of print) 0
    ≡ bit_or (slice_index_or notes (word_of print) 0) (1 * 2 ^ bit_of print % 2 ^ 64)
word_noted notes print full =
    let below = word_within print in
    get_or-set_same notes (word_of print)
    (bit_or (slice_index_or notes (word_of print) 0) (1 * 2 ^ bit_of print % 2 ^ 64)) 0
    (omega (arith, full, below))

noted_here : (notes : List ℕ) (print : ℕ)
    → AreNotes notes
    → is_noted (noted notes print) print ≡ true
noted_here notes print full =
    ap (λ (n : ℕ). n == 1) (ap (λ (word : ℕ). bit_at word (bit_of print))
    (word_noted notes print full)
    ∙ bit_at_set_same w64 (slice_index_or notes (word_of print) 0) (bit_of print)
    (bit_within print))

noted_kept : (notes : List ℕ) (print other : ℕ)
    → AreNotes notes
    → is_noted notes other ≡ true
    → is_noted (noted notes print) other ≡ true
noted_kept notes print other full before =
    by (nat_eq (word_of other) (word_of print)) refl (nat_eq (bit_of other) (bit_of print)) refl
  where
    by : (b : Bool)
        → nat_eq (word_of other) (word_of print) ≡ b
        → (d : Bool)
        → nat_eq (bit_of other) (bit_of print) ≡ d
        → is_noted (noted notes print) other ≡ true
    by false apart d e =
        ap (λ (word : ℕ). bit_at word (bit_of other) == 1)
        (get_or-set_other notes (word_of print) (word_of other)
        (bit_or (slice_index_or notes (word_of print) 0) (1 * 2 ^ bit_of print % 2 ^ 64)) 0
        (eqb-false (word_of other) (word_of print) apart))
        ∙ before
    by true same true alike =
        subst (λ word.
        bit_at (slice_index_or (noted notes print) word 0) (bit_of other) == 1 ≡ true)
        (sym (eqb-true (word_of other) (word_of print) same))
        (subst (λ bit.
        bit_at (slice_index_or (noted notes print) (word_of print) 0) bit == 1 ≡ true)
        (sym (eqb-true (bit_of other) (bit_of print) alike)) (noted_here notes print full))
    by true same false unlike =
        subst (λ word.
        bit_at (slice_index_or (noted notes print) word 0) (bit_of other) == 1 ≡ true)
        (sym (eqb-true (word_of other) (word_of print) same))
        (ap (λ (word : ℕ). bit_at word (bit_of other) == 1) (word_noted notes print full)
        ∙ (ap (λ (n : ℕ). n == 1) (bit_at_set_other w64 (slice_index_or notes (word_of print) 0)
        (bit_of print) (bit_within print) (bit_of other)
        (eqb-false (bit_of other) (bit_of print) unlike))
        ∙ subst (λ word. bit_at (slice_index_or notes word 0) (bit_of other) == 1 ≡ true)
        (eqb-true (word_of other) (word_of print) same) before))

-- ---- a text

fronts_full : (text : List ℕ) (notes : List ℕ) (print : ℕ)
    → AreNotes notes
    → AreNotes (fronts_noted notes print text)
fronts_full [] notes print full = full
fronts_full (c ∷ cs) notes print full =
    fronts_full cs (noted notes (print_after print c)) (print_after print c)
    (noted_full notes (print_after print c) full)

fronts_kept : (text : List ℕ) (notes : List ℕ) (print other : ℕ)
    → AreNotes notes
    → is_noted notes other ≡ true
    → is_noted (fronts_noted notes print text) other ≡ true
fronts_kept [] notes print other full before = before
fronts_kept (c ∷ cs) notes print other full before =
    fronts_kept cs (noted notes (print_after print c)) (print_after print c) other
    (noted_full notes (print_after print c) full)
    (noted_kept notes (print_after print c) other full before)

-- the print of what a text begins with
front_found : (front text : List ℕ) (notes : List ℕ) (print : ℕ)
    → AreNotes notes
    → is_noted notes print ≡ true
    → starts_with nat_eq text front ≡ true
    → is_noted (fronts_noted notes print text) (print_from print front) ≡ true
front_found [] text notes print full here begins = fronts_kept text notes print print full here
front_found (c ∷ cs) [] notes print full here begins = absurd (false≢true begins)
front_found (c ∷ cs) (d ∷ ds) notes print full here begins =
    let both = and_parts (nat_eq c d) (starts_with nat_eq ds cs) begins in
    subst (λ x.
    is_noted (fronts_noted (noted notes (print_after print d)) (print_after print d) ds)
    (print_from (print_after print x) cs)
    ≡ true) (sym (eqb-true c d both.0))
    (front_found cs ds (noted notes (print_after print d)) (print_after print d)
    (noted_full notes (print_after print d) full) (noted_here notes (print_after print d) full)
    both.1)

pub text_full : (text : List ℕ) (notes : List ℕ)
    → AreNotes notes
    → AreNotes (text_noted notes text)
text_full text notes full = fronts_full text (noted notes 0) 0 (noted_full notes 0 full)

text_kept : (text : List ℕ) (notes : List ℕ) (other : ℕ)
    → AreNotes notes
    → is_noted notes other ≡ true
    → is_noted (text_noted notes text) other ≡ true
text_kept text notes other full before =
    fronts_kept text (noted notes 0) 0 other (noted_full notes 0 full)
    (noted_kept notes 0 other full before)

text_found : (text front : List ℕ) (notes : List ℕ)
    → AreNotes notes
    → starts_with nat_eq text front ≡ true
    → is_noted (text_noted notes text) (print_of front) ≡ true
text_found text front notes full begins =
    front_found front text (noted notes 0) 0 (noted_full notes 0 full) (noted_here notes 0 full)
    begins

-- ---- texts

pub texts_full : (texts : List (List ℕ)) (notes : List ℕ)
    → AreNotes notes
    → AreNotes (texts_noted notes texts)
texts_full [] notes full = full
texts_full (text ∷ texts) notes full =
    texts_full texts (text_noted notes text) (text_full text notes full)

texts_kept : (texts : List (List ℕ)) (notes : List ℕ) (other : ℕ)
    → AreNotes notes
    → is_noted notes other ≡ true
    → is_noted (texts_noted notes texts) other ≡ true
texts_kept [] notes other full before = before
texts_kept (text ∷ texts) notes other full before =
    texts_kept texts (text_noted notes text) other (text_full text notes full)
    (text_kept text notes other full before)

-- what is not noted in the end was not before
pub not_before : (texts : List (List ℕ)) (notes : List ℕ) (other : ℕ)
    → AreNotes notes
    → is_noted (texts_noted notes texts) other ≡ false
    → is_noted notes other ≡ false
not_before texts notes other full lacks = by (is_noted notes other) refl
  where
    by : (b : Bool) → is_noted notes other ≡ b → b ≡ false
    by false e = refl
    by true e = absurd (false≢true (sym lacks ∙ texts_kept texts notes other full e))

-- no text begins so
abbrev pub Misses : List ℕ → List (List ℕ) → Type 0
Misses front texts = AllByRecursion (λ text. starts_with nat_eq text front ≡ false) texts

pub texts_missed : (texts : List (List ℕ)) (notes : List ℕ) (front : List ℕ)
    → AreNotes notes
    → is_noted (texts_noted notes texts) (print_of front) ≡ false
    → Misses front texts
texts_missed [] notes front full lacks = tt
texts_missed (text ∷ texts) notes front full lacks = (
  by (starts_with nat_eq text front) refl,
  texts_missed texts (text_noted notes text) front
      (text_full text notes full) lacks,
)
  where
    by : (b : Bool) → starts_with nat_eq text front ≡ b → b ≡ false
    by false e = refl
    by true e = absurd (false≢true (sym lacks
        ∙ texts_kept texts (text_noted notes text) (print_of front) (text_full text notes full)
        (text_found text front notes full e)))

-- texts after others
pub texts_after : (texts more : List (List ℕ)) (notes : List ℕ)
    → texts_noted notes (texts ++ more) ≡ texts_noted (texts_noted notes texts) more
texts_after [] more notes = refl
texts_after (text ∷ texts) more notes =
    texts_after texts more (text_noted notes text)

-- a text in two pieces
pub fronts_after : (text more : List ℕ) (notes : List ℕ) (print : ℕ)
    → fronts_noted notes print (text ++ more)
    ≡ fronts_noted (fronts_noted notes print text) (print_from print text) more
fronts_after [] more notes print = refl
fronts_after (c ∷ cs) more notes print =
    fronts_after cs more (noted notes (print_after print c)) (print_after print c)
