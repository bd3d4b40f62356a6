-- How long the parts of a value are: no longer than the value, and shorter where it has a space.
use Rattle.std.proofs.Common.{
  ◌≡◌,
  ℕ,
  zero,
  suc,
  ◌<◌,
  ◌≤◌,
  Bool,
  true,
  false,
  ◌&&◌,
  ◌||◌,
  not,
  cond,
  List,
  [],
  ◌∷◌,
  length,
  filter,
  bytes_eq,
  refl,
  sym,
  ap,
  ◌∙◌,
  subst,
  arith,
}
use Rattle.std.specs.Prelude.{◌==◌}
use Rattle.std.specs.List.{list_any, slice_split, onto_first, join_with_byte}
use Rattle.std.proofs.Math.Bool.{and-false, and-true, or-false}
use Rattle.std.proofs.lemmas.Bool.{false≢true, false_from_ne_true}
use Rattle.std.proofs.lemmas.List.{length-append}
use Rattle.std.proofs.lemmas.List.Splits.{
  join_with_byte-slice_split,
  length-slice_split,
  slice_split-cons_yes,
  slice_split-cons_no,
}
use Rattle.std.proofs.lemmas.Slice.Eq.{bytes_eq-Decides}
use Rattle.link_model.specs.Characters.{is_empty}
use Rattle.record_model.specs.Matching.{space, parts_of}
use Rattle.listing.proofs.PartCuts.{none_found, one_part}

abbrev cuts : List ℕ → List (List ℕ)
cuts value = slice_split (λ c. c == space) value

abbrev has_space : List ℕ → Bool
has_space value = list_any (λ c. c == space) value

-- a part that is kept, or not
one_more : (test : List ℕ → Bool) (b : Bool) (part : List ℕ) (parts : List (List ℕ))
    → test part ≡ false
    → list_any test parts ≡ false
    → list_any test (cond b (part ∷ parts) parts) ≡ false
one_more test true part parts fails none = rw fails none
one_more test false part parts fails none = none

-- no part passes a test that all texts of at most so many octets fail, where the parts joined have
-- no more
none_passes : (test : List ℕ → Bool) (n : ℕ)
    → ((part : List ℕ) → length part ≤ n → test part ≡ false)
    → (parts : List (List ℕ))
    → length (join_with_byte space parts) ≤ n
    → list_any test (filter (λ part. not (is_empty part)) parts) ≡ false
none_passes test n fails [] few = refl
none_passes test n fails (part ∷ []) few =
    one_more test (not (is_empty part)) part [] (fails part few) refl
none_passes test n fails (part ∷ next ∷ parts) few =
    let all = length-append part (space ∷ join_with_byte space (next ∷ parts)) in
    one_more test (not (is_empty part)) part (filter (λ text. not (is_empty text)) (next ∷ parts))
    (fails part (omega (arith, all, few)))
    (none_passes test n fails (next ∷ parts) (omega (arith, all, few)))

-- two parts or more are shorter than the whole
none_of_several : (test : List ℕ → Bool) (n : ℕ)
    → ((part : List ℕ) → length part < n → test part ≡ false)
    → (parts : List (List ℕ))
    → 2 ≤ length parts
    → length (join_with_byte space parts) ≤ n
    → list_any test (filter (λ part. not (is_empty part)) parts) ≡ false
none_of_several test n fails [] two few = absurd (omega arith)
none_of_several test n fails (part ∷ []) two few = absurd (omega arith)
none_of_several test zero fails (part ∷ next ∷ parts) two few =
    absurd (omega (arith, length-append part (space ∷ join_with_byte space (next ∷ parts)), few))
none_of_several test (suc n) fails (part ∷ next ∷ parts) two few =
    let all = length-append part (space ∷ join_with_byte space (next ∷ parts)) in
    let below : (text : List ℕ) → length text ≤ n → test text ≡ false =
    λ text short. fails text (omega (arith, short)) in
    one_more test (not (is_empty part)) part (filter (λ text. not (is_empty text)) (next ∷ parts))
    (below part (omega (arith, all, few)))
    (none_passes test n below (next ∷ parts) (omega (arith, all, few)))

-- as many parts as before
as_many : (c : ℕ) (parts : List (List ℕ))
    → 1 ≤ length parts
    → length (onto_first c parts) ≡ length parts
as_many c [] some = absurd (omega arith)
as_many c (part ∷ parts) some = refl

-- a value with a space has two or more
cut_at_space : (value : List ℕ) → has_space value ≡ true → 2 ≤ length (cuts value)
cut_at_space [] e = absurd (false≢true e)
cut_at_space (c ∷ cs) e = by (c == space) refl (λ later. cut_at_space cs later)
  where
    by : (is : Bool)
        → (c == space) ≡ is
        → (has_space cs ≡ true → 2 ≤ length (cuts cs))
        → 2 ≤ length (cuts (c ∷ cs))
    by true same later =
        subst (λ (parts : List (List ℕ)). 2 ≤ length parts)
        (sym (slice_split-cons_yes (λ b. b == space) c cs same))
        (omega (arith, length-slice_split (λ b. b == space) cs))
    by false other later =
        let two : 2 ≤ length (cuts cs) =
        later (subst (λ (is : Bool). (is || has_space cs) ≡ true) other e) in
        subst (λ (parts : List (List ℕ)). 2 ≤ length parts)
        (sym (slice_split-cons_no (λ b. b == space) c cs other))
        (omega (arith, two, as_many c (cuts cs) (omega (arith, two))))

-- texts that are not equally long differ
shorter_differs : (part text : List ℕ) → length part < length text → bytes_eq part text ≡ false
shorter_differs part text short =
    false_from_ne_true _ (λ same.
    let e = ap length ((bytes_eq-Decides part text).0 same) in
    absurd (omega (arith, e, short)))

-- a text is a part of a value that is no longer only where the value is that text, and one part
pub same_or_none : (value text : List ℕ)
    → length value ≤ length text
    → (bytes_eq value text && (not (is_empty value) && not (has_space value)))
    ≡ list_any (λ part. bytes_eq part text) (parts_of value)
same_or_none [] text few = and-false (bytes_eq [] text)
same_or_none (c ∷ cs) text few = by (has_space (c ∷ cs)) refl
  where
    by : (is : Bool)
        → has_space (c ∷ cs) ≡ is
        → (bytes_eq (c ∷ cs) text && (true && not (has_space (c ∷ cs))))
        ≡ list_any (λ part. bytes_eq part text) (parts_of (c ∷ cs))
    by true spaced =
        ap (λ (b : Bool). bytes_eq (c ∷ cs) text && not b) spaced
        ∙ and-false (bytes_eq (c ∷ cs) text)
        ∙ sym (none_of_several (λ part. bytes_eq part text) (length (c ∷ cs))
        (λ part short. shorter_differs part text (omega (arith, short, few)))
        (cuts (c ∷ cs)) (cut_at_space (c ∷ cs) spaced)
        (omega (arith, ap length (join_with_byte-slice_split space (c ∷ cs)))))
    by false plain =
        ap (λ (b : Bool). bytes_eq (c ∷ cs) text && not b) plain ∙ and-true (bytes_eq (c ∷ cs) text)
        ∙ sym (ap (list_any (λ part. bytes_eq part text))
        (one_part (c ∷ cs) (none_found (c ∷ cs) plain)
        (λ none. omega (arith, ap length none)))
        ∙ or-false (bytes_eq (c ∷ cs) text))
