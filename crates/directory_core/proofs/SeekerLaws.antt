-- A cursor over records that goes forward to numbers that ascend.
use Rattle.std.proofs.Common.{
  ◌≡◌,
  ℕ,
  ◌<◌,
  Bool,
  true,
  false,
  cond,
  List,
  [],
  ◌∷◌,
  Some,
  refl,
  sym,
  ap,
  ◌∙◌,
  arith,
}
use Rattle.std.specs.declared.cmp.Ordering.{Ordering}
use Rattle.std.specs.declared.cmp.Ordering.TheVariants.{Less, Equal, Greater}
use Rattle.std.specs.List.{AllByRecursion}
use Rattle.std.specs.Ordering.{MatchOrdering, nat_cmp, is_eq, is_le}
use Rattle.std.specs.Cmp.{ranks}
use Rattle.std.specs.Map.{lookup}
use Rattle.std.specs.BTreeMap.{is_at}
use Rattle.std.specs.BTreeMap.Range.{entries_from}
use Rattle.rd_base.specs.declared.records.Record.{Record}
use Rattle.chunk_map.specs.Sorted.{IsAscending}
use Rattle.history_model.specs.Replay.{numbered}

-- a number that stands before another is not that number
not_at : (m n k : ℕ) (r s : Ordering)
    → n < m
    → MatchOrdering r (n < k) (n ≡ k) (k < n)
    → MatchOrdering s (m < k) (m ≡ k) (k < m)
    → is_le r ≡ false
    → is_eq s ≡ false
not_at m n k Less s lt low high le = absurd cc
not_at m n k Equal s lt low high le = absurd cc
not_at m n k Greater Less lt low high le = refl
not_at m n k Greater Equal lt low high le = absurd (omega (arith, lt, low, high))
not_at m n k Greater Greater lt low high le = refl

-- what stands at a number is still left once the cursor went to a lower one
pub left_past : (n m : ℕ) (es : List (ℕ × Record))
    → n < m
    → lookup (is_at (nat_cmp m)) (entries_from (nat_cmp n) es) ≡ lookup (is_at (nat_cmp m)) es
left_past n m [] lt = refl
left_past n m (e ∷ es) lt = by (is_le (nat_cmp n e.0)) refl (left_past n m es lt)
  where
    by : (b : Bool)
        → is_le (nat_cmp n e.0) ≡ b
        → lookup (is_at (nat_cmp m)) (entries_from (nat_cmp n) es) ≡ lookup (is_at (nat_cmp m)) es
        → lookup (is_at (nat_cmp m))
        (cond b (e ∷ entries_from (nat_cmp n) es) (entries_from (nat_cmp n) es))
        ≡ cond (is_eq (nat_cmp m e.0)) (Some e.1) (lookup (is_at (nat_cmp m)) es)
    by true h more = ap (λ o. cond (is_eq (nat_cmp m e.0)) (Some e.1) o) more
    by false h more =
        more
        ∙ sym (ap (λ t. cond t (Some e.1) (lookup (is_at (nat_cmp m)) es))
        (not_at m n e.0 (nat_cmp n e.0) (nat_cmp m e.0) lt (ranks n e.0) (ranks m e.0) h))

-- the records of the numbers that are left are found where they stand in the cursor
abbrev pub AreFound : List Record → List (ℕ × Record) → List ℕ → Type 0
AreFound records es numbers =
    AllByRecursion (λ n. lookup (is_at (nat_cmp n)) es ≡ numbered n records) numbers

pub all_found : (records : List Record) (es : List (ℕ × Record))
    → ((n : ℕ) → lookup (is_at (nat_cmp n)) es ≡ numbered n records)
    → (numbers : List ℕ)
    → AreFound records es numbers
all_found records es found [] = tt
all_found records es found (n ∷ numbers) = (found n, all_found records es found numbers)

pub found_past : (records : List Record) (es : List (ℕ × Record)) (n : ℕ) (numbers : List ℕ)
    → AllByRecursion (λ m. n < m) numbers
    → AreFound records es numbers
    → AreFound records (entries_from (nat_cmp n) es) numbers
found_past records es n [] rising found = tt
found_past records es n (m ∷ numbers) rising found =
    (left_past n m es rising.0 ∙ found.0, found_past records es n numbers rising.1 found.1)

-- what is left of ascending pairs ascends
all_left : (P : ℕ × Record → Type 0) (n : ℕ) (es : List (ℕ × Record))
    → AllByRecursion P es
    → AllByRecursion P (entries_from (nat_cmp n) es)
all_left P n [] all = tt
all_left P n (e ∷ es) all = by (is_le (nat_cmp n e.0)) (all_left P n es all.1)
  where
    by : (b : Bool)
        → AllByRecursion P (entries_from (nat_cmp n) es)
        → AllByRecursion P (cond b (e ∷ entries_from (nat_cmp n) es) (entries_from (nat_cmp n) es))
    by true more = (all.0, more)
    by false more = more

pub left_ascends : (n : ℕ) (es : List (ℕ × Record))
    → IsAscending nat_cmp es
    → IsAscending nat_cmp (entries_from (nat_cmp n) es)
unfolding IsAscending
left_ascends n [] up = tt
left_ascends n (e ∷ es) up = by (is_le (nat_cmp n e.0)) (left_ascends n es up.1)
  where
    by : (b : Bool)
        → IsAscending nat_cmp (entries_from (nat_cmp n) es)
        → IsAscending nat_cmp
        (cond b (e ∷ entries_from (nat_cmp n) es) (entries_from (nat_cmp n) es))
    by true more = (all_left (λ x. nat_cmp e.0 x.0 ≡ Less) n es up.0, more)
    by false more = more
