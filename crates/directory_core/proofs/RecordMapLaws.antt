-- Records under their numbers in a map: what is found, put and taken.
use Rattle.std.proofs.Common.{
  ◌≡◌,
  ℕ,
  ◌<◌,
  ◌==◌,
  nat_lt,
  Bool,
  true,
  false,
  not,
  cond,
  List,
  [],
  ◌∷◌,
  filter,
  refl,
  sym,
  ap,
  ◌∙◌,
  arith,
  eqb-true,
  ne_eqb,
}
use Rattle.std.specs.declared.cmp.Ordering.{Ordering}
use Rattle.std.specs.declared.cmp.Ordering.TheVariants.{Less, Equal, Greater}
use Rattle.std.specs.Ordering.{MatchOrdering, match_ordering, nat_cmp, is_eq}
use Rattle.std.specs.Cmp.{ranks}
use Rattle.std.specs.Map.{values_of, lookup, remove_entry}
use Rattle.std.specs.BTreeMap.{insert_entry, is_at}
use Rattle.std.proofs.lemmas.Bool.Decides.{nat_tests}
use Rattle.rd_base.specs.declared.records.Record.{Record}
use Rattle.rd_base.proofs.lemmas.Each.{each_weaker, each_both, each_map}
use Rattle.rd_base.proofs.lemmas.Filters.{filter_all}
use Rattle.rd_base.proofs.lemmas.Pairs.{PairsByRecursion}
use Rattle.chunk_map.specs.Sorted.{IsAscending}
use Rattle.history_model.specs.Replay.{is_numbered, numbered}
use Rattle.history_model.proofs.NumberLaws.{IsBelow}
use Rattle.directory_core.specs.NumberOrder.{AreUnderNumbers, with_record}

-- ---- numbers compared

at_ranked : (n k : ℕ) (r : Ordering) → MatchOrdering r (n < k) (n ≡ k) (k < n) → is_eq r ≡ (k == n)
at_ranked n k Less h = sym (ne_eqb k n (λ same. omega arith))
at_ranked n k Equal h = let same : (k == n) ≡ true = grind (arith, nat_tests) in sym same
at_ranked n k Greater h = sym (ne_eqb k n (λ same. omega arith))

at_number : (n k : ℕ) → is_eq (nat_cmp n k) ≡ (k == n)
at_number n k = at_ranked n k (nat_cmp n k) (ranks n k)

less_ranked : (a b : ℕ) (r : Ordering) → MatchOrdering r (a < b) (a ≡ b) (b < a) → r ≡ Less → a < b
less_ranked a b Less h e = h
less_ranked a b Equal h e = absurd cc
less_ranked a b Greater h e = absurd cc

less_number : (a b : ℕ) → nat_cmp a b ≡ Less → a < b
less_number a b e = less_ranked a b (nat_cmp a b) (ranks a b) e

-- ---- what is found

pub numbered-lookup : (number : ℕ) (es : List (ℕ × Record))
    → AreUnderNumbers es
    → lookup (is_at (nat_cmp number)) es ≡ numbered number (values_of es)
numbered-lookup number [] under = refl
numbered-lookup number (e ∷ es) under =
    let here : is_eq (nat_cmp number e.0) ≡ is_numbered number e.1 =
    at_number number e.0 ∙ ap (λ k. k == number) under.0 in
    let more = numbered-lookup number es under.1 in
    rw (here, more) refl

-- ---- what is put

pub values-insert : (r : Record) (es : List (ℕ × Record))
    → AreUnderNumbers es
    → values_of (insert_entry nat_cmp es r.number r) ≡ with_record r (values_of es)
unfolding with_record
values-insert r [] under = refl
values-insert r (e ∷ es) under =
    by (nat_cmp r.number e.0) (ranks r.number e.0) (values-insert r es under.1)
  where
    by : (o : Ordering)
        → MatchOrdering o (r.number < e.0) (r.number ≡ e.0) (e.0 < r.number)
        → values_of (insert_entry nat_cmp es r.number r) ≡ with_record r (values_of es)
        → values_of (match_ordering o ((r.number, r) ∷ e ∷ es) ((e.0, r) ∷ es)
        (e ∷ insert_entry nat_cmp es r.number r))
        ≡ cond (nat_lt r.number e.1.number) (r ∷ e.1 ∷ values_of es)
        (cond (r.number == e.1.number) (r ∷ values_of es) (e.1 ∷ with_record r (values_of es)))
    by Less h more =
        let same = under.0 in
        let test : nat_lt r.number e.1.number ≡ true = grind (arith, nat_tests) in rw test refl
    by Equal h more =
        let same = under.0 in
        let low : nat_lt r.number e.1.number ≡ false = grind (arith, nat_tests) in
        let test : (r.number == e.1.number) ≡ true = grind (arith, nat_tests) in rw (low, test) refl
    by Greater h more =
        let same = under.0 in
        let low : nat_lt r.number e.1.number ≡ false = grind (arith, nat_tests) in
        let test : (r.number == e.1.number) ≡ false = grind (arith, nat_tests) in
        rw (low, test) (ap (λ rest. e.1 ∷ rest) more)

pub under-insert : (r : Record) (es : List (ℕ × Record))
    → AreUnderNumbers es
    → AreUnderNumbers (insert_entry nat_cmp es r.number r)
under-insert r [] under = (refl, tt)
under-insert r (e ∷ es) under =
    by (nat_cmp r.number e.0) (ranks r.number e.0) (under-insert r es under.1)
  where
    by : (o : Ordering)
        → MatchOrdering o (r.number < e.0) (r.number ≡ e.0) (e.0 < r.number)
        → AreUnderNumbers (insert_entry nat_cmp es r.number r)
        → AreUnderNumbers (match_ordering o ((r.number, r) ∷ e ∷ es) ((e.0, r) ∷ es)
        (e ∷ insert_entry nat_cmp es r.number r))
    by Less h more = (refl, under)
    by Equal h more = (sym h, under.1)
    by Greater h more = (under.0, more)

-- ---- they rise

pub rising-ascending : (es : List (ℕ × Record))
    → AreUnderNumbers es
    → IsAscending nat_cmp es
    → PairsByRecursion IsBelow (values_of es)
unfolding IsAscending
rising-ascending [] under up = tt
rising-ascending (e ∷ es) under up = (
  each_map (IsBelow e.1) (λ x. x.1) es
      (each_both (λ x. x.0 ≡ x.1.number) (λ x. nat_cmp e.0 x.0 ≡ Less) (λ x. IsBelow e.1 x.1)
      (λ x same less. let mine = under.0 in let low = less_number e.0 x.0 less in omega arith) es
      under.1 up.0),
  rising-ascending es under.1 up.1,
)

-- ---- what is taken

pub values-remove : (number : ℕ) (es : List (ℕ × Record))
    → AreUnderNumbers es
    → PairsByRecursion IsBelow (values_of es)
    → values_of (remove_entry (is_at (nat_cmp number)) es)
    ≡ filter (λ r. not (is_numbered number r)) (values_of es)
values-remove number [] under up = refl
values-remove number (e ∷ es) under up =
    by (is_eq (nat_cmp number e.0)) (is_numbered number e.1)
    (at_number number e.0 ∙ ap (λ k. k == number) under.0) refl
    (values-remove number es under.1 up.1)
  where
    by : (b n : Bool)
        → b ≡ is_numbered number e.1
        → is_numbered number e.1 ≡ n
        → values_of (remove_entry (is_at (nat_cmp number)) es)
        ≡ filter (λ r. not (is_numbered number r)) (values_of es)
        → values_of (cond b es (e ∷ remove_entry (is_at (nat_cmp number)) es))
        ≡ cond (not n) (e.1 ∷ filter (λ r. not (is_numbered number r)) (values_of es))
        (filter (λ r. not (is_numbered number r)) (values_of es))
    by true true e1 e2 more =
        let here : e.1.number ≡ number = eqb-true e.1.number number e2 in
        sym (filter_all (λ r. not (is_numbered number r)) (values_of es)
        (each_weaker (IsBelow e.1) (λ r. not (is_numbered number r) ≡ true)
        (λ r below. let other :
        (r.number == number) ≡ false =
        ne_eqb r.number number (λ same. omega arith) in rw other refl) (values_of es)
        up.0))
    by true false e1 e2 more = absurd cc
    by false true e1 e2 more = absurd cc
    by false false e1 e2 more = ap (λ rest. e.1 ∷ rest) more

pub under-remove : (test : ℕ → Bool) (es : List (ℕ × Record))
    → AreUnderNumbers es
    → AreUnderNumbers (remove_entry test es)
under-remove test [] under = tt
under-remove test (e ∷ es) under = by (test e.0) (under-remove test es under.1)
  where
    by : (b : Bool)
        → AreUnderNumbers (remove_entry test es)
        → AreUnderNumbers (cond b es (e ∷ remove_entry test es))
    by true more = under.1
    by false more = (under.0, more)
