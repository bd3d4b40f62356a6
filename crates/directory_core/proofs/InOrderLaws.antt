-- Records in order of a number of each: what is there, where a record is placed, and what a filter
-- leaves.
use Rattle.std.proofs.Common.{
  ◌≡◌,
  ℕ,
  ◌+◌,
  ◌==◌,
  ◌&&◌,
  ◌||◌,
  nat_lt,
  Bool,
  true,
  false,
  cond,
  List,
  [],
  ◌∷◌,
  ◌++◌,
  filter,
  sum_by,
  refl,
  sym,
  ap,
  ◌∙◌,
  subst,
  arith,
}
use Rattle.std.specs.List.{AllByRecursion, list_any}
use Rattle.std.proofs.lemmas.Bool.{true≢false}
use Rattle.std.proofs.lemmas.Bool.Decides.{nat_tests}
use Rattle.std.proofs.lemmas.List.Sums.{sum_by-cons}
use Rattle.rd_base.specs.declared.records.Record.{Record}
use Rattle.rd_base.proofs.lemmas.Each.{each_weaker, each_filter}
use Rattle.rd_base.proofs.lemmas.Pairs.{PairsByRecursion}
use Rattle.directory_core.specs.LapseOrder.{stands_before, placed, in_order_of}

-- ---- over numbers

trans_numbers : (a m b n c k : ℕ)
    → (nat_lt a b || ((a == b) && nat_lt m n)) ≡ true
    → (nat_lt b c || ((b == c) && nat_lt n k)) ≡ true
    → (nat_lt a c || ((a == c) && nat_lt m k)) ≡ true
trans_numbers a m b n c k p q = grind (arith, nat_tests)

back_numbers : (a m b n : ℕ)
    → (nat_lt a b || ((a == b) && nat_lt m n)) ≡ true
    → (nat_lt b a || ((b == a) && nat_lt n m)) ≡ false
back_numbers a m b n p = grind (arith, nat_tests)

neither_numbers : (a m b n : ℕ)
    → (m ≡ n → ⊥)
    → (nat_lt a b || ((a == b) && nat_lt m n)) ≡ false
    → (nat_lt b a || ((b == a) && nat_lt n m)) ≡ true
neither_numbers a m b n p q = grind (arith, nat_tests)

-- two records have different numbers
abbrev pub DifferFrom : Record → Record → Type 0
DifferFrom r other = r.number ≡ other.number → ⊥

module _ (key : Record → ℕ) where
  abbrev before : Record → Record → Bool
  before r other = stands_before key r other

  pub before_trans : (a b c : Record) → before a b ≡ true → before b c ≡ true → before a c ≡ true
  before_trans a b c p q = trans_numbers (key a) a.number (key b) b.number (key c) c.number p q

  pub before_back : (a b : Record) → before a b ≡ true → before b a ≡ false
  before_back a b p = back_numbers (key a) a.number (key b) b.number p

  pub before_or_after : (a b : Record) → DifferFrom a b → before a b ≡ false → before b a ≡ true
  before_or_after a b differ p = neither_numbers (key a) a.number (key b) b.number differ p

  -- each record stands before all that follow it
  abbrev pub IsOrdered : List Record → Type 0
  IsOrdered records = PairsByRecursion (λ r other. stands_before key r other ≡ true) records

  -- ---- what is there

  pub each_placed : (P : Record → Type 0) (r : Record) (xs : List Record)
      → P r
      → AllByRecursion P xs
      → AllByRecursion P (placed key r xs)
  unfolding placed
  each_placed P r [] one all = (one, tt)
  each_placed P r (x ∷ xs) one all = by (before r x) (each_placed P r xs one all.1)
    where
      by : (b : Bool)
          → AllByRecursion P (placed key r xs)
          → AllByRecursion P (cond b (r ∷ x ∷ xs) (x ∷ placed key r xs))
      by true more = (one, all)
      by false more = (all.0, more)

  pub each_in_order : (P : Record → Type 0) (rs : List Record)
      → AllByRecursion P rs
      → AllByRecursion P (in_order_of key rs)
  unfolding in_order_of
  each_in_order P [] all = tt
  each_in_order P (r ∷ rs) all =
      each_placed P r (in_order_of key rs) all.0 (each_in_order P rs all.1)

  sum_placed : (f : Record → ℕ) (r : Record) (xs : List Record)
      → sum_by f (placed key r xs) ≡ f r + sum_by f xs
  unfolding placed
  sum_placed f r [] = sum_by-cons f r []
  sum_placed f r (x ∷ xs) = by (before r x) (sum_placed f r xs)
    where
      by : (b : Bool)
          → sum_by f (placed key r xs) ≡ f r + sum_by f xs
          → sum_by f (cond b (r ∷ x ∷ xs) (x ∷ placed key r xs)) ≡ f r + sum_by f (x ∷ xs)
      by true more = sum_by-cons f r (x ∷ xs)
      by false more =
          let one = sum_by-cons f x (placed key r xs) in
          let two = sum_by-cons f x xs in omega (arith, one, two, more)

  pub sum_in_order : (f : Record → ℕ) (rs : List Record)
      → sum_by f (in_order_of key rs) ≡ sum_by f rs
  unfolding in_order_of
  sum_in_order f [] = refl
  sum_in_order f (r ∷ rs) =
      let one = sum_placed f r (in_order_of key rs) in
      let more = sum_in_order f rs in let two = sum_by-cons f r rs in omega (arith, one, two, more)

  or_swapped : (a b c : Bool) → (a || (b || c)) ≡ (b || (a || c))
  or_swapped true true c = refl
  or_swapped true false c = refl
  or_swapped false true c = refl
  or_swapped false false c = refl

  any_placed : (p : Record → Bool) (r : Record) (xs : List Record)
      → list_any p (placed key r xs) ≡ (p r || list_any p xs)
  unfolding placed
  any_placed p r [] = refl
  any_placed p r (x ∷ xs) = by (before r x) (any_placed p r xs)
    where
      by : (b : Bool)
          → list_any p (placed key r xs) ≡ (p r || list_any p xs)
          → list_any p (cond b (r ∷ x ∷ xs) (x ∷ placed key r xs)) ≡ (p r || (p x || list_any p xs))
      by true more = refl
      by false more = ap (λ b. p x || b) more ∙ or_swapped (p x) (p r) (list_any p xs)

  -- one of the records in order passes a test exactly where one of the records does
  pub any_in_order : (p : Record → Bool) (rs : List Record)
      → list_any p (in_order_of key rs) ≡ list_any p rs
  unfolding in_order_of
  any_in_order p [] = refl
  any_in_order p (r ∷ rs) =
      any_placed p r (in_order_of key rs) ∙ ap (λ b. p r || b) (any_in_order p rs)

  -- ---- where a record is placed

  -- before all that it stands before
  pub placed_first : (r : Record) (xs : List Record)
      → AllByRecursion (λ x. before r x ≡ true) xs
      → placed key r xs ≡ r ∷ xs
  unfolding placed
  placed_first r [] all = refl
  placed_first r (x ∷ xs) all = rw all.0 refl

  behind_all : (r x : Record) (xs : List Record)
      → before r x ≡ true
      → AllByRecursion (λ y. before x y ≡ true) xs
      → AllByRecursion (λ y. before r y ≡ true) xs
  behind_all r x xs first all =
      each_weaker (λ y. before x y ≡ true) (λ y. before r y ≡ true)
      (λ y h. before_trans r x y first h) xs all

  pub placed-IsOrdered : (r : Record) (xs : List Record)
      → AllByRecursion (DifferFrom r) xs
      → IsOrdered xs
      → IsOrdered (placed key r xs)
  unfolding placed
  placed-IsOrdered r [] differ up = (tt, tt)
  placed-IsOrdered r (x ∷ xs) differ up = by (before r x) refl (placed-IsOrdered r xs differ.1 up.1)
    where
      by : (b : Bool)
          → before r x ≡ b
          → IsOrdered (placed key r xs)
          → IsOrdered (cond b (r ∷ x ∷ xs) (x ∷ placed key r xs))
      by true e more = ((e, behind_all r x xs e up.0), up)
      by false e more =
          (each_placed (λ y. before x y ≡ true) r xs (before_or_after r x differ.0 e) up.0, more)

  pub in_order-IsOrdered : (rs : List Record)
      → PairsByRecursion DifferFrom rs
      → IsOrdered (in_order_of key rs)
  unfolding in_order_of
  in_order-IsOrdered [] differ = tt
  in_order-IsOrdered (r ∷ rs) differ =
      placed-IsOrdered r (in_order_of key rs) (each_in_order (DifferFrom r) rs differ.0)
      (in_order-IsOrdered rs differ.1)

  differ_placed : (r : Record) (xs : List Record)
      → AllByRecursion (DifferFrom r) xs
      → PairsByRecursion DifferFrom xs
      → PairsByRecursion DifferFrom (placed key r xs)
  unfolding placed
  differ_placed r [] differ up = (tt, tt)
  differ_placed r (x ∷ xs) differ up = by (before r x) (differ_placed r xs differ.1 up.1)
    where
      by : (b : Bool)
          → PairsByRecursion DifferFrom (placed key r xs)
          → PairsByRecursion DifferFrom (cond b (r ∷ x ∷ xs) (x ∷ placed key r xs))
      by true more = (differ, up)
      by false more = (each_placed (DifferFrom x) r xs (λ same. differ.0 (sym same)) up.0, more)

  -- records in order have different numbers, where they have
  pub differ_in_order : (rs : List Record)
      → PairsByRecursion DifferFrom rs
      → PairsByRecursion DifferFrom (in_order_of key rs)
  unfolding in_order_of
  differ_in_order [] up = tt
  differ_in_order (r ∷ rs) up =
      differ_placed r (in_order_of key rs) (each_in_order (DifferFrom r) rs up.0)
      (differ_in_order rs up.1)

  -- what is in order stays
  pub in_order_same : (rs : List Record) → IsOrdered rs → in_order_of key rs ≡ rs
  unfolding in_order_of
  in_order_same [] up = refl
  in_order_same (r ∷ rs) up =
      ap (λ xs. placed key r xs) (in_order_same rs up.1) ∙ placed_first r rs up.0

  -- two records are placed in either order
  pub placed_swapped : (a b : Record) (xs : List Record)
      → DifferFrom a b
      → placed key a (placed key b xs) ≡ placed key b (placed key a xs)
  unfolding placed
  placed_swapped a b [] differ = by (before a b) (before b a) refl refl
    where
      by : (p q : Bool)
          → before a b ≡ p
          → before b a ≡ q
          → cond p (a ∷ b ∷ []) (b ∷ a ∷ []) ≡ cond q (b ∷ a ∷ []) (a ∷ b ∷ [])
      by true true e f = absurd (true≢false (sym f ∙ before_back a b e))
      by true false e f = refl
      by false true e f = refl
      by false false e f = absurd (true≢false (sym (before_or_after a b differ e) ∙ f))
  placed_swapped a b (x ∷ xs) differ =
      by (before a x) (before b x) (before a b) (before b a) refl refl refl refl
      (placed_swapped a b xs differ)
    where
      by : (p q u v : Bool)
          → before a x ≡ p
          → before b x ≡ q
          → before a b ≡ u
          → before b a ≡ v
          → placed key a (placed key b xs) ≡ placed key b (placed key a xs)
          → placed key a (cond q (b ∷ x ∷ xs) (x ∷ placed key b xs))
          ≡ placed key b (cond p (a ∷ x ∷ xs) (x ∷ placed key a xs))
      by p q true true ep eq eu ev more = absurd (true≢false (sym ev ∙ before_back a b eu))
      by p q false false ep eq eu ev more =
          absurd (true≢false (sym (before_or_after a b differ eu) ∙ ev))
      by true true true false ep eq eu ev more = rw (eu, ev, eq) refl
      by true true false true ep eq eu ev more = rw (eu, ep, ev) refl
      by true false true false ep eq eu ev more = rw (ep, ev, eq) refl
      by true false false true ep eq eu ev more =
          absurd (true≢false (sym (before_trans b a x ev ep) ∙ eq))
      by false true true false ep eq eu ev more =
          absurd (true≢false (sym (before_trans a b x eu eq) ∙ ep))
      by false true false true ep eq eu ev more = rw (eu, ep, eq) refl
      by false false u v ep eq eu ev more = rw (ep, eq) (ap (λ rest. x ∷ rest) more)

  -- a record in the middle of records is placed as one more
  pub in_order_middle : (xs : List Record) (r : Record) (ys : List Record)
      → AllByRecursion (DifferFrom r) xs
      → in_order_of key (xs ++ r ∷ ys) ≡ placed key r (in_order_of key (xs ++ ys))
  unfolding in_order_of
  in_order_middle [] r ys differ = refl
  in_order_middle (x ∷ xs) r ys differ =
      ap (λ rest. placed key x rest) (in_order_middle xs r ys differ.1)
      ∙ placed_swapped x r (in_order_of key (xs ++ ys)) (λ same. differ.0 (sym same))

  -- ---- what a filter leaves

  filter_placed : (p : Record → Bool) (r : Record) (xs : List Record)
      → IsOrdered xs
      → p r ≡ true
      → filter p (placed key r xs) ≡ placed key r (filter p xs)
  unfolding placed
  filter_placed p r [] up passes = rw passes refl
  filter_placed p r (x ∷ xs) up passes =
      by (before r x) (p x) refl refl (filter_placed p r xs up.1 passes)
    where
      all_after : before r x ≡ true → AllByRecursion (λ y. before r y ≡ true) (filter p (x ∷ xs))
      all_after e = each_filter (λ y. before r y ≡ true) p (x ∷ xs) (e, behind_all r x xs e up.0)

      by : (b t : Bool)
          → before r x ≡ b
          → p x ≡ t
          → filter p (placed key r xs) ≡ placed key r (filter p xs)
          → filter p (cond b (r ∷ x ∷ xs) (x ∷ placed key r xs))
          ≡ placed key r (cond t (x ∷ filter p xs) (filter p xs))
      by true t e f more =
          rw passes (ap (λ rest. r ∷ rest) (rw f refl)
          ∙ sym (placed_first r (cond t (x ∷ filter p xs) (filter p xs))
          (subst (λ b.
          AllByRecursion (λ y. before r y ≡ true)
          (cond b (x ∷ filter p xs) (filter p xs))) f (all_after e))))
      by false true e f more = rw (f, e) (ap (λ rest. x ∷ rest) more)
      by false false e f more = rw f more

  filter_dropped : (p : Record → Bool) (r : Record) (xs : List Record)
      → p r ≡ false
      → filter p (placed key r xs) ≡ filter p xs
  unfolding placed
  filter_dropped p r [] fails = rw fails refl
  filter_dropped p r (x ∷ xs) fails = by (before r x) (filter_dropped p r xs fails)
    where
      by : (b : Bool)
          → filter p (placed key r xs) ≡ filter p xs
          → filter p (cond b (r ∷ x ∷ xs) (x ∷ placed key r xs)) ≡ filter p (x ∷ xs)
      by true more = rw fails refl
      by false more = ap (λ rest. cond (p x) (x ∷ rest) rest) more

  -- those that pass a test of records in order are those of the records, in order
  pub filter_in_order : (p : Record → Bool) (rs : List Record)
      → PairsByRecursion DifferFrom rs
      → filter p (in_order_of key rs) ≡ in_order_of key (filter p rs)
  unfolding in_order_of
  filter_in_order p [] differ = refl
  filter_in_order p (r ∷ rs) differ = by (p r) refl (filter_in_order p rs differ.1)
    where
      by : (t : Bool)
          → p r ≡ t
          → filter p (in_order_of key rs) ≡ in_order_of key (filter p rs)
          → filter p (placed key r (in_order_of key rs))
          ≡ in_order_of key (cond t (r ∷ filter p rs) (filter p rs))
      by true e more =
          filter_placed p r (in_order_of key rs) (in_order-IsOrdered rs differ.1) e
          ∙ ap (λ xs. placed key r xs) more
      by false e more = filter_dropped p r (in_order_of key rs) e ∙ more
