-- Lists of records of which one is made anew, taken out or put at the end: what is in order, what
-- is live, and what they weigh.
use Rattle.std.proofs.Common.{
  ◌≡◌,
  ℕ,
  ◌+◌,
  ◌<◌,
  ◌==◌,
  ◌&&◌,
  ◌||◌,
  nat_lt,
  Bool,
  true,
  false,
  not,
  cond,
  List,
  [],
  ◌∷◌,
  ◌++◌,
  map,
  filter,
  length,
  sum_by,
  Some,
  refl,
  sym,
  ap,
  ◌∙◌,
  subst,
  append-nil,
  arith,
  eqb-true,
  ne_eqb,
}
use Rattle.std.specs.List.{AllByRecursion}
use Rattle.std.proofs.lemmas.Bool.{true≢false}
use Rattle.std.proofs.lemmas.Bool.Decides.{nat_tests}
use Rattle.std.proofs.lemmas.List.Sums.{sum_by-cons}
use Rattle.rd_base.specs.declared.records.Record.{Record}
use Rattle.rd_base.proofs.lemmas.Each.{each_weaker}
use Rattle.rd_base.proofs.lemmas.Filters.{filter_all}
use Rattle.rd_base.proofs.lemmas.Pairs.{PairsByRecursion}
use Rattle.history_model.specs.Replay.{is_numbered, numbered, with_changed}
use Rattle.history_model.proofs.NumberLaws.{IsBelow}
use Rattle.directory_core.specs.AfterEntries.{renewed, without}
use Rattle.directory_core.specs.LapseOrder.{stands_before, placed, in_order_of}
use Rattle.directory_core.specs.NumberOrder.{with_record}
use Rattle.directory_core.proofs.InOrderLaws.{
  DifferFrom,
  placed_swapped,
  in_order_middle,
  each_in_order,
}

-- ---- the record of a number

not_here : (number : ℕ) (r : Record) → is_numbered number r ≡ false → r.number ≡ number → ⊥
not_here number r e same =
    true≢false
    (sym (let again : (r.number == number) ≡ true = grind (arith, nat_tests) in again) ∙ e)

-- where one record has the number, those behind it have not
pub others_behind : (number : ℕ) (r : Record) (rs : List Record)
    → r.number ≡ number
    → AllByRecursion (IsBelow r) rs
    → AllByRecursion (λ x. is_numbered number x ≡ false) rs
others_behind number r rs here below =
    each_weaker (IsBelow r) (λ x. is_numbered number x ≡ false)
    (λ x low.
    ne_eqb x.number number (λ same. let lower : r.number < x.number = low in omega arith))
    rs below

-- the record of a number is the only one of it
pub only_one : (number : ℕ) (r : Record) (rs : List Record)
    → PairsByRecursion IsBelow rs
    → numbered number rs ≡ Some r
    → AllByRecursion (λ x. x.number ≡ number → x ≡ r) rs
only_one number r [] up found = tt
only_one number r (x ∷ xs) up found =
    by (is_numbered number x) refl found (only_one number r xs up.1)
  where
    by : (b : Bool)
        → is_numbered number x ≡ b
        → cond b (Some x) (numbered number xs) ≡ Some r
        → (numbered number xs ≡ Some r → AllByRecursion (λ y. y.number ≡ number → y ≡ r) xs)
        → (x.number ≡ number → x ≡ r) × AllByRecursion (λ y. y.number ≡ number → y ≡ r) xs
    by true e f more =
        let same : x ≡ r = cc in (
          λ _. same,
          each_weaker (λ y. is_numbered number y ≡ false) (λ y. y.number ≡ number → y ≡ r)
              (λ y other here. absurd (not_here number y other here)) xs
              (others_behind number x xs (eqb-true x.number number e) up.0),
        )
    by false e f more = (λ here. absurd (not_here number x e here), more f)

pub its_number : (number : ℕ) (r : Record) (rs : List Record)
    → numbered number rs ≡ Some r
    → r.number ≡ number
its_number number r [] found = absurd cc
its_number number r (x ∷ xs) found = by (is_numbered number x) refl found (its_number number r xs)
  where
    by : (b : Bool)
        → is_numbered number x ≡ b
        → cond b (Some x) (numbered number xs) ≡ Some r
        → (numbered number xs ≡ Some r → r.number ≡ number)
        → r.number ≡ number
    by true e f more =
        let same : x ≡ r = cc in
        ap (λ (y : Record). y.number) (sym same) ∙ eqb-true x.number number e
    by false e f more = more f

-- what is known of each record, is known of the one of a number
pub known_of : (P : Record → Type 0) (number : ℕ) (r : Record) (rs : List Record)
    → AllByRecursion P rs
    → numbered number rs ≡ Some r
    → P r
known_of P number r [] all found = absurd cc
known_of P number r (x ∷ xs) all found =
    by (is_numbered number x) found (known_of P number r xs all.1)
  where
    by : (b : Bool)
        → cond b (Some x) (numbered number xs) ≡ Some r
        → (numbered number xs ≡ Some r → P r)
        → P r
    by true f more = let same : x ≡ r = cc in subst P same all.0
    by false f more = more f

-- no record has a number that is above all
pub none_numbered : (number : ℕ) (rs : List Record)
    → AllByRecursion (λ x. is_numbered number x ≡ false) rs
    → without number rs ≡ rs
none_numbered number rs all =
    filter_all (λ r. not (is_numbered number r)) rs
    (each_weaker (λ x. is_numbered number x ≡ false) (λ x. not (is_numbered number x) ≡ true)
    (λ x e. ap not e) rs all)

pub unchanged : (number : ℕ) (new : Record → Record) (rs : List Record)
    → AllByRecursion (λ x. is_numbered number x ≡ false) rs
    → with_changed number new rs ≡ rs
unchanged number new [] all = refl
unchanged number new (x ∷ xs) all =
    let here = all.0 in let more = unchanged number new xs all.1 in rw (here, more) refl

-- ---- what is made anew

-- where the record of the number is known, what is made of it is
pub changed_known : (number : ℕ) (new : Record → Record) (r : Record) (rs : List Record)
    → AllByRecursion (λ x. x.number ≡ number → x ≡ r) rs
    → with_changed number new rs ≡ with_changed number (λ _. new r) rs
changed_known number new r [] only = refl
changed_known number new r (x ∷ xs) only =
    by (is_numbered number x) refl (changed_known number new r xs only.1)
  where
    by : (b : Bool)
        → is_numbered number x ≡ b
        → with_changed number new xs ≡ with_changed number (λ _. new r) xs
        → cond b (new x) x ∷ with_changed number new xs
        ≡ cond b (new r) x ∷ with_changed number (λ _. new r) xs
    by true e more =
        let same = only.0 (eqb-true x.number number e) in
        ap (λ y. new y ∷ with_changed number new xs) same ∙ ap (λ rest. new r ∷ rest) more
    by false e more = ap (λ rest. x ∷ rest) more

-- a record that is put in place of that of its number
pub with_record-renewed : (r old : Record) (rs : List Record)
    → PairsByRecursion IsBelow rs
    → numbered r.number rs ≡ Some old
    → with_record r rs ≡ renewed r rs
unfolding with_record
with_record-renewed r old [] up found = absurd cc
with_record-renewed r old (x ∷ xs) up found =
    by (is_numbered r.number x) refl found (with_record-renewed r old xs up.1)
  where
    by : (b : Bool)
        → is_numbered r.number x ≡ b
        → cond b (Some x) (numbered r.number xs) ≡ Some old
        → (numbered r.number xs ≡ Some old → with_record r xs ≡ renewed r xs)
        → cond (nat_lt r.number x.number) (r ∷ x ∷ xs)
        (cond (r.number == x.number) (r ∷ xs) (x ∷ with_record r xs))
        ≡ cond b r x ∷ renewed r xs
    by true e f more =
        let here : x.number ≡ r.number = eqb-true x.number r.number e in
        let low : nat_lt r.number x.number ≡ false = grind (arith, nat_tests) in
        let same : (r.number == x.number) ≡ true = grind (arith, nat_tests) in
        rw (low, same) (ap (λ rest. r ∷ rest)
        (sym (unchanged r.number (λ _. r) xs (others_behind r.number x xs here up.0))))
    by false e f more =
        let behind : x.number < r.number = known_number xs up.0 f in
        let low : nat_lt r.number x.number ≡ false = grind (arith, nat_tests) in
        let other : (r.number == x.number) ≡ false =
        ne_eqb r.number x.number (λ same. omega arith) in
        rw (low, other) (ap (λ rest. x ∷ rest) (more f))
      where
        known_number : (ys : List Record)
            → AllByRecursion (IsBelow x) ys
            → numbered r.number ys ≡ Some old
            → x.number < r.number
        known_number ys below found =
            let high : x.number < old.number = known_of (IsBelow x) r.number old ys below found in
            let same = its_number r.number old ys found in omega arith

-- a record that is put behind all
pub with_record-last : (r : Record) (rs : List Record)
    → AllByRecursion (λ x. x.number < r.number) rs
    → with_record r rs ≡ rs ++ r ∷ []
unfolding with_record
with_record-last r [] below = refl
with_record-last r (x ∷ xs) below =
    let under = below.0 in
    let low : nat_lt r.number x.number ≡ false = grind (arith, nat_tests) in
    let other : (r.number == x.number) ≡ false = ne_eqb r.number x.number (λ same. omega arith) in
    rw (low, other) (ap (λ rest. x ∷ rest) (with_record-last r xs below.1))

-- ---- in order

same_before : (a c m o b d n p : ℕ)
    → a ≡ c
    → m ≡ o
    → b ≡ d
    → n ≡ p
    → (nat_lt a b || ((a == b) && nat_lt m n)) ≡ (nat_lt c d || ((c == d) && nat_lt o p))
same_before a c m o b d n p e f g h = cc

module _ (key : Record → ℕ) where
  -- a record made anew is placed anew
  pub order_renewed : (r old : Record) (rs : List Record)
      → PairsByRecursion IsBelow rs
      → numbered r.number rs ≡ Some old
      → in_order_of key (renewed r rs) ≡ placed key r (in_order_of key (without r.number rs))
  unfolding in_order_of
  order_renewed r old [] up found = absurd cc
  order_renewed r old (x ∷ xs) up found =
      by (is_numbered r.number x) refl found (order_renewed r old xs up.1)
    where
      by : (b : Bool)
          → is_numbered r.number x ≡ b
          → cond b (Some x) (numbered r.number xs) ≡ Some old
          → (numbered r.number xs ≡ Some old
          → in_order_of key (renewed r xs)
          ≡ placed key r (in_order_of key (without r.number xs)))
          → placed key (cond b r x) (in_order_of key (renewed r xs))
          ≡ placed key r
          (in_order_of key (cond (not b) (x ∷ without r.number xs) (without r.number xs)))
      by true e f more =
          let others = others_behind r.number x xs (eqb-true x.number r.number e) up.0 in
          ap (λ ys. placed key r (in_order_of key ys))
          (unchanged r.number (λ _. r) xs others ∙ sym (none_numbered r.number xs others))
      by false e f more =
          ap (λ ys. placed key x ys) (more f)
          ∙ placed_swapped key x r (in_order_of key (without r.number xs))
          (λ same. not_here r.number x e same)

  -- what keeps its number and its place stays where it is
  pub order_kept : (f : Record → Record) (rs : List Record)
      → AllByRecursion (λ r. (key (f r) ≡ key r) × ((f r).number ≡ r.number)) rs
      → in_order_of key (map f rs) ≡ map f (in_order_of key rs)
  unfolding in_order_of placed
  order_kept f [] kept = refl
  order_kept f (r ∷ rs) kept =
      ap (λ ys. placed key (f r) ys) (order_kept f rs kept.1)
      ∙ placed_kept r (in_order_of key rs) kept.0
      (each_in_order key (λ r. (key (f r) ≡ key r) × ((f r).number ≡ r.number)) rs kept.1)
    where
      placed_kept : (r : Record) (xs : List Record)
          → (key (f r) ≡ key r) × ((f r).number ≡ r.number)
          → AllByRecursion (λ r. (key (f r) ≡ key r) × ((f r).number ≡ r.number)) xs
          → placed key (f r) (map f xs) ≡ map f (placed key r xs)
      placed_kept r [] one all = refl
      placed_kept r (x ∷ xs) one all =
          by (stands_before key (f r) (f x)) (stands_before key r x)
          (same_before (key (f r)) (key r) (f r).number r.number (key (f x)) (key x)
          (f x).number x.number one.0 one.1 all.0.0 all.0.1) (placed_kept r xs one all.1)
        where
          by : (a b : Bool)
              → a ≡ b
              → placed key (f r) (map f xs) ≡ map f (placed key r xs)
              → cond a (f r ∷ f x ∷ map f xs) (f x ∷ placed key (f r) (map f xs))
              ≡ map f (cond b (r ∷ x ∷ xs) (x ∷ placed key r xs))
          by true true e more = refl
          by true false e more = absurd (true≢false e)
          by false true e more = absurd (true≢false (sym e))
          by false false e more = ap (λ rest. f x ∷ rest) more

  -- a record behind all is placed
  pub order_last : (rs : List Record) (r : Record)
      → AllByRecursion (DifferFrom r) rs
      → in_order_of key (rs ++ r ∷ []) ≡ placed key r (in_order_of key rs)
  order_last rs r differ =
      in_order_middle key rs r [] differ
      ∙ ap (λ ys. placed key r (in_order_of key ys)) (append-nil rs)

-- ---- what passes a test

pub filter_map_kept : (p : Record → Bool) (f : Record → Record) (rs : List Record)
    → AllByRecursion (λ r. p (f r) ≡ p r) rs
    → filter p (map f rs) ≡ map f (filter p rs)
filter_map_kept p f [] same = refl
filter_map_kept p f (r ∷ rs) same =
    let here = same.0 in rw here (by (p r) (filter_map_kept p f rs same.1))
  where
    by : (b : Bool)
        → filter p (map f rs) ≡ map f (filter p rs)
        → cond b (f r ∷ filter p (map f rs)) (filter p (map f rs))
        ≡ map f (cond b (r ∷ filter p rs) (filter p rs))
    by true more = ap (λ rest. f r ∷ rest) more
    by false more = more

-- the record of a number is among those that pass a test, where it passes
pub numbered-filter : (p : Record → Bool) (number : ℕ) (r : Record) (rs : List Record)
    → numbered number rs ≡ Some r
    → p r ≡ true
    → numbered number (filter p rs) ≡ Some r
numbered-filter p number r [] found passes = found
numbered-filter p number r (x ∷ xs) found passes =
    by (is_numbered number x) (p x) refl refl found (numbered-filter p number r xs)
  where
    by : (b t : Bool)
        → is_numbered number x ≡ b
        → p x ≡ t
        → cond b (Some x) (numbered number xs) ≡ Some r
        → (numbered number xs ≡ Some r → p r ≡ true → numbered number (filter p xs) ≡ Some r)
        → numbered number (cond t (x ∷ filter p xs) (filter p xs)) ≡ Some r
    by true true e g f more = rw e f
    by true false e g f more =
        let same : x ≡ r = cc in absurd (true≢false (sym passes ∙ sym (ap p same) ∙ g))
    by false true e g f more = rw e (more f passes)
    by false false e g f more = more f passes

-- and only there
pub filter-numbered : (p : Record → Bool) (number : ℕ) (r : Record) (rs : List Record)
    → PairsByRecursion IsBelow rs
    → numbered number (filter p rs) ≡ Some r
    → (numbered number rs ≡ Some r) × (p r ≡ true)
filter-numbered p number r [] up found = absurd cc
filter-numbered p number r (x ∷ xs) up found =
    by (is_numbered number x) (p x) refl refl found (filter-numbered p number r xs up.1)
  where
    none : (ys : List Record)
        → AllByRecursion (λ y. is_numbered number y ≡ false) ys
        → numbered number (filter p ys) ≡ Some r
        → ⊥
    none [] all f = cc
    none (y ∷ ys) all f = step (p y) f (none ys all.1)
      where
        step : (t : Bool)
            → numbered number (cond t (y ∷ filter p ys) (filter p ys)) ≡ Some r
            → (numbered number (filter p ys) ≡ Some r → ⊥)
            → ⊥
        step true f more = more (let here = all.0 in let rest = rw here at f in rest)
        step false f more = more f

    by : (b t : Bool)
        → is_numbered number x ≡ b
        → p x ≡ t
        → numbered number (cond t (x ∷ filter p xs) (filter p xs)) ≡ Some r
        → (numbered number (filter p xs) ≡ Some r → (numbered number xs ≡ Some r) × (p r ≡ true))
        → (cond b (Some x) (numbered number xs) ≡ Some r) × (p r ≡ true)
    by true true e g f more =
        let here : Some x ≡ Some r = let h = rw e at f in h in
        let same : x ≡ r = cc in (here, subst (λ y. p y ≡ true) same g)
    by true false e g f more =
        absurd (none xs (others_behind number x xs (eqb-true x.number number e) up.0) f)
    by false true e g f more = more (let h = rw e at f in h)
    by false false e g f more = more f

-- ---- sums

pub sum_renewed : (f : Record → ℕ) (r old : Record) (rs : List Record)
    → PairsByRecursion IsBelow rs
    → numbered r.number rs ≡ Some old
    → sum_by f (renewed r rs) + f old ≡ sum_by f rs + f r
sum_renewed f r old [] up found = absurd cc
sum_renewed f r old (x ∷ xs) up found =
    by (is_numbered r.number x) refl found (sum_renewed f r old xs up.1)
  where
    by : (b : Bool)
        → is_numbered r.number x ≡ b
        → cond b (Some x) (numbered r.number xs) ≡ Some old
        → (numbered r.number xs ≡ Some old → sum_by f (renewed r xs) + f old ≡ sum_by f xs + f r)
        → sum_by f (cond b r x ∷ renewed r xs) + f old ≡ sum_by f (x ∷ xs) + f r
    by true e g more =
        let same : x ≡ old = cc in
        let others =
        unchanged r.number (λ _. r) xs
        (others_behind r.number x xs (eqb-true x.number r.number e) up.0) in
        let one = sum_by-cons f r (renewed r xs) in
        let two = sum_by-cons f x xs in
        let three = ap (sum_by f) others in
        let four = ap f same in
        omega (arith, one, two, three, four)
    by false e g more =
        let one = sum_by-cons f x (renewed r xs) in
        let two = sum_by-cons f x xs in
        let three = more g in
        omega (arith, one, two, three)

pub sum_without : (f : Record → ℕ) (number : ℕ) (old : Record) (rs : List Record)
    → PairsByRecursion IsBelow rs
    → numbered number rs ≡ Some old
    → sum_by f (without number rs) + f old ≡ sum_by f rs
sum_without f number old [] up found = absurd cc
sum_without f number old (x ∷ xs) up found =
    by (is_numbered number x) refl found (sum_without f number old xs up.1)
  where
    by : (b : Bool)
        → is_numbered number x ≡ b
        → cond b (Some x) (numbered number xs) ≡ Some old
        → (numbered number xs ≡ Some old → sum_by f (without number xs) + f old ≡ sum_by f xs)
        → sum_by f (cond (not b) (x ∷ without number xs) (without number xs)) + f old
        ≡ sum_by f (x ∷ xs)
    by true e g more =
        let same : x ≡ old = cc in
        let others =
        none_numbered number xs (others_behind number x xs (eqb-true x.number number e) up.0) in
        let two = sum_by-cons f x xs in
        let three = ap (sum_by f) others in
        let four = ap f same in
        omega (arith, two, three, four)
    by false e g more =
        let one = sum_by-cons f x (without number xs) in
        let two = sum_by-cons f x xs in
        let three = more g in
        omega (arith, one, two, three)

pub length_without : (number : ℕ) (old : Record) (rs : List Record)
    → PairsByRecursion IsBelow rs
    → numbered number rs ≡ Some old
    → length (without number rs) + 1 ≡ length rs
length_without number old [] up found = absurd cc
length_without number old (x ∷ xs) up found =
    by (is_numbered number x) refl found (length_without number old xs up.1)
  where
    by : (b : Bool)
        → is_numbered number x ≡ b
        → cond b (Some x) (numbered number xs) ≡ Some old
        → (numbered number xs ≡ Some old → length (without number xs) + 1 ≡ length xs)
        → length (cond (not b) (x ∷ without number xs) (without number xs)) + 1 ≡ length (x ∷ xs)
    by true e g more =
        let three =
        ap length
        (none_numbered number xs (others_behind number x xs (eqb-true x.number number e)
        up.0)) in
        omega (arith, three)
    by false e g more = let three = more g in omega (arith, three)
