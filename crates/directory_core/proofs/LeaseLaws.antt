-- The leases of records: where one is put and taken, and what has lapsed of them.
use Rattle.std.proofs.Common.{
  ◌≡◌,
  ℕ,
  ◌==◌,
  ◌&&◌,
  nat_lt,
  nat_le,
  Bool,
  true,
  false,
  not,
  cond,
  List,
  [],
  ◌∷◌,
  map,
  filter,
  refl,
  ap,
  ◌∙◌,
  arith,
  eqb-true,
}
use Rattle.std.specs.List.{AllByRecursion}
use Rattle.std.proofs.lemmas.Bool.Decides.{nat_tests}
use Rattle.rd_base.specs.declared.records.Record.{Record}
use Rattle.rd_base.proofs.lemmas.Each.{each_weaker, each_map}
use Rattle.rd_base.proofs.lemmas.Filters.{filter_all, filter_none}
use Rattle.rd_base.proofs.lemmas.Pairs.{PairsByRecursion}
use Rattle.history_model.specs.Leases.{lapse, is_live_at, live_among}
use Rattle.history_model.specs.Replay.{is_numbered}
use Rattle.history_model.proofs.NumberLaws.{IsBelow}
use Rattle.lease_queue.specs.declared.leases.Lease.{Lease}
use Rattle.lease_queue.specs.Leases.{
  is_before,
  is_same,
  with_lease,
  without_lease,
  lapsed_at,
  unlapsed_at,
}
use Rattle.lease_queue.proofs.OrderLaws.{not_before_back, before_trans}
use Rattle.directory_core.specs.LapseOrder.{stands_before, placed, in_order_of_lapse}
use Rattle.directory_core.specs.Shown.{lease_of, leases_of}
use Rattle.directory_core.proofs.InOrderLaws.{
  DifferFrom,
  IsOrdered,
  filter_in_order,
  before_or_after,
}
use Rattle.directory_core.proofs.SlotLaws.{below_differ}

-- ---- tests that are equal

pub filter_same : {X : Type 0} (p q : X → Bool)
    → ((x : X) → p x ≡ q x)
    → (xs : List X)
    → filter p xs ≡ filter q xs
filter_same p q same [] = refl
filter_same p q same (x ∷ xs) =
    let here = same x in let more = filter_same p q same xs in rw (here, more) refl

pub live_unless_lapsed : (now : ℕ) (r : Record) → not (nat_le (lapse r) now) ≡ is_live_at now r
live_unless_lapsed now r = numbers (lapse r) now
  where
    numbers : (a b : ℕ) → not (nat_le a b) ≡ nat_lt b a
    numbers a b = grind (arith, nat_tests)

-- ---- what has lapsed

pub lapsed-leases : (now : ℕ) (xs : List Record)
    → lapsed_at now (map lease_of xs) ≡ map (λ r. r.number) (filter (λ r. nat_le (lapse r) now) xs)
unfolding lapsed_at
lapsed-leases now [] = refl
lapsed-leases now (x ∷ xs) = by (nat_le (lapse x) now) (lapsed-leases now xs)
  where
    by : (b : Bool)
        → map (λ (l : Lease). l.number) (filter (λ l. nat_le l.lapse.0 now) (map lease_of xs))
        ≡ map (λ r. r.number) (filter (λ r. nat_le (lapse r) now) xs)
        → map (λ (l : Lease). l.number)
        (cond b (lease_of x ∷ filter (λ l. nat_le l.lapse.0 now) (map lease_of xs))
        (filter (λ l. nat_le l.lapse.0 now) (map lease_of xs)))
        ≡ map (λ r. r.number) (cond b (x ∷ filter (λ r. nat_le (lapse r) now) xs)
        (filter (λ r. nat_le (lapse r) now) xs))
    by true more = ap (λ rest. x.number ∷ rest) more
    by false more = more

unlapsed-leases : (now : ℕ) (xs : List Record)
    → unlapsed_at now (map lease_of xs) ≡ map lease_of (filter (is_live_at now) xs)
unfolding unlapsed_at
unlapsed-leases now [] = refl
unlapsed-leases now (x ∷ xs) =
    let test = live_unless_lapsed now x in rw test (by (is_live_at now x) (unlapsed-leases now xs))
  where
    by : (b : Bool)
        → filter (λ l. not (nat_le l.lapse.0 now)) (map lease_of xs)
        ≡ map lease_of (filter (is_live_at now) xs)
        → cond b (lease_of x ∷ filter (λ l. not (nat_le l.lapse.0 now)) (map lease_of xs))
        (filter (λ l. not (nat_le l.lapse.0 now)) (map lease_of xs))
        ≡ map lease_of (cond b (x ∷ filter (is_live_at now) xs) (filter (is_live_at now) xs))
    by true more = ap (λ rest. lease_of x ∷ rest) more
    by false more = more

-- the leases that are left are those of the live records
pub unlapsed-leases_of : (now : ℕ) (rs : List Record)
    → PairsByRecursion IsBelow rs
    → unlapsed_at now (leases_of rs) ≡ leases_of (live_among now rs)
unlapsed-leases_of now rs up =
    unlapsed-leases now (in_order_of_lapse rs)
    ∙ ap (map lease_of) (filter_in_order lapse (is_live_at now) rs (below_differ rs up))

-- ---- a lease is put where its record is placed

with_all_later : (l : Lease) (queue : List Lease)
    → AllByRecursion (λ y. is_before l y ≡ true) queue
    → with_lease queue l ≡ l ∷ queue
unfolding with_lease
with_all_later l queue all =
    let none =
    filter_none (λ x. is_before x l) queue
    (each_weaker (λ y. is_before l y ≡ true) (λ y. is_before y l ≡ false) (λ y h.
    not_before_back l y h) queue all) in
    let every = filter_all (λ x. is_before l x) queue all in
    rw (none, every) refl

pub with_lease-placed : (r : Record) (xs : List Record)
    → AllByRecursion (DifferFrom r) xs
    → IsOrdered lapse xs
    → with_lease (map lease_of xs) (lease_of r) ≡ map lease_of (placed lapse r xs)
unfolding with_lease placed
with_lease-placed r [] differ up = refl
with_lease-placed r (x ∷ xs) differ up =
    by (stands_before lapse r x) refl (with_lease-placed r xs differ.1 up.1)
  where
    later_all : stands_before lapse r x ≡ true
        → AllByRecursion (λ y. is_before (lease_of r) y ≡ true) (map lease_of (x ∷ xs))
    later_all e = (
      e,
      each_map (λ l. is_before (lease_of r) l ≡ true) lease_of xs
          (each_weaker (λ y. stands_before lapse x y ≡ true)
          (λ y. is_before (lease_of r) (lease_of y) ≡ true)
          (λ y h. before_trans (lease_of r) (lease_of x) (lease_of y) e h) xs up.0),
    )

    by : (b : Bool)
        → stands_before lapse r x ≡ b
        → with_lease (map lease_of xs) (lease_of r) ≡ map lease_of (placed lapse r xs)
        → with_lease (lease_of x ∷ map lease_of xs) (lease_of r)
        ≡ map lease_of (cond b (r ∷ x ∷ xs) (x ∷ placed lapse r xs))
    by true e more = with_all_later (lease_of r) (map lease_of (x ∷ xs)) (later_all e)
    by false e more =
        let first : is_before (lease_of x) (lease_of r) ≡ true =
        before_or_after lapse r x differ.0 e in
        rw (first, e) (ap (λ rest. lease_of x ∷ rest) more)

-- ---- a lease is taken with the record of its number

pub without_lease-filter : (r : Record) (xs : List Record)
    → AllByRecursion (λ x. x.number ≡ r.number → x ≡ r) xs
    → without_lease (map lease_of xs) (lease_of r)
    ≡ map lease_of (filter (λ x. not (is_numbered r.number x)) xs)
unfolding without_lease
without_lease-filter r [] same = refl
without_lease-filter r (x ∷ xs) same =
    by (is_numbered r.number x) refl (without_lease-filter r xs same.1)
  where
    both : (a b m n : ℕ) → a ≡ b → (m == n) ≡ true → ((a == b) && (m == n)) ≡ true
    both a b m n p q = grind (arith, nat_tests)

    neither : (a b m n : ℕ) → (m == n) ≡ false → ((a == b) && (m == n)) ≡ false
    neither a b m n q = grind (arith, nat_tests)

    by : (n : Bool)
        → is_numbered r.number x ≡ n
        → without_lease (map lease_of xs) (lease_of r)
        ≡ map lease_of (filter (λ x. not (is_numbered r.number x)) xs)
        → cond (not (is_same (lease_of x) (lease_of r)))
        (lease_of x ∷ without_lease (map lease_of xs) (lease_of r))
        (without_lease (map lease_of xs) (lease_of r))
        ≡ map lease_of (cond (not n) (x ∷ filter (λ x. not (is_numbered r.number x)) xs)
        (filter (λ x. not (is_numbered r.number x)) xs))
    by true e more =
        let here : x ≡ r = same.0 (eqb-true x.number r.number e) in
        let test : is_same (lease_of x) (lease_of r) ≡ true =
        both (lapse x) (lapse r) x.number r.number (ap lapse here) e in
        rw test more
    by false e more =
        let test : is_same (lease_of x) (lease_of r) ≡ false =
        neither (lapse x) (lapse r) x.number r.number e in
        rw test (ap (λ rest. lease_of x ∷ rest) more)
