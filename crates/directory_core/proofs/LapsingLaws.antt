-- Which records lapse, by the numbers of the leases that have lapsed.
use Rattle.std.proofs.Common.{
  ◌≡◌,
  ℕ,
  nat_lt,
  nat_le,
  ◌&&◌,
  Bool,
  true,
  false,
  cond,
  List,
  [],
  ◌∷◌,
  map,
  filter,
  Some,
  None,
  refl,
  ap,
  ◌∙◌,
}
use Rattle.std.specs.List.{AllByRecursion, list_any}
use Rattle.rd_base.specs.declared.records.Record.{Record}
use Rattle.rd_base.proofs.lemmas.Each.{each_filter}
use Rattle.rd_base.proofs.lemmas.Pairs.{PairsByRecursion}
use Rattle.history_model.specs.Leases.{lapse, lapsing_among}
use Rattle.history_model.specs.Replay.{numbered}
use Rattle.history_model.proofs.NumberLaws.{IsBelow}
use Rattle.lease_queue.specs.Leases.{lapsed_at}
use Rattle.directory_core.specs.LapseOrder.{in_order_of_lapse}
use Rattle.directory_core.specs.Lapsing.{with_lapsing, lapsing_left}
use Rattle.directory_core.specs.Shown.{leases_of}
use Rattle.directory_core.proofs.InOrderLaws.{each_in_order, filter_in_order, any_in_order}
use Rattle.directory_core.proofs.SlotLaws.{below_differ, all_numbered}
use Rattle.directory_core.proofs.LeaseLaws.{lapsed-leases}

pub lapsing_none : (from : ℕ) (records : List Record) → lapsing_left from records [] ≡ []
unfolding lapsing_left
lapsing_none from records = refl

pub lapsing_first : (from : ℕ) (records : List Record) (n : ℕ) (numbers : List ℕ)
    → lapsing_left from records (n ∷ numbers)
    ≡ with_lapsing from (numbered n records) (lapsing_left from records numbers)
unfolding lapsing_left
lapsing_first from records n numbers = refl

-- of numbers of records that are found by them
lapsing_found : (from : ℕ) (records : List Record) (xs : List Record)
    → AllByRecursion (λ x. numbered x.number records ≡ Some x) xs
    → lapsing_left from records (map (λ r. r.number) xs) ≡ filter (λ r. nat_lt from (lapse r)) xs
unfolding lapsing_left
lapsing_found from records [] found = refl
lapsing_found from records (x ∷ xs) found =
    rw found.0 (ap (λ rest. cond (nat_lt from (lapse x)) (x ∷ rest) rest)
    (lapsing_found from records xs found.1))

pub filter_twice : (p q : Record → Bool) (xs : List Record)
    → filter p (filter q xs) ≡ filter (λ r. p r && q r) xs
filter_twice p q [] = refl
filter_twice p q (x ∷ xs) = by (p x) (q x) refl (filter_twice p q xs)
  where
    by : (a b : Bool)
        → p x ≡ a
        → filter p (filter q xs) ≡ filter (λ r. p r && q r) xs
        → filter p (cond b (x ∷ filter q xs) (filter q xs))
        ≡ cond (a && b) (x ∷ filter (λ r. p r && q r) xs) (filter (λ r. p r && q r) xs)
    by true true e more = rw e (ap (λ rest. x ∷ rest) more)
    by true false e more = more
    by false true e more = rw e more
    by false false e more = more

-- the records that lapse between two moments, by the leases
pub lapsing-leases : (from to : ℕ) (rs : List Record)
    → PairsByRecursion IsBelow rs
    → lapsing_left from rs (lapsed_at to (leases_of rs))
    ≡ in_order_of_lapse (lapsing_among from to rs)
lapsing-leases from to rs up =
    let ordered = in_order_of_lapse rs in
    ap (lapsing_left from rs) (lapsed-leases to ordered)
    ∙ lapsing_found from rs (filter (λ r. nat_le (lapse r) to) ordered)
    (each_filter (λ x. numbered x.number rs ≡ Some x) (λ r. nat_le (lapse r) to) ordered
    (each_in_order lapse (λ x. numbered x.number rs ≡ Some x) rs (all_numbered rs up)))
    ∙ filter_twice (λ r. nat_lt from (lapse r)) (λ r. nat_le (lapse r) to) ordered
    ∙ filter_in_order lapse (λ r. nat_lt from (lapse r) && nat_le (lapse r) to) rs
    (below_differ rs up)

-- a test is passed by one of the records in the order in which they lapse exactly where it is
-- passed by one of them An end theorem: nothing here cites it.
pub any_lapsing : (test : Record → Bool) (records : List Record)
    → list_any test (in_order_of_lapse records) ≡ list_any test records
any_lapsing test records = any_in_order lapse test records

-- the record of a number lapses later, or not, or is not there
pub lapses_here : (from : ℕ) (records : List Record) (n : ℕ) (numbers : List ℕ) (r : Record)
    → numbered n records ≡ Some r
    → nat_lt from (lapse r) ≡ true
    → lapsing_left from records (n ∷ numbers) ≡ r ∷ lapsing_left from records numbers
unfolding lapsing_left
lapses_here from records n numbers r found later = rw (found, later) refl

pub lapses_not : (from : ℕ) (records : List Record) (n : ℕ) (numbers : List ℕ) (r : Record)
    → numbered n records ≡ Some r
    → nat_lt from (lapse r) ≡ false
    → lapsing_left from records (n ∷ numbers) ≡ lapsing_left from records numbers
unfolding lapsing_left
lapses_not from records n numbers r found later = rw (found, later) refl

pub lapses_none : (from : ℕ) (records : List Record) (n : ℕ) (numbers : List ℕ)
    → numbered n records ≡ None
    → lapsing_left from records (n ∷ numbers) ≡ lapsing_left from records numbers
unfolding lapsing_left
lapses_none from records n numbers found = rw found refl
