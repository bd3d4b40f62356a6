-- Cursors that go on by turns: how many steps were counted, by how many numbers each gave.
use Rattle.std.proofs.Common.{
  ◌≡◌,
  ℕ,
  zero,
  suc,
  ◌+◌,
  ◌*◌,
  ◌<◌,
  ◌≤◌,
  ◌||◌,
  Bool,
  true,
  false,
  cond,
  eqb,
  List,
  [],
  ◌∷◌,
  map,
  length,
  set,
  get_or,
  slice_index,
  sum_by,
  length-set,
  add-one,
  eqb-true,
  refl,
  sym,
  ap,
  ◌∙◌,
  subst,
  ◌⊎◌,
  inl,
  inr,
  arith,
  length-append,
  Contains,
}
use Rattle.std.proofs.lemmas.List.{length-map}
use Rattle.std.specs.List.{AllByRecursion, list_any, dedup, dedup_from}
use Rattle.std.specs.List.Sorted.{IsStrictlyIncreasing}
use Rattle.std.proofs.lemmas.List.Kept.{AllPairs-from_increasing}
use Rattle.std.proofs.lemmas.List.Elements.{recursion_from_All}
use Rattle.rd_base.specs.declared.queries.Criterion.{Criterion}
use Rattle.rd_base.proofs.lemmas.Contains.{
  contains_cases,
  contains_first,
  contains_later,
  contains_none,
}
use Rattle.rd_base.proofs.lemmas.Pairs.{PairsByRecursion}
use Rattle.attribute_index.specs.Entries.{Entry, carriers_of, has_number}
use Rattle.directory_core.specs.Bounds.{attribute_criteria}
use Rattle.directory_core.specs.Races.{AreNumbersOf, Run, run_of, runs_of, whole}

-- ---- steps

-- so many steps were counted after a start, where the cursors before a place had their turn and the
-- others have not
unfoldable pub IsFair : (start steps many at : ℕ) → ℕ → List Run → Type 0
IsFair start steps many at zero runs =
    AllByRecursion (λ run. steps ≤ start + many * length run.given + at) runs
IsFair start steps many at (suc place) [] = Unit {0}
IsFair start steps many at (suc place) (run ∷ runs) =
    (steps + many ≤ start + many * length run.given + at) × IsFair start steps many at place runs

one_more : (many given more : ℕ) → more ≡ given + 1 → many * more ≡ many * given + many
one_more many given more e = rw e (omega arith)

-- at the start
pub fair_start : (start many : ℕ) (runs : List Run) → IsFair start start many 0 0 runs
unfolding IsFair
fair_start start many [] = tt
fair_start start many (run ∷ runs) = (omega arith, fair_start start many runs)

waiting : (start steps many at : ℕ) (runs : List Run)
    → AllByRecursion (λ run. steps ≤ start + many * length run.given + at) runs
    → AllByRecursion (λ run. steps + 1 ≤ start + many * length run.given + (at + 1)) runs
waiting start steps many at [] fair = tt
waiting start steps many at (run ∷ runs) fair =
    (let low = fair.0 in omega (arith, low), waiting start steps many at runs fair.1)

-- after a turn
pub fair_turned : (start steps many at place : ℕ) (runs : List Run) (old d run : Run)
    → place < length runs
    → old ≡ get_or runs place d
    → length run.given ≡ length old.given + 1
    → IsFair start steps many at place runs
    → IsFair start (steps + 1) many (at + 1) (suc place) (set runs place run)
unfolding IsFair
fair_turned start steps many at place [] old d run within is grown fair = absurd (omega arith)
fair_turned start steps many at zero (first ∷ runs) old d run within is grown fair =
    let more =
    one_more many (length first.given) (length run.given)
    (grown ∙ ap (λ (r : Run). length r.given + 1) is) in
    let low = fair.0 in
    (omega (arith, more, low), waiting start steps many at runs fair.1)
fair_turned start steps many at (suc place) (first ∷ runs) old d run within is grown fair =
    let low = fair.0 in (
      omega (arith, low),
      fair_turned start steps many at place runs old d run (omega arith) is grown
          fair.1,
    )

-- after the last turn of a round
pub fair_again : (start steps many place : ℕ) (runs : List Run)
    → length runs ≤ place
    → IsFair start steps many many place runs
    → IsFair start steps many 0 0 runs
unfolding IsFair
fair_again start steps many place [] within fair = tt
fair_again start steps many zero (run ∷ runs) within fair = absurd (omega arith)
fair_again start steps many (suc place) (run ∷ runs) within fair = (
  let low = fair.0 in omega (arith, low),
  fair_again start steps many place runs (omega arith)
      fair.1,
)

-- so no more were counted, with one more turn, than so many for each number of a cursor and for its
-- end
few : (start steps many at given left all : ℕ)
    → at < many
    → steps ≤ start + many * given + at
    → all ≡ given + left
    → steps + 1 ≤ start + many * (all + 1)
few start steps many at given left all below low split = rw split (omega (arith, low))

pub few_steps : (start steps many at place : ℕ) (runs : List Run)
    → at < many
    → IsFair start steps many at place runs
    → AllByRecursion (λ numbers. steps + 1 ≤ start + many * (length numbers + 1)) (map whole runs)
unfolding IsFair
few_steps start steps many at place [] below fair = tt
few_steps start steps many at zero (run ∷ runs) below fair = (
  few start steps many at (length run.given) (length run.left) (length (whole run)) below fair.0
      (length-append run.given run.left),
  few_steps start steps many at zero runs below fair.1,
)
few_steps start steps many at (suc place) (run ∷ runs) below fair =
    let low = fair.0 in (
      few start steps many at (length run.given) (length run.left) (length (whole run)) below
          (omega (arith, low)) (length-append run.given run.left),
      few_steps start steps many at place
          runs below fair.1,
    )

-- the same of what the code knows: after a turn that gave a number, after the last one of a round,
-- and after one that ends the race
pub turned : (start steps after many at : ℕ) (runs : List Run) (old d run : Run)
    → at < length runs
    → after ≡ steps + 1
    → old ≡ get_or runs at d
    → length run.given ≡ length old.given + 1
    → IsFair start steps many at at runs
    → IsFair start after many (at + 1) (at + 1) (set runs at run)
turned start steps after many at runs old d run within one is grown fair =
    subst (λ place. IsFair start after many (at + 1) place (set runs at run)) (sym (add-one at))
    (subst (λ s. IsFair start s many (at + 1) (suc at) (set runs at run)) (sym one)
    (fair_turned start steps many at at runs old d run within is grown fair))

pub round : (start steps after many at : ℕ) (runs : List Run) (old d run : Run)
    → at < length runs
    → length runs ≡ many
    → at + 1 ≡ many
    → after ≡ steps + 1
    → old ≡ get_or runs at d
    → length run.given ≡ length old.given + 1
    → IsFair start steps many at at runs → IsFair start after many 0 0 (set runs at run)
round start steps after many at runs old d run within all last one is grown fair =
    let size = length-set runs at run in
    fair_again start after many many (set runs at run) (omega (arith, size, all))
    (subst (λ m. IsFair start after many m m (set runs at run)) last
    (turned start steps after many at runs old d run within one is grown fair))

pub raced : (start steps after many at : ℕ) (runs first : List Run)
    → at < length runs
    → length runs ≡ many
    → after ≡ steps + 1
    → map whole runs ≡ map whole first
    → IsFair start steps many at at runs
    → AllByRecursion (λ numbers. after ≤ start + many * (length numbers + 1)) (map whole first)
raced start steps after many at runs first within all one same fair =
    subst (AllByRecursion (λ numbers. after ≤ start + many * (length numbers + 1))) same
    (subst
    (λ s. AllByRecursion (λ numbers. s ≤ start + many * (length numbers + 1)) (map whole runs))
    (sym one) (few_steps start steps many at at runs (omega (arith, within, all)) fair))

-- how many numbers are left altogether
abbrev pub left_of : List Run → ℕ
left_of runs = sum_by (λ run. length run.left) runs

-- a turn leaves all numbers of each cursor as they were
pub same_wholes : (runs : List Run) (place : ℕ) (old d run : Run)
    → place < length runs
    → old ≡ get_or runs place d
    → whole run ≡ whole old
    → map whole (set runs place run) ≡ map whole runs
same_wholes [] place old d run within is same = absurd (omega arith)
same_wholes (first ∷ runs) zero old d run within is same =
    ap (λ numbers. numbers ∷ map whole runs) (same ∙ ap whole is)
same_wholes (first ∷ runs) (suc place) old d run within is same =
    ap (λ rest. whole first ∷ rest) (same_wholes runs place old d run (omega arith) is same)

-- ---- numbers, sorted and each once

any_dedup_from : (test : ℕ → Bool) (k : ℕ) (ns : List ℕ)
    → list_any test (dedup_from eqb k ns) ≡ (test k || list_any test ns)
any_dedup_from test k [] = refl
any_dedup_from test k (n ∷ ns) =
    by (eqb n k) refl (any_dedup_from test k ns) (any_dedup_from test n ns)
  where
    or_again : (a b : Bool) → (a || b) ≡ (a || (a || b))
    or_again true b = refl
    or_again false b = refl

    by : (b : Bool)
        → eqb n k ≡ b
        → list_any test (dedup_from eqb k ns) ≡ (test k || list_any test ns)
        → list_any test (dedup_from eqb n ns) ≡ (test n || list_any test ns)
        → list_any test (cond b (dedup_from eqb k ns) (k ∷ dedup_from eqb n ns))
        ≡ (test k || (test n || list_any test ns))
    by true e same other =
        let one : n ≡ k = eqb-true n k e in
        same
        ∙ or_again (test k) (list_any test ns)
        ∙ ap (λ m. test k || (test m || list_any test ns)) (sym one)
    by false e same other = ap (λ b. test k || b) other

pub any_dedup : (test : ℕ → Bool) (ns : List ℕ) → list_any test (dedup eqb ns) ≡ list_any test ns
any_dedup test [] = refl
any_dedup test (n ∷ ns) = any_dedup_from test n ns

-- each number stands before those that are greater
pub rising_pairs : (ns : List ℕ) → IsStrictlyIncreasing ns → PairsByRecursion (λ m n. m < n) ns
rising_pairs [] rising = tt
rising_pairs (n ∷ ns) rising = (
  recursion_from_All (λ m. n < m) ns (λ k d within.
      AllPairs-from_increasing (n ∷ ns) rising 0 (suc k) d (omega arith) (omega arith)),
  rising_pairs ns (λ k within. subst (λ i. slice_index ns k < slice_index (n ∷ ns) i) (next k)
      (rising (suc k) (omega arith))),
)
  where
    next : (k : ℕ) → suc k + 1 ≡ suc (k + 1)
    next k = omega arith

-- ---- the cursors of criteria

each_run : (P : List ℕ → Type 0) (index : List Entry) (criteria : List Criterion)
    (criterion : Criterion)
    → AllByRecursion P (map whole (map (run_of index) criteria))
    → Contains criteria criterion
    → P (carriers_of criterion.name criterion.pattern index)
each_run P index [] criterion all among = absurd (contains_none criterion among)
each_run P index (c ∷ cs) criterion all among =
    by (contains_cases c cs criterion among) (each_run P index cs criterion all.1)
  where
    by : (c ≡ criterion) ⊎ Contains cs criterion
        → (Contains cs criterion → P (carriers_of criterion.name criterion.pattern index))
        → P (carriers_of criterion.name criterion.pattern index)
    by (inl is) more = subst (λ (x : Criterion). P (carriers_of x.name x.pattern index)) is all.0
    by (inr there) more = more there

-- so many steps at most, by each criterion
pub counted_each : (start after many : ℕ) (index : List Entry) (criteria : List Criterion)
    (runs : List Run)
    → runs ≡ runs_of index criteria
    → many ≡ length runs
    → AllByRecursion (λ numbers. after ≤ start + many * (length numbers + 1)) (map whole runs)
    → (criterion : Criterion)
    → Contains (attribute_criteria criteria) criterion
    → after
    ≤ start
    + length (attribute_criteria criteria) *
    (length (carriers_of criterion.name criterion.pattern index) + 1)
counted_each start after many index criteria runs are size all criterion among =
    let few =
    each_run (λ numbers. after ≤ start + many * (length numbers + 1)) index
    (attribute_criteria criteria) criterion (subst (λ rs.
    AllByRecursion (λ numbers. after ≤ start + many * (length numbers + 1))
    (map whole rs)) are all) among in
    subst
    (λ m. after ≤ start + m * (length (carriers_of criterion.name criterion.pattern index) + 1))
    (size ∙ ap length are ∙ length-map (attribute_criteria criteria) (run_of index)) few

contains_run : (index : List Entry) (criteria : List Criterion) (numbers : List ℕ)
    → Contains (map whole (map (run_of index) criteria)) numbers
    → (criterion : Criterion)
    × Contains criteria criterion
    × (carriers_of criterion.name criterion.pattern index ≡ numbers)
contains_run index [] numbers among = absurd (contains_none numbers among)
contains_run index (c ∷ cs) numbers among =
    by (contains_cases (carriers_of c.name c.pattern index) (map whole (map (run_of index) cs))
    numbers among) (contains_run index cs numbers)
  where
    by :
        (carriers_of c.name c.pattern index ≡ numbers)
        ⊎ Contains (map whole (map (run_of index) cs)) numbers
        → (Contains (map whole (map (run_of index) cs)) numbers
        → (criterion : Criterion)
        × Contains cs criterion
        × (carriers_of criterion.name criterion.pattern index ≡ numbers))
        → (criterion : Criterion)
        × Contains (c ∷ cs) criterion
        × (carriers_of criterion.name criterion.pattern index ≡ numbers)
    by (inl is) more = (c, contains_first c cs, is)
    by (inr there) more =
        let rest = more there in (rest.0, contains_later c cs rest.0 rest.1, rest.2)

-- the numbers of a cursor that has ended are those of the carriers of its criterion
pub numbers_of : (index : List Entry) (criteria : List Criterion) (runs : List Run)
    (given numbers : List ℕ)
    → runs ≡ runs_of index criteria
    → Contains (map whole runs) given
    → ((n : ℕ) → has_number numbers n ≡ has_number given n)
    → AreNumbersOf index criteria numbers
numbers_of index criteria runs given numbers are among same =
    let found =
    contains_run index (attribute_criteria criteria) given
    (subst (λ rs. Contains (map whole rs) given) are among) in
    record {
      criterion = found.0;
      among = found.1;
      are = λ n. same n ∙ ap (λ ns. has_number ns n) (sym found.2);
    }
