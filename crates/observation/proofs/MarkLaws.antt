-- Marks: which queries records touch that lapse, and how marks are handed on to observers, one
-- after the other.
use Rattle.std.proofs.Common.{
  ◌≡◌,
  ℕ,
  zero,
  suc,
  ◌+◌,
  ◌<◌,
  ◌≤◌,
  ◌==◌,
  nat_eq,
  Bool,
  true,
  false,
  ◌||◌,
  cond,
  List,
  [],
  ◌∷◌,
  length,
  map,
  take,
  slice_get,
  Option,
  Some,
  None,
  refl,
  sym,
  ap,
  ap₂,
  subst,
  ◌∙◌,
  eqb-true,
  arith,
}
use Rattle.std.specs.List.{AllByRecursion, list_any}
use Rattle.std.specs.Map.{lookup}
use Rattle.std.proofs.lemmas.Bool.{false≢true}
use Rattle.std.proofs.lemmas.List.{take_all}
use Rattle.rd_base.specs.declared.queries.Query.{Query}
use Rattle.rd_base.specs.declared.records.Record.{Record}
use Rattle.rd_base.proofs.lemmas.Numbers.{eqb-refl}
use Rattle.history_model.specs.ChangedParts.{is_other_part, is_lapse_of}
use Rattle.history_model.specs.Leases.{lapsing_among}
use Rattle.directory_core.specs.LapseOrder.{in_order_of_lapse}
use Rattle.directory_core.proofs.LapsingLaws.{any_lapsing}
use Rattle.watch_table.specs.WatchedQueries.{
  Watched,
  Table,
  is_marked,
  is_marked_at,
  all_touched,
  all_unmarked,
}
use Rattle.watch_table.proofs.EntryLaws.{each_found}
use Rattle.observers.specs.Standing.{Standing, marked}
use Rattle.observation.specs.Marks.{touched_where, all_touched_where, all_lapsed, handed, IsHanded}
use Rattle.observation.specs.Watching.{IsUnmarked}

-- ---- watched queries that are touched

-- a watched query with its mark
abbrev touched_one : Watched → Watched
touched_one w = record w { marked = true; body = None }

-- the same queries pass
touched_same : (test other : Query → Bool)
    → ((query : Query) → test query ≡ other query)
    → (t : Table)
    → all_touched_where test t ≡ all_touched_where other t
touched_same test other same [] = refl
touched_same test other same (e ∷ t) =
    ap₂ (λ (x : ℕ × Watched) (xs : Table). x ∷ xs)
    (ap (λ b. (e.0, cond b (touched_one e.1) e.1)) (same e.1.query))
    (touched_same test other same t)

untouched : (t : Table) → t ≡ all_touched_where (λ query. false) t
untouched [] = refl
untouched (e ∷ t) = ap (λ (xs : Table). e ∷ xs) (untouched t)

-- one test after another
touched_twice : (test other : Query → Bool) (t : Table)
    → all_touched_where other (all_touched_where test t)
    ≡ all_touched_where (λ query. test query || other query) t
touched_twice test other [] = refl
touched_twice test other (e ∷ t) =
    ap₂ (λ (x : ℕ × Watched) (xs : Table). x ∷ xs)
    (ap (λ (w : Watched). (e.0, w)) (by e.1 (test e.1.query) (other e.1.query) refl))
    (touched_twice test other t)
  where
    both : (b : Bool) (w : Watched) → cond b w w ≡ w
    both true w = refl
    both false w = refl

    by : (w : Watched) (a b : Bool)
        → other w.query ≡ b
        → touched_where other (cond a (touched_one w) w) ≡ cond (a || b) (touched_one w) w
    by w true b e = both (other w.query) (touched_one w)
    by w false true e = rw e refl
    by w false false e = rw e refl

-- one of the records gives lines to the query
abbrev gives_lines : List Record → Query → Bool
gives_lines records query = list_any (λ r. is_other_part query (Some r) None) records

lapsed_touched : (records : List Record) (t : Table)
    → all_lapsed records t ≡ all_touched_where (gives_lines records) t
lapsed_touched [] t = untouched t
lapsed_touched (r ∷ records) t =
    lapsed_touched records (all_touched (Some r) None t)
    ∙ touched_twice (λ query. is_other_part query (Some r) None) (gives_lines records) t

-- Records that lapse between two moments, one after the other in the order in which they lapse,
-- touch the queries to which one of them gives lines.
pub lapsing_touched : (from to : ℕ) (records : List Record) (t : Table)
    → all_lapsed (in_order_of_lapse (lapsing_among from to records)) t
    ≡ all_touched_where (λ query. is_lapse_of query from to records) t
lapsing_touched from to records t =
    lapsed_touched (in_order_of_lapse (lapsing_among from to records)) t
    ∙ touched_same (gives_lines (in_order_of_lapse (lapsing_among from to records)))
    (λ query. is_lapse_of query from to records)
    (λ query. any_lapsing (λ r. is_other_part query (Some r) None) (lapsing_among from to records))
    t

-- ---- marks that are handed on

due_or : Standing → Bool → Standing
due_or w due = record w { due = due }

-- an observer whose query is not marked
handed-unmarked : (t : Table) (w : Standing) → is_marked_at w.slot t ≡ false → IsHanded t w
handed-unmarked t w none m = absurd (false≢true (sym none ∙ m))

-- one more of them, by its index
handed_more : (t : Table) (ws : List Standing) (i : ℕ) (w : Standing)
    → slice_get ws i ≡ Some w
    → IsHanded t w
    → AllByRecursion (IsHanded t) (take i ws)
    → AllByRecursion (IsHanded t) (take (suc i) ws)
handed_more t [] i w there here h = absurd cc
handed_more t (x ∷ ws) zero w there here h =
    let same : x ≡ w = cc in (subst (IsHanded t) (sym same) here, tt)
handed_more t (x ∷ ws) (suc i) w there here h = (h.0, handed_more t ws i w there here h.1)

-- a mark that is handed on leaves those that were handed on before
handed_still : (t : Table) (slot : ℕ) (ws : List Standing) (i : ℕ)
    → AllByRecursion (IsHanded t) (take i ws)
    → AllByRecursion (IsHanded t) (take i (map (marked slot) ws))
handed_still t slot [] i h = h
handed_still t slot (x ∷ ws) zero h = tt
handed_still t slot (x ∷ ws) (suc i) h =
    ((λ m. ap (λ b. b || x.slot == slot) (h.0 m)), handed_still t slot ws i h.1)

-- and the observer with an index is marked with the others
marked_at : (slot : ℕ) (ws : List Standing) (i : ℕ) (w : Standing)
    → slice_get ws i ≡ Some w
    → slice_get (map (marked slot) ws) i ≡ Some (marked slot w)
marked_at slot [] i w there = absurd cc
marked_at slot (x ∷ ws) zero w there =
    let here : x ≡ w = cc in ap (λ (y : Standing). Some (marked slot y)) here
marked_at slot (x ∷ ws) (suc i) w there = marked_at slot ws i w there

-- what is handed on in the end is as before
handed_marked : (t : Table) (slot : ℕ) (ws : List Standing)
    → is_marked_at slot t ≡ true
    → map (handed t) (map (marked slot) ws) ≡ map (handed t) ws
unfolding due_or
handed_marked t slot [] m = refl
handed_marked t slot (w ∷ ws) m =
    ap₂ (λ (x : Standing) (xs : List Standing). x ∷ xs)
    (ap (due_or w) (by w.due (w.slot == slot) refl)) (handed_marked t slot ws m)
  where
    by : (due b : Bool)
        → (w.slot == slot) ≡ b
        → ((due || b) || is_marked_at w.slot t) ≡ (due || is_marked_at w.slot t)
    by true b e = refl
    by false false e = refl
    by false true e = sym (ap (λ p. is_marked_at p t) (eqb-true w.slot slot e) ∙ m)

-- those that all marks were handed on to
all_handed : (t : Table) (ws : List Standing)
    → AllByRecursion (IsHanded t) ws
    → map (handed t) ws ≡ ws
unfolding due_or
all_handed t [] h = refl
all_handed t (w ∷ ws) h =
    ap₂ (λ (x : Standing) (xs : List Standing). x ∷ xs)
    (ap (due_or w) (by w.due (is_marked_at w.slot t) refl h.0)) (all_handed t ws h.1)
  where
    by : (due m : Bool)
        → is_marked_at w.slot t ≡ m
        → (is_marked_at w.slot t ≡ true → due ≡ true)
        → (due || m) ≡ due
    by true m e g = refl
    by false false e g = refl
    by false true e g = sym (g e)

-- A walk over observers, to each of which up to an index the mark of its query was handed on.
pub record Walked (t : Table) (before ws : List Standing) (i : ℕ) : Type 0 where
  pub handed_on : AllByRecursion (IsHanded t) (take i ws)
  pub later : map (handed t) ws ≡ map (handed t) before
  pub len : length ws ≡ length before

marked_length : (slot : ℕ) (ws : List Standing) → length (map (marked slot) ws) ≡ length ws
marked_length slot [] = refl
marked_length slot (w ∷ ws) = ap suc (marked_length slot ws)

inside_at : (ws : List Standing) (i : ℕ) → i < length ws
    → (w : Standing) × (slice_get ws i ≡ Some w)
inside_at [] i inside = absurd (omega (arith, inside))
inside_at (w ∷ ws) zero inside = (w, refl)
inside_at (w ∷ ws) (suc i) inside = inside_at ws i (omega (arith, inside))

-- the next observer is marked with all whose query has its slot
pub walked-marked : (t : Table) (before ws : List Standing) (i slot : ℕ)
    → i < length ws
    → is_marked_at slot t ≡ true
    → ((w : Standing) → slice_get ws i ≡ Some w → slot ≡ w.slot)
    → Walked t before ws i
    → Walked t before (map (marked slot) ws) (i + 1)
walked-marked t before ws i slot inside m own h = by (inside_at ws i inside)
  where
    by : (w : Standing) × (slice_get ws i ≡ Some w)
        → Walked t before (map (marked slot) ws) (i + 1)
    by found = record {
      handed_on = subst (λ n. AllByRecursion (IsHanded t) (take n (map (marked slot) ws))) next
          (handed_more t (map (marked slot) ws) i (marked slot found.0)
          (marked_at slot ws i found.0 found.1)
          (λ _.
          ap (λ p. found.0.due || found.0.slot == p) (own found.0 found.1)
          ∙ (ap (λ b. found.0.due || b) (eqb-refl found.0.slot) ∙ either found.0.due))
          (handed_still t slot ws i h.handed_on));
      later = handed_marked t slot ws m ∙ h.later;
      len = marked_length slot ws ∙ h.len;
    }
      where
        next : suc i ≡ i + 1
        next = omega arith

        either : (b : Bool) → (b || true) ≡ true
        either true = refl
        either false = refl

-- or the mark was handed on to it
pub walked-other : (t : Table) (before ws : List Standing) (i : ℕ)
    → i < length ws
    → ((w : Standing) → slice_get ws i ≡ Some w → IsHanded t w)
    → Walked t before ws i
    → Walked t before ws (i + 1)
walked-other t before ws i inside own h = by (inside_at ws i inside)
  where
    by : (w : Standing) × (slice_get ws i ≡ Some w) → Walked t before ws (i + 1)
    by found = record {
      handed_on =
          subst (λ n. AllByRecursion (IsHanded t) (take n ws)) next
          (handed_more t ws i found.0 found.1 (own found.0 found.1) h.handed_on);
      later = h.later;
      len = h.len;
    }
      where
        next : suc i ≡ i + 1
        next = omega arith

-- at its end
pub walked-all : (t : Table) (before ws : List Standing) (i : ℕ)
    → length ws ≤ i
    → Walked t before ws i
    → ws ≡ map (handed t) before
walked-all t before ws i past h =
    sym (all_handed t ws (subst (AllByRecursion (IsHanded t)) (take_all i ws past) h.handed_on))
    ∙ h.later

-- ---- no marks

unmarked_at : (slot : ℕ) (t : Table) → AllByRecursion IsUnmarked t
    → is_marked_at slot t ≡ false
unmarked_at slot t h = by (lookup (nat_eq slot) t) refl
  where
    by : (o : Option Watched) → lookup (nat_eq slot) t ≡ o → is_marked o ≡ false
    by None e = refl
    by (Some w) e = each_found (λ (x : Watched). x.marked ≡ false) (nat_eq slot) t w h e

either_false : (a b : Bool) → (a || b) ≡ false → (a ≡ false) × (b ≡ false)
either_false true b e = absurd (false≢true (sym e))
either_false false b e = (refl, e)

-- no query is marked
pub none_marked : (t : Table)
    → list_any (λ (w : Watched). w.marked) (map (λ (e : ℕ × Watched). e.1) t) ≡ false
    → AllByRecursion IsUnmarked t
none_marked [] none = tt
none_marked (e ∷ t) none =
    let parts = either_false e.1.marked
    (list_any (λ (w : Watched). w.marked) (map (λ (e : ℕ × Watched). e.1) t)) none in
    (parts.0, none_marked t parts.1)

-- where no mark is set there is none to take off, and none to hand on
pub unmarked_same : (t : Table) → AllByRecursion IsUnmarked t → all_unmarked t ≡ t
unmarked_same [] h = refl
unmarked_same (e ∷ t) h =
    ap₂ (λ (x : ℕ × Watched) (xs : Table). x ∷ xs)
    (ap (λ b. (e.0, record e.1 { marked = b })) (sym h.0)) (unmarked_same t h.1)

pub unmarked_handed : (t : Table) (ws : List Standing)
    → AllByRecursion IsUnmarked t
    → map (handed t) ws ≡ ws
unmarked_handed t ws h = all_handed t ws (each ws)
  where
    each : (xs : List Standing) → AllByRecursion (IsHanded t) xs
    each [] = tt
    each (x ∷ xs) = (handed-unmarked t x (unmarked_at x.slot t h), each xs)
