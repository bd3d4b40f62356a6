-- When a transition changes the lines of a query, as a desk marks it: time that passes, and then an
-- entry.
use Rattle.std.proofs.Common.{
  ◌≡◌,
  ℕ,
  ◌≤◌,
  ◌==◌,
  Bool,
  true,
  false,
  not,
  ◌&&◌,
  ◌||◌,
  List,
  [],
  ◌∷◌,
  ◌++◌,
  None,
  Decides,
  bytes_eq,
  refl,
  sym,
  ap,
  ap₂,
  ◌∙◌,
  arith,
  eqb-true,
}
use Rattle.std.proofs.lemmas.Bool.{false≢true, and_parts, and_from}
use Rattle.std.proofs.lemmas.Slice.Eq.{bytes_eq-Decides}
use Rattle.rd_base.specs.declared.queries.Query.{Query}
use Rattle.history_model.specs.declared.entries.Entry.{Entry}
use Rattle.history_model.specs.Leases.{is_live_at, live_among}
use Rattle.history_model.specs.Replay.{State, apply, replay, numbered, number_about, counted}
use Rattle.history_model.specs.Live.{live}
use Rattle.history_model.specs.Listing.{lines_of, all_lines}
use Rattle.history_model.specs.Refusals.{change_refusal}
use Rattle.rd_base.proofs.lemmas.Pairs.{pairs_filter}
use Rattle.history_model.proofs.ReplayLaws.{replay_push}
use Rattle.history_model.proofs.NumberLaws.{
  IsBelow,
  HasRisingNumbers,
  apply-HasRisingNumbers,
  replay-HasRisingNumbers,
}
use Rattle.history_model.proofs.Acceptance.{accepted}
use Rattle.event_model.specs.Due.{Transition, are_same_lines, is_change_of}
use Rattle.history_model.specs.ChangedParts.{is_other_part, is_lapse_of}
use Rattle.history_model.proofs.ChangedLines.{
  same_from_test,
  test_from_same,
  time_keeps,
  time_tells,
  time_gone,
  entry_keeps,
  entry_tells,
  entry_gone,
}

-- ---- tests

-- the comparison of numbered lines is true exactly where they are equal
pub are_same_lines-Decides : (xs ys : List (ℕ × List ℕ)) → Decides (are_same_lines xs ys) (xs ≡ ys)
are_same_lines-Decides [] [] = (λ e. refl, λ e. refl)
are_same_lines-Decides [] (y ∷ ys) = (λ e. absurd (false≢true e), λ e. absurd cc)
are_same_lines-Decides (x ∷ xs) [] = (λ e. absurd (false≢true e), λ e. absurd cc)
are_same_lines-Decides (x ∷ xs) (y ∷ ys) =
    (forth (are_same_lines-Decides xs ys), back (are_same_lines-Decides xs ys))
  where
    forth : Decides (are_same_lines xs ys) (xs ≡ ys)
        → are_same_lines (x ∷ xs) (y ∷ ys) ≡ true
        → x ∷ xs ≡ y ∷ ys
    forth rest e =
        let both = and_parts (x.0 == y.0 && bytes_eq x.1 y.1) (are_same_lines xs ys) e in
        let one = and_parts (x.0 == y.0) (bytes_eq x.1 y.1) both.0 in
        let first : x ≡ y =
        ap₂ (λ n line. (n, line)) (eqb-true x.0 y.0 one.0)
        ((bytes_eq-Decides x.1 y.1).0 one.1) in
        ap₂ (λ z zs. z ∷ zs) first (rest.0 both.1)

    back : Decides (are_same_lines xs ys) (xs ≡ ys)
        → x ∷ xs ≡ y ∷ ys
        → are_same_lines (x ∷ xs) (y ∷ ys) ≡ true
    back rest e =
        let first : x ≡ y = cc in
        let others : xs ≡ ys = cc in
        let number : x.0 ≡ y.0 = ap (λ (line : ℕ × List ℕ). line.0) first in
        and_from (x.0 == y.0 && bytes_eq x.1 y.1) (are_same_lines xs ys)
        (and_from (x.0 == y.0) (bytes_eq x.1 y.1) (grind (arith, number))
        ((bytes_eq-Decides x.1 y.1).1 (ap (λ (line : ℕ × List ℕ). line.1) first)))
        (rest.1 others)

-- two tests that fail together are equal
same_tests : (a b : Bool) → (a ≡ false → b ≡ false) → (b ≡ false → a ≡ false) → a ≡ b
same_tests true true forth back = refl
same_tests true false forth back = back refl
same_tests false true forth back = sym (forth refl)
same_tests false false forth back = refl

not_not : (b : Bool) → not b ≡ false → b ≡ true
not_not true h = refl
not_not false h = absurd (false≢true (sym h))

neither : (a b : Bool) → (a || b) ≡ false → (a ≡ false) × (b ≡ false)
neither true b h = absurd (false≢true (sym h))
neither false b h = (refl, h)

nor : (a b : Bool) → a ≡ false → b ≡ false → (a || b) ≡ false
nor a b e f = rw (e, f) refl

-- ---- transitions

-- a transition by its parts
abbrev pub transition : ℕ → List Entry → ℕ → List Entry → ℕ → Transition
transition place before from after to = record {
  place = place;
  before = before;
  moment_before = from;
  after = after;
  moment_after = to;
}

-- a transition does not change the lines of a query exactly where they are the same
quiet : (query : Query) (place : ℕ) (before : List Entry) (from : ℕ) (after : List Entry) (to : ℕ)
    → is_change_of query (transition place before from after to) ≡ false
    → lines_of query (live_among from (replay before).records)
    ≡ lines_of query (live_among to (replay after).records)
unfolding is_change_of all_lines live
quiet query place before from after to e =
    (are_same_lines-Decides (lines_of query (live_among from (replay before).records))
    (lines_of query (live_among to (replay after).records))).0
    (not_not (are_same_lines (lines_of query (live_among from (replay before).records))
    (lines_of query (live_among to (replay after).records))) e)

still : (query : Query) (place : ℕ) (before : List Entry) (from : ℕ) (after : List Entry) (to : ℕ)
    → lines_of query (live_among from (replay before).records)
    ≡ lines_of query (live_among to (replay after).records)
    → is_change_of query (transition place before from after to) ≡ false
unfolding is_change_of all_lines live
still query place before from after to e =
    ap not ((are_same_lines-Decides (lines_of query (live_among from (replay before).records))
    (lines_of query (live_among to (replay after).records))).1 e)

-- Time that passes changes the lines of a query exactly where a record that lapses meanwhile gives
-- a line to it.
pub time_changes : (query : Query) (place : ℕ) (history : List Entry) (from to : ℕ)
    → from ≤ to
    → is_change_of query (transition place history from history to)
    ≡ is_lapse_of query from to (replay history).records
time_changes query place history from to order =
    let records = (replay history).records in
    let pairs = (replay-HasRisingNumbers history).ascending in
    same_tests (is_change_of query (transition place history from history to))
    (is_lapse_of query from to records)
    (λ e. time_tells query from to records (live_among to records) pairs
    (pairs_filter IsBelow (is_live_at to) records pairs) (time_gone to records pairs)
    (quiet query place history from history to e))
    (λ e. still query place history from history to (time_keeps query from to order records e))

-- An entry changes the lines of a query exactly where the record that it is about gives other lines
-- to it after the entry than before.
pub entry_changes : (query : Query) (place : ℕ) (history : List Entry) (entry : Entry) (moment : ℕ)
    → is_change_of query (transition place history moment (history ++ entry ∷ []) moment)
    ≡ is_other_part query
    (numbered (number_about (replay history) entry.moment.0 entry.change) (live history moment))
    (numbered (number_about (replay history) entry.moment.0 entry.change)
    (live (history ++ entry ∷ []) moment))
unfolding live
entry_changes query place history entry moment =
    let state = replay history in
    let about = number_about state entry.moment.0 entry.change in
    let rising = replay-HasRisingNumbers history in
    let old = numbered about (live_among moment state.records) in
    let behind = ap (λ (s : State). live_among moment s.records) (replay_push history entry) in
    same_tests (is_change_of query (transition place history moment (history ++ entry ∷ []) moment))
    (is_other_part query old
    (numbered about (live_among moment (replay (history ++ entry ∷ [])).records)))
    (λ e. rw behind
    (test_from_same query old (numbered about (live_among moment (apply state entry).records))
    (entry_tells query moment about state entry rising
    (quiet query place history moment (history ++ entry ∷ []) moment e
    ∙ ap (lines_of query) behind))))
    (λ e. still query place history moment (history ++ entry ∷ []) moment
    (entry_keeps query moment state entry rising
    (same_from_test query old (numbered about (live_among moment (apply state entry).records))
    (let known = rw behind at e in known))
    ∙ ap (lines_of query) (sym behind)))

-- A transition with an entry changes the lines of a query exactly where time changes them before
-- the entry, or the entry does then.
pub transition_splits : (query : Query) (place first : ℕ) (history : List Entry) (entry : Entry)
    (from : ℕ)
    → from ≤ entry.moment.0
    → change_refusal first history entry ≡ None
    → is_change_of query (transition place history from (history ++ entry ∷ []) entry.moment.0)
    ≡ (is_change_of query (transition place history from history entry.moment.0)
    || is_change_of query
    (transition place history entry.moment.0 (history ++ entry ∷ []) entry.moment.0))
unfolding change_refusal
transition_splits query place first history entry from order accepts =
    same_tests whole (passing || changing)
    (λ e. nor passing changing (time_still e)
    (still query place history moment more moment
    (sym (time_keeps query from moment order state.records (lapses e))
    ∙ quiet query place history from more moment e)))
    (λ e. let both = neither passing changing e in
    still query place history from more moment (quiet query place history from history moment both.0
    ∙ quiet query place history moment more moment both.1))
  where
    moment : ℕ
    moment = entry.moment.0

    more : List Entry
    more = history ++ entry ∷ []

    state : State
    state = replay history

    whole : Bool
    whole = is_change_of query (transition place history from more moment)

    passing : Bool
    passing = is_change_of query (transition place history from history moment)

    changing : Bool
    changing = is_change_of query (transition place history moment more moment)

    behind : live_among moment (replay more).records ≡ live_among moment (apply state entry).records
    behind = ap (λ (s : State). live_among moment s.records) (replay_push history entry)

    lapses : whole ≡ false → is_lapse_of query from moment state.records ≡ false
    lapses e =
        time_tells query from moment state.records (live_among moment (apply state entry).records)
        rising.ascending
        (pairs_filter IsBelow (is_live_at moment) (apply state entry).records
        (apply-HasRisingNumbers state entry rising).ascending)
        (entry_gone moment state (counted first history) entry rising
        (accepted state (counted first history) entry accepts) (omega arith))
        (quiet query place history from more moment e ∙ ap (lines_of query) behind)
      where
        rising : HasRisingNumbers state
        rising = replay-HasRisingNumbers history

    time_still : whole ≡ false → passing ≡ false
    time_still e = time_changes query place history from moment order ∙ lapses e
