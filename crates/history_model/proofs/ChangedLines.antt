-- What changes the lines of records: time that passes, and an entry.
use Rattle.std.proofs.Common.{
  ◌≡◌,
  ℕ,
  ◌+◌,
  ◌≤◌,
  ◌==◌,
  Bool,
  true,
  false,
  not,
  ◌&&◌,
  ◌||◌,
  cond,
  List,
  [],
  ◌∷◌,
  ◌++◌,
  filter,
  Option,
  Some,
  None,
  unwrap_or,
  nat_lt,
  nat_le,
  refl,
  sym,
  ap,
  ◌∙◌,
  arith,
  eqb-true,
  ltb-true,
  ne_eqb,
}
use Rattle.std.specs.List.{AllByRecursion, list_any}
use Rattle.std.proofs.lemmas.Bool.{
  false≢true,
  true≢false,
  and_parts,
  ltb-false,
  leb-true,
  leb-false,
}
use Rattle.std.proofs.lemmas.Bool.Decides.{nat_tests}
use Rattle.rd_base.specs.declared.parameters.RegParams.{RegParams}
use Rattle.rd_base.specs.declared.queries.Query.{Query}
use Rattle.rd_base.specs.declared.records.Record.{Record}
use Rattle.rd_base.specs.declared.submitted_links.SubmittedLink.{SubmittedLink}
use Rattle.record_model.specs.ListingLines.{same_lines, part_or_none}
use Rattle.record_model.specs.Records.{registered, updated}
use Rattle.record_model.proofs.LineLaws.{same_lines-Decides}
use Rattle.history_model.specs.declared.entries.Change.{Change}
use Rattle.history_model.specs.declared.entries.Change.TheVariants as change
use Rattle.history_model.specs.declared.entries.Entry.{Entry}
use Rattle.history_model.specs.Leases.{lapse, is_live_at, live_among, lapsing_among}
use Rattle.history_model.specs.Replay.{
  State,
  is_numbered,
  number_named,
  with_changed,
  replaced,
  registered_under,
  changed,
  apply,
  numbered,
  number_about,
}
use Rattle.history_model.specs.Listing.{numbered_part, lines_of}
use Rattle.history_model.specs.Refusals.{has_number}
use Rattle.rd_base.proofs.lemmas.Pairs.{PairsByRecursion, pairs_filter}
use Rattle.rd_base.proofs.lemmas.Each.{each_both, each_filter}
use Rattle.history_model.proofs.ReplayLaws.{
  KeepsNumber,
  registered-KeepsNumber,
  updated-KeepsNumber,
  replaced-KeepsNumber,
}
use Rattle.history_model.proofs.NumberLaws.{
  IsBelow,
  IsNumberedUpTo,
  HasRisingNumbers,
  apply-HasRisingNumbers,
}
use Rattle.history_model.proofs.Acceptance.{Accepted}
use Rattle.history_model.proofs.GoneLaws.{live_before_apply}
use Rattle.history_model.specs.ChangedParts.{is_other_part, is_lapse_of}
use Rattle.history_model.proofs.LinesByNumber.{
  part_at,
  lines_at,
  none_above,
  lines_tell,
  lines_without,
  lines_from_parts,
}

-- ---- parts

not_not : (b : Bool) → not b ≡ false → b ≡ true
not_not true h = refl
not_not false h = absurd (false≢true (sym h))

pub same_from_test : (query : Query) (old new : Option Record)
    → is_other_part query old new ≡ false
    → part_or_none query old ≡ part_or_none query new
same_from_test query old new e =
    (same_lines-Decides (part_or_none query old) (part_or_none query new)).0
    (not_not (same_lines (part_or_none query old) (part_or_none query new)) e)

pub test_from_same : (query : Query) (old new : Option Record)
    → part_or_none query old ≡ part_or_none query new
    → is_other_part query old new ≡ false
test_from_same query old new e =
    ap not ((same_lines-Decides (part_or_none query old) (part_or_none query new)).1 e)

-- ---- lists

either : (a b : Bool) → (a || b) ≡ false → (a ≡ false) × (b ≡ false)
either true b h = absurd (false≢true (sym h))
either false b h = (refl, h)

-- what is known of each that is kept
each_unfiltered : {X : Type 0} (P : X → Type 0) (test : X → Bool) (xs : List X)
    → AllByRecursion P (filter test xs)
    → AllByRecursion (λ x. test x ≡ true → P x) xs
each_unfiltered P test [] h = tt
each_unfiltered {X} P test (x ∷ xs) h = by (test x) refl h (each_unfiltered P test xs)
  where
    by : (b : Bool)
        → test x ≡ b
        → AllByRecursion P (cond b (x ∷ filter test xs) (filter test xs))
        → (AllByRecursion P (filter test xs) → AllByRecursion (λ (y : X). test y ≡ true → P y) xs)
        → (test x ≡ true → P x) × AllByRecursion (λ (y : X). test y ≡ true → P y) xs
    by true e h more = (λ _. h.0, more h.1)
    by false e h more = (λ now. absurd (true≢false (sym now ∙ e)), more h)

-- none of those that are kept passes
none_kept : {X : Type 0} (test other : X → Bool) (xs : List X)
    → AllByRecursion (λ x. other x ≡ true → test x ≡ false) xs
    → list_any test (filter other xs) ≡ false
none_kept test other [] h = refl
none_kept {X} test other (x ∷ xs) h = by (other x) refl (none_kept test other xs h.1)
  where
    by : (b : Bool)
        → other x ≡ b
        → list_any test (filter other xs) ≡ false
        → list_any test (cond b (x ∷ filter other xs) (filter other xs)) ≡ false
    by true e more = rw (h.0 e) more
    by false e more = more

-- each record is found under its number
each_found : (xs : List Record)
    → PairsByRecursion IsBelow xs
    → AllByRecursion (λ r. numbered r.number xs ≡ Some r) xs
each_found [] pairs = tt
each_found (x ∷ xs) pairs = (
  let same : (x.number == x.number) ≡ true = grind arith in rw same refl,
  each_both (IsBelow x) (λ r. numbered r.number xs ≡ Some r)
      (λ r. numbered r.number (x ∷ xs) ≡ Some r)
      (λ r below found. rw (ne_eqb x.number r.number (λ same. omega arith)) found) xs pairs.0
      (each_found xs pairs.1),
)

-- a record that is dropped is not found
each_dropped : (test : Record → Bool) (xs : List Record)
    → PairsByRecursion IsBelow xs
    → AllByRecursion (λ r. test r ≡ false → numbered r.number (filter test xs) ≡ None) xs
each_dropped test [] pairs = tt
each_dropped test (x ∷ xs) pairs = (
  λ e. rw e (none_above x.number (filter test xs) (each_filter (IsBelow x) test xs pairs.0)),
  each_both (IsBelow x) (λ r. test r ≡ false → numbered r.number (filter test xs) ≡ None)
      (λ r. test r ≡ false → numbered r.number (filter test (x ∷ xs)) ≡ None)
      (λ r below dropped e. behind r below (dropped e) (test x)) xs pairs.0
      (each_dropped test xs pairs.1),
)
  where
    behind : (r : Record)
        → IsBelow x r
        → numbered r.number (filter test xs) ≡ None
        → (b : Bool)
        → numbered r.number (cond b (x ∷ filter test xs) (filter test xs)) ≡ None
    behind r below none true = rw (ne_eqb x.number r.number (λ same. omega arith)) none
    behind r below none false = none

-- none of a number, both ways
pub none_numbered : (number : ℕ) (xs : List Record)
    → has_number number xs ≡ false
    → numbered number xs ≡ None
none_numbered number [] e = refl
none_numbered number (x ∷ xs) e =
    let parts = either (is_numbered number x) (has_number number xs) e in
    rw (parts.0) (none_numbered number xs parts.1)

pub without_number : (number : ℕ) (xs : List Record)
    → numbered number xs ≡ None
    → has_number number xs ≡ false
without_number number [] e = refl
without_number number (x ∷ xs) e = by (is_numbered number x) e (without_number number xs)
  where
    by : (b : Bool)
        → cond b (Some x) (numbered number xs) ≡ None
        → (numbered number xs ≡ None → has_number number xs ≡ false)
        → (b || has_number number xs) ≡ false
    by true h more = absurd cc
    by false h more = more h

-- ---- time that passes

not_live : (a b : ℕ) → nat_le b a ≡ true → nat_lt a b ≡ false
not_live a b e = grind (arith, nat_tests, e)

-- where no record that lapses gives a line, the lines are the same
pub time_keeps : (query : Query) (from to : ℕ)
    → from ≤ to
    → (records : List Record)
    → is_lapse_of query from to records ≡ false
    → lines_of query (live_among from records) ≡ lines_of query (live_among to records)
time_keeps query from to order [] e = refl
time_keeps query from to order (r ∷ rs) e =
    by (nat_lt from (lapse r)) (nat_lt to (lapse r)) (nat_le (lapse r) to) refl refl refl e
    (time_keeps query from to order rs)
  where
    by : (a b c : Bool)
        → nat_lt from (lapse r) ≡ a
        → nat_lt to (lapse r) ≡ b
        → nat_le (lapse r) to ≡ c
        → list_any (λ (x : Record). is_other_part query (Some x) None)
        (cond (a && c) (r ∷ lapsing_among from to rs) (lapsing_among from to rs))
        ≡ false
        → (is_lapse_of query from to rs ≡ false
        → lines_of query (live_among from rs) ≡ lines_of query (live_among to rs))
        → lines_of query (cond a (r ∷ live_among from rs) (live_among from rs))
        ≡ lines_of query (cond b (r ∷ live_among to rs) (live_among to rs))
    by a true true ea eb ec h more =
        let above = ltb-true _ _ eb in let below = leb-true _ _ ec in absurd (omega arith)
    by a false false ea eb ec h more =
        let below = ltb-false _ _ eb in let above = leb-false _ _ ec in absurd (omega arith)
    by false true c ea eb ec h more =
        let below = ltb-false _ _ ea in let above = ltb-true _ _ eb in absurd (omega arith)
    by true true false ea eb ec h more = ap (λ lines. numbered_part query r ++ lines) (more h)
    by true false true ea eb ec h more =
        let parts = either (is_other_part query (Some r) None) (is_lapse_of query from to rs) h in
        lines_without query r (live_among from rs) (same_from_test query (Some r) None parts.0)
        ∙ more parts.1
    by false false true ea eb ec h more = more h

-- where the lines are those of records among which none has the number of a lapsed one, no record
-- that lapses gives a line
pub time_tells : (query : Query) (from to : ℕ) (records after : List Record)
    → PairsByRecursion IsBelow records
    → PairsByRecursion IsBelow after
    → AllByRecursion (λ r. is_live_at to r ≡ false → numbered r.number after ≡ None) records
    → lines_of query (live_among from records) ≡ lines_of query after
    → is_lapse_of query from to records ≡ false
time_tells query from to records after pairs pairs_after gone same =
    let before = live_among from records in
    let pairs_before = pairs_filter IsBelow (is_live_at from) records pairs in
    let found =
    each_unfiltered (λ r. numbered r.number before ≡ Some r) (is_live_at from) records
    (each_found before pairs_before) in
    none_kept (λ r. is_other_part query (Some r) None)
    (λ r. nat_lt from (lapse r) && nat_le (lapse r) to) records
    (each_both (λ r. is_live_at from r ≡ true → numbered r.number before ≡ Some r)
    (λ r. is_live_at to r ≡ false → numbered r.number after ≡ None)
    (λ r. (nat_lt from (lapse r) && nat_le (lapse r) to) ≡ true
    → is_other_part query (Some r) None ≡ false)
    (λ r here none lapses.
    let both = and_parts (nat_lt from (lapse r)) (nat_le (lapse r) to) lapses in
    test_from_same query (Some r) None
    (ap (part_or_none query) (sym (here both.0))
    ∙ sym (lines_tell query r.number before pairs_before)
    ∙ ap (λ lines. lines_at r.number lines) same
    ∙ lines_tell query r.number after pairs_after
    ∙ ap (part_or_none query) (none (not_live to (lapse r) both.1))))
    records found gone)

-- time alone
pub time_gone : (to : ℕ) (records : List Record)
    → PairsByRecursion IsBelow records
    → AllByRecursion
    (λ r. is_live_at to r ≡ false → numbered r.number (live_among to records) ≡ None) records
time_gone to records pairs = each_dropped (is_live_at to) records pairs

-- ---- an entry

skip : (moment other : ℕ) (x : Record) (xs : List Record)
    → (x.number ≡ other → ⊥)
    → numbered other (live_among moment (x ∷ xs)) ≡ numbered other (live_among moment xs)
skip moment other x xs away = by (is_live_at moment x)
  where
    by : (b : Bool)
        → numbered other (cond b (x ∷ live_among moment xs) (live_among moment xs))
        ≡ numbered other (live_among moment xs)
    by true = rw (ne_eqb x.number other away) refl
    by false = refl

behind : (moment other : ℕ) (x : Record) (xs ys : List Record)
    → numbered other (live_among moment xs) ≡ numbered other (live_among moment ys)
    → numbered other (live_among moment (x ∷ xs)) ≡ numbered other (live_among moment (x ∷ ys))
behind moment other x xs ys same = by (is_live_at moment x)
  where
    by : (b : Bool)
        → numbered other (cond b (x ∷ live_among moment xs) (live_among moment xs))
        ≡ numbered other (cond b (x ∷ live_among moment ys) (live_among moment ys))
    by true = ap (λ found. cond (is_numbered other x) (Some x) found) same
    by false = same

replaced_apart : (moment granted other number : ℕ) (new : Record → Record)
    → KeepsNumber granted number new
    → (other ≡ number → ⊥)
    → (xs : List Record)
    → numbered other (live_among moment (with_changed number new xs))
    ≡ numbered other (live_among moment xs)
replaced_apart moment granted other number new keeps away [] = refl
replaced_apart moment granted other number new keeps away (x ∷ xs) =
    by (is_numbered number x) refl (replaced_apart moment granted other number new keeps away xs)
  where
    by : (b : Bool)
        → is_numbered number x ≡ b
        → numbered other (live_among moment (with_changed number new xs))
        ≡ numbered other (live_among moment xs)
        → numbered other (live_among moment (cond b (new x) x ∷ with_changed number new xs))
        ≡ numbered other (live_among moment (x ∷ xs))
    by true e more =
        let here : x.number ≡ number = eqb-true x.number number e in
        skip moment other (new x) (with_changed number new xs)
        (λ same. away (sym same ∙ keeps.keeps x here ∙ here))
        ∙ more
        ∙ sym (skip moment other x xs (λ same. away (sym same ∙ here)))
    by false e more = behind moment other x (with_changed number new xs) xs more

appended_apart : (moment other : ℕ) (r : Record)
    → (r.number ≡ other → ⊥)
    → (xs : List Record)
    → numbered other (live_among moment (xs ++ r ∷ [])) ≡ numbered other (live_among moment xs)
appended_apart moment other r away [] = skip moment other r [] away
appended_apart moment other r away (x ∷ xs) =
    behind moment other x (xs ++ r ∷ []) xs (appended_apart moment other r away xs)

removed_apart : (moment other number : ℕ)
    → (other ≡ number → ⊥)
    → (xs : List Record)
    → numbered other (live_among moment (filter (λ r. not (is_numbered number r)) xs))
    ≡ numbered other (live_among moment xs)
removed_apart moment other number away [] = refl
removed_apart moment other number away (x ∷ xs) =
    by (is_numbered number x) refl (removed_apart moment other number away xs)
  where
    by : (b : Bool)
        → is_numbered number x ≡ b
        → numbered other
        (live_among moment (filter (λ (r : Record). not (is_numbered number r)) xs))
        ≡ numbered other (live_among moment xs)
        → numbered other (live_among moment
        (cond (not b) (x ∷ filter (λ (r : Record). not (is_numbered number r)) xs)
        (filter (λ (r : Record). not (is_numbered number r)) xs)))
        ≡ numbered other (live_among moment (x ∷ xs))
    by true e more =
        let here : x.number ≡ number = eqb-true x.number number e in
        more ∙ sym (skip moment other x xs (λ same. away (sym same ∙ here)))
    by false e more = behind moment other x (filter (λ r. not (is_numbered number r)) xs) xs more

-- an entry leaves each record but the one that it is about
pub entry_apart : (moment other : ℕ) (state : State) (entry : Entry)
    → (other ≡ number_about state entry.moment.0 entry.change → ⊥)
    → numbered other (live_among moment (apply state entry).records)
    ≡ numbered other (live_among moment state.records)
unfolding apply registered
entry_apart moment other state entry away = of_change entry.change away
  where
    of_number : (o : Option ℕ) (params : RegParams) (links : List SubmittedLink)
        → (other ≡ unwrap_or o (state.last_number + 1) → ⊥)
        → numbered other (live_among moment
        (registered_under o state entry.moment entry.peer params links).records)
        ≡ numbered other (live_among moment state.records)
    of_number (Some number) params links away =
        replaced_apart moment entry.moment.0 other number
        (λ r. registered number entry.moment entry.peer params links)
        (registered-KeepsNumber number entry.moment entry.peer params links) away state.records
    of_number None params links away =
        appended_apart moment other
        (registered (state.last_number + 1) entry.moment entry.peer params links)
        (λ same. away (sym same)) state.records

    of_change : (c : Change)
        → (other ≡ number_about state entry.moment.0 c → ⊥)
        → numbered other (live_among moment (changed state entry.moment entry.peer c).records)
        ≡ numbered other (live_among moment state.records)
    of_change (change.Register params links) away =
        of_number (number_named params.name entry.moment.0 state.records) params links away
    of_change (change.Update number given) away =
        replaced_apart moment entry.moment.0 other number (updated entry.moment entry.peer given)
        (updated-KeepsNumber number entry.moment entry.peer given) away state.records
    of_change (change.Replace number links) away =
        replaced_apart moment entry.moment.0 other number (replaced links)
        (replaced-KeepsNumber number entry.moment.0 links) away state.records
    of_change (change.Remove number) away = removed_apart moment other number away state.records
    of_change (change.Begin first) away = refl

-- where the record that it is about has the same part, the lines are the same
pub entry_keeps : (query : Query) (moment : ℕ) (state : State) (entry : Entry)
    → HasRisingNumbers state
    → part_at query (number_about state entry.moment.0 entry.change)
    (live_among moment state.records)
    ≡ part_at query (number_about state entry.moment.0 entry.change)
    (live_among moment (apply state entry).records)
    → lines_of query (live_among moment state.records)
    ≡ lines_of query (live_among moment (apply state entry).records)
entry_keeps query moment state entry rising same =
    lines_from_parts query (live_among moment state.records)
    (live_among moment (apply state entry).records)
    (pairs_filter IsBelow (is_live_at moment) state.records rising.ascending)
    (pairs_filter IsBelow (is_live_at moment) (apply state entry).records
    (apply-HasRisingNumbers state entry rising).ascending)
    (λ number. by number (number == about) refl)
  where
    about : ℕ
    about = number_about state entry.moment.0 entry.change

    by : (number : ℕ) (b : Bool)
        → (number == about) ≡ b
        → part_at query number (live_among moment state.records)
        ≡ part_at query number (live_among moment (apply state entry).records)
    by number true e = rw (eqb-true number about e) same
    by number false e =
        ap (part_or_none query)
        (sym (entry_apart moment number state entry (λ here. false≢true (sym e ∙ let again :
        (number == about) ≡ true = grind (arith, here) in again))))

-- where the lines are the same, so is each part
pub entry_tells : (query : Query) (moment number : ℕ) (state : State) (entry : Entry)
    → HasRisingNumbers state
    → lines_of query (live_among moment state.records)
    ≡ lines_of query (live_among moment (apply state entry).records)
    → part_at query number (live_among moment state.records)
    ≡ part_at query number (live_among moment (apply state entry).records)
entry_tells query moment number state entry rising same =
    sym (lines_tell query number (live_among moment state.records)
    (pairs_filter IsBelow (is_live_at moment) state.records rising.ascending))
    ∙ ap (λ lines. lines_at number lines) same
    ∙ lines_tell query number (live_among moment (apply state entry).records)
    (pairs_filter IsBelow (is_live_at moment) (apply state entry).records
    (apply-HasRisingNumbers state entry rising).ascending)

-- ---- both

-- what has lapsed at a moment is not there after an accepted entry that is not before it
pub entry_gone : (moment : ℕ) (state : State) (entries : ℕ) (entry : Entry)
    → HasRisingNumbers state
    → Accepted state entries entry
    → moment ≤ entry.moment.0
    → AllByRecursion (λ r.
    is_live_at moment r ≡ false
    → numbered r.number (live_among moment (apply state entry).records) ≡ None)
    state.records
entry_gone moment state entries entry rising accepts order =
    each_both (IsNumberedUpTo state.last_number) (λ r.
    is_live_at moment r ≡ false
    → numbered r.number (live_among moment state.records) ≡ None)
    (λ r. is_live_at moment r ≡ false
    → numbered r.number (live_among moment (apply state entry).records) ≡ None)
    (λ r drawn gone lapsed. none_numbered r.number (live_among moment (apply state entry).records)
    (by r (has_number r.number (live_among moment (apply state entry).records)) refl drawn.1
    (gone lapsed)))
    state.records rising.each_numbered (time_gone moment state.records rising.ascending)
  where
    by : (r : Record) (b : Bool)
        → has_number r.number (live_among moment (apply state entry).records) ≡ b
        → r.number ≤ state.last_number
        → numbered r.number (live_among moment state.records) ≡ None
        → has_number r.number (live_among moment (apply state entry).records) ≡ false
    by r true e drawn none =
        absurd (true≢false
        (sym (live_before_apply moment state entries entry r.number rising accepts order
        drawn e)
        ∙ without_number r.number (live_among moment state.records) none))
    by r false e drawn none = e
