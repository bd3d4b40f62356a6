-- The numbers of records: they rise, and none is used again.
use Rattle.std.proofs.Common.{
  ◌≡◌,
  ℕ,
  ◌+◌,
  ◌<◌,
  ◌≤◌,
  Bool,
  true,
  false,
  not,
  ◌||◌,
  cond,
  List,
  [],
  ◌∷◌,
  ◌++◌,
  map,
  filter,
  refl,
  sym,
  ap,
  subst,
  ◌∙◌,
  ◌⊎◌,
  inl,
  inr,
  append_assoc,
  append-nil,
  arith,
  ne_eqb,
  max,
}
use Rattle.std.specs.Prelude.{◌==◌}
use Rattle.std.specs.List.{AllByRecursion, list_any}
use Rattle.std.proofs.lemmas.Bool.{true≢false, cases_lt, or_cases}
use Rattle.std.proofs.lemmas.List.Folds.{list_any-append}
use Rattle.rd_base.specs.declared.records.Record.{Record}
use Rattle.history_model.specs.declared.entries.Entry.{Entry}
use Rattle.history_model.specs.Leases.{is_live_at, live_among}
use Rattle.history_model.specs.Replay.{
  State,
  is_numbered,
  with_changed,
  apply,
  replay,
  count_after,
  counted,
}
use Rattle.history_model.specs.Live.{AreAscending, IsFront, live}
use Rattle.history_model.specs.Refusals.{has_number}
use Rattle.rd_base.proofs.lemmas.Pairs.{
  PairsByRecursion,
  pairs_filter,
  pairs_push,
  pairs_map,
  AllPairs-from_recursion,
}
use Rattle.rd_base.proofs.lemmas.Each.{each_weaker, each_map, each_filter, each_push, each_one}
use Rattle.rd_base.proofs.lemmas.Lists.{by_pushes}
use Rattle.history_model.proofs.ReplayLaws.{
  KeepsNumber,
  replay-nil,
  replay_push,
  counted-nil,
  counted_push,
  lifted-above,
  by_change,
  changed_number,
}

-- ---- they rise

-- one record has a lower number than another
abbrev pub IsBelow : Record → Record → Type 0
IsBelow r other = r.number < other.number

-- the number is above 0 and not above the last number
abbrev pub IsNumberedUpTo : ℕ → Record → Type 0
IsNumberedUpTo last_number r = (0 < r.number) × (r.number ≤ last_number)

-- the records stand in ascending number, and none is above the last number
pub record HasRisingNumbers (state : State) : Type 0 where
  pub ascending : PairsByRecursion IsBelow state.records
  pub each_numbered : AllByRecursion (IsNumberedUpTo state.last_number) state.records

replaced-HasRisingNumbers : (state : State) (moment number : ℕ) (new : Record → Record)
    → KeepsNumber moment number new
    → HasRisingNumbers state
    → HasRisingNumbers (record state { records = with_changed number new state.records })
replaced-HasRisingNumbers state moment number new keeps before =
    let f : Record → Record = λ r. cond (is_numbered number r) (new r) r in
    let same : (r : Record) → (f r).number ≡ r.number = changed_number moment number new keeps in
    record {
      ascending =
          pairs_map (λ r. Unit {0}) IsBelow IsBelow f
          (λ r other _ _ below. let a = same r in let b = same other in omega arith)
          state.records (each_one (λ r. Unit {0}) (λ r. tt) state.records) before.ascending;
      each_numbered =
          each_map (IsNumberedUpTo state.last_number) f state.records
          (each_weaker (IsNumberedUpTo state.last_number)
          (λ r. IsNumberedUpTo state.last_number (f r))
          (λ r within.
          let a = same r in
          let low = within.0 in let high = within.1 in (omega arith, omega arith))
          state.records before.each_numbered);
    }

appended-HasRisingNumbers : (state : State) (r : Record)
    → r.number ≡ state.last_number + 1
    → HasRisingNumbers state
    → HasRisingNumbers
    (record { records = state.records ++ r ∷ []; last_number = state.last_number + 1 })
appended-HasRisingNumbers state r next before = record {
  ascending =
      pairs_push IsBelow state.records r before.ascending
      (each_weaker (IsNumberedUpTo state.last_number) (λ other. IsBelow other r)
      (λ other within. let high = within.1 in omega arith) state.records
      before.each_numbered);
  each_numbered = each_push (IsNumberedUpTo (state.last_number + 1)) state.records r
      (each_weaker (IsNumberedUpTo state.last_number) (IsNumberedUpTo (state.last_number + 1))
      (λ other within. let low = within.0 in let high = within.1 in (omega arith, omega arith))
      state.records before.each_numbered)
      (omega arith, omega arith);
}

lifted-HasRisingNumbers : (state : State) (first : ℕ)
    → HasRisingNumbers state
    → HasRisingNumbers (record state { last_number = max state.last_number first })
lifted-HasRisingNumbers state first before = record {
  ascending = before.ascending;
  each_numbered =
      each_weaker (IsNumberedUpTo state.last_number) (IsNumberedUpTo (max state.last_number first))
      (λ r within. let low = within.0 in let high = within.1 in (omega arith, omega arith))
      state.records before.each_numbered;
}

pub apply-HasRisingNumbers : (state : State) (entry : Entry)
    → HasRisingNumbers state
    → HasRisingNumbers (apply state entry)
apply-HasRisingNumbers state entry before = by_change HasRisingNumbers state entry
    (λ number new keeps. replaced-HasRisingNumbers state entry.moment.0 number new keeps before)
    (λ r next _. appended-HasRisingNumbers state r next before)
    (λ number. record {
      ascending =
          pairs_filter IsBelow (λ r. not (is_numbered number r)) state.records before.ascending;
      each_numbered =
          each_filter (IsNumberedUpTo state.last_number) (λ r. not (is_numbered number r))
          state.records before.each_numbered;
    })
    (λ first _. lifted-HasRisingNumbers state first before)

-- the records of a history stand in ascending number, each number is above 0, and none is above the
-- last number
pub replay-HasRisingNumbers : (history : List Entry) → HasRisingNumbers (replay history)
replay-HasRisingNumbers history =
    by_pushes (λ h. HasRisingNumbers (replay h))
    (rw replay-nil (record { ascending = tt; each_numbered = tt }))
    (λ h e before.
    subst HasRisingNumbers (sym (replay_push h e))
    (apply-HasRisingNumbers (replay h) e before)) history

-- An end theorem: nothing here cites it.
pub replay-AreAscending : (history : List Entry) → AreAscending (replay history).records
replay-AreAscending history =
    AllPairs-from_recursion IsBelow (replay history).records
    (replay-HasRisingNumbers history).ascending

-- An end theorem: nothing here cites it.
pub live-AreAscending : (history : List Entry) (moment : ℕ) → AreAscending (live history moment)
unfolding live
live-AreAscending history moment =
    AllPairs-from_recursion IsBelow (live_among moment (replay history).records)
    (pairs_filter IsBelow (is_live_at moment) (replay history).records
    (replay-HasRisingNumbers history).ascending)

-- ---- how many there are

-- no entry lowers the last number
pub apply-last_number : (state : State) (entry : Entry)
    → state.last_number ≤ (apply state entry).last_number
apply-last_number state entry = by_change (λ after. state.last_number ≤ after.last_number) state
    entry (λ number new keeps. omega arith) (λ r next _. omega arith) (λ number. omega arith)
    (λ first _. omega arith)

-- a last number that is not above the count is not after an entry
pub apply-last_number-counted : (state : State) (count : ℕ) (entry : Entry)
    → state.last_number ≤ count
    → (apply state entry).last_number ≤ count_after count entry
apply-last_number-counted state count entry within =
    let low = lifted-above count entry.change in
    by_change (λ after. after.last_number ≤ count_after count entry) state entry
    (λ number new keeps. omega (arith, low)) (λ r next _. omega (arith, low))
    (λ number. omega (arith, low))
    (λ first is. rw is (omega arith))

-- the last number is not above the count of entries
pub last_number-le-counted : (first : ℕ) (history : List Entry)
    → (replay history).last_number ≤ counted first history
last_number-le-counted first history = by_pushes (λ h. (replay h).last_number ≤ counted first h)
    (rw (replay-nil, counted-nil first) (omega arith))
    (λ h e before.
    rw (replay_push h e, counted_push first h e)
    (apply-last_number-counted (replay h) (counted first h) e before)) history

-- ---- none is used again

any_changed : (test : Record → Bool) (f : Record → Record)
    → ((r : Record) → test (f r) ≡ test r)
    → (records : List Record)
    → list_any test (map f records) ≡ list_any test records
any_changed test f same [] = refl
any_changed test f same (r ∷ rs) =
    let first = same r in let rest = any_changed test f same rs in rw (first, rest) refl

pub any_kept : (test other : Record → Bool) (records : List Record)
    → list_any test (filter other records) ≡ true
    → list_any test records ≡ true
any_kept test other [] e = e
any_kept test other (r ∷ rs) e = by (other r) (test r) refl e (any_kept test other rs)
  where
    by : (o t : Bool)
        → test r ≡ t
        → list_any test (cond o (r ∷ filter other rs) (filter other rs)) ≡ true
        → (list_any test (filter other rs) ≡ true → list_any test rs ≡ true)
        → (t || list_any test rs) ≡ true
    by o true t h more = refl
    by true false t h more = more (let kept = rw t at h in kept)
    by false false t h more = more h

-- a number not above the last one before that is there after an entry was there before it
pub has_number_before : (state : State) (entry : Entry) (n : ℕ)
    → n ≤ state.last_number
    → has_number n (apply state entry).records ≡ true
    → has_number n state.records ≡ true
has_number_before state entry n used =
    by_change (λ after. has_number n after.records ≡ true → has_number n state.records ≡ true) state
    entry replaces appends removes (λ first _ there. there)
  where
    replaces : (number : ℕ) (new : Record → Record)
        → KeepsNumber entry.moment.0 number new
        → has_number n (with_changed number new state.records) ≡ true
        → has_number n state.records ≡ true
    replaces number new keeps there =
        sym (any_changed (is_numbered n) (λ r. cond (is_numbered number r) (new r) r)
        (λ r. ap (λ k. k == n) (changed_number entry.moment.0 number new keeps r))
        state.records)
        ∙ there

    appends : (r : Record)
        → r.number ≡ state.last_number + 1
        → r.granted.0 ≡ entry.moment.0
        → has_number n (state.records ++ r ∷ []) ≡ true
        → has_number n state.records ≡ true
    appends r next _ there =
        by (or_cases (has_number n state.records) (has_number n (r ∷ []))
        (sym (list_any-append (is_numbered n) state.records (r ∷ [])) ∙ there))
      where
        other : is_numbered n r ≡ false
        other = ne_eqb r.number n (λ same. omega arith)

        by : (has_number n state.records ≡ true) ⊎ (has_number n (r ∷ []) ≡ true)
            → has_number n state.records ≡ true
        by (inl there) = there
        by (inr last) = absurd (true≢false (sym last ∙ rw other refl))

    removes : (number : ℕ)
        → has_number n (filter (λ r. not (is_numbered number r)) state.records) ≡ true
        → has_number n state.records ≡ true
    removes number there =
        any_kept (is_numbered n) (λ r. not (is_numbered number r)) state.records there

-- a number not above the last one of a front that is there later was there before: no record gets
-- it anew
pub number_not_again : (front history : List Entry)
    → IsFront front history
    → (n : ℕ)
    → n ≤ (replay front).last_number
    → has_number n (replay history).records ≡ true
    → has_number n (replay front).records ≡ true
number_not_again front history begins n used there =
    (extends begins.0).1
    (subst (λ h. has_number n (replay h).records ≡ true) (sym (begins.1)) there)
  where
    Extends : List Entry → Type 0
    Extends more =
        (n ≤ (replay (front ++ more)).last_number)
        × (has_number n (replay (front ++ more)).records ≡ true
        → has_number n (replay front).records ≡ true)

    push : (more : List Entry) (e : Entry) → Extends more → Extends (more ++ e ∷ [])
    push more e before =
        let split : replay (front ++ (more ++ e ∷ [])) ≡ apply (replay (front ++ more)) e =
        ap replay (sym (append_assoc front more (e ∷ []))) ∙ replay_push (front ++ more) e in
        let low = before.0 in
        let high = apply-last_number (replay (front ++ more)) e in
        rw split (
          omega arith,
          λ later. before.1 (has_number_before (replay (front ++ more)) e n before.0 later),
        )

    extends : (more : List Entry) → Extends more
    extends more = by_pushes Extends (rw (append-nil front) (used, λ same. same)) push more

-- a number that was not there before is above the last number before
-- An end theorem: nothing here cites it.
pub number_is_new : (front history : List Entry)
    → IsFront front history
    → (n : ℕ)
    → has_number n (replay front).records ≡ false
    → has_number n (replay history).records ≡ true
    → (replay front).last_number < n
number_is_new front history begins n without there = by (cases_lt (replay front).last_number n)
  where
    by : ((replay front).last_number < n) ⊎ (n ≤ (replay front).last_number)
        → (replay front).last_number < n
    by (inl above) = above
    by (inr used) =
        absurd (true≢false (sym (number_not_again front history begins n used there) ∙ without))
