-- What two runs of a directory have in common, each of which begins above a number: no number of a
-- registration, and no entity tag, where the earlier run counted no further than the later one
-- begins above.
use Rattle.std.proofs.Common.{
  ◌≡◌,
  ℕ,
  ◌+◌,
  ◌^◌,
  ◌<◌,
  ◌≤◌,
  Bool,
  true,
  false,
  not,
  ◌||◌,
  cond,
  eqb-true,
  List,
  [],
  ◌∷◌,
  ◌++◌,
  length,
  refl,
  sym,
  subst,
  ◌∙◌,
  arith,
}
use Rattle.std.specs.List.{AllByRecursion}
use Rattle.std.proofs.lemmas.Bool.{false≢true}
use Rattle.rd_base.specs.declared.records.Record.{Record}
use Rattle.rd_base.proofs.lemmas.Each.{each_weaker, each_map, each_filter, each_push}
use Rattle.rd_base.proofs.lemmas.Lists.{by_pushes}
use Rattle.history_model.specs.declared.entries.Change.TheVariants as change
use Rattle.history_model.specs.declared.entries.Entry.{Entry}
use Rattle.history_model.specs.Legal.{IsLegalFrom}
use Rattle.history_model.specs.Listing.{lapsed_since, tag, tag_from}
use Rattle.history_model.specs.Live.{IsFront, last_moment}
use Rattle.history_model.specs.Refusals.{has_number}
use Rattle.history_model.specs.Replay.{
  State,
  is_numbered,
  with_changed,
  apply,
  replay,
  lifted,
  count_after,
  counted,
}
use Rattle.history_model.proofs.LegalLaws.{IsLegalFrom-IsFront}
use Rattle.history_model.proofs.LimitLaws.{live-IsBounded, counted-le-max_entries}
use Rattle.history_model.proofs.NumberLaws.{replay-HasRisingNumbers, last_number-le-counted}
use Rattle.history_model.proofs.ReplayLaws.{
  KeepsNumber,
  replay-nil,
  replay_push,
  counted-above,
  by_change,
  changed_number,
}
use Rattle.history_model.proofs.TagLaws.{lapsed_since-live}
use Rattle.history_model.proofs.TagOctets.{tag_octets_tell}

-- ---- what is said

-- The run begins above this number: its first change is a beginning.
pub record BeginsAbove (first : ℕ) (run : List Entry) : Type 0 where
  pub begin : Entry
  pub later : List Entry
  pub is : run ≡ begin ∷ later
  pub above : begin.change ≡ change.Begin first

-- A registration has this number at some time of the run.
pub record HasNumber (number : ℕ) (run : List Entry) : Type 0 where
  pub front : List Entry
  pub within : IsFront front run
  pub has : has_number number (replay front).records ≡ true

-- The directory has this entity tag at some time of the run, once it has begun.
pub record HasTag (octets : List ℕ) (run : List Entry) : Type 0 where
  pub front : List Entry
  pub within : IsFront front run
  pub begun : 0 < length front
  pub moment : ℕ
  pub in_time : last_moment front ≤ moment
  pub has : octets ≡ tag front moment

-- ---- counts and numbers of the earlier run

-- a front counts no further than the whole
front_counted : (first : ℕ) (front rest : List Entry)
    → counted first front ≤ counted first (front ++ rest)
unfolding counted
front_counted first [] rest = counted-above first rest
front_counted first (e ∷ es) rest = front_counted (count_after first e) es rest

counted_within : (front run : List Entry) → IsFront front run → counted 0 front ≤ counted 0 run
counted_within front run within =
    subst (λ h. counted 0 front ≤ counted 0 h) within.1 (front_counted 0 front within.0)

-- a record of a number is one of those of which something holds
found_numbered : (P : Record → Type 0) (number : ℕ) (records : List Record)
    → AllByRecursion P records
    → has_number number records ≡ true
    → (r : Record) × P r × (r.number ≡ number)
found_numbered P number [] each has = absurd (false≢true has)
found_numbered P number (r ∷ rs) each has =
    by (is_numbered number r) refl has (found_numbered P number rs each.1)
  where
    by : (b : Bool)
        → is_numbered number r ≡ b
        → (b || has_number number rs) ≡ true
        → (has_number number rs ≡ true → (other : Record) × P other × (other.number ≡ number))
        → (other : Record) × P other × (other.number ≡ number)
    by true is here behind = (r, each.0, eqb-true r.number number is)
    by false is here behind = behind here

-- no number of a run is above its count
number_counted : (number : ℕ) (run : List Entry) → HasNumber number run → number ≤ counted 0 run
number_counted number run h =
    let rising = replay-HasRisingNumbers h.front in
    let found =
    found_numbered (λ r. (0 < r.number) × (r.number ≤ (replay h.front).last_number)) number
    (replay h.front).records rising.each_numbered h.has in
    let is = found.2 in
    let low = found.1.1 in
    let last = last_number-le-counted 0 h.front in
    let all = counted_within h.front run h.within in
    omega (arith, is, low, last, all)

-- ---- numbers and counts of the later run

-- all that a run has after its beginning is above its number
record IsAbove (first : ℕ) (state : State) : Type 0 where
  pub last : first ≤ state.last_number
  pub each : AllByRecursion (λ r. first < r.number) state.records

replaced-IsAbove : (first moment number : ℕ) (new : Record → Record) (state : State)
    → KeepsNumber moment number new
    → IsAbove first state
    → IsAbove first (record state { records = with_changed number new state.records })
replaced-IsAbove first moment number new state keeps before =
    let f : Record → Record = λ r. cond (is_numbered number r) (new r) r in
    record {
      last = before.last;
      each =
          each_map (λ r. first < r.number) f state.records
          (each_weaker (λ r. first < r.number) (λ r. first < (f r).number)
          (λ r above. let same = changed_number moment number new keeps r in
          omega (arith, same, above))
          state.records before.each);
    }

apply-IsAbove : (first : ℕ) (state : State) (entry : Entry)
    → IsAbove first state
    → IsAbove first (apply state entry)
apply-IsAbove first state entry before = by_change (IsAbove first) state entry
    (λ number new keeps. replaced-IsAbove first entry.moment.0 number new state keeps before)
    (λ r next _. let low = before.last in record {
      last = omega (arith, low);
      each = each_push (λ r. first < r.number) state.records r before.each
          (omega (arith, low, next));
    })
    (λ number. record {
      last = before.last;
      each = each_filter (λ r. first < r.number) (λ r. not (is_numbered number r))
          state.records before.each;
    })
    (λ other _. let low = before.last in record {
      last = omega (arith, low);
      each = before.each;
    })

begin-IsAbove : (first : ℕ) (begin : Entry)
    → begin.change ≡ change.Begin first
    → IsAbove first (replay (begin ∷ []))
unfolding replay apply
begin-IsAbove first begin is = rw is (record { last = omega arith; each = tt })

run-IsAbove : (first : ℕ) (begin : Entry) (later : List Entry)
    → begin.change ≡ change.Begin first
    → IsAbove first (replay (begin ∷ later))
run-IsAbove first begin later is =
    by_pushes (λ es. IsAbove first (replay (begin ∷ es)))
    (begin-IsAbove first begin is)
    (λ es e before.
    subst (IsAbove first) (sym (replay_push (begin ∷ es) e))
    (apply-IsAbove first (replay (begin ∷ es)) e before)) later

-- a front of a run is empty, or has its beginning
pub data IsFrontOf (begin : Entry) : List Entry → Type 0 where
  none : IsFrontOf begin []
  begun : (es : List Entry) → IsFrontOf begin (begin ∷ es)

front_cases : (begin : Entry) (later front : List Entry)
    → IsFront front (begin ∷ later)
    → IsFrontOf begin front
front_cases begin later [] within = none
front_cases begin later (e ∷ es) within =
    let same : e ≡ begin = cc in subst (λ x. IsFrontOf begin (x ∷ es)) (sym same) (begun es)

number_above : (first number : ℕ) (begin : Entry) (front : List Entry)
    → begin.change ≡ change.Begin first
    → IsFrontOf begin front
    → has_number number (replay front).records ≡ true
    → first < number
number_above first number begin front is none has =
    absurd (false≢true (subst (λ state. has_number number state.records ≡ true) replay-nil has))
number_above first number begin front is (begun es) has =
    let found =
    found_numbered (λ r. first < r.number) number (replay (begin ∷ es)).records
    (run-IsAbove first begin es is).each has in
    let same = found.2 in
    let low = found.1 in omega (arith, same, low)

count_above : (first : ℕ) (begin : Entry) (front : List Entry)
    → begin.change ≡ change.Begin first
    → IsFrontOf begin front
    → 0 < length front
    → first < counted 0 front
unfolding counted
count_above first begin front is none any = absurd (omega (arith, any))
count_above first begin front is (begun es) any =
    let low : first + 1 ≤ count_after 0 begin = rw is (omega arith) in
    let all = counted-above (count_after 0 begin) es in
    omega (arith, low, all)

-- ---- the law

-- Two runs have no number of a registration in common, where the earlier one counted no further
-- than the later one begins above.
pub no_number_in_common : (first number : ℕ) (earlier later : List Entry)
    → BeginsAbove first later
    → counted 0 earlier ≤ first
    → HasNumber number earlier
    → HasNumber number later
    → ⊥
no_number_in_common first number earlier later begins apart had has =
    let low = number_counted number earlier had in
    let front = front_cases begins.begin begins.later has.front
    (subst (IsFront has.front) begins.is has.within) in
    let high = number_above first number begins.begin has.front begins.above front has.has in
    omega (arith, low, high, apart)

-- no more records have lapsed since the last entry than were live after it
lapsed_few : (front : List Entry) (moment : ℕ)
    → IsLegalFrom 0 front
    → last_moment front ≤ moment
    → lapsed_since front moment < 2 ^ 16
lapsed_few front moment legal order =
    let all = lapsed_since-live front moment order in
    let few = (live-IsBounded 0 front (last_moment front) legal (omega arith)).count in
    omega (arith, all, few)

-- They have no entity tag in common either.
pub no_tag_in_common : (first : ℕ) (octets : List ℕ) (earlier later : List Entry)
    → IsLegalFrom 0 earlier
    → IsLegalFrom 0 later
    → BeginsAbove first later
    → counted 0 earlier ≤ first
    → HasTag octets earlier
    → HasTag octets later
    → ⊥
unfolding tag_from
no_tag_in_common first octets earlier later legal also begins apart had has =
    let legal_front = IsLegalFrom-IsFront 0 had.front earlier had.within legal in
    let legal_other = IsLegalFrom-IsFront 0 has.front later has.within also in
    let few = counted-le-max_entries 0 had.front (omega arith) legal_front in
    let fewer = counted-le-max_entries 0 has.front (omega arith) legal_other in
    let same = (tag_octets_tell (counted 0 had.front) (lapsed_since had.front had.moment)
    (counted 0 has.front) (lapsed_since has.front has.moment) (omega (arith, few))
    (omega (arith, fewer)) (lapsed_few had.front had.moment legal_front had.in_time)
    (lapsed_few has.front has.moment legal_other has.in_time) (sym had.has ∙ has.has)).0 in
    let low = counted_within had.front earlier had.within in
    let front = front_cases begins.begin begins.later has.front
    (subst (IsFront has.front) begins.is has.within) in
    let high = count_above first begins.begin has.front begins.above front has.begun in
    omega (arith, same, low, high, apart)

-- An entry that begins nothing: the count goes on behind it by one.
abbrev pub GoesOn : Entry → Type 0
GoesOn e = (count : ℕ) → lifted count e.change ≡ count

count_of_changes : (count : ℕ) (later : List Entry)
    → AllByRecursion GoesOn later
    → counted count later ≡ count + length later
unfolding counted
count_of_changes count [] each = omega arith
count_of_changes count (e ∷ es) each =
    let same = each.0 count in
    let more = count_of_changes (count_after count e) es each.1 in
    omega (arith, same, more)

count_of_begun : (first : ℕ) (begin : Entry) (later : List Entry)
    → begin.change ≡ change.Begin first
    → AllByRecursion GoesOn later
    → counted 0 (begin ∷ later) ≡ first + length (begin ∷ later)
unfolding counted
count_of_begun first begin later is each =
    let low : count_after 0 begin ≡ first + 1 = rw is (omega arith) in
    let all = count_of_changes (count_after 0 begin) later each in
    omega (arith, low, all)

-- Where no later change begins again, a run counts its changes from its beginning on: so runs have
-- nothing in common whose beginnings differ at least by the number of changes of the earlier one.
pub count_of_run : (first : ℕ) (run : List Entry) (begins : BeginsAbove first run)
    → AllByRecursion GoesOn begins.later
    → counted 0 run ≡ first + length run
count_of_run first run begins each =
    subst (λ h. counted 0 h ≡ first + length h) (sym begins.is)
    (count_of_begun first begins.begin begins.later begins.above each)
