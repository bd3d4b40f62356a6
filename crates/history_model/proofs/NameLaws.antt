-- The names of live records differ, and no record was granted later than the last entry.
use Rattle.std.proofs.Common.{
  ◌≡◌,
  ◌≢◌,
  ℕ,
  ◌≤◌,
  Bool,
  true,
  false,
  not,
  cond,
  List,
  refl,
  sym,
  ◌∙◌,
  arith,
  eqb-true,
}
use Rattle.std.specs.List.{AllByRecursion}
use Rattle.std.proofs.lemmas.Bool.{true≢false}
use Rattle.rd_base.specs.declared.records.Record.{Record}
use Rattle.history_model.specs.declared.entries.Entry.{Entry}
use Rattle.history_model.specs.Leases.{is_live_at, live_among}
use Rattle.history_model.specs.Replay.{State, is_numbered, apply, replay, counted}
use Rattle.history_model.specs.Live.{HaveDistinctNames, live, last_moment}
use Rattle.history_model.specs.Legal.{IsNext, IsLegalFrom}
use Rattle.history_model.specs.Refusals.{change_refusal}
use Rattle.rd_base.proofs.lemmas.Pairs.{
  PairsByRecursion,
  pairs_weaker,
  pairs_filter,
  pairs_push,
  pairs_map,
  pairs_known,
  AllPairs-from_recursion,
}
use Rattle.rd_base.proofs.lemmas.Each.{each_weaker, each_map, each_filter, each_push, each_passes}
use Rattle.history_model.proofs.ReplayLaws.{
  KeepsNumber,
  replay-nil,
  replay_push,
  last_moment_push,
  by_change,
}
use Rattle.history_model.proofs.LegalLaws.{by_legal_pushes}
use Rattle.history_model.proofs.NumberLaws.{HasRisingNumbers, replay-HasRisingNumbers}
use Rattle.history_model.proofs.Acceptance.{is_live_before, Accepted, accepted, Renews, by_accepted}

-- an entry that may come next meets no refusal in the state that its history made
pub next-Accepted : (first : ℕ) (history : List Entry) (entry : Entry)
    → IsNext first history entry
    → Accepted (replay history) (counted first history) entry
unfolding change_refusal
next-Accepted first history entry next =
    accepted (replay history) (counted first history) entry next.accepted

-- ---- names

-- the records do not both have one name and live at a moment
abbrev pub AreApart : ℕ → Record → Record → Type 0
AreApart moment r other =
    r.name ≡ other.name → is_live_at moment r ≡ true → is_live_at moment other ≡ true → ⊥

-- a record after a change of the one of a number
abbrev pub after_change : ℕ → (Record → Record) → Record → Record
after_change number new r = cond (is_numbered number r) (new r) r

-- it has the name that it had, and is live only where it was
pub after_change_known : (moment number : ℕ) (new : Record → Record) (r : Record)
    → (r.number ≡ number → Renews moment new r)
    → ((after_change number new r).name ≡ r.name)
    × (is_live_at moment (after_change number new r) ≡ true → is_live_at moment r ≡ true)
after_change_known moment number new r renews = by (is_numbered number r) refl
  where
    by : (b : Bool)
        → is_numbered number r ≡ b
        → ((cond b (new r) r).name ≡ r.name)
        × (is_live_at moment (cond b (new r) r) ≡ true → is_live_at moment r ≡ true)
    by true e = let known = renews (eqb-true r.number number e) in (known.name, λ _. known.live)
    by false e = (refl, λ live. live)

-- an accepted entry leaves the names of live records apart
pub apply-AreApart : (state : State) (entries : ℕ) (entry : Entry)
    → HasRisingNumbers state
    → Accepted state entries entry
    → PairsByRecursion (AreApart entry.moment.0) state.records
    → PairsByRecursion (AreApart entry.moment.0) (apply state entry).records
apply-AreApart state entries entry numbered accepts before =
    let moment = entry.moment.0 in
    by_accepted (λ after. PairsByRecursion (AreApart moment) after.records) state entries entry
    numbered accepts
    (λ number new renews. pairs_map (λ r. r.number ≡ number → Renews moment new r) (AreApart moment)
    (AreApart moment) (after_change number new)
    (λ r other renews_r renews_other apart same live_r live_other.
    let one = after_change_known moment number new r renews_r in
    let two = after_change_known moment number new other renews_other in
    apart (sym (one.0) ∙ same ∙ two.0) (one.1 live_r) (two.1 live_other))
    state.records renews before)
    (λ r next granted none. pairs_push (AreApart moment) state.records r before
    (each_weaker (λ other. other.name ≡ r.name → is_live_at moment other ≡ false)
    (λ other. AreApart moment other r)
    (λ other lapsed same live_other _. true≢false (sym live_other ∙ lapsed same)) state.records
    none))
    (λ number. pairs_filter (AreApart moment) (λ r. not (is_numbered number r)) state.records
    before)
    (λ first. before)

apart_later : (before moment : ℕ) (records : List Record)
    → before ≤ moment
    → PairsByRecursion (AreApart before) records
    → PairsByRecursion (AreApart moment) records
apart_later before moment records order = pairs_weaker (AreApart before) (AreApart moment)
    (λ r other apart same live_r live_other.
    apart same (is_live_before before moment r order live_r)
    (is_live_before before moment other order live_other)) records

-- after a legal history no two records of one name are live
pub replay-AreApart : (first : ℕ) (history : List Entry)
    → IsLegalFrom first history
    → PairsByRecursion (AreApart (last_moment history)) (replay history).records
replay-AreApart first =
    by_legal_pushes first (λ h. PairsByRecursion (AreApart (last_moment h)) (replay h).records)
    (rw replay-nil tt)
    (λ h e legal next before. rw (replay_push h e, last_moment_push h e)
    (apply-AreApart (replay h) (counted first h) e (replay-HasRisingNumbers h)
    (next-Accepted first h e next)
    (apart_later (last_moment h) e.moment.0 (replay h).records next.in_time before)))

-- the records that are live at a moment not below the last have distinct names
-- An end theorem: nothing here cites it.
pub live-HaveDistinctNames : (first : ℕ) (history : List Entry) (moment : ℕ)
    → IsLegalFrom first history
    → last_moment history ≤ moment
    → HaveDistinctNames (live history moment)
unfolding live
live-HaveDistinctNames first history moment legal order =
    let records = (replay history).records in
    let apart =
    apart_later (last_moment history) moment records order
    (replay-AreApart first history legal) in
    AllPairs-from_recursion (λ r other. r.name ≢ other.name) (live_among moment records)
    (pairs_known (λ r. is_live_at moment r ≡ true) (AreApart moment)
    (λ r other. r.name ≢ other.name)
    (λ r other live_r live_other two same. two same live_r live_other)
    (live_among moment records)
    (each_passes (is_live_at moment) records)
    (pairs_filter (AreApart moment) (is_live_at moment) records apart))

-- ---- moments

-- the record was granted no later
abbrev pub IsGrantedBy : ℕ → Record → Type 0
IsGrantedBy moment r = r.granted.0 ≤ moment

-- an entry grants nothing after its own moment
pub apply-IsGrantedBy : (state : State) (entry : Entry)
    → AllByRecursion (IsGrantedBy entry.moment.0) state.records
    → AllByRecursion (IsGrantedBy entry.moment.0) (apply state entry).records
apply-IsGrantedBy state entry before =
    let moment = entry.moment.0 in
    by_change (λ after. AllByRecursion (IsGrantedBy moment) after.records) state entry
    (λ number new keeps. each_map (IsGrantedBy moment) (after_change number new) state.records
    (each_weaker (IsGrantedBy moment) (λ r. IsGrantedBy moment (after_change number new r))
    (λ r by_then. granted_by moment number new keeps r by_then) state.records before))
    (λ r next granted. each_push (IsGrantedBy moment) state.records r before (omega arith))
    (λ number. each_filter (IsGrantedBy moment) (λ r. not (is_numbered number r)) state.records
    before)
    (λ first _. before)
  where
    granted_by : (moment number : ℕ) (new : Record → Record)
        → KeepsNumber moment number new
        → (r : Record)
        → IsGrantedBy moment r
        → IsGrantedBy moment (after_change number new r)
    granted_by moment number new keeps r by_then = by (is_numbered number r)
      where
        by : (b : Bool) → (cond b (new r) r).granted.0 ≤ moment
        by true = keeps.granted r by_then
        by false = by_then

-- no record of a legal history was granted after its last entry
pub replay-IsGrantedBy : (first : ℕ) (history : List Entry)
    → IsLegalFrom first history
    → AllByRecursion (IsGrantedBy (last_moment history)) (replay history).records
replay-IsGrantedBy first =
    by_legal_pushes first (λ h. AllByRecursion (IsGrantedBy (last_moment h)) (replay h).records)
    (rw replay-nil tt)
    (λ h e legal next before. rw (replay_push h e, last_moment_push h e)
    (apply-IsGrantedBy (replay h) e
    (each_weaker (IsGrantedBy (last_moment h)) (IsGrantedBy e.moment.0)
    (λ r by_then. let order = next.in_time in omega arith) (replay h).records before)))
