-- A registration that is gone stays gone: its number is not live again.
use Rattle.std.proofs.Common.{
  ◌≡◌,
  ℕ,
  ◌≤◌,
  true,
  List,
  [],
  ◌∷◌,
  ◌++◌,
  sym,
  ap,
  subst,
  append_assoc,
  append-nil,
  arith,
}
use Rattle.std.specs.List.{AllByRecursion}
use Rattle.history_model.specs.declared.entries.Entry.{Entry}
use Rattle.history_model.specs.Leases.{is_live_at, live_among}
use Rattle.history_model.specs.Replay.{State, is_numbered, apply, replay, counted}
use Rattle.history_model.specs.Live.{live}
use Rattle.history_model.specs.Legal.{IsLegalFrom}
use Rattle.history_model.specs.Refusals.{has_number, only_live}
use Rattle.rd_base.proofs.lemmas.Each.{each_popped}
use Rattle.rd_base.proofs.lemmas.Lists.{by_pushes}
use Rattle.history_model.proofs.ReplayLaws.{replay_push}
use Rattle.history_model.proofs.LegalLaws.{IsLegalFrom-append, IsLegalFrom_last}
use Rattle.history_model.proofs.NumberLaws.{
  HasRisingNumbers,
  replay-HasRisingNumbers,
  apply-last_number,
  any_kept,
  has_number_before,
}
use Rattle.history_model.proofs.Acceptance.{Accepted}
use Rattle.history_model.proofs.NameLaws.{next-Accepted}
use Rattle.history_model.proofs.SweepLaws.{live_among_live, only_live-apply}

-- a number not above the last one that is live at a moment after an accepted entry that is not
-- before it was live at the moment
pub live_before_apply : (moment : ℕ) (state : State) (entries : ℕ) (entry : Entry) (n : ℕ)
    → HasRisingNumbers state
    → Accepted state entries entry
    → moment ≤ entry.moment.0
    → n ≤ state.last_number
    → has_number n (live_among moment (apply state entry).records) ≡ true
    → has_number n (live_among moment state.records) ≡ true
live_before_apply moment state entries entry n numbered accepts order used there =
    let same :
    live_among moment (apply state entry).records
    ≡ live_among moment (apply (only_live moment state) entry).records =
    ap (λ (s : State). s.records)
    (only_live-apply moment state entries entry numbered accepts order) in
    has_number_before (only_live moment state) entry n used
    (any_kept (is_numbered n) (is_live_at moment) (apply (only_live moment state) entry).records
    (subst (λ records. has_number n records ≡ true) same there))

-- A number not above the last one that is live later was live at each moment before that is not
-- after the entries in between: a registration that has lapsed or was removed is not live again. An
-- end theorem: nothing here cites it.
pub live_before : (first : ℕ) (front more : List Entry) (moment later n : ℕ)
    → IsLegalFrom first (front ++ more)
    → AllByRecursion (λ e. moment ≤ e.moment.0) more
    → moment ≤ later
    → n ≤ (replay front).last_number
    → has_number n (live (front ++ more) later) ≡ true → has_number n (live front moment) ≡ true
unfolding live
live_before first front more moment later n legal after order used there =
    (extends more legal after).1 (any_kept (is_numbered n) (is_live_at later)
    (live_among moment (replay (front ++ more)).records)
    (subst (λ records. has_number n records ≡ true)
    (sym (live_among_live moment later (replay (front ++ more)).records order)) there))
  where
    Extends : List Entry → Type 0
    Extends more =
        IsLegalFrom first (front ++ more) → AllByRecursion (λ (e : Entry). moment ≤ e.moment.0) more
        → (n ≤ (replay (front ++ more)).last_number)
        × (has_number n (live_among moment (replay (front ++ more)).records) ≡ true
        → has_number n (live_among moment (replay front).records) ≡ true)

    push : (more : List Entry) (e : Entry) → Extends more → Extends (more ++ e ∷ [])
    push more e before legal after =
        let split : front ++ (more ++ e ∷ []) ≡ (front ++ more) ++ e ∷ [] =
        sym (append_assoc front more (e ∷ [])) in
        let whole : IsLegalFrom first ((front ++ more) ++ e ∷ []) =
        subst (IsLegalFrom first) split legal in
        let parts = each_popped (λ (x : Entry). moment ≤ x.moment.0) more e after in
        let known = before (IsLegalFrom-append first (front ++ more) (e ∷ []) whole) parts.0 in
        let accepts =
        next-Accepted first (front ++ more) e
        (IsLegalFrom_last first (front ++ more) e whole) in
        let state = replay (front ++ more) in
        let low = known.0 in
        let high = apply-last_number state e in
        rw (split, replay_push (front ++ more) e) (
          omega (arith, low, high),
          λ now.
              known.1 (live_before_apply moment state (counted first (front ++ more)) e n
              (replay-HasRisingNumbers (front ++ more)) accepts parts.1 known.0 now),
        )

    extends : (more : List Entry) → Extends more
    extends more = by_pushes Extends (λ _ _. rw (append-nil front) (used, λ same. same)) push more
