-- An entry more: what a version answers of it, of each history that it stands for.
use Rattle.std.proofs.Common.{
  ◌≡◌,
  ℕ,
  ◌+◌,
  ◌<◌,
  ◌≤◌,
  true,
  false,
  cond,
  List,
  [],
  ◌∷◌,
  ◌++◌,
  filter,
  length,
  Some,
  None,
  Result,
  Ok,
  Err,
  nat_lt,
  nat_le,
  refl,
  sym,
  ap,
  ap₂,
  ◌∙◌,
  subst,
  arith,
  ltb-true,
}
use Rattle.std.specs.List.{AllByRecursion}
use Rattle.std.proofs.lemmas.Bool.{lt-leb}
use Rattle.std.proofs.lemmas.Bool.Decides.{nat_tests}
use Rattle.rd_base.specs.declared.records.Record.{Record}
use Rattle.rd_base.proofs.lemmas.Each.{each_weaker, each_passes}
use Rattle.registration.specs.Weights.{capped}
use Rattle.history_model.specs.declared.entries.Entry.{Entry}
use Rattle.history_model.specs.declared.refusals.Refusal.TheVariants as cause
use Rattle.history_model.specs.Leases.{lapse, is_live_at, live_among}
use Rattle.history_model.specs.Legal.{IsLasting}
use Rattle.history_model.specs.Listing.{lapsed_since}
use Rattle.history_model.specs.Live.{live}
use Rattle.history_model.specs.Refusals.{
  max_registrations,
  max_text,
  max_entries,
  text_of,
  is_gone,
  is_full_of_records,
  is_full_of_text,
  only_live,
  text_after,
  refusal_in,
  change_refusal,
}
use Rattle.history_model.specs.Replay.{
  State,
  number_about,
  apply,
  replay,
  lifted,
  count_after,
  counted,
}
use Rattle.history_model.specs.Versions.{Version, state_of, VersionStandsFor}
use Rattle.history_model.proofs.Acceptance.{accepted}
use Rattle.history_model.proofs.NameLaws.{IsGrantedBy}
use Rattle.history_model.proofs.NumberLaws.{HasRisingNumbers, replay-HasRisingNumbers}
use Rattle.history_model.proofs.ReplayLaws.{replay_push, last_moment_push, counted_push}
use Rattle.history_model.proofs.SweepLaws.{live_among_live, only_live-apply}
use Rattle.history_model.proofs.VersionLaws.{
  with_entry,
  apply-only_live,
  state_of-VersionStandsFor,
  change_refusal-VersionStandsFor,
  live-VersionStandsFor,
}
use Rattle.lease_queue.specs.declared.leases.Lease.{Lease}
use Rattle.directory_core.specs.declared.names.NameSlot.{NameSlot}
use Rattle.directory_core.specs.declared.refusals.Refusal.{Refusal}
use Rattle.directory_core.specs.declared.refusals.Refusal.TheVariants as answer
use Rattle.directory_core.specs.AfterEntries.{IsMadeWithRoom}
use Rattle.directory_core.specs.EntryAnswers.{AnswersEntry}
use Rattle.directory_core.specs.Shown.{IsStored, IsKept}
use Rattle.directory_core.proofs.KeptLaws.{kept-HasRisingNumbers, live_few}

-- ---- with an entry more

-- what is live at a moment stays
only_live_twice : (swept : ℕ) (state : State)
    → only_live swept (only_live swept state) ≡ only_live swept state
only_live_twice swept state =
    ap (λ (records : List Record). with_records state.last_number records)
    (live_among_live swept swept state.records (omega arith))
  where
    with_records : ℕ → List Record → State
    with_records last_number records = record { records = records; last_number = last_number }

-- what has lapsed may be dropped before an accepted entry, where what is left was granted no later
apply_left : (swept : ℕ) (state : State) (entries : ℕ) (entry : Entry)
    → HasRisingNumbers state
    → HasRisingNumbers (only_live swept state)
    → refusal_in state entries entry ≡ None
    → refusal_in (only_live swept state) entries entry ≡ None
    → IsLasting entry.change
    → swept ≤ entry.moment.0
    → AllByRecursion (IsGrantedBy entry.moment.0) (only_live swept state).records
    → apply (only_live swept state) entry ≡ only_live swept (apply state entry)
apply_left swept state entries entry rising left_rising accepts left_accepts lasts order granted =
    let left = only_live swept state in
    ap (λ s. apply s entry) (sym (only_live_twice swept state))
    ∙ apply-only_live swept left entries entry left_rising left_accepts lasts order granted
    ∙ sym (only_live-apply swept state entries entry rising (accepted state entries entry accepts)
    order)

none_lapsed : (swept moment : ℕ) (records : List Record)
    → swept ≤ moment
    → length (filter (λ r. nat_le (lapse r) swept) (live_among moment records)) ≡ 0
none_lapsed swept moment records order =
    none (live_among moment records) (each_passes (is_live_at moment) records)
  where
    none : (records : List Record)
        → AllByRecursion (λ r. is_live_at moment r ≡ true) records
        → length (filter (λ (r : Record). nat_le (lapse r) swept) records) ≡ 0
    none [] live = refl
    none (r ∷ rs) live =
        let above : moment < lapse r = ltb-true _ _ (live.0) in
        let later : nat_le (lapse r) swept ≡ false = lt-leb _ _ (omega arith) in
        rw later (none rs live.1)

-- after an entry that is not refused a version stands for the history with that entry: what is
-- known of its records is enough
pub with_entry_stands : (first : ℕ) (history : List Entry) (v : Version) (names : List NameSlot)
    (leases : List Lease) (count sum : ℕ) (entry : Entry)
    → IsKept v names leases count sum
    → v.at ≤ entry.moment.0
    → v.swept ≤ entry.moment.0
    → VersionStandsFor first history v
    → change_refusal first history entry ≡ None
    → IsLasting entry.change
    → VersionStandsFor first (history ++ entry ∷ []) (with_entry v entry)
unfolding change_refusal lapsed_since live
with_entry_stands first history v names leases count sum entry k after_at order stands accepts
    lasts =
    let before = replay history in
    let same : state_of v ≡ only_live v.swept before =
    state_of-VersionStandsFor first history v stands in
    let left_accepts : refusal_in (only_live v.swept before) (counted first history) entry ≡ None
    = ap₂ (λ (s : State) (n : ℕ). refusal_in s n entry) (sym same) (sym stands.entries)
    ∙ change_refusal-VersionStandsFor first history v entry stands order
    ∙ accepts in
    let granted : AllByRecursion (IsGrantedBy entry.moment.0) v.records =
    each_weaker (IsStored v) (IsGrantedBy entry.moment.0)
    (λ r s. let by_then = s.granted in omega arith) v.records k.stored in
    let made : apply (state_of v) entry ≡ only_live v.swept (apply before entry)
    = ap (λ s. apply s entry) same
    ∙ apply_left v.swept before (counted first history) entry (replay-HasRisingNumbers history)
    (subst HasRisingNumbers same (kept-HasRisingNumbers v names leases count sum k)) accepts
    left_accepts lasts order
    (subst (λ (s : State). AllByRecursion (IsGrantedBy entry.moment.0) s.records) same granted) in
    let whole :
    only_live v.swept (apply before entry)
    ≡ only_live v.swept (replay (history ++ entry ∷ [])) =
    ap (only_live v.swept) (sym (replay_push history entry)) in
    record {
      records = ap (λ (s : State). s.records) (made ∙ whole);
      entries =
          ap (λ count. count_after count entry) stands.entries
          ∙ sym (counted_push first history entry);
      at = sym (last_moment_push history entry);
      last_number = ap (λ (s : State). s.last_number) (made ∙ whole);
      swept_live =
          sym (rw (last_moment_push history entry)
          (none_lapsed v.swept entry.moment.0 (replay (history ++ entry ∷ [])).records
          order));
    }

-- ---- what is answered

-- a version with an entry more after so many that are counted
abbrev entered : ℕ → Version → Entry → Version
entered count v entry = record {
  records = (apply (state_of v) entry).records;
  entries = count + 1;
  at = entry.moment.0;
  last_number = (apply (state_of v) entry).last_number;
  swept_live = 0;
  swept = v.swept;
}

-- what an entry weighs and makes of a version, after so many that are counted: a beginning raises
-- the count to them
pub record Fits (v : Version) (entry : Entry) (entries text : ℕ) (new : Version) : Type 0 where
  pub there : is_gone (live_among entry.moment.0 v.records) entry.change ≡ false
  pub room : is_full_of_records (live_among entry.moment.0 v.records) entry.change ≡ false
  pub weighs : is_full_of_text (text_after (state_of v) entry) entry.change ≡ nat_lt max_text text
  pub text_is : max_text < text → text ≡ text_after (state_of v) entry
  pub counts : lifted v.entries entry.change ≡ entries
  pub makes : entered entries v entry ≡ new
  pub lasting : IsLasting entry.change

refusal_of_fit : (v : Version) (entry : Entry) (entries text : ℕ) (new : Version)
    → Fits v entry entries text new
    → refusal_in (state_of v) v.entries entry
    ≡ cond (nat_lt max_text text) (Some cause.Text)
    (cond (nat_le max_entries entries) (Some cause.Entries) None)
unfolding refusal_in
refusal_of_fit v entry entries text new f =
    let a = f.there in
    let b = f.room in
    let c = f.weighs in
    let d = f.counts in
    rw (a, b, c, d) refl

-- a version weighs an entry as each history does that it stands for
text_of_history : (first : ℕ) (history : List Entry) (v : Version) (entry : Entry)
    → VersionStandsFor first history v
    → v.swept ≤ entry.moment.0
    → text_after (state_of v) entry ≡ text_after (replay history) entry
text_of_history first history v entry stands order =
    ap (λ (s : State). text_of (apply s entry).records)
    (ap (only_live entry.moment.0) (state_of-VersionStandsFor first history v stands)
    ∙ ap (λ (records : List Record). with_records (replay history).last_number records)
    (live_among_live v.swept entry.moment.0 (replay history).records order))
  where
    with_records : ℕ → List Record → State
    with_records last_number records = record { records = records; last_number = last_number }

pub answers_entry : (first : ℕ) (history : List Entry) (v : Version) (names : List NameSlot)
    (leases : List Lease) (count sum : ℕ) (entry : Entry) (entries text : ℕ) (new : Version)
    → IsKept v names leases count sum
    → v.at ≤ entry.moment.0
    → v.swept ≤ entry.moment.0
    → VersionStandsFor first history v
    → Fits v entry entries text new
    → new.swept ≡ v.swept
    → (made : Result Version Refusal)
    → IsMadeWithRoom text entries new made
    → AnswersEntry first history entry v.swept made
answers_entry first history v names leases count sum entry entries text new k after_at order stands
    fits swept made h =
    by made h
  where
    refusal :
        change_refusal first history entry
        ≡ cond (nat_lt max_text text) (Some cause.Text)
        (cond (nat_le max_entries entries) (Some cause.Entries) None)
    refusal =
        sym (change_refusal-VersionStandsFor first history v entry stands order)
        ∙ refusal_of_fit v entry entries text new fits

    light : text ≤ max_text → nat_lt max_text text ≡ false
    light below = grind (arith, nat_tests)

    heavy : max_text < text → nat_lt max_text text ≡ true
    heavy above = grind (arith, nat_tests)

    few : entries < max_entries → nat_le max_entries entries ≡ false
    few below = grind (arith, nat_tests)

    many : max_entries ≤ entries → nat_le max_entries entries ≡ true
    many above = grind (arith, nat_tests)

    by : (made : Result Version Refusal)
        → IsMadeWithRoom text entries new made
        → AnswersEntry first history entry v.swept made
    by (Ok version) h =
        let accepts : change_refusal first history entry ≡ None =
        refusal ∙ (rw (light (h.1), few (h.2)) refl) in
        record {
          stands =
              subst (VersionStandsFor first (history ++ entry ∷ []))
              (ap (λ count. entered count v entry) fits.counts ∙ fits.makes ∙ sym h.0)
              (with_entry_stands first history v names leases count sum entry k after_at order
              stands accepts fits.lasting);
          accepted = accepts;
          refused = tt;
          kept = ap (λ (w : Version). w.swept) h.0 ∙ swept;
        }
    by (Err (answer.FullText full)) h = record {
      stands = tt;
      accepted = tt;
      refused = (
        refusal
            ∙ (rw (heavy (h.1)) refl),
        h.0
            ∙ ap capped (fits.text_is (h.1) ∙ text_of_history first history v entry stands order),
      );
      kept = tt;
    }
    by (Err answer.FullEntries) h = record {
      stands = tt;
      accepted = tt;
      refused = refusal ∙ (rw (light (h.0), many (h.1)) refl);
      kept = tt;
    }
    by (Err answer.Starved) h = record { stands = tt; accepted = tt; refused = tt; kept = tt }
    by (Err (answer.Gone number)) h = absurd h
    by (Err (answer.FullCount full)) h = absurd h

-- where the number of an entry is not live
pub answers_gone : (first : ℕ) (history : List Entry) (v : Version) (entry : Entry) (number : ℕ)
    → v.swept ≤ entry.moment.0
    → VersionStandsFor first history v
    → is_gone (live_among entry.moment.0 v.records) entry.change ≡ true
    → number ≡ number_about (replay history) entry.moment.0 entry.change
    → AnswersEntry first history entry v.swept (Err (answer.Gone number))
unfolding refusal_in
answers_gone first history v entry number order stands gone about =
    let refusal : refusal_in (state_of v) v.entries entry ≡ Some cause.Registration =
    rw gone refl in
    record {
      stands = tt;
      accepted = tt;
      refused = (
        sym (change_refusal-VersionStandsFor first history v entry stands order)
            ∙ refusal,
        about,
      );
      kept = tt;
    }

-- where there is no room for one record more
pub answers_full : (first : ℕ) (history : List Entry) (v : Version) (names : List NameSlot)
    (leases : List Lease) (count sum : ℕ) (entry : Entry) (full : ℕ)
    → IsKept v names leases count sum
    → v.at ≤ entry.moment.0
    → v.swept ≤ entry.moment.0
    → VersionStandsFor first history v
    → is_gone (live_among entry.moment.0 v.records) entry.change ≡ false
    → is_full_of_records (live_among entry.moment.0 v.records) entry.change ≡ true
    → full ≡ length (live_among entry.moment.0 v.records)
    → max_registrations ≤ full
    → AnswersEntry first history entry v.swept (Err (answer.FullCount full))
unfolding refusal_in
answers_full first history v names leases count sum entry full k after_at order stands there room
    counts above =
    let refusal : refusal_in (state_of v) v.entries entry ≡ Some cause.Registrations =
    rw (there, room) refl in
    let few = live_few v names leases count sum entry.moment.0 k after_at order in
    record {
      stands = tt;
      accepted = tt;
      refused = (
        sym (change_refusal-VersionStandsFor first history v entry stands order)
            ∙ refusal,
        counts
            ∙ ap length (live-VersionStandsFor first history v entry.moment.0 stands order),
        omega
            (arith, counts, few, above),
      );
      kept = tt;
    }
