-- How many registrations are live, what they weigh together, and how many entries there are.
use Rattle.std.proofs.Common.{
  ◌≡◌,
  ℕ,
  ◌+◌,
  ◌<◌,
  ◌≤◌,
  Bool,
  true,
  false,
  not,
  ◌&&◌,
  List,
  [],
  ◌∷◌,
  map,
  filter,
  length,
  length-append,
  Option,
  Some,
  None,
  nat_le,
  nat_lt,
  refl,
  sym,
  ap,
  subst,
  ◌∙◌,
  arith,
}
use Rattle.std.specs.List.{AllByRecursion}
use Rattle.std.proofs.lemmas.Bool.{true≢false, leb-false, ltb-false, false_from_ne_true}
use Rattle.std.proofs.lemmas.List.{length-map}
use Rattle.rd_base.specs.declared.records.Name.{Name}
use Rattle.rd_base.specs.declared.records.Record.{Record}
use Rattle.record_model.specs.ListingLines.{weight}
use Rattle.record_model.specs.Records.{registered, updated}
use Rattle.history_model.specs.declared.entries.Change.{Change}
use Rattle.history_model.specs.declared.entries.Change.TheVariants as change
use Rattle.history_model.specs.declared.entries.Entry.{Entry}
use Rattle.history_model.specs.Leases.{is_live_at, live_among}
use Rattle.history_model.specs.Names.{is_same_name}
use Rattle.history_model.specs.Replay.{
  State,
  is_numbered,
  number_named,
  replaced,
  registered_under,
  changed,
  apply,
  replay,
  lifted,
  counted,
}
use Rattle.history_model.specs.Live.{live, last_moment}
use Rattle.history_model.specs.Legal.{IsLegalFrom}
use Rattle.history_model.specs.Refusals.{
  max_registrations,
  max_text,
  max_entries,
  has_name,
  text_of,
  is_full_of_records,
  is_full_of_text,
  only_live,
}
use Rattle.rd_base.proofs.lemmas.Each.{each_passes}
use Rattle.rd_base.proofs.lemmas.Filters.{length-filter-le, sum_by-filter-le}
use Rattle.history_model.proofs.ReplayLaws.{
  replay-nil,
  replay_push,
  last_moment_push,
  counted-nil,
  counted_push,
}
use Rattle.history_model.proofs.LegalLaws.{by_legal_pushes}
use Rattle.history_model.proofs.NumberLaws.{
  HasRisingNumbers,
  replay-HasRisingNumbers,
  last_number-le-counted,
}
use Rattle.history_model.proofs.Acceptance.{is_same_name-Decides, not_named, Accepted}
use Rattle.history_model.proofs.NameLaws.{after_change, next-Accepted}
use Rattle.history_model.proofs.SweepLaws.{live_among_live, only_live-apply}

-- so many records, of so much text, may be live
pub record IsBounded (records : List Record) : Type 0 where
  pub count : length records ≤ max_registrations
  pub text : text_of records ≤ max_text

-- fewer records are bounded too
pub IsBounded-filter : (test : Record → Bool) (records : List Record)
    → IsBounded records
    → IsBounded (filter test records)
IsBounded-filter test records bounded =
    let fewer = length-filter-le test records in
    let less = sum_by-filter-le weight test records in
    let count = bounded.count in
    let text = bounded.text in
    record { count = omega arith; text = omega (arith, less) }

-- no record has the name where none of the live ones has a number by it
no_name : (name : Name) (moment : ℕ) (records : List Record)
    → AllByRecursion (λ r. is_live_at moment r ≡ true) records
    → AllByRecursion (λ r. r.name ≡ name → is_live_at moment r ≡ false) records
    → has_name name records ≡ false
no_name name moment [] live none = refl
no_name name moment (r ∷ rs) live none =
    let other : is_same_name r.name name ≡ false =
    false_from_ne_true _
    (λ same. true≢false (sym (live.0) ∙ none.0 ((is_same_name-Decides r.name name).0 same)))
    in
    let rest = no_name name moment rs live.1 none.1 in
    rw (other, rest) refl

-- a count that does not stop a registration
has_room : (full named : Bool) → (full && not named) ≡ false → named ≡ false → full ≡ false
has_room true true e same = absurd (true≢false same)
has_room true false e same = e
has_room false named e same = refl

-- what an accepted entry makes of the live records is bounded
changed-IsBounded : (entry : Entry) (state : State)
    → AllByRecursion (λ r. is_live_at entry.moment.0 r ≡ true) state.records
    → IsBounded state.records
    → (c : Change)
    → is_full_of_records state.records c ≡ false
    → is_full_of_text (text_of (changed state entry.moment entry.peer c).records) c ≡ false
    → IsBounded (changed state entry.moment entry.peer c).records
changed-IsBounded entry state live bounded (change.Register params links) room text =
    of_number (number_named params.name entry.moment.0 state.records) refl text
  where
    of_number : (o : Option ℕ)
        → number_named params.name entry.moment.0 state.records ≡ o
        → nat_lt max_text
        (text_of (registered_under o state entry.moment entry.peer params links).records)
        ≡ false
        → IsBounded (registered_under o state entry.moment entry.peer params links).records
    of_number (Some number) found fits =
        let same :
        length (map (after_change number
        (λ r. registered number entry.moment entry.peer params links))
        state.records)
        ≡ length state.records =
        length-map _ _ in
        let count = bounded.count in
        record { count = omega (arith, same); text = ltb-false _ _ fits }
    of_number None found fits =
        let unnamed =
        no_name params.name entry.moment.0 state.records live
        (not_named params.name entry.moment.0 state.records found) in
        let below : length state.records < max_registrations =
        leb-false _ _
        (has_room (nat_le max_registrations (length state.records)) (has_name params.name
        state.records) room unnamed) in
        let more =
        length-append state.records
        (registered (state.last_number + 1) entry.moment entry.peer params links ∷ []) in
        record { count = omega (arith, more); text = ltb-false _ _ fits }
changed-IsBounded entry state live bounded (change.Update number given) room text =
    let same :
    length (map (after_change number (updated entry.moment entry.peer given)) state.records)
    ≡ length state.records =
    length-map _ _ in
    let count = bounded.count in
    record { count = omega (arith, same); text = ltb-false _ _ text }
changed-IsBounded entry state live bounded (change.Replace number links) room text =
    let same :
    length (map (after_change number (replaced links)) state.records) ≡ length state.records =
    length-map _ _ in
    let count = bounded.count in
    record { count = omega (arith, same); text = ltb-false _ _ text }
changed-IsBounded entry state live bounded (change.Remove number) room text =
    IsBounded-filter (λ r. not (is_numbered number r)) state.records bounded
changed-IsBounded entry state live bounded (change.Begin first) room text = bounded

apply-IsBounded : (state : State) (entries : ℕ) (entry : Entry)
    → HasRisingNumbers state
    → Accepted state entries entry
    → IsBounded (live_among entry.moment.0 state.records)
    → IsBounded (live_among entry.moment.0 (apply state entry).records)
unfolding apply
apply-IsBounded state entries entry numbered accepts bounded =
    let moment = entry.moment.0 in
    let same :
    live_among moment (apply state entry).records
    ≡ live_among moment (apply (only_live moment state) entry).records =
    ap (λ (s : State). s.records)
    (only_live-apply moment state entries entry numbered accepts (omega arith)) in
    subst IsBounded (sym same)
    (IsBounded-filter (is_live_at moment) (apply (only_live moment state) entry).records
    (changed-IsBounded entry (only_live moment state)
    (each_passes (is_live_at moment) state.records) bounded entry.change accepts.room
    accepts.text))

replay-IsBounded : (first : ℕ) (history : List Entry)
    → IsLegalFrom first history
    → IsBounded (live_among (last_moment history) (replay history).records)
replay-IsBounded first =
    by_legal_pushes first (λ h. IsBounded (live_among (last_moment h) (replay h).records))
    (rw replay-nil (record { count = omega arith; text = omega arith }))
    (λ h e legal next before. rw (replay_push h e, last_moment_push h e)
    (apply-IsBounded (replay h) (counted first h) e (replay-HasRisingNumbers h)
    (next-Accepted first h e next)
    (subst IsBounded (live_among_live (last_moment h) e.moment.0 (replay h).records next.in_time)
    (IsBounded-filter (is_live_at e.moment.0) (live_among (last_moment h) (replay h).records)
    before))))

-- after a legal history so many records at most are live, and they weigh so much together at most
pub live-IsBounded : (first : ℕ) (history : List Entry) (moment : ℕ)
    → IsLegalFrom first history
    → last_moment history ≤ moment
    → IsBounded (live history moment)
unfolding live
live-IsBounded first history moment legal order =
    subst IsBounded (live_among_live (last_moment history) moment (replay history).records order)
    (IsBounded-filter (is_live_at moment)
    (live_among (last_moment history) (replay history).records)
    (replay-IsBounded first history legal))

-- so many entries of a legal history are counted at most
pub counted-le-max_entries : (first : ℕ) (history : List Entry)
    → first ≤ max_entries
    → IsLegalFrom first history
    → counted first history ≤ max_entries
counted-le-max_entries first history low =
    by_legal_pushes first (λ h. counted first h ≤ max_entries) (rw (counted-nil first) low)
    (λ h e legal next before.
    let below : lifted (counted first h) e.change < max_entries =
    leb-false _ _ (next-Accepted first h e next).counted in
    rw (counted_push first h e) (omega (arith, below))) history

-- so no number is higher
-- An end theorem: nothing here cites it.
pub last_number-le-max_entries : (first : ℕ) (history : List Entry)
    → first ≤ max_entries
    → IsLegalFrom first history
    → (replay history).last_number ≤ max_entries
last_number-le-max_entries first history low legal =
    let last = last_number-le-counted first history in
    let few = counted-le-max_entries first history low legal in omega (arith, last, few)
