-- What has lapsed may be dropped before an entry: what is live after it is the same.
use Rattle.std.proofs.Common.{
  ◌≡◌,
  ℕ,
  ◌+◌,
  ◌≤◌,
  Bool,
  true,
  false,
  not,
  cond,
  List,
  [],
  ◌∷◌,
  ◌++◌,
  filter,
  Option,
  Some,
  None,
  option_map,
  refl,
  sym,
  ap,
  ◌∙◌,
  eqb-true,
  max,
  arith,
}
use Rattle.std.specs.List.{AllByRecursion}
use Rattle.std.proofs.lemmas.Bool.{true≢false, and_parts, not-false}
use Rattle.std.proofs.lemmas.List.Elements.{filter-append}
use Rattle.rd_base.specs.declared.parameters.RegParams.{RegParams}
use Rattle.rd_base.specs.declared.records.Name.{Name}
use Rattle.rd_base.specs.declared.records.Record.{Record}
use Rattle.rd_base.specs.declared.submitted_links.SubmittedLink.{SubmittedLink}
use Rattle.record_model.specs.Records.{registered, updated}
use Rattle.history_model.specs.declared.entries.Change.{Change}
use Rattle.history_model.specs.declared.entries.Change.TheVariants as change
use Rattle.history_model.specs.declared.entries.Entry.{Entry}
use Rattle.history_model.specs.Leases.{is_live_at, live_among}
use Rattle.history_model.specs.Names.{is_same_name}
use Rattle.history_model.specs.Replay.{
  State,
  is_numbered,
  is_live_named,
  number_named,
  with_changed,
  replaced,
  registered_under,
  changed,
  apply,
}
use Rattle.history_model.specs.Refusals.{is_gone, only_live}
use Rattle.rd_base.proofs.lemmas.Each.{each_weaker, each_passes}
use Rattle.rd_base.proofs.lemmas.Filters.{
  filter_all,
  filter_stronger,
  filter_changed,
  filter_swapped,
  find-filter,
}
use Rattle.history_model.proofs.NumberLaws.{HasRisingNumbers}
use Rattle.history_model.proofs.Acceptance.{is_live_before, Accepted, live_numbered, named_numbered}
use Rattle.history_model.proofs.NameLaws.{after_change}

-- what is live at a moment, of what was live before
pub live_among_live : (before moment : ℕ) (records : List Record)
    → before ≤ moment
    → live_among moment (live_among before records) ≡ live_among moment records
live_among_live before moment records order =
    filter_stronger (is_live_at moment) (is_live_at before)
    (λ r live. is_live_before before moment r order live) records

-- the number of a name is that among what is live
pub number_named-live : (before moment : ℕ) (name : Name) (records : List Record)
    → before ≤ moment
    → number_named name moment (live_among before records) ≡ number_named name moment records
number_named-live before moment name records order = ap (option_map (λ (r : Record). r.number))
    (find-filter (is_live_named name moment) (is_live_at before)
    (λ r both.
    is_live_before before moment r order
    (and_parts (is_same_name r.name name) (is_live_at moment r) both).1) records)

-- a change of a live record
changed_live : (swept moment number : ℕ) (new : Record → Record) (records : List Record)
    → swept ≤ moment
    → AllByRecursion (λ r. r.number ≡ number → is_live_at moment r ≡ true) records
    → live_among swept (with_changed number new records)
    ≡ live_among swept (with_changed number new (live_among swept records))
changed_live swept moment number new records order known =
    filter_changed (is_live_at swept) (after_change number new) records
    (each_weaker (λ r. r.number ≡ number → is_live_at moment r ≡ true)
    (λ r. is_live_at swept r ≡ false → after_change number new r ≡ r)
    (λ r live lapsed. other r live lapsed) records known)
  where
    other : (r : Record)
        → (r.number ≡ number → is_live_at moment r ≡ true)
        → is_live_at swept r ≡ false
        → after_change number new r ≡ r
    other r live lapsed = by (is_numbered number r) refl
      where
        by : (b : Bool) → is_numbered number r ≡ b → cond b (new r) r ≡ r
        by true e =
            absurd (true≢false
            (sym (is_live_before swept moment r order (live (eqb-true r.number number e)))
            ∙ lapsed))
        by false e = refl

-- a new record
appended_live : (swept : ℕ) (records : List Record) (r : Record)
    → live_among swept (records ++ r ∷ []) ≡ live_among swept (live_among swept records ++ r ∷ [])
appended_live swept records r =
    let test = is_live_at swept in
    let twice : filter test (filter test records) ≡ filter test records =
    filter_all test (filter test records) (each_passes test records) in
    filter-append test records (r ∷ [])
    ∙ ap (λ kept. kept ++ filter test (r ∷ [])) (sym twice)
    ∙ sym (filter-append test (filter test records) (r ∷ []))

-- a removal
removed_live : (swept number : ℕ) (records : List Record)
    → live_among swept (filter (λ r. not (is_numbered number r)) records)
    ≡ live_among swept (filter (λ r. not (is_numbered number r)) (live_among swept records))
removed_live swept number records =
    let test = is_live_at swept in
    let kept = λ (r : Record). not (is_numbered number r) in
    let twice : filter test (filter test records) ≡ filter test records =
    filter_all test (filter test records) (each_passes test records) in
    filter_swapped test kept records
    ∙ ap (filter kept) (sym twice)
    ∙ sym (filter_swapped test kept (filter test records))

-- what had lapsed at a moment not above that of an accepted entry may be dropped before it
pub only_live-apply : (swept : ℕ) (state : State) (entries : ℕ) (entry : Entry)
    → HasRisingNumbers state
    → Accepted state entries entry
    → swept ≤ entry.moment.0
    → only_live swept (apply state entry) ≡ only_live swept (apply (only_live swept state) entry)
unfolding apply
only_live-apply swept state entries entry numbered accepts order =
    of_change entry.change accepts.there
  where
    with_records : ℕ → List Record → State
    with_records last_number records = record { records = records; last_number = last_number }

    of_number : (o : Option ℕ) (params : RegParams) (links : List SubmittedLink)
        → number_named params.name entry.moment.0 state.records ≡ o
        → only_live swept (registered_under o state entry.moment entry.peer params links)
        ≡ only_live swept
        (registered_under o (only_live swept state) entry.moment entry.peer params links)
    of_number (Some number) params links found = ap (with_records state.last_number)
        (changed_live swept entry.moment.0 number
        (λ r. registered number entry.moment entry.peer params links) state.records order
        (each_weaker
        (λ r. r.number ≡ number → (is_live_at entry.moment.0 r ≡ true) × (r.name ≡ params.name))
        (λ r. r.number ≡ number → is_live_at entry.moment.0 r ≡ true)
        (λ r fits same. (fits same).0) state.records
        (named_numbered params.name entry.moment.0 number state.records numbered.ascending found)))
    of_number None params links found =
        ap (with_records (state.last_number + 1)) (appended_live swept state.records
        (registered (state.last_number + 1) entry.moment entry.peer params links))

    of_change : (c : Change)
        → is_gone (live_among entry.moment.0 state.records) c ≡ false
        → only_live swept (changed state entry.moment entry.peer c)
        ≡ only_live swept (changed (only_live swept state) entry.moment entry.peer c)
    of_change (change.Register params links) there =
        of_number (number_named params.name entry.moment.0 state.records) params links refl
        ∙ ap (λ o.
        only_live swept
        (registered_under o (only_live swept state) entry.moment entry.peer params
        links))
        (sym (number_named-live swept entry.moment.0 params.name state.records order))
    of_change (change.Update number given) there = ap (with_records state.last_number)
        (changed_live swept entry.moment.0 number (updated entry.moment entry.peer given)
        state.records order
        (live_numbered entry.moment.0 number state.records numbered.ascending
        (not-false _ there)))
    of_change (change.Replace number links) there = ap (with_records state.last_number)
        (changed_live swept entry.moment.0 number (replaced links) state.records order
        (live_numbered entry.moment.0 number state.records numbered.ascending
        (not-false _ there)))
    of_change (change.Remove number) there =
        ap (with_records state.last_number) (removed_live swept number state.records)
    of_change (change.Begin first) there = ap (with_records (max state.last_number first))
        (sym (live_among_live swept swept state.records (omega arith)))
