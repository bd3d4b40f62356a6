-- Versions: what one stands for, after an entry and after a sweep, and what it answers.
use Rattle.std.proofs.Common.{
  ◌≡◌,
  ℕ,
  ◌+◌,
  ◌*◌,
  ◌<◌,
  ◌≤◌,
  Bool,
  true,
  false,
  not,
  ◌&&◌,
  cond,
  List,
  [],
  ◌∷◌,
  ◌++◌,
  filter,
  length,
  Option,
  Some,
  None,
  IfSome,
  unwrap_or,
  nat_lt,
  nat_le,
  refl,
  sym,
  ap,
  ap₂,
  ◌∙◌,
  arith,
  eqb-true,
  ltb-true,
  lt-ltb,
}
use Rattle.std.specs.List.{AllByRecursion}
use Rattle.std.proofs.lemmas.Bool.{and_parts, not-false, ltb-false, leb-true, leb-false, lt-leb}
use Rattle.rd_base.specs.declared.parameters.RegParams.{RegParams}
use Rattle.rd_base.specs.declared.parameters.UpdateParams.{UpdateParams}
use Rattle.rd_base.specs.declared.queries.Query.{Query}
use Rattle.rd_base.specs.declared.records.Name.{Name}
use Rattle.rd_base.specs.declared.records.Record.{Record}
use Rattle.rd_base.specs.declared.submitted_links.SubmittedLink.{SubmittedLink}
use Rattle.record_model.specs.Records.{registered, updated}
use Rattle.history_model.specs.declared.entries.Change.{Change}
use Rattle.history_model.specs.declared.entries.Change.TheVariants as change
use Rattle.history_model.specs.declared.entries.Entry.{Entry}
use Rattle.history_model.specs.Leases.{lapse, is_live_at, live_among, lapsing_among, lapsed_between}
use Rattle.history_model.specs.Replay.{
  State,
  is_numbered,
  number_named,
  number_for,
  replaced,
  registered_under,
  changed,
  apply,
  replay,
  count_after,
  counted,
}
use Rattle.history_model.specs.Live.{live, last_moment}
use Rattle.history_model.specs.Listing.{lines_of, all_lines, lapsed_since, tag_octets, tag_from}
use Rattle.history_model.specs.Legal.{IsLegalFrom, IsLasting}
use Rattle.history_model.specs.Refusals.{is_gone, only_live, refusal_in, change_refusal}
use Rattle.history_model.specs.Versions.{Version, state_of, VersionStandsFor}
use Rattle.rd_base.proofs.lemmas.Each.{
  each_weaker,
  each_both,
  each_map,
  each_filter,
  each_push,
  each_passes,
}
use Rattle.rd_base.proofs.lemmas.Pairs.{pairs_filter}
use Rattle.rd_base.proofs.lemmas.Filters.{filter_all, filter_stronger}
use Rattle.history_model.proofs.ReplayLaws.{
  replay_push,
  last_moment_push,
  counted-nil,
  counted_push,
}
use Rattle.history_model.proofs.NumberLaws.{
  IsBelow,
  IsNumberedUpTo,
  HasRisingNumbers,
  replay-HasRisingNumbers,
}
use Rattle.history_model.proofs.Acceptance.{is_live_before, Accepted, accepted, live_numbered}
use Rattle.history_model.proofs.NameLaws.{after_change, IsGrantedBy, replay-IsGrantedBy}
use Rattle.history_model.proofs.SweepLaws.{live_among_live, number_named-live, only_live-apply}

-- ---- refusals

-- what had lapsed at a moment not above that of an entry plays no part in its refusals
pub refusal_in-only_live : (swept : ℕ) (state : State) (entries : ℕ) (entry : Entry)
    → swept ≤ entry.moment.0
    → refusal_in (only_live swept state) entries entry ≡ refusal_in state entries entry
unfolding refusal_in
refusal_in-only_live swept state entries entry order =
    rw (live_among_live swept entry.moment.0 state.records order) refl

-- ---- leases

-- a registration with a lifetime is live at its moment, and before
pub registered_live : (swept number : ℕ) (entry : Entry) (params : RegParams)
    (links : List SubmittedLink)
    → swept ≤ entry.moment.0
    → 0 < params.lt
    → is_live_at swept (registered number entry.moment entry.peer params links) ≡ true
unfolding registered
registered_live swept number entry params links order lasts =
    lt-ltb swept (entry.moment.0 + 1000 * params.lt) (omega arith)

-- so is what an update makes of a live record
updated_live : (swept : ℕ) (entry : Entry) (given : UpdateParams) (r : Record)
    → swept ≤ entry.moment.0
    → IsLasting (change.Update r.number given)
    → r.granted.0 ≤ entry.moment.0
    → is_live_at entry.moment.0 r ≡ true
    → is_live_at swept (updated entry.moment entry.peer given r) ≡ true
unfolding updated
updated_live swept entry given r order lasts granted live =
    lt-ltb swept (entry.moment.0 + 1000 * unwrap_or given.lt r.lt) (by given.lt lasts)
  where
    by : (o : Option ℕ) → IfSome o (λ lt. 0 < lt) → swept < entry.moment.0 + 1000 * unwrap_or o r.lt
    by (Some lt) lasts = omega arith
    by None lasts = let above : entry.moment.0 < lapse r = ltb-true _ _ live in omega arith

-- so is a live record with other links: its lease is as it was
replaced_live : (swept : ℕ) (links : List SubmittedLink) (r : Record)
    → is_live_at swept r ≡ true
    → is_live_at swept (replaced links r) ≡ true
unfolding replaced
replaced_live swept links r live = live

-- what an accepted entry makes of records that are live at a moment not above its own is live then
apply-live : (swept : ℕ) (state : State) (entries : ℕ) (entry : Entry)
    → HasRisingNumbers state
    → Accepted state entries entry
    → IsLasting entry.change
    → swept ≤ entry.moment.0
    → AllByRecursion (IsGrantedBy entry.moment.0) state.records
    → AllByRecursion (λ r. is_live_at swept r ≡ true) state.records
    → AllByRecursion (λ r. is_live_at swept r ≡ true) (apply state entry).records
unfolding apply
apply-live swept state entries entry numbered accepts lasts order granted live =
    of_change entry.change accepts.there lasts
  where
    kept : (number : ℕ) (new : Record → Record) (r : Record)
        → (r.number ≡ number → is_live_at swept (new r) ≡ true)
        → is_live_at swept r ≡ true
        → is_live_at swept (after_change number new r) ≡ true
    kept number new r new_live old_live = by (is_numbered number r) refl
      where
        by : (b : Bool) → is_numbered number r ≡ b → is_live_at swept (cond b (new r) r) ≡ true
        by true e = new_live (eqb-true r.number number e)
        by false e = old_live

    of_number : (o : Option ℕ) (params : RegParams) (links : List SubmittedLink)
        → 0 < params.lt
        → AllByRecursion (λ (r : Record). is_live_at swept r ≡ true)
        (registered_under o state entry.moment entry.peer params links).records
    of_number (Some number) params links lasts =
        let new = λ (r : Record). registered number entry.moment entry.peer params links in
        each_map (λ r. is_live_at swept r ≡ true) (after_change number new) state.records
        (each_weaker (λ r. is_live_at swept r ≡ true)
        (λ r. is_live_at swept (after_change number new r) ≡ true)
        (λ r old.
        kept number new r (λ _. registered_live swept number entry params links order lasts)
        old) state.records live)
    of_number None params links lasts =
        each_push (λ r. is_live_at swept r ≡ true) state.records
        (registered (state.last_number + 1) entry.moment entry.peer params links) live
        (registered_live swept (state.last_number + 1) entry params links order lasts)

    of_change : (c : Change)
        → is_gone (live_among entry.moment.0 state.records) c ≡ false
        → IsLasting c
        → AllByRecursion (λ (r : Record). is_live_at swept r ≡ true)
        (changed state entry.moment entry.peer c).records
    of_change (change.Register params links) there lasts =
        of_number (number_named params.name entry.moment.0 state.records) params links lasts
    of_change (change.Update number given) there lasts =
        let new = updated entry.moment entry.peer given in
        let there_live =
        live_numbered entry.moment.0 number state.records numbered.ascending
        (not-false _ there) in
        let known =
        each_both (λ r. r.number ≡ number → is_live_at entry.moment.0 r ≡ true)
        (IsGrantedBy entry.moment.0)
        (λ r. r.number ≡ number → is_live_at swept (new r) ≡ true)
        (λ r now by_then same. updated_live swept entry given r order lasts by_then (now same))
        state.records there_live granted in
        each_map (λ r. is_live_at swept r ≡ true) (after_change number new) state.records
        (each_both (λ r. r.number ≡ number → is_live_at swept (new r) ≡ true)
        (λ r. is_live_at swept r ≡ true)
        (λ r. is_live_at swept (after_change number new r) ≡ true) (kept number new)
        state.records known live)
    of_change (change.Replace number links) there lasts =
        each_map (λ r. is_live_at swept r ≡ true) (after_change number (replaced links))
        state.records
        (each_weaker (λ r. is_live_at swept r ≡ true)
        (λ r. is_live_at swept (after_change number (replaced links) r) ≡ true)
        (λ r old.
        kept number (replaced links) r (λ _. replaced_live swept links r old) old)
        state.records live)
    of_change (change.Remove number) there lasts =
        each_filter (λ r. is_live_at swept r ≡ true) (λ r. not (is_numbered number r)) state.records
        live
    of_change (change.Begin first) there lasts = live

-- an accepted entry, of the records that are left
Accepted-only_live : (swept : ℕ) (state : State) (entries : ℕ) (entry : Entry)
    → swept ≤ entry.moment.0
    → refusal_in state entries entry ≡ None
    → Accepted (only_live swept state) entries entry
Accepted-only_live swept state entries entry order e =
    accepted (only_live swept state) entries entry
    (refusal_in-only_live swept state entries entry order ∙ e)

-- the records that are left are numbered as they were
only_live-HasRisingNumbers : (swept : ℕ) (state : State)
    → HasRisingNumbers state
    → HasRisingNumbers (only_live swept state)
only_live-HasRisingNumbers swept state numbered = record {
  ascending = pairs_filter IsBelow (is_live_at swept) state.records numbered.ascending;
  each_numbered =
      each_filter (IsNumberedUpTo state.last_number) (is_live_at swept) state.records
      numbered.each_numbered;
}

-- what has lapsed may be dropped before an accepted entry or after it
pub apply-only_live : (swept : ℕ) (state : State) (entries : ℕ) (entry : Entry)
    → HasRisingNumbers state
    → refusal_in state entries entry ≡ None
    → IsLasting entry.change
    → swept ≤ entry.moment.0
    → AllByRecursion (IsGrantedBy entry.moment.0) state.records
    → apply (only_live swept state) entry ≡ only_live swept (apply state entry)
apply-only_live swept state entries entry numbered e lasts order granted =
    let left = only_live swept state in
    let all_live =
    apply-live swept left entries entry (only_live-HasRisingNumbers swept state numbered)
    (Accepted-only_live swept state entries entry order e) lasts order
    (each_filter (IsGrantedBy entry.moment.0) (is_live_at swept) state.records granted)
    (each_passes (is_live_at swept) state.records) in
    let kept : only_live swept (apply left entry) ≡ apply left entry =
    ap (λ (records : List Record). with_records (apply left entry).last_number records)
    (filter_all (is_live_at swept) (apply left entry).records all_live) in
    sym kept
    ∙ sym
    (only_live-apply swept state entries entry numbered (accepted state entries entry e) order)
  where
    with_records : ℕ → List Record → State
    with_records last_number records = record { records = records; last_number = last_number }

-- ---- what a version stands for

-- a version without an entry
abbrev pub empty_version : ℕ → Version
empty_version first = record {
  records = [];
  entries = first;
  at = 0;
  last_number = 0;
  swept_live = 0;
  swept = 0;
}

-- An end theorem: nothing here cites it.
pub empty-VersionStandsFor : (first : ℕ) → VersionStandsFor first [] (empty_version first)
unfolding replay last_moment lapsed_since live
empty-VersionStandsFor first = record {
  records = refl;
  entries = sym (counted-nil first);
  at = refl;
  last_number = refl;
  swept_live = refl;
}

-- what a version has made is what its history made, without what had lapsed
pub state_of-VersionStandsFor : (first : ℕ) (history : List Entry) (version : Version)
    → VersionStandsFor first history version
    → state_of version ≡ only_live version.swept (replay history)
state_of-VersionStandsFor first history version stands = ap₂ made stands.last_number stands.records
  where
    made : ℕ → List Record → State
    made last_number records = record { records = records; last_number = last_number }

-- it refuses what its history refuses, at moments not below its sweep
-- An end theorem: nothing here cites it.
pub change_refusal-VersionStandsFor : (first : ℕ) (history : List Entry) (version : Version)
    (entry : Entry)
    → VersionStandsFor first history version
    → version.swept ≤ entry.moment.0
    → refusal_in (state_of version) version.entries entry ≡ change_refusal first history entry
unfolding change_refusal
change_refusal-VersionStandsFor first history version entry stands order =
    ap₂ (λ state entries. refusal_in state entries entry)
    (state_of-VersionStandsFor first history version stands) stands.entries
    ∙ refusal_in-only_live version.swept (replay history) (counted first history) entry order

-- the same number of a name
-- An end theorem: nothing here cites it.
pub number_named-VersionStandsFor : (first : ℕ) (history : List Entry) (version : Version)
    (name : Name) (moment : ℕ)
    → VersionStandsFor first history version
    → version.swept ≤ moment
    → number_named name moment version.records ≡ number_named name moment (replay history).records
number_named-VersionStandsFor first history version name moment stands order =
    ap (number_named name moment) stands.records
    ∙ number_named-live version.swept moment name (replay history).records order

-- An end theorem: nothing here cites it.
pub number_for-VersionStandsFor : (first : ℕ) (history : List Entry) (version : Version)
    (name : Name) (moment : ℕ)
    → VersionStandsFor first history version
    → version.swept ≤ moment
    → number_for name moment (state_of version) ≡ number_for name moment (replay history)
number_for-VersionStandsFor first history version name moment stands order =
    ap (number_for name moment) (state_of-VersionStandsFor first history version stands)
    ∙ ap (λ (o : Option ℕ). unwrap_or o ((replay history).last_number + 1))
    (number_named-live version.swept moment name (replay history).records order)

-- the same live records
pub live-VersionStandsFor : (first : ℕ) (history : List Entry) (version : Version) (moment : ℕ)
    → VersionStandsFor first history version
    → version.swept ≤ moment
    → live_among moment version.records ≡ live history moment
unfolding live
live-VersionStandsFor first history version moment stands order =
    ap (live_among moment) stands.records
    ∙ live_among_live version.swept moment (replay history).records order

-- the same records lapse after a moment that is not below its sweep, and up to a later one
-- An end theorem: nothing here cites it.
pub lapsing-VersionStandsFor : (first : ℕ) (history : List Entry) (version : Version) (from to : ℕ)
    → VersionStandsFor first history version
    → version.swept ≤ from
    → lapsing_among from to version.records ≡ lapsing_among from to (replay history).records
lapsing-VersionStandsFor first history version from to stands order =
    ap (lapsing_among from to) stands.records
    ∙ filter_stronger (λ r. nat_lt from (lapse r) && nat_le (lapse r) to) (is_live_at version.swept)
    (λ r both.
    is_live_before version.swept from r order
    (and_parts (nat_lt from (lapse r)) (nat_le (lapse r) to) both).0)
    (replay history).records

-- the same lines
-- An end theorem: nothing here cites it.
pub all_lines-VersionStandsFor : (first : ℕ) (history : List Entry) (version : Version)
    (query : Query) (moment : ℕ)
    → VersionStandsFor first history version
    → version.swept ≤ moment
    → lines_of query (live_among moment version.records) ≡ all_lines query history moment
unfolding all_lines
all_lines-VersionStandsFor first history version query moment stands order =
    ap (lines_of query) (live-VersionStandsFor first history version moment stands order)

-- ---- an entry more

-- a version after an entry
abbrev pub with_entry : Version → Entry → Version
with_entry version entry = record {
  records = (apply (state_of version) entry).records;
  entries = count_after version.entries entry;
  at = entry.moment.0;
  last_number = (apply (state_of version) entry).last_number;
  swept_live = 0;
  swept = version.swept;
}

-- none of the records that are live has lapsed before
none_lapsed : (swept moment : ℕ) (records : List Record)
    → swept ≤ moment
    → length (filter (λ r. nat_le (lapse r) swept) (live_among moment records)) ≡ 0
none_lapsed swept moment records order =
    none (live_among moment records) (each_passes (is_live_at moment) records)
  where
    none : (records : List Record)
        → AllByRecursion (λ r. is_live_at moment r ≡ true) records
        → length (filter (λ (r : Record). nat_le (lapse r) swept) records) ≡ 0
    none [] live = refl
    none (r ∷ rs) live =
        let above : moment < lapse r = ltb-true _ _ (live.0) in
        let later : nat_le (lapse r) swept ≡ false = lt-leb _ _ (omega arith) in
        rw later (none rs live.1)

-- after an entry that is not refused a version stands for the history with that entry
-- An end theorem: nothing here cites it.
pub with_entry-VersionStandsFor : (first : ℕ) (history : List Entry) (version : Version)
    (entry : Entry)
    → IsLegalFrom first history
    → last_moment history ≤ entry.moment.0
    → change_refusal first history entry ≡ None
    → IsLasting entry.change
    → VersionStandsFor first history version
    → version.swept ≤ entry.moment.0
    → VersionStandsFor first (history ++ entry ∷ []) (with_entry version entry)
unfolding change_refusal lapsed_since live
with_entry-VersionStandsFor first history version entry legal in_time accepted lasts stands order =
    let before = replay history in
    let granted =
    each_weaker (IsGrantedBy (last_moment history)) (IsGrantedBy entry.moment.0)
    (λ r by_then. omega arith) before.records (replay-IsGrantedBy first history legal) in
    let made : apply (state_of version) entry ≡ only_live version.swept (apply before entry) =
    ap (λ state. apply state entry) (state_of-VersionStandsFor first history version stands)
    ∙ apply-only_live version.swept before (counted first history) entry
    (replay-HasRisingNumbers history) accepted lasts order granted in
    let whole :
    only_live version.swept (apply before entry)
    ≡ only_live version.swept (replay (history ++ entry ∷ [])) =
    ap (only_live version.swept) (sym (replay_push history entry)) in
    record {
      records = ap (λ (s : State). s.records) (made ∙ whole);
      entries =
          ap (λ count. count_after count entry) stands.entries
          ∙ sym (counted_push first history entry);
      at = sym (last_moment_push history entry);
      last_number = ap (λ (s : State). s.last_number) (made ∙ whole);
      swept_live =
          sym (rw (last_moment_push history entry)
          (none_lapsed version.swept entry.moment.0 (replay (history ++ entry ∷ [])).records
          order));
    }

-- ---- a sweep

-- those that were live after an entry and have lapsed at a moment had lapsed before, or lapsed
-- since
lapsed_split : (last swept moment : ℕ) → swept ≤ moment → (records : List Record)
    → length (filter (λ r. nat_le (lapse r) swept) (live_among last records))
    + lapsed_between last moment (live_among swept records)
    ≡ length (filter (λ r. nat_le (lapse r) moment) (live_among last records))
lapsed_split last swept moment order [] = refl
lapsed_split last swept moment order (r ∷ rs) =
    by (nat_lt last (lapse r)) (nat_le (lapse r) swept) (nat_le (lapse r) moment)
    (nat_lt swept (lapse r)) refl refl refl refl (lapsed_split last swept moment order rs)
  where
    by : (a b c d : Bool)
        → nat_lt last (lapse r) ≡ a
        → nat_le (lapse r) swept ≡ b
        → nat_le (lapse r) moment ≡ c
        → nat_lt swept (lapse r) ≡ d
        → length (filter (λ (x : Record). nat_le (lapse x) swept) (live_among last rs))
        + lapsed_between last moment (live_among swept rs)
        ≡ length (filter (λ (x : Record). nat_le (lapse x) moment) (live_among last rs))
        → length (filter (λ (x : Record). nat_le (lapse x) swept)
        (cond a (r ∷ live_among last rs) (live_among last rs)))
        + lapsed_between last moment (cond d (r ∷ live_among swept rs) (live_among swept rs))
        ≡ length (filter (λ (x : Record). nat_le (lapse x) moment)
        (cond a (r ∷ live_among last rs) (live_among last rs)))
    by a true c true ea eb ec ed more =
        let low = leb-true _ _ eb in let high = ltb-true _ _ ed in absurd (omega arith)
    by a false c false ea eb ec ed more =
        let high = leb-false _ _ eb in let low = ltb-false _ _ ed in absurd (omega arith)
    by a true false false ea eb ec ed more =
        let low = leb-true _ _ eb in let high = leb-false _ _ ec in absurd (omega arith)
    by true true true false ea eb ec ed more = rw (eb, ec) (omega arith)
    by true false true true ea eb ec ed more = rw (ea, eb, ec) (omega arith)
    by true false false true ea eb ec ed more = rw (ea, eb, ec) (omega arith)
    by false true true false ea eb ec ed more = more
    by false false c true ea eb ec ed more = rw ea more

-- of a history at a moment not below the sweep of a version, so many have lapsed since its last
-- entry
pub lapsed_since-VersionStandsFor : (first : ℕ) (history : List Entry) (version : Version)
    (moment : ℕ)
    → VersionStandsFor first history version
    → version.swept ≤ moment
    → version.swept_live + lapsed_between version.at moment version.records
    ≡ lapsed_since history moment
unfolding lapsed_since live
lapsed_since-VersionStandsFor first history version moment stands order =
    ap₂ (λ (dropped at : ℕ). dropped + lapsed_between at moment version.records) stands.swept_live
    stands.at
    ∙ ap (λ (records : List Record).
    lapsed_since history version.swept
    + lapsed_between (last_moment history) moment records) stands.records
    ∙ lapsed_split (last_moment history) version.swept moment order (replay history).records

-- its tag
-- An end theorem: nothing here cites it.
pub tag_from-VersionStandsFor : (first : ℕ) (history : List Entry) (version : Version) (moment : ℕ)
    → VersionStandsFor first history version
    → version.swept ≤ moment
    → tag_octets version.entries
    (version.swept_live + lapsed_between version.at moment version.records)
    ≡ tag_from first history moment
unfolding tag_from
tag_from-VersionStandsFor first history version moment stands order =
    ap₂ tag_octets stands.entries
    (lapsed_since-VersionStandsFor first history version moment stands order)

-- a version after a sweep
abbrev pub swept_to : ℕ → Version → Version
swept_to moment version = record version {
  records = live_among moment version.records;
  swept_live = version.swept_live + lapsed_between version.at moment version.records;
  swept = moment;
}

-- after a sweep a version stands for the same history
-- An end theorem: nothing here cites it.
pub swept_to-VersionStandsFor : (first : ℕ) (history : List Entry) (version : Version) (moment : ℕ)
    → VersionStandsFor first history version
    → version.swept ≤ moment
    → VersionStandsFor first history (swept_to moment version)
swept_to-VersionStandsFor first history version moment stands order = record {
  records =
      ap (live_among moment) stands.records
      ∙ live_among_live version.swept moment (replay history).records order;
  entries = stands.entries;
  at = stands.at;
  last_number = stands.last_number;
  swept_live = lapsed_since-VersionStandsFor first history version moment stands order;
}
