-- What a registration, an update, a replacement of links, a removal and a beginning weigh and make
-- of a version.
use Rattle.std.proofs.Common.{
  ◌≡◌,
  ℕ,
  ◌+◌,
  ◌<◌,
  Bool,
  true,
  false,
  not,
  ◌&&◌,
  ◌||◌,
  max,
  cond,
  List,
  [],
  ◌∷◌,
  ◌++◌,
  find,
  length,
  Option,
  Some,
  None,
  option_map,
  nat_lt,
  nat_le,
  refl,
  sym,
  ap,
  ap₂,
  ◌∙◌,
  subst,
  arith,
}
use denote.Ref.{Bor}
use Rattle.std.specs.Prelude.{IfSome}
use Rattle.std.specs.Option.{option_copied}
use Rattle.std.specs.List.{AllByRecursion, list_any}
use Rattle.std.proofs.lemmas.Bool.{true≢false, false≢true, and_parts}
use Rattle.std.proofs.lemmas.Bool.Decides.{nat_tests}
use Rattle.rd_base.specs.declared.moments.Moment.{Moment}
use Rattle.rd_base.specs.declared.parameters.RegParams.{RegParams}
use Rattle.rd_base.specs.declared.parameters.UpdateParams.{UpdateParams}
use Rattle.rd_base.specs.declared.peers.Peer.{Peer}
use Rattle.rd_base.specs.declared.records.Name.{Name}
use Rattle.rd_base.specs.declared.records.Record.{Record}
use Rattle.rd_base.specs.declared.submitted_links.SubmittedLink.{SubmittedLink}
use Rattle.rd_base.proofs.lemmas.Among.{find_passes}
use Rattle.rd_base.proofs.lemmas.Pairs.{PairsByRecursion, pairs_filter}
use Rattle.record_model.specs.AllowedParameters.{IsAllowedLifetime, IsAllowedChange}
use Rattle.record_model.specs.Records.{registered, updated}
use Rattle.registration.specs.declared.drafts.Draft.{Draft}
use Rattle.registration.specs.Drafts.{IsDraft, drafted, recorded}
use Rattle.registration.proofs.DraftLaws.{
  draft_base,
  draft_lifetime,
  draft_references,
  draft_of_body,
}
use Rattle.history_model.specs.declared.entries.Change.{Change}
use Rattle.history_model.specs.declared.entries.Change.TheVariants as change
use Rattle.history_model.specs.declared.entries.Entry.{Entry}
use Rattle.history_model.specs.Leases.{is_live_at, live_among}
use Rattle.history_model.specs.Names.{is_same_name}
use Rattle.history_model.specs.Refusals.{
  max_registrations,
  max_text,
  has_number,
  has_name,
  text_of,
  is_gone,
  is_full_of_records,
  is_full_of_text,
  only_live,
  text_after,
}
use Rattle.history_model.specs.Replay.{
  State,
  is_numbered,
  is_live_named,
  number_named,
  number_about,
  numbered,
  with_changed,
  replaced,
  registered_under,
  apply,
}
use Rattle.history_model.specs.Versions.{Version, state_of}
use Rattle.history_model.proofs.Acceptance.{is_same_name-Decides}
use Rattle.history_model.proofs.NumberLaws.{IsBelow}
use Rattle.history_model.proofs.SweepLaws.{number_named-live}
use Rattle.directory_core.specs.AfterEntries.{renewed, without, after_entry, begun, IsSound}
use Rattle.directory_core.specs.Changes.{
  IsRegistrationOf,
  IsUpdateOf,
  IsReplacementOf,
  IsRemovalOf,
  IsBeginning,
}
use Rattle.directory_core.proofs.AgainstLaws.{draft_against}
use Rattle.directory_core.proofs.ChangeLaws.{only_one, its_number, changed_known, numbered-filter}
use Rattle.directory_core.proofs.EntryLaws.{Fits}
use Rattle.directory_core.proofs.SlotLaws.{all_numbered}

-- ---- drafts

pub draft_sound : (draft : Draft) → IsDraft draft → IsSound draft
draft_sound draft h = let lt = draft_lifetime draft h in record {
  lasting = (lt.lasting, lt.small);
  references = draft_references draft h;
  against = draft_against draft h;
  of_body = draft_of_body draft h;
  base = draft_base draft h;
}

-- an entry by its parts
made_entry : Moment → ℕ → Peer → Change → Entry
made_entry moment worker peer c = record {
  moment = moment;
  worker = worker;
  peer = peer;
  change = c;
}

entry_is : (entry : Entry) (now : Moment) (c : Change)
    → entry.moment ≡ now
    → entry.change ≡ c
    → entry ≡ made_entry now entry.worker entry.peer c
unfolding made_entry
entry_is entry now c at same = ap₂ (λ m x. made_entry m entry.worker entry.peer x) at same

-- ---- the record of a name

abbrev live_number : Name → ℕ → List Record → Option ℕ
live_number = number_named

-- what is found under a name is live, has the name and stands under its number
pub named_found : (name : Name) (now : ℕ) (old : Record) (rs : List Record)
    → PairsByRecursion IsBelow rs
    → find (is_live_named name now) rs ≡ Some old
    → (numbered old.number rs ≡ Some old) × (is_live_at now old ≡ true) × (old.name ≡ name)
named_found name now old rs up found =
    let known =
    find_passes (λ x. numbered x.number rs ≡ Some x) (is_live_named name now) rs old
    (all_numbered rs up) found in
    let both = and_parts (is_same_name old.name name) (is_live_at now old) known.1 in
    (known.0, both.1, (is_same_name-Decides old.name name).0 both.0)

pub number_found : (name : Name) (now : ℕ) (o : Option Record) (rs : List Record)
    → find (is_live_named name now) rs ≡ o
    → number_named name now rs ≡ option_map (λ (r : Record). r.number) o
number_found name now o rs found = ap (option_map (λ (r : Record). r.number)) found

-- one of the live records has the name where one is found
any_found : (test : Record → Bool) (rs : List Record) (old : Record)
    → find test rs ≡ Some old
    → list_any test rs ≡ true
any_found test [] old found = absurd cc
any_found test (r ∷ rs) old found = by (test r) found (any_found test rs old)
  where
    by : (b : Bool)
        → cond b (Some r) (find test rs) ≡ Some old
        → (find test rs ≡ Some old → list_any test rs ≡ true)
        → (b || list_any test rs) ≡ true
    by true f more = refl
    by false f more = more f

any_none : (test : Record → Bool) (rs : List Record)
    → find test rs ≡ None
    → list_any test rs ≡ false
any_none test [] found = refl
any_none test (r ∷ rs) found = by (test r) found (any_none test rs)
  where
    by : (b : Bool)
        → cond b (Some r) (find test rs) ≡ None
        → (find test rs ≡ None → list_any test rs ≡ false)
        → (b || list_any test rs) ≡ false
    by true f more = absurd cc
    by false f more = more f

-- a name among live records is a live record of the name
named_live : (name : Name) (now : ℕ) (rs : List Record)
    → has_name name (live_among now rs) ≡ list_any (is_live_named name now) rs
named_live name now [] = refl
named_live name now (r ∷ rs) =
    by (is_live_at now r) (is_same_name r.name name) (named_live name now rs)
  where
    by : (l n : Bool)
        → has_name name (live_among now rs) ≡ list_any (is_live_named name now) rs
        → list_any (λ (x : Record). is_same_name x.name name)
        (cond l (r ∷ live_among now rs) (live_among now rs))
        ≡ ((is_same_name r.name name && l) || list_any (is_live_named name now) rs)
    by true n more = step (is_same_name r.name name)
      where
        step : (b : Bool)
            → (b || has_name name (live_among now rs))
            ≡ ((b && true) || list_any (is_live_named name now) rs)
        step true = refl
        step false = more
    by false n more = step (is_same_name r.name name)
      where
        step : (b : Bool)
            → has_name name (live_among now rs)
            ≡ ((b && false) || list_any (is_live_named name now) rs)
        step true = more
        step false = more

numbered_live : (now number : ℕ) (old : Record) (rs : List Record)
    → numbered number rs ≡ Some old
    → is_live_at now old ≡ true
    → has_number number (live_among now rs) ≡ true
numbered_live now number old rs found live =
    any_found (is_numbered number) (live_among now rs) old
    (numbered-filter (is_live_at now) number old rs found live)

pub number_gone : (now number : ℕ) (rs : List Record)
    → numbered number (live_among now rs) ≡ None
    → has_number number (live_among now rs) ≡ false
number_gone now number rs none = any_none (is_numbered number) (live_among now rs) none

-- what is judged by its text
register_weighs : (text : ℕ) (c : Change) (params : RegParams) (links : List SubmittedLink)
    → c ≡ change.Register params links
    → is_full_of_text text c ≡ nat_lt max_text text
register_weighs text c params links e = rw e refl

update_weighs : (text : ℕ) (c : Change) (number : ℕ) (given : UpdateParams)
    → c ≡ change.Update number given
    → is_full_of_text text c ≡ nat_lt max_text text
update_weighs text c number given e = rw e refl

replacement_weighs : (text : ℕ) (c : Change) (number : ℕ) (links : List SubmittedLink)
    → c ≡ change.Replace number links
    → is_full_of_text text c ≡ nat_lt max_text text
replacement_weighs text c number links e = rw e refl

removal_weighs : (text : ℕ) (c : Change) (number : ℕ)
    → c ≡ change.Remove number
    → is_full_of_text text c ≡ nat_lt max_text 0
removal_weighs text c number e = rw e refl

beginning_weighs : (text : ℕ) (c : Change) (first : ℕ)
    → c ≡ change.Begin first
    → is_full_of_text text c ≡ nat_lt max_text 0
beginning_weighs text c first e = rw e refl

-- ---- registrations

pub register_there : (v : Version) (now : Moment) (draft : Draft) (entry : Entry)
    → IsRegistrationOf now draft entry
    → is_gone (live_among entry.moment.0 v.records) entry.change ≡ false
register_there v now draft entry h = by entry.change h.change
  where
    by : (c : Change)
        → c ≡ change.Register h.params h.links
        → is_gone (live_among entry.moment.0 v.records) c ≡ false
    by c e = rw e refl

record_again : (number : ℕ) (now : Moment) (peer : Peer) (params : RegParams)
    (links : List SubmittedLink) (draft : Draft)
    → draft ≡ drafted peer params links
    → registered number now peer params links ≡ recorded number now draft
unfolding registered recorded drafted
record_again number now peer params links draft made = ap (recorded number now) (sym made)

lasting_draft : (draft : Draft) (peer : Peer) (params : RegParams) (links : List SubmittedLink)
    → draft ≡ drafted peer params links
    → 0 < draft.lt
    → 0 < params.lt
unfolding drafted
lasting_draft draft peer params links made lasts = subst (λ (d : Draft). 0 < d.lt) made lasts

name_draft : (draft : Draft) (peer : Peer) (params : RegParams) (links : List SubmittedLink)
    → draft ≡ drafted peer params links
    → params.name ≡ draft.name
unfolding drafted
name_draft draft peer params links made = ap (λ (d : Draft). d.name) (sym made)

-- the live records with one made anew
applied_again : (now : Moment) (worker : ℕ) (peer : Peer) (params : RegParams)
    (links : List SubmittedLink) (state : State) (number : ℕ) (draft : Draft)
    → draft ≡ drafted peer params links
    → number_named params.name now.0 state.records ≡ Some number
    → apply state (made_entry now worker peer (change.Register params links)) ≡ record state {
      records = with_changed number (λ _. recorded number now draft) state.records;
    }
unfolding apply made_entry
applied_again now worker peer params links state number draft made found =
    ap (λ o. registered_under o state now peer params links) found
    ∙ ap (λ r. with_records state (with_changed number (λ _. r) state.records))
    (record_again number now peer params links draft made)
  where
    with_records : State → List Record → State
    with_records s records = record s { records = records }

applied_new : (now : Moment) (worker : ℕ) (peer : Peer) (params : RegParams)
    (links : List SubmittedLink) (state : State) (draft : Draft)
    → draft ≡ drafted peer params links
    → number_named params.name now.0 state.records ≡ None
    → apply state (made_entry now worker peer (change.Register params links)) ≡ record {
      records = state.records ++ recorded (state.last_number + 1) now draft ∷ [];
      last_number = state.last_number + 1;
    }
unfolding apply made_entry
applied_new now worker peer params links state draft made none =
    ap (λ o. registered_under o state now peer params links) none
    ∙ ap (λ (r : Record). added state r)
    (record_again (state.last_number + 1) now peer params links draft made)
  where
    added : State → Record → State
    added s r = record { records = s.records ++ r ∷ []; last_number = s.last_number + 1 }

number_renewed : (number : ℕ) (now : Moment) (draft : Draft) (rs : List Record)
    → with_changed number (λ _. recorded number now draft) rs
    ≡ renewed (recorded number now draft) rs
unfolding recorded
number_renewed number now draft rs = refl

abbrev with_state : Version → ℕ → State → Version
with_state v now state = record {
  records = state.records;
  entries = v.entries + 1;
  at = now;
  last_number = state.last_number;
  swept_live = 0;
  swept = v.swept;
}

pub fits_again : (v : Version) (now : Moment) (draft : Draft) (old : Record) (entry : Entry)
    → PairsByRecursion IsBelow v.records
    → IsSound draft
    → find (is_live_named draft.name now.0) v.records ≡ Some old
    → IsRegistrationOf now draft entry
    → Fits v entry v.entries
    (text_of (renewed (recorded old.number now draft) (live_among now.0 v.records)))
    (after_entry v now.0 (renewed (recorded old.number now draft) v.records) v.last_number)
fits_again v now draft old entry up sound found h =
    let name = name_draft draft entry.peer h.params h.links h.made in
    let same : entry ≡ made_entry now entry.worker entry.peer (change.Register h.params h.links) =
    entry_is entry now (change.Register h.params h.links) h.moment h.change in
    let here : find (is_live_named h.params.name now.0) v.records ≡ Some old =
    ap (λ n. find (is_live_named n now.0) v.records) name ∙ found in
    let number : number_named h.params.name now.0 v.records ≡ Some old.number =
    number_found h.params.name now.0 (Some old) v.records here in
    let live_number :
    number_named h.params.name now.0 (live_among now.0 v.records) ≡ Some old.number =
    number_named-live now.0 now.0 h.params.name v.records (omega arith) ∙ number in
    let lasts = lasting_draft draft entry.peer h.params h.links h.made sound.lasting.0 in
    let whole : apply (state_of v) entry ≡ record {
      records = renewed (recorded old.number now draft) v.records;
      last_number = v.last_number;
    }
    = ap (apply (state_of v)) same
    ∙ applied_again now entry.worker entry.peer h.params h.links (state_of v) old.number draft
    h.made number
    ∙ ap (λ rs. stated rs v.last_number) (number_renewed old.number now draft v.records) in
    let left : apply (only_live now.0 (state_of v)) entry ≡ record {
      records = renewed (recorded old.number now draft) (live_among now.0 v.records);
      last_number = v.last_number;
    }
    = ap (apply (only_live now.0 (state_of v))) same
    ∙ applied_again now entry.worker entry.peer h.params h.links (only_live now.0 (state_of v))
    old.number draft h.made live_number
    ∙ ap (λ rs. stated rs v.last_number)
    (number_renewed old.number now draft (live_among now.0 v.records)) in
    let at : entry.moment.0 ≡ now.0 = ap (λ (m : Moment). m.0) h.moment in
    let text :
    text_after (state_of v) entry
    ≡ text_of (renewed (recorded old.number now draft) (live_among now.0 v.records))
    = ap (λ m. text_of (apply (only_live m (state_of v)) entry).records) at
    ∙ ap (λ (s : State). text_of s.records) left in
    let there : has_name h.params.name (live_among now.0 v.records) ≡ true =
    named_live h.params.name now.0 v.records
    ∙ any_found (is_live_named h.params.name now.0) v.records old here in
    record {
      there = rw h.change refl;
      room =
          rw (at, h.change)
          (no_more (nat_le max_registrations (length (live_among now.0 v.records)))
          (has_name h.params.name (live_among now.0 v.records)) there);
      weighs =
          register_weighs (text_after (state_of v) entry) entry.change h.params h.links h.change
          ∙ ap (nat_lt max_text) text;
      text_is = λ _. sym text;
      counts = rw h.change refl;
      makes =
          ap (λ m. with_state v m (apply (state_of v) entry)) at ∙ ap (with_state v now.0) whole;
      lasting = rw h.change lasts;
    }
  where
    stated : List Record → ℕ → State
    stated records last_number = record { records = records; last_number = last_number }

    no_more : (full named : Bool) → named ≡ true → (full && not named) ≡ false
    no_more true true e = refl
    no_more false true e = refl
    no_more full false e = absurd (false≢true e)

pub new_room : (now : Moment) (draft : Draft) (entry : Entry) (rs : List Record)
    → find (is_live_named draft.name now.0) rs ≡ None
    → IsRegistrationOf now draft entry
    → is_full_of_records (live_among now.0 rs) entry.change
    ≡ nat_le max_registrations (length (live_among now.0 rs))
new_room now draft entry rs none h =
    let name = name_draft draft entry.peer h.params h.links h.made in
    let here : find (is_live_named h.params.name now.0) rs ≡ None =
    ap (λ n. find (is_live_named n now.0) rs) name ∙ none in
    let there : has_name h.params.name (live_among now.0 rs) ≡ false =
    named_live h.params.name now.0 rs ∙ any_none (is_live_named h.params.name now.0) rs here in
    rw h.change (by (nat_le max_registrations (length (live_among now.0 rs)))
    (has_name h.params.name (live_among now.0 rs)) there)
  where
    by : (full named : Bool) → named ≡ false → (full && not named) ≡ full
    by true false e = refl
    by false named e = refl
    by true true e = absurd (true≢false e)

pub fits_new : (v : Version) (now : Moment) (draft : Draft) (entry : Entry)
    → PairsByRecursion IsBelow v.records
    → IsSound draft
    → find (is_live_named draft.name now.0) v.records ≡ None
    → length (live_among now.0 v.records) < max_registrations
    → IsRegistrationOf now draft entry
    → Fits v entry v.entries
    (text_of (live_among now.0 v.records ++ recorded (v.last_number + 1) now draft ∷ []))
    (after_entry v now.0 (v.records ++ recorded (v.last_number + 1) now draft ∷ [])
    (v.last_number + 1))
fits_new v now draft entry up sound none few h =
    let name = name_draft draft entry.peer h.params h.links h.made in
    let same : entry ≡ made_entry now entry.worker entry.peer (change.Register h.params h.links) =
    entry_is entry now (change.Register h.params h.links) h.moment h.change in
    let here : find (is_live_named h.params.name now.0) v.records ≡ None =
    ap (λ n. find (is_live_named n now.0) v.records) name ∙ none in
    let number : number_named h.params.name now.0 v.records ≡ None =
    number_found h.params.name now.0 None v.records here in
    let live_number : number_named h.params.name now.0 (live_among now.0 v.records) ≡ None =
    number_named-live now.0 now.0 h.params.name v.records (omega arith) ∙ number in
    let lasts = lasting_draft draft entry.peer h.params h.links h.made sound.lasting.0 in
    let whole =
    ap (apply (state_of v)) same
    ∙ applied_new now entry.worker entry.peer h.params h.links (state_of v) draft h.made
    number in
    let left =
    ap (apply (only_live now.0 (state_of v))) same
    ∙ applied_new now entry.worker entry.peer h.params h.links (only_live now.0 (state_of v))
    draft h.made live_number in
    let at : entry.moment.0 ≡ now.0 = ap (λ (m : Moment). m.0) h.moment in
    let text :
    text_after (state_of v) entry
    ≡ text_of (live_among now.0 v.records ++ recorded (v.last_number + 1) now draft ∷ [])
    = ap (λ m. text_of (apply (only_live m (state_of v)) entry).records) at
    ∙ ap (λ (s : State). text_of s.records) left in
    let low : nat_le max_registrations (length (live_among now.0 v.records)) ≡ false =
    grind (arith, nat_tests) in
    record {
      there = rw h.change refl;
      room =
          ap (λ m. is_full_of_records (live_among m v.records) entry.change) at
          ∙ new_room now draft entry v.records none h
          ∙ low;
      weighs =
          register_weighs (text_after (state_of v) entry) entry.change h.params h.links h.change
          ∙ ap (nat_lt max_text) text;
      text_is = λ _. sym text;
      counts = rw h.change refl;
      makes =
          ap (λ m. with_state v m (apply (state_of v) entry)) at ∙ ap (with_state v now.0) whole;
      lasting = rw h.change lasts;
    }

-- ---- updates, replacements of links and removals

applied_update : (now : Moment) (worker : ℕ) (peer : Peer) (number : ℕ) (given : UpdateParams)
    (state : State) (old new : Record)
    → AllByRecursion (λ x. x.number ≡ number → x ≡ old) state.records
    → new ≡ updated now peer given old
    → apply state (made_entry now worker peer (change.Update number given)) ≡ record state {
      records = with_changed number (λ _. new) state.records;
    }
unfolding apply made_entry
applied_update now worker peer number given state old new only made =
    ap (λ rs. with_records state rs)
    (changed_known number (updated now peer given) old state.records only
    ∙ ap (λ r. with_changed number (λ _. r) state.records) (sym made))
  where
    with_records : State → List Record → State
    with_records s records = record s { records = records }

lasting_change : (given : UpdateParams) → IsAllowedChange given → IfSome given.lt (λ lt. 0 < lt)
lasting_change given allowed = by given.lt allowed.lt
  where
    by : (o : Option ℕ) → IfSome o IsAllowedLifetime → IfSome o (λ lt. 0 < lt)
    by None h = tt
    by (Some lt) h = h.lasting

pub fits_update : (v : Version) (now : Moment) (number : ℕ) (given : UpdateParams) (peer : Peer)
    (draft : Draft) (old : Record) (entry : Entry)
    → PairsByRecursion IsBelow v.records
    → IsAllowedChange given
    → numbered number v.records ≡ Some old
    → is_live_at now.0 old ≡ true
    → recorded old.number now draft ≡ updated now peer given old
    → IsUpdateOf now number given peer entry
    → Fits v entry v.entries
    (text_of (renewed (recorded old.number now draft) (live_among now.0 v.records)))
    (after_entry v now.0 (renewed (recorded old.number now draft) v.records) v.last_number)
fits_update v now number given peer draft old entry up allowed found live made h =
    let new = recorded old.number now draft in
    let its = its_number number old v.records found in
    let same : entry ≡ made_entry now entry.worker peer (change.Update number given) =
    entry_is entry now (change.Update number given) h.moment h.change
    ∙ ap (λ p. made_entry now entry.worker p (change.Update number given)) h.source in
    let only = only_one number old v.records up found in
    let live_only =
    only_one number old (live_among now.0 v.records)
    (pairs_filter IsBelow (is_live_at now.0) v.records up)
    (numbered-filter (is_live_at now.0) number old v.records found live) in
    let whole : apply (state_of v) entry ≡ stated (renewed new v.records) v.last_number
    = ap (apply (state_of v)) same
    ∙ applied_update now entry.worker peer number given (state_of v) old new only made
    ∙ ap (λ n. stated (with_changed n (λ _. new) v.records) v.last_number) (sym its)
    ∙ ap (λ rs. stated rs v.last_number) (number_renewed old.number now draft v.records) in
    let left :
    apply (only_live now.0 (state_of v)) entry
    ≡ stated (renewed new (live_among now.0 v.records)) v.last_number
    = ap (apply (only_live now.0 (state_of v))) same
    ∙ applied_update now entry.worker peer number given (only_live now.0 (state_of v)) old new
    live_only made
    ∙ ap (λ n. stated (with_changed n (λ _. new) (live_among now.0 v.records)) v.last_number)
    (sym its)
    ∙ ap (λ rs. stated rs v.last_number)
    (number_renewed old.number now draft (live_among now.0 v.records)) in
    let at : entry.moment.0 ≡ now.0 = ap (λ (m : Moment). m.0) h.moment in
    let text : text_after (state_of v) entry ≡ text_of (renewed new (live_among now.0 v.records)) =
    ap (λ m. text_of (apply (only_live m (state_of v)) entry).records) at
    ∙ ap (λ (s : State). text_of s.records) left in
    record {
      there = rw (at, h.change) (ap not (numbered_live now.0 number old v.records found live));
      room = rw h.change refl;
      weighs =
          update_weighs (text_after (state_of v) entry) entry.change number given h.change
          ∙ ap (nat_lt max_text) text;
      text_is = λ _. sym text;
      counts = rw h.change refl;
      makes =
          ap (λ m. with_state v m (apply (state_of v) entry)) at ∙ ap (with_state v now.0) whole;
      lasting = rw h.change (lasting_change given allowed);
    }
  where
    stated : List Record → ℕ → State
    stated records last_number = record { records = records; last_number = last_number }

applied_replacement : (now : Moment) (worker : ℕ) (peer : Peer) (number : ℕ)
    (links : List SubmittedLink) (state : State) (old new : Record)
    → AllByRecursion (λ x. x.number ≡ number → x ≡ old) state.records
    → new ≡ replaced links old
    → apply state (made_entry now worker peer (change.Replace number links)) ≡ record state {
      records = with_changed number (λ _. new) state.records;
    }
unfolding apply made_entry
applied_replacement now worker peer number links state old new only made =
    ap (λ rs. with_records state rs)
    (changed_known number (replaced links) old state.records only
    ∙ ap (λ r. with_changed number (λ _. r) state.records) (sym made))
  where
    with_records : State → List Record → State
    with_records s records = record s { records = records }

pub fits_replacement : (v : Version) (now granted : Moment) (number : ℕ)
    (links : List SubmittedLink) (draft : Draft) (old : Record) (entry : Entry)
    → PairsByRecursion IsBelow v.records
    → numbered number v.records ≡ Some old
    → is_live_at now.0 old ≡ true
    → recorded old.number granted draft ≡ replaced links old
    → IsReplacementOf now number links entry
    → Fits v entry v.entries
    (text_of (renewed (recorded old.number granted draft) (live_among now.0 v.records)))
    (after_entry v now.0 (renewed (recorded old.number granted draft) v.records) v.last_number)
fits_replacement v now granted number links draft old entry up found live made h =
    let new = recorded old.number granted draft in
    let its = its_number number old v.records found in
    let same : entry ≡ made_entry now entry.worker entry.peer (change.Replace number links) =
    entry_is entry now (change.Replace number links) h.moment h.change in
    let only = only_one number old v.records up found in
    let live_only =
    only_one number old (live_among now.0 v.records)
    (pairs_filter IsBelow (is_live_at now.0) v.records up)
    (numbered-filter (is_live_at now.0) number old v.records found live) in
    let whole : apply (state_of v) entry ≡ stated (renewed new v.records) v.last_number
    = ap (apply (state_of v)) same
    ∙ applied_replacement now entry.worker entry.peer number links (state_of v) old new only made
    ∙ ap (λ n. stated (with_changed n (λ _. new) v.records) v.last_number) (sym its)
    ∙ ap (λ rs. stated rs v.last_number) (number_renewed old.number granted draft v.records) in
    let left :
    apply (only_live now.0 (state_of v)) entry
    ≡ stated (renewed new (live_among now.0 v.records)) v.last_number
    = ap (apply (only_live now.0 (state_of v))) same
    ∙ applied_replacement now entry.worker entry.peer number links (only_live now.0 (state_of v))
    old new live_only made
    ∙ ap (λ n. stated (with_changed n (λ _. new) (live_among now.0 v.records)) v.last_number)
    (sym its)
    ∙ ap (λ rs. stated rs v.last_number)
    (number_renewed old.number granted draft (live_among now.0 v.records)) in
    let at : entry.moment.0 ≡ now.0 = ap (λ (m : Moment). m.0) h.moment in
    let text : text_after (state_of v) entry ≡ text_of (renewed new (live_among now.0 v.records)) =
    ap (λ m. text_of (apply (only_live m (state_of v)) entry).records) at
    ∙ ap (λ (s : State). text_of s.records) left in
    record {
      there = rw (at, h.change) (ap not (numbered_live now.0 number old v.records found live));
      room = rw h.change refl;
      weighs =
          replacement_weighs (text_after (state_of v) entry) entry.change number links h.change
          ∙ ap (nat_lt max_text) text;
      text_is = λ _. sym text;
      counts = rw h.change refl;
      makes =
          ap (λ m. with_state v m (apply (state_of v) entry)) at ∙ ap (with_state v now.0) whole;
      lasting = rw h.change tt;
    }
  where
    stated : List Record → ℕ → State
    stated records last_number = record { records = records; last_number = last_number }

applied_removal : (now : Moment) (worker : ℕ) (peer : Peer) (number : ℕ) (state : State)
    → apply state (made_entry now worker peer (change.Remove number)) ≡ record state {
      records = without number state.records;
    }
unfolding apply made_entry
applied_removal now worker peer number state = refl

pub fits_removal : (v : Version) (now : Moment) (number : ℕ) (old : Record) (entry : Entry)
    → numbered number v.records ≡ Some old
    → is_live_at now.0 old ≡ true
    → IsRemovalOf now number entry
    → Fits v entry v.entries 0
    (after_entry v now.0 (without old.number v.records) v.last_number)
fits_removal v now number old entry found live h =
    let its = its_number number old v.records found in
    let same : entry ≡ made_entry now entry.worker entry.peer (change.Remove number) =
    entry_is entry now (change.Remove number) h.moment h.change in
    let whole : apply (state_of v) entry ≡ stated (without old.number v.records) v.last_number =
    ap (apply (state_of v)) same
    ∙ applied_removal now entry.worker entry.peer number (state_of v)
    ∙ ap (λ n. stated (without n v.records) v.last_number) (sym its) in
    let at : entry.moment.0 ≡ now.0 = ap (λ (m : Moment). m.0) h.moment in
    record {
      there = rw (at, h.change) (ap not (numbered_live now.0 number old v.records found live));
      room = rw h.change refl;
      weighs = removal_weighs (text_after (state_of v) entry) entry.change number h.change;
      text_is = λ above. absurd (omega arith);
      counts = rw h.change refl;
      makes =
          ap (λ m. with_state v m (apply (state_of v) entry)) at ∙ ap (with_state v now.0) whole;
      lasting = rw h.change tt;
    }
  where
    stated : List Record → ℕ → State
    stated records last_number = record { records = records; last_number = last_number }

-- ---- beginnings

applied_beginning : (now : Moment) (worker : ℕ) (peer : Peer) (first : ℕ) (state : State)
    → apply state (made_entry now worker peer (change.Begin first)) ≡ record state {
      last_number = max state.last_number first;
    }
unfolding apply made_entry
applied_beginning now worker peer first state = refl

pub fits_beginning : (v : Version) (now : Moment) (first : ℕ) (entry : Entry)
    → IsBeginning now first entry
    → Fits v entry (max v.entries first) 0 (begun v now.0 first)
fits_beginning v now first entry h =
    let same : entry ≡ made_entry now entry.worker entry.peer (change.Begin first) =
    entry_is entry now (change.Begin first) h.moment h.change in
    let whole : apply (state_of v) entry ≡ lifted_to (max v.last_number first) =
    ap (apply (state_of v)) same
    ∙ applied_beginning now entry.worker entry.peer first (state_of v) in
    let at : entry.moment.0 ≡ now.0 = ap (λ (m : Moment). m.0) h.moment in
    record {
      there = rw h.change refl;
      room = rw h.change refl;
      weighs = beginning_weighs (text_after (state_of v) entry) entry.change first h.change;
      text_is = λ above. absurd (omega arith);
      counts = rw h.change refl;
      makes = ap (λ m. begun_with m (apply (state_of v) entry)) at ∙ ap (begun_with now.0) whole;
      lasting = rw h.change tt;
    }
  where
    lifted_to : ℕ → State
    lifted_to last_number = record { records = v.records; last_number = last_number }

    begun_with : ℕ → State → Version
    begun_with moment state = record {
      records = state.records;
      entries = max v.entries first + 1;
      at = moment;
      last_number = state.last_number;
      swept_live = 0;
      swept = v.swept;
    }

-- what is so of each record that is found, is so of what a reference points to
pub some_so : (o : Option (Bor Record)) (P : Record → Type 0)
    → ((r : Record) → option_copied o ≡ Some r → P r)
    → IfSome o (λ kept. P kept.now)
some_so None P f = tt
some_so (Some kept) P f = f kept.now refl

-- ---- numbers that are gone

pub gone_update : (v : Version) (now : Moment) (number : ℕ) (given : UpdateParams) (peer : Peer)
    (entry : Entry)
    → numbered number (live_among now.0 v.records) ≡ None
    → IsUpdateOf now number given peer entry
    → is_gone (live_among entry.moment.0 v.records) entry.change ≡ true
gone_update v now number given peer entry none h =
    let at : entry.moment.0 ≡ now.0 = ap (λ (m : Moment). m.0) h.moment in
    rw (at, h.change) (ap not (number_gone now.0 number v.records none))

pub about_update : (state : State) (now : Moment) (number : ℕ) (given : UpdateParams) (peer : Peer)
    (entry : Entry)
    → IsUpdateOf now number given peer entry
    → number ≡ number_about state entry.moment.0 entry.change
about_update state now number given peer entry h = rw h.change refl

pub gone_replacement : (v : Version) (now : Moment) (number : ℕ) (links : List SubmittedLink)
    (entry : Entry)
    → numbered number (live_among now.0 v.records) ≡ None
    → IsReplacementOf now number links entry
    → is_gone (live_among entry.moment.0 v.records) entry.change ≡ true
gone_replacement v now number links entry none h =
    let at : entry.moment.0 ≡ now.0 = ap (λ (m : Moment). m.0) h.moment in
    rw (at, h.change) (ap not (number_gone now.0 number v.records none))

pub about_replacement : (state : State) (now : Moment) (number : ℕ) (links : List SubmittedLink)
    (entry : Entry)
    → IsReplacementOf now number links entry
    → number ≡ number_about state entry.moment.0 entry.change
about_replacement state now number links entry h = rw h.change refl

pub gone_removal : (v : Version) (now : Moment) (number : ℕ) (entry : Entry)
    → numbered number (live_among now.0 v.records) ≡ None
    → IsRemovalOf now number entry
    → is_gone (live_among entry.moment.0 v.records) entry.change ≡ true
gone_removal v now number entry none h =
    let at : entry.moment.0 ≡ now.0 = ap (λ (m : Moment). m.0) h.moment in
    rw (at, h.change) (ap not (number_gone now.0 number v.records none))

pub about_removal : (state : State) (now : Moment) (number : ℕ) (entry : Entry)
    → IsRemovalOf now number entry
    → number ≡ number_about state entry.moment.0 entry.change
about_removal state now number entry h = rw h.change refl
