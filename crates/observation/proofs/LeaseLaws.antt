-- An update that leaves the base and the attributes of a registration leaves its links too: no
-- lookup shows anything else of it (RFC 9176 section 5.3.1).
use Rattle.std.proofs.Common.{
  ◌≡◌,
  ℕ,
  ◌+◌,
  ◌==◌,
  Bool,
  true,
  false,
  not,
  cond,
  List,
  [],
  ◌∷◌,
  ◌++◌,
  map,
  Option,
  Some,
  None,
  option_map,
  refl,
  sym,
  ap,
  subst,
  ◌∙◌,
}
use Rattle.std.specs.List.{AllByRecursion}
use Rattle.rd_base.specs.declared.moments.Moment.{Moment}
use Rattle.rd_base.specs.declared.parameters.RegParams.{RegParams}
use Rattle.rd_base.specs.declared.parameters.UpdateParams.{UpdateParams}
use Rattle.rd_base.specs.declared.peers.Peer.{Peer}
use Rattle.rd_base.specs.declared.queries.Kind.{Kind}
use Rattle.rd_base.specs.declared.queries.Kind.TheVariants as kind
use Rattle.rd_base.specs.declared.queries.Query.{Query}
use Rattle.rd_base.specs.declared.records.Item.{Item}
use Rattle.rd_base.specs.declared.records.Name.{Name}
use Rattle.rd_base.specs.declared.records.Record.{Record}
use Rattle.rd_base.specs.declared.attributes.Pair.{Pair}
use Rattle.rd_base.specs.declared.submitted_links.SubmittedLink.{SubmittedLink}
use Rattle.rd_base.proofs.lemmas.Each.{each_filter, each_push}
use Rattle.rd_base.proofs.lemmas.Lists.{by_pushes}
use Rattle.record_model.specs.Bases.{registered_base, updated_base}
use Rattle.record_model.specs.ListingLines.{
  endpoint_line,
  endpoint_listed,
  link_listed,
  part,
  part_of_kind,
}
use Rattle.record_model.specs.Matching.{endpoint_matches, endpoint_pairs}
use Rattle.record_model.specs.Records.{rebased, registered, updated}
use Rattle.history_model.specs.declared.entries.Change.{Change}
use Rattle.history_model.specs.declared.entries.Change.TheVariants as change
use Rattle.history_model.specs.declared.entries.Entry.{Entry}
use Rattle.history_model.specs.ChangedParts.{is_other_part}
use Rattle.history_model.specs.Leases.{is_live_at}
use Rattle.history_model.specs.Live.{live}
use Rattle.history_model.specs.Replay.{
  State,
  apply,
  changed,
  is_numbered,
  number_about,
  number_named,
  numbered,
  registered_under,
  replaced,
  replay,
  with_changed,
}
use Rattle.history_model.proofs.ChangedLines.{test_from_same}
use Rattle.history_model.proofs.NumberLaws.{replay-HasRisingNumbers}
use Rattle.history_model.proofs.ReplayLaws.{replay-nil, replay_push}
use Rattle.directory_core.specs.LinksAgainst.{AreAgainst}
use Rattle.directory_core.proofs.AgainstLaws.{against_made, against_rebased}
use Rattle.directory_core.proofs.ChangeLaws.{filter-numbered, known_of}
use Rattle.journal_model.specs.declared.steps.Step.{Step}
use Rattle.journal_model.specs.declared.rows.Row.{Row}
use Rattle.journal_model.specs.Journal.{entries}
use Rattle.watch_table.specs.WatchedQueries.{Table, all_touched}
use Rattle.observation.specs.declared.change_kinds.ChangeKind.TheVariants as kind_of_change
use Rattle.observation.specs.ChangeKinds.{kind_of, StaysAsShown}
use Rattle.observation.specs.Entering.{IsEntered}

-- ---- the links of each record stand against its base

abbrev IsAgainst : Record → Type 0
IsAgainst r = AreAgainst r.base r.items

registered-IsAgainst : (number : ℕ) (now : Moment) (peer : Peer) (params : RegParams)
    (links : List SubmittedLink)
    → IsAgainst (registered number now peer params links)
unfolding registered
registered-IsAgainst number now peer params links =
    against_made (registered_base params.base peer) links

updated-IsAgainst : (now : Moment) (peer : Peer) (given : UpdateParams) (r : Record)
    → IsAgainst (updated now peer given r)
unfolding updated
updated-IsAgainst now peer given r =
    against_rebased (updated_base given.base r.base_given r.base peer) r.items

replaced-IsAgainst : (links : List SubmittedLink) (r : Record) → IsAgainst (replaced links r)
unfolding replaced
replaced-IsAgainst links r = against_made r.base links

changed-IsAgainst : (number : ℕ) (new : Record → Record)
    → ((r : Record) → IsAgainst (new r))
    → (rs : List Record)
    → AllByRecursion IsAgainst rs
    → AllByRecursion IsAgainst (with_changed number new rs)
changed-IsAgainst number new made [] h = tt
changed-IsAgainst number new made (r ∷ rs) h =
    (by (is_numbered number r), changed-IsAgainst number new made rs h.1)
  where
    by : (b : Bool) → IsAgainst (cond b (new r) r)
    by true = made r
    by false = h.0

apply-IsAgainst : (state : State) (entry : Entry)
    → AllByRecursion IsAgainst state.records
    → AllByRecursion IsAgainst (apply state entry).records
unfolding apply
apply-IsAgainst state entry h = of_change entry.change
  where
    of_number : (o : Option ℕ) (params : RegParams) (links : List SubmittedLink)
        → AllByRecursion IsAgainst
        (registered_under o state entry.moment entry.peer params links).records
    of_number (Some number) params links =
        changed-IsAgainst number (λ r. registered number entry.moment entry.peer params links)
        (λ r. registered-IsAgainst number entry.moment entry.peer params links) state.records h
    of_number None params links =
        each_push IsAgainst state.records
        (registered (state.last_number + 1) entry.moment entry.peer params links) h
        (registered-IsAgainst (state.last_number + 1) entry.moment entry.peer params links)

    of_change : (c : Change)
        → AllByRecursion IsAgainst (changed state entry.moment entry.peer c).records
    of_change (change.Register params links) =
        of_number (number_named params.name entry.moment.0 state.records) params links
    of_change (change.Update number given) =
        changed-IsAgainst number (updated entry.moment entry.peer given)
        (updated-IsAgainst entry.moment entry.peer given) state.records h
    of_change (change.Replace number links) =
        changed-IsAgainst number (replaced links) (replaced-IsAgainst links) state.records h
    of_change (change.Remove number) =
        each_filter IsAgainst (λ r. not (is_numbered number r)) state.records h
    of_change (change.Begin first) = h

replay-IsAgainst : (history : List Entry) → AllByRecursion IsAgainst (replay history).records
replay-IsAgainst history =
    by_pushes (λ h. AllByRecursion IsAgainst (replay h).records) (rw replay-nil tt)
    (λ h e before.
    subst (λ (s : State). AllByRecursion IsAgainst s.records) (sym (replay_push h e))
    (apply-IsAgainst (replay h) e before)) history

-- ---- the record after an update

updated-number : (now : Moment) (peer : Peer) (given : UpdateParams) (r : Record)
    → (updated now peer given r).number ≡ r.number
unfolding updated
updated-number now peer given r = refl

updated-name : (now : Moment) (peer : Peer) (given : UpdateParams) (r : Record)
    → (updated now peer given r).name ≡ r.name
unfolding updated
updated-name now peer given r = refl

updated-items : (now : Moment) (peer : Peer) (given : UpdateParams) (r : Record)
    → (updated now peer given r).items ≡ map (rebased (updated now peer given r).base) r.items
unfolding updated
updated-items now peer given r = refl

changed-numbered : (number : ℕ) (new : Record → Record)
    → ((r : Record) → (new r).number ≡ r.number)
    → (rs : List Record)
    → numbered number (with_changed number new rs) ≡ option_map new (numbered number rs)
changed-numbered number new keeps [] = refl
changed-numbered number new keeps (r ∷ rs) =
    by (is_numbered number r) refl (changed-numbered number new keeps rs)
  where
    by : (b : Bool)
        → is_numbered number r ≡ b
        → numbered number (with_changed number new rs) ≡ option_map new (numbered number rs)
        → cond (is_numbered number (cond b (new r) r)) (Some (cond b (new r) r))
        (numbered number (with_changed number new rs))
        ≡ option_map new (cond b (Some r) (numbered number rs))
    by true e rest = rw (ap (λ (n : ℕ). n == number) (keeps r) ∙ e) refl
    by false e rest = rw e rest

applied-update : (state : State) (entry : Entry) (number : ℕ) (given : UpdateParams)
    → entry.change ≡ change.Update number given
    → (apply state entry).records
    ≡ with_changed number (updated entry.moment entry.peer given) state.records
unfolding apply
applied-update state entry number given is =
    ap (λ (c : Change). (changed state entry.moment entry.peer c).records) is

-- a live record of a number is that of the history
live-numbered : (history : List Entry) (moment number : ℕ) (r : Record)
    → Some r ≡ numbered number (live history moment)
    → numbered number (replay history).records ≡ Some r
unfolding live
live-numbered history moment number r h =
    (filter-numbered (is_live_at moment) number r (replay history).records
    (replay-HasRisingNumbers history).ascending (sym h)).0

-- the record after an update is made of that before it
updated_of : (history : List Entry) (entry : Entry) (number : ℕ) (given : UpdateParams)
    (old new : Record)
    → entry.change ≡ change.Update number given
    → numbered number (replay history).records ≡ Some old
    → numbered number (replay (history ++ entry ∷ [])).records ≡ Some new
    → updated entry.moment entry.peer given old ≡ new
updated_of history entry number given old new is before after =
    let both : Some (updated entry.moment entry.peer given old) ≡ Some new =
    ap (option_map (updated entry.moment entry.peer given)) (sym before)
    ∙ (sym (changed-numbered number (updated entry.moment entry.peer given)
    (updated-number entry.moment entry.peer given) (replay history).records)
    ∙ (ap (numbered number) (sym (applied-update (replay history) entry number given is))
    ∙ (ap (λ (s : State). numbered number s.records) (sym (replay_push history entry)) ∙ after))) in
    cc

-- ---- what lookups show of it

-- the lease of a record is in none of its lines
leased-part : (query : Query) (r : Record) (lt : ℕ) (granted : Moment) (given : Bool)
    → part query (record r { lt = lt; granted = granted; base_given = given }) ≡ part query r
unfolding part link_listed endpoint_listed endpoint_line endpoint_matches endpoint_pairs
leased-part query r lt granted given = by query.kind
  where
    by : (k : Kind)
        → part_of_kind k query (record r { lt = lt; granted = granted; base_given = given })
        ≡ part_of_kind k query r
    by kind.Resource = refl
    by kind.Endpoint = refl
    by kind.Discovery = refl

-- a record with this lease and these parts
leased_as : Record → ℕ → Name → List ℕ → List Pair → List Item → Record
leased_as r number name base attrs items = record r {
  number = number;
  name = name;
  base = base;
  attrs = attrs;
  items = items;
}

same-part : (query : Query) (old new : Record)
    → old.number ≡ new.number
    → old.name ≡ new.name
    → old.base ≡ new.base
    → old.attrs ≡ new.attrs
    → old.items ≡ new.items
    → part query old ≡ part query new
unfolding leased_as
same-part query old new number name base attrs items =
    let same :
    record old { lt = new.lt; granted = new.granted; base_given = new.base_given } ≡ new =
    ap (λ n. leased_as new n old.name old.base old.attrs old.items) number
    ∙ (ap (λ n. leased_as new new.number n old.base old.attrs old.items) name
    ∙ (ap (λ b. leased_as new new.number new.name b old.attrs old.items) base
    ∙ (ap (λ ps. leased_as new new.number new.name new.base ps old.items) attrs
    ∙ ap (λ is. leased_as new new.number new.name new.base new.attrs is) items))) in
    sym (leased-part query old new.lt new.granted new.base_given) ∙ ap (part query) same

-- the links are those before it where the base is
kept-items : (now : Moment) (peer : Peer) (given : UpdateParams) (old new : Record)
    → updated now peer given old ≡ new
    → IsAgainst old
    → old.base ≡ new.base
    → old.items ≡ new.items
kept-items now peer given old new is against base =
    sym (ap (λ (r : Record). r.items) (sym is) ∙ (updated-items now peer given old
    ∙ (ap (λ (r : Record). map (rebased r.base) old.items) is
    ∙ (ap (λ b. map (rebased b) old.items) (sym base) ∙ against))))

-- an update that leaves the base and the attributes
pub stays-shown : (rows : List Row) (s : Step) (entry : Entry) (old new : Option Record)
    → IsEntered rows s entry old new
    → kind_of entry.change ≡ kind_of_change.Update
    → StaysAsShown old new
    → (query : Query) → is_other_part query old new ≡ false
stays-shown rows s entry None new into update stays query = absurd stays
stays-shown rows s entry (Some old) None into update stays query = absurd stays
stays-shown rows s entry (Some old) (Some new) into update stays query = by entry.change refl update
  where
    by : (c : Change)
        → entry.change ≡ c
        → kind_of c ≡ kind_of_change.Update
        → is_other_part query (Some old) (Some new) ≡ false
    by (change.Register params links) is e = absurd cc
    by (change.Replace number links) is e = absurd cc
    by (change.Remove number) is e = absurd cc
    by (change.Begin first) is e = absurd cc
    by (change.Update number given) is e =
        let state : State = replay (entries rows) in
        let about : number_about state entry.moment.0 entry.change ≡ number =
        ap (number_about state entry.moment.0) is in
        let before =
        live-numbered (entries rows) entry.moment.0 number old
        (into.before ∙ ap (λ n. numbered n (live (entries rows) entry.moment.0)) about) in
        let after =
        live-numbered (entries rows ++ entry ∷ []) entry.moment.0 number new
        (into.after ∙ ap (λ n. numbered n (live (entries rows ++ entry ∷ [])
        entry.moment.0)) about) in
        let made = updated_of (entries rows) entry number given old new is before after in
        test_from_same query (Some old) (Some new)
        (same-part query old new
        (sym (updated-number entry.moment entry.peer given old)
        ∙ ap (λ (r : Record). r.number) made)
        (sym (updated-name entry.moment entry.peer given old) ∙ ap (λ (r : Record). r.name) made)
        stays.0 stays.1
        (kept-items entry.moment entry.peer given old new made
        (known_of IsAgainst number old state.records (replay-IsAgainst (entries rows)) before)
        stays.0))

-- watched queries that are given the same lines are as before
pub untouched : (old new : Option Record)
    → ((query : Query) → is_other_part query old new ≡ false)
    → (t : Table)
    → all_touched old new t ≡ t
untouched old new same [] = refl
untouched old new same (e ∷ t) =
    rw (same e.1.query) (ap (λ (rest : Table). e ∷ rest) (untouched old new same t))
