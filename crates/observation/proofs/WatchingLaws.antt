-- The watched queries and their observers while a row is made: with notes about other things, as
-- time passes, and after an entry.
use Rattle.std.proofs.Common.{
  ◌≡◌,
  ℕ,
  ◌≤◌,
  ◌==◌,
  Bool,
  true,
  false,
  not,
  ◌&&◌,
  ◌||◌,
  cond,
  List,
  [],
  ◌∷◌,
  ◌++◌,
  length,
  map,
  find,
  Option,
  Some,
  None,
  option_map,
  unwrap_or,
  refl,
  sym,
  ap,
  ap₂,
  subst,
  ◌∙◌,
  append-nil,
  arith,
}
use Rattle.std.specs.List.{AllByRecursion, list_any}
use Rattle.std.specs.Option.{option_or}
use Rattle.std.proofs.lemmas.Bool.{false≢true, not-false}
use Rattle.std.proofs.lemmas.List.Folds.{find-append}
use Rattle.rd_base.specs.declared.peers.Peer.{Peer}
use Rattle.rd_base.specs.declared.queries.Query.{Query}
use Rattle.rd_base.specs.declared.queries.Kind.TheVariants as kind
use Rattle.rd_base.specs.declared.records.Record.{Record}
use Rattle.rd_base.proofs.lemmas.Each.{each_weaker}
use Rattle.record_model.specs.ListingLines.{shown as listed}
use Rattle.history_model.specs.declared.entries.Entry.{Entry}
use Rattle.history_model.specs.ChangedParts.{is_other_part, is_lapse_of}
use Rattle.history_model.specs.Listing.{all_lines, listing}
use Rattle.history_model.specs.Replay.{replay}
use Rattle.event_model.specs.declared.notes.Note.{Note}
use Rattle.event_model.specs.declared.notes.Note.TheVariants as note
use Rattle.event_model.specs.declared.notes.Observer.{Observer}
use Rattle.event_model.specs.Same.{is_same_peer}
use Rattle.event_model.specs.Events.{noted}
use Rattle.event_model.specs.Observers.{name_of, observers}
use Rattle.event_model.specs.Due.{are_same_lines, is_change_of, is_looking_for, is_due}
use Rattle.event_model.proofs.AsideTables.{about_observers}
use Rattle.event_model.proofs.DueLaws.{due_quiet}
use Rattle.event_model.proofs.NotedLaws.{event_at}
use Rattle.event_model.proofs.ObserverEvents.{observers-quiet}
use Rattle.event_model.proofs.TransitionLaws.{
  transition,
  are_same_lines-Decides,
  time_changes,
  entry_changes,
}
use Rattle.journal_model.specs.declared.steps.Step.{Step}
use Rattle.journal_model.specs.declared.rows.Row.{Row}
use Rattle.journal_model.specs.DeskJournal.{IsDeskJournal}
use Rattle.journal_model.specs.Effects.{Effects, nothing, joined, noting}
use Rattle.journal_model.specs.Journal.{
  is_look,
  is_desk_row,
  transition_of,
  events,
  entries,
  now,
  row_at,
  transitions,
}
use Rattle.journal_model.specs.Rows.{row_with, row_moment}
use Rattle.journal_model.specs.Ticks.{is_confirmable_with, confirmable_sent, octets_sent}
use Rattle.journal_model.specs.UnfinishedRow.{making}
use Rattle.journal_model.proofs.EntriesNoted.{entries_in, entries_in-append}
use Rattle.journal_model.proofs.RowEquations.{events-row, transitions-row}
use Rattle.journal_model.proofs.UnfinishedRowLaws.{
  now_latest,
  now-making,
  events-making_nothing,
  events-making_joined,
}
use Rattle.journal_model.proofs.observers.DueRows.{due-making_passes, due-making_enters}
use Rattle.journal_model.proofs.observers.ObserverKnowledge.{KnownIn}
use Rattle.journal_model.proofs.observers.ObserversKnow.{desk-AllKnown}
use Rattle.journal_model.proofs.observers.SentOctets.{observers_standing-row}
use Rattle.watch_table.specs.WatchedQueries.{Table, all_touched}
use Rattle.observers.proofs.StandLaws.{empty-StandsFor}
use Rattle.observation.specs.declared.change_kinds.ChangeKind.TheVariants as kind_of_change
use Rattle.observation.specs.ChangeKinds.{kind_of, StaysAsShown}
use Rattle.observation.specs.Entering.{IsEntered}
use Rattle.observation.specs.Marks.{all_touched_where}
use Rattle.observation.specs.Watching.{Watching, WatchingStandsFor}
use Rattle.observation.proofs.LeaseLaws.{stays-shown, untouched}
use Rattle.observation.proofs.MarkLaws.{unmarked_same, unmarked_handed}
use Rattle.observation.proofs.WatchingParts.{
  handed_on,
  StandsOver,
  KeepsConfirmable,
  shown_same,
  octets_kept,
  noted_aside,
  touched_stands,
}

-- ---- a journal by its parts

abbrev pub StandsIn : List Row → Watching → Type 0
StandsIn rows w =
    StandsOver (octets_sent rows) (events rows) (transitions rows) (entries rows) (now rows) w

pub to_parts : (rows : List Row) (w : Watching) → WatchingStandsFor rows w → StandsIn rows w
to_parts rows w h = record {
  queries = h.queries;
  in_slots = h.in_slots;
  watches = h.watches;
  observers = h.observers;
  confirmable = h.confirmable;
  unmarked = h.unmarked;
  bodies = h.bodies;
}

pub from_parts : (rows : List Row) (w : Watching) → StandsIn rows w → WatchingStandsFor rows w
from_parts rows w h = record {
  queries = h.queries;
  in_slots = h.in_slots;
  watches = h.watches;
  observers = h.observers;
  confirmable = h.confirmable;
  unmarked = h.unmarked;
  bodies = h.bodies;
}

-- no observers, in the journal without a row
pub WatchingStandsFor-empty : WatchingStandsFor [] (record { watches = []; observers = [] })
unfolding events transitions observers
WatchingStandsFor-empty = record {
  queries = λ slot. record { kind = kind.Resource; criteria = []; page = None; count = None };
  in_slots = tt;
  watches = record { observers = λ query. refl; some = tt; apart = tt };
  observers =
      empty-StandsFor
      (λ slot. record { kind = kind.Resource; criteria = []; page = None; count = None })
      (octets_sent []);
  confirmable = tt;
  unmarked = tt;
  bodies = tt;
}

-- ---- one thing more that enters nothing

-- a confirmable message that was sent is found again, whatever is sent after it
octets-joined : (rows : List Row) (s : Step) (starved : Bool) (done more : Effects)
    → KeepsConfirmable (octets_sent (making rows s starved done))
    (octets_sent (making rows s starved (joined done more)))
unfolding octets_sent row_at
octets-joined rows s starved done more place peer mid h = by (place == length rows) h
  where
    found : (first second : Option (Peer × List ℕ))
        → is_confirmable_with mid (unwrap_or (option_map (λ (x : Peer × List ℕ). x.1) first) [])
        ≡ true
        → unwrap_or (option_map (λ (x : Peer × List ℕ). x.1) (option_or first second)) []
        ≡ unwrap_or (option_map (λ (x : Peer × List ℕ). x.1) first) []
    found None second g = absurd (false≢true g)
    found (Some d) second g = refl

    by : (b : Bool)
        → is_confirmable_with mid (unwrap_or (option_map (λ (x : Peer × List ℕ). x.1)
        (confirmable_sent (cond b (Some (row_with s (row_moment rows s) starved done))
        (row_at place rows)) peer mid)) [])
        ≡ true
        → unwrap_or (option_map (λ (x : Peer × List ℕ). x.1) (confirmable_sent
        (cond b (Some (row_with s (row_moment rows s) starved (joined done more)))
        (row_at place rows)) peer mid)) []
        ≡ unwrap_or (option_map (λ (x : Peer × List ℕ). x.1)
        (confirmable_sent (cond b (Some (row_with s (row_moment rows s) starved done))
        (row_at place rows)) peer mid)) []
    by false g = refl
    by true g =
        ap (λ (d : Option (Peer × List ℕ)).
        unwrap_or (option_map (λ (x : Peer × List ℕ). x.1) d) [])
        (find-append
        (λ (d : Peer × List ℕ). is_same_peer d.0 peer && is_confirmable_with mid d.1)
        done.sent more.sent)
        ∙ found (find (λ (d : Peer × List ℕ). is_same_peer d.0 peer && is_confirmable_with mid d.1)
        done.sent)
        (find (λ (d : Peer × List ℕ). is_same_peer d.0 peer && is_confirmable_with mid d.1)
        more.sent) g

-- what the row enters is as before
entered-joined : (done more : Effects)
    → entries_in more.notes ≡ []
    → entries_in (joined done more).notes ≡ entries_in done.notes
entered-joined done more none =
    entries_in-append done.notes more.notes
    ∙ (ap (λ (es : List Entry). entries_in done.notes ++ es) none
    ∙ append-nil (entries_in done.notes))

entries-joined : (rows : List Row) (s : Step) (starved : Bool) (done more : Effects)
    → entries_in more.notes ≡ []
    → entries (making rows s starved (joined done more)) ≡ entries (making rows s starved done)
unfolding entries
entries-joined rows s starved done more none =
    ap (λ (es : List Entry). entries rows ++ es) (entered-joined done more none)

transitions-joined : (rows : List Row) (s : Step) (starved : Bool) (done more : Effects)
    → entries_in more.notes ≡ []
    → transitions (making rows s starved (joined done more))
    ≡ transitions (making rows s starved done)
transitions-joined rows s starved done more none =
    transitions-row rows (row_with s (row_moment rows s) starved (joined done more))
    ∙ (ap (λ es.
    cond (not (is_look s.kind))
    (transition (length rows) (entries rows) (now rows) (entries rows ++ es)
    (row_moment rows s)
    ∷ transitions rows) (transitions rows)) (entered-joined done more none)
    ∙ sym (transitions-row rows (row_with s (row_moment rows s) starved done)))

now-joined : (rows : List Row) (s : Step) (starved : Bool) (done more : Effects)
    → now (making rows s starved (joined done more)) ≡ now (making rows s starved done)
unfolding now
now-joined rows s starved done more = refl

-- before the notes of what is done next they stand for all else of the journal with it
pub stands_before : (rows : List Row) (s : Step) (starved : Bool) (done more : Effects)
    (w : Watching)
    → entries_in more.notes ≡ []
    → WatchingStandsFor (making rows s starved done) w
    → StandsOver (octets_sent (making rows s starved (joined done more)))
    (events (making rows s starved done))
    (transitions (making rows s starved (joined done more)))
    (entries (making rows s starved (joined done more)))
    (now (making rows s starved (joined done more))) w
stands_before rows s starved done more w none h =
    subst
    (λ seen. StandsOver (octets_sent later) (events before) seen (entries later) (now later) w)
    (sym (transitions-joined rows s starved done more none))
    (subst (λ history.
    StandsOver (octets_sent later) (events before) (transitions before) history (now later)
    w) (sym (entries-joined rows s starved done more none))
    (subst (λ moment.
    StandsOver (octets_sent later) (events before) (transitions before) (entries before)
    moment w) (sym (now-joined rows s starved done more))
    (octets_kept (octets_sent before) (octets_sent later) (events before) (transitions before)
    (entries before) (now before) w (octets-joined rows s starved done more)
    (to_parts before w h))))
  where
    before : List Row
    before = making rows s starved done

    later : List Row
    later = making rows s starved (joined done more)

-- Notes that are about no observers and enter nothing leave what they stand for, whatever is sent
-- and drawn.
pub WatchingStandsFor-aside : (rows : List Row) (s : Step) (starved : Bool) (done more : Effects)
    (w : Watching)
    → list_any about_observers more.notes ≡ false
    → entries_in more.notes ≡ []
    → WatchingStandsFor (making rows s starved done) w
    → WatchingStandsFor (making rows s starved (joined done more)) w
WatchingStandsFor-aside rows s starved done more w aside none h =
    from_parts later w
    (subst (λ past.
    StandsOver (octets_sent later) past (transitions later) (entries later) (now later) w)
    (sym (events-making_joined rows s starved done more))
    (noted_aside (octets_sent later) (events (making rows s starved done)) (transitions later)
    (entries later) (now later) w (length rows) (row_moment rows s) s.word more.notes aside
    (stands_before rows s starved done more w none h)))
  where
    later : List Row
    later = making rows s starved (joined done more)

-- A row of a look leaves what they stand for.
pub WatchingStandsFor-looked : (rows : List Row) (r : Row) (w : Watching)
    → is_desk_row r ≡ false
    → r.notes ≡ []
    → WatchingStandsFor rows w
    → WatchingStandsFor (r ∷ rows) w
unfolding entries now
WatchingStandsFor-looked rows r w look none h =
    from_parts (r ∷ rows) w
    (subst (λ past.
    StandsOver (octets_sent (r ∷ rows)) past (transitions (r ∷ rows)) (entries (r ∷ rows))
    (now (r ∷ rows)) w) (sym past)
    (subst (λ seen.
    StandsOver (octets_sent (r ∷ rows)) (events rows) seen (entries (r ∷ rows))
    (now (r ∷ rows)) w) (sym seen)
    (subst (λ history.
    StandsOver (octets_sent (r ∷ rows)) (events rows) (transitions rows) history
    (now (r ∷ rows)) w) (sym history)
    (subst (λ moment.
    StandsOver (octets_sent (r ∷ rows)) (events rows) (transitions rows) (entries rows)
    moment w) (sym moment)
    (shown_same (octets_sent rows) (octets_sent (r ∷ rows)) (events rows) (events rows)
    (transitions rows) (transitions rows) (entries rows) (now rows) w
    (observers_standing-row rows r (transitions rows)) (to_parts rows w h))))))
  where
    past : events (r ∷ rows) ≡ events rows
    past =
        events-row rows r
        ∙ ap (λ (ns : List Note). noted (length rows) r.moment.0 r.step.word ns (events rows)) none

    seen : transitions (r ∷ rows) ≡ transitions rows
    seen =
        transitions-row rows r
        ∙ ap (λ b. cond b (transition_of r rows ∷ transitions rows) (transitions rows)) look

    history : entries rows ++ entries_in r.notes ≡ entries rows
    history = ap (λ ns. entries rows ++ entries_in ns) none ∙ append-nil (entries rows)

    moment : cond (is_desk_row r) r.moment.0 (now rows) ≡ now rows
    moment = ap (λ b. cond b r.moment.0 (now rows)) look

-- ---- changes of the registrations

-- what changes no lines of a query changes no listing of it
listing_unchanged : (query : Query) (place : ℕ) (before : List Entry) (from : ℕ)
    (after : List Entry) (to : ℕ)
    → is_change_of query (transition place before from after to) ≡ false
    → listing query after to ≡ listing query before from
unfolding is_change_of listing
listing_unchanged query place before from after to h =
    ap (λ lines. listed query (map (λ (line : ℕ × List ℕ). line.1) lines))
    (sym ((are_same_lines-Decides (all_lines query before from) (all_lines query after to)).0
    (not-false (are_same_lines (all_lines query before from) (all_lines query after to))
    h)))

order-row : (rows : List Row) (s : Step) → now rows ≤ row_moment rows s
unfolding row_moment
order-row rows s = let early = now_latest rows in omega (arith, early)

entries-none : (rows : List Row) (s : Step) (starved : Bool) (done : Effects)
    → done.notes ≡ []
    → entries (making rows s starved done) ≡ entries rows
unfolding entries
entries-none rows s starved done none =
    ap (λ ns. entries rows ++ entries_in ns) none ∙ append-nil (entries rows)

entries-entered : (rows : List Row) (s : Step) (starved : Bool) (done : Effects) (entry : Entry)
    → done.notes ≡ []
    → entries (making rows s starved (joined done (noting (note.Entered entry ∷ []))))
    ≡ entries rows ++ entry ∷ []
unfolding entries
entries-entered rows s starved done entry none =
    ap (λ (ns : List Note). entries rows ++ entries_in (ns ++ note.Entered entry ∷ [])) none

-- time passes before anything is done
passed : (rows : List Row) (s : Step) (starved : Bool) (w : Watching)
    → IsDeskJournal rows
    → is_look s.kind ≡ false
    → WatchingStandsFor rows w
    → WatchingStandsFor (making rows s starved nothing) (handed_on (all_touched_where (λ query.
    is_lapse_of query (now rows) (row_moment rows s)
    (replay (entries rows)).records) w.watches) w.observers)
passed rows s starved w journal desk h =
    from_parts later w'
    (subst (λ past.
    StandsOver (octets_sent later) past (transitions later) (entries later) (now later) w')
    (sym (events-making_nothing rows s starved))
    (touched_stands test (octets_sent later) (events rows) (transitions rows) (transitions later)
    (entries rows) (entries later) (now rows) (now later) w
    (each_weaker (KnownIn rows) (λ o.
    is_due o (events rows) (transitions later)
    ≡ (test o.query || is_due o (events rows) (transitions rows))) due
    (observers (events rows)) (desk-AllKnown rows journal))
    same
    (shown_same (octets_sent rows) (octets_sent later) (events rows) (events rows)
    (transitions rows) (transitions rows) (entries rows) (now rows) w
    (observers_standing-row rows (row_with s (row_moment rows s) starved nothing)
    (transitions rows)) (to_parts rows w h))))
  where
    later : List Row
    later = making rows s starved nothing

    test : Query → Bool
    test = λ query. is_lapse_of query (now rows) (row_moment rows s) (replay (entries rows)).records

    w' : Watching
    w' = handed_on (all_touched_where test w.watches) w.observers

    due : (o : Observer)
        → KnownIn rows o
        → is_due o (events rows) (transitions later)
        ≡ (test o.query || is_due o (events rows) (transitions rows))
    due o known =
        sym (ap (λ past. is_due o past (transitions later)) (events-making_nothing rows s starved))
        ∙ due-making_passes rows s starved o known desk (order-row rows s)

    same : (query : Query)
        → test query ≡ false
        → listing query (entries later) (now later) ≡ listing query (entries rows) (now rows)
    same query fails =
        ap₂ (λ history moment. listing query history moment)
        (entries-none rows s starved nothing refl) (now-making rows s starved nothing desk)
        ∙ listing_unchanged query (length rows) (entries rows) (now rows) (entries rows)
        (row_moment rows s)
        (time_changes query (length rows) (entries rows) (now rows) (row_moment rows s)
        (order-row rows s)
        ∙ fails)

-- As time passes before anything is done, the observers are due to whose queries records give lines
-- that lapse meanwhile.
pub WatchingStandsFor-passed : (rows : List Row) (s : Step) (starved : Bool) (from to : ℕ)
    (t : Table) (w : Watching)
    → IsDeskJournal rows
    → is_look s.kind ≡ false
    → from ≡ now rows
    → to ≡ row_moment rows s
    → t
    ≡ all_touched_where (λ query. is_lapse_of query from to (replay (entries rows)).records)
    w.watches
    → WatchingStandsFor rows w
    → WatchingStandsFor (making rows s starved nothing) (handed_on t w.observers)
WatchingStandsFor-passed rows s starved from to t w journal desk first last touched h =
    subst (λ x. WatchingStandsFor (making rows s starved nothing) (handed_on x w.observers))
    (sym (touched
    ∙ ap₂ (λ m n.
    all_touched_where (λ query. is_lapse_of query m n (replay (entries rows)).records)
    w.watches) first last))
    (passed rows s starved w journal desk h)

-- Where none lapses, nothing changes.
pub WatchingStandsFor-untouched : (rows : List Row) (s : Step) (starved : Bool) (from to : ℕ)
    (w : Watching)
    → IsDeskJournal rows
    → is_look s.kind ≡ false
    → from ≡ now rows
    → to ≡ row_moment rows s
    → w.watches
    ≡ all_touched_where (λ query. is_lapse_of query from to (replay (entries rows)).records)
    w.watches
    → WatchingStandsFor rows w
    → WatchingStandsFor (making rows s starved nothing) w
WatchingStandsFor-untouched rows s starved from to w journal desk first last touched h =
    subst (WatchingStandsFor (making rows s starved nothing))
    (ap₂ (λ t ws. record { watches = t; observers = ws }) (unmarked_same w.watches h.unmarked)
    (unmarked_handed w.watches w.observers h.unmarked))
    (WatchingStandsFor-passed rows s starved from to w.watches w journal desk first last touched h)

-- An entry is made, and nothing was noted before: the observers are due to whose queries the
-- registration that it is about gives other lines after it than before.
pub WatchingStandsFor-entered : (rows : List Row) (s : Step) (starved : Bool) (done : Effects)
    (entry : Entry) (old new : Option Record) (w : Watching)
    → IsDeskJournal rows
    → is_look s.kind ≡ false
    → done.notes ≡ []
    → IsEntered rows s entry old new → WatchingStandsFor (making rows s starved done) w
    → WatchingStandsFor (making rows s starved (joined done (noting (note.Entered entry ∷ []))))
    (handed_on (all_touched old new w.watches) w.observers)
WatchingStandsFor-entered rows s starved done entry old new w journal desk none into h =
    from_parts later (handed_on (all_touched old new w.watches) w.observers)
    (touched_stands test (octets_sent later) (events later) (transitions before) (transitions later)
    (entries before) (entries later) (now before) (now later) w
    (subst (AllByRecursion IsDueLater) (sym standing)
    (each_weaker (KnownIn rows) IsDueLater due (observers (events rows))
    (desk-AllKnown rows journal)))
    same
    (subst (λ past.
    StandsOver (octets_sent later) past (transitions before) (entries before) (now before)
    w) (sym (events-making_joined rows s starved done more))
    (noted_aside (octets_sent later) (events before) (transitions before) (entries before)
    (now before) w (length rows) (row_moment rows s) s.word more.notes refl
    (octets_kept (octets_sent before) (octets_sent later) (events before) (transitions before)
    (entries before) (now before) w (octets-joined rows s starved done more)
    (to_parts before w h)))))
  where
    more : Effects
    more = noting (note.Entered entry ∷ [])

    before : List Row
    before = making rows s starved done

    later : List Row
    later = making rows s starved (joined done more)

    test : Query → Bool
    test = λ query. is_other_part query old new

    past_same : events before ≡ events rows
    past_same =
        events-row rows (row_with s (row_moment rows s) starved done)
        ∙ ap (λ (ns : List Note). noted (length rows) (row_moment rows s) s.word ns (events rows))
        none

    standing : observers (events later) ≡ observers (events rows)
    standing =
        ap observers (events-making_joined rows s starved done more)
        ∙ (observers-quiet (event_at (length rows) (row_moment rows s) s.word (note.Entered entry))
        (events before) refl
        ∙ ap observers past_same)

    IsDueLater : Observer → Type 0
    IsDueLater =
        λ o.
        is_due o (events later) (transitions later)
        ≡ (test o.query || is_due o (events later) (transitions before))

    still : (o : Observer)
        → is_due o (events later) (transitions before)
        ≡ is_due o (events before) (transitions before)
    still o =
        ap (λ past. is_due o past (transitions before))
        (events-making_joined rows s starved done more)
        ∙ due_quiet o (events before) (transitions before) (length rows) (row_moment rows s) s.word
        more.notes refl

    due : (o : Observer)
        → KnownIn rows o
        → is_due o (events later) (transitions later)
        ≡ (test o.query || is_due o (events later) (transitions before))
    due o known =
        due-making_enters rows s starved done more o entry 0 known desk (order-row rows s)
        (ap (λ (ns : List Note). list_any (is_looking_for (name_of o)) ns) none) refl
        (ap entries_in none) refl into.at into.accepted
        ∙ ap₂ (λ a b. a || b)
        (ap₂ (λ a b. is_other_part o.query a b) (sym into.before) (sym into.after))
        (sym (still o))

    same : (query : Query)
        → test query ≡ false
        → listing query (entries later) (now later) ≡ listing query (entries before) (now before)
    same query fails =
        ap₂ (λ history moment. listing query history moment)
        (entries-entered rows s starved done entry none)
        (now-making rows s starved (joined done more) desk ∙ sym into.at)
        ∙ (listing_unchanged query (length rows) (entries rows) entry.moment.0
        (entries rows ++ entry ∷ []) entry.moment.0
        (entry_changes query (length rows) (entries rows) entry entry.moment.0
        ∙ (ap₂ (λ a b. is_other_part query a b) (sym into.before) (sym into.after) ∙ fails))
        ∙ sym (ap₂ (λ history moment. listing query history moment)
        (entries-none rows s starved done none)
        (now-making rows s starved done desk ∙ sym into.at)))

-- An entry is made that gives each query the lines that it had: nobody is due by it.
pub WatchingStandsFor-stayed : (rows : List Row) (s : Step) (starved : Bool) (done : Effects)
    (entry : Entry) (old new : Option Record) (w : Watching)
    → IsDeskJournal rows
    → is_look s.kind ≡ false
    → done.notes ≡ []
    → kind_of entry.change ≡ kind_of_change.Update
    → StaysAsShown old new
    → IsEntered rows s entry old new
    → WatchingStandsFor (making rows s starved done) w
    → WatchingStandsFor (making rows s starved (joined done (noting (note.Entered entry ∷ [])))) w
WatchingStandsFor-stayed rows s starved done entry old new w journal desk none update stays into h =
    subst
    (WatchingStandsFor (making rows s starved (joined done (noting (note.Entered entry ∷ [])))))
    (ap (λ t. handed_on t w.observers)
    (untouched old new (stays-shown rows s entry old new into update stays) w.watches)
    ∙ ap₂ (λ t ws. record { watches = t; observers = ws }) (unmarked_same w.watches h.unmarked)
    (unmarked_handed w.watches w.observers h.unmarked))
    (WatchingStandsFor-entered rows s starved done entry old new w journal desk none into h)
