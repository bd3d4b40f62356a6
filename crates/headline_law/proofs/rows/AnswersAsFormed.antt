-- Each lookup answers the listing of the history at the row that built it, in each journal of the
-- machine.
use Rattle.std.proofs.Common.{◌≡◌, ℕ, ◌||◌, Bool, true, false, List, [], ◌∷◌, ◌++◌, length, Ok}
use Rattle.std.proofs.Common.{refl, sym, ap, subst, ◌∙◌}
use Rattle.std.specs.List.{list_any, AllByRecursion}
use Rattle.std.proofs.lemmas.Bool.{false≢true, and_parts}
use Rattle.message_model.specs.Message.{Message}
use Rattle.message_model.specs.Reading.{reading}
use Rattle.event_model.specs.declared.notes.Observer.{Observer}
use Rattle.event_model.specs.Observers.{observers}
use Rattle.journal_model.specs.declared.steps.Step.{Step}
use Rattle.journal_model.specs.declared.steps.StepKind.{StepKind}
use Rattle.journal_model.specs.declared.steps.StepKind.TheVariants as step
use Rattle.journal_model.specs.declared.rows.Row.{Row}
use Rattle.journal_model.specs.Journal.{is_heard, events, entries}
use Rattle.journal_model.specs.Effects.{Effects}
use Rattle.journal_model.specs.Ticks.{
  ticking,
  notifications_again,
  notifications,
  requests_again,
  tick_effects,
}
use Rattle.journal_model.specs.Rows.{effects, row_moment, row, AreRows, empty, added}
use Rattle.journal_model.specs.Machine.{IsJournal, begun, made}
use Rattle.journal_model.specs.DeskJournal.{IsDeskJournal}
use Rattle.journal_model.specs.BodyFormers.{former_of_body, is_formed_in_rows}
use Rattle.journal_model.specs.AnswersAsFormed.{AnswersAsFormed, DeskAnswersAsFormed}
use Rattle.journal_model.specs.CarriedBlocks.{FormedAs, is_content, Sent, shows_links}
use Rattle.journal_model.proofs.StepNotes.{requests_again-notes}
use Rattle.journal_model.proofs.EntriesNoted.{entries_in}
use Rattle.journal_model.proofs.sends.PlainSteps.{ArePlain}
use Rattle.journal_model.proofs.entries.QuietSteps.{tick_effects-entries_in}
use Rattle.journal_model.proofs.observers.ObserversKnow.{IsNoTick, step_observer_notes}
use Rattle.journal_model.proofs.sends.TickSends.{AskedPlain, requests_plain}
use Rattle.headline_law.proofs.sends.ValidLaw.{RowFacts, rows_facts, settled_plain, asked_plain}
use Rattle.headline_law.proofs.sends.ValidLaw.{looks_are_validated}
use Rattle.headline_law.proofs.rows.Validations.{sent_validates}
use Rattle.journal_model.proofs.EventRows.{AllRows, row_within}
use Rattle.rd_base.proofs.lemmas.Among.{Among, all_among, all_at_index}
use Rattle.journal_model.proofs.notes.LookupNotes.{IsAsking, NotesAsAsked, observers_all}
use Rattle.journal_model.proofs.flights.NotificationsAgain.{events_after_again, stood}
use Rattle.headline_law.proofs.flights.TickNotifications.{TickSoFar}
use Rattle.headline_law.proofs.flights.TickFolds.{tick_begins, tick_notifies}
use Rattle.headline_law.proofs.flights.CarriedListings.{Carried}
use Rattle.headline_law.proofs.rows.TickRows.{TickRow, tick_carried}
use Rattle.headline_law.proofs.flights.TickFlights.{tick_flights}
use Rattle.headline_law.proofs.notes.TickNotes.{tick_notes_as_asked}
use Rattle.headline_law.proofs.flights.FirstBodies.{FormsFirst, first_forms}
use Rattle.headline_law.proofs.flights.KnownFlights.{FlightsKnown, flights_row}
use Rattle.headline_law.proofs.sends.StepOutcomes.{
  is_keeping,
  StepOutcome,
  plain,
  look,
  lookup,
  source,
  keep,
  heard_outcome,
  looked_outcome,
  done_outcome,
  kept_outcome,
  beginning_outcome,
}
use Rattle.headline_law.proofs.rows.RowCarries.{NoteAsFormed, RowCarries, asks_as_noted, plain_row}
use Rattle.headline_law.proofs.rows.RowCarries.{look_row, own_notes_as_formed}
use Rattle.headline_law.proofs.rows.LookupRows.{lookup_row, read_row}
use Rattle.headline_law.proofs.rows.KeepRows.{KeepOf, keep_of, keep_row}
use Rattle.journal_model.proofs.entries.JournalLaws.{entries-none_noted, journal-AreRows}
use Rattle.journal_model.proofs.entries.JournalLaws.{desk-AreRows}

-- what is known of rows: each of them, their observers, and the notifications in flight
record CarriesAll (keeps : Bool) (rows : List Row) : Type 0 where
  each : AllRows (RowCarries keeps) rows
  asking : AllByRecursion IsAsking (observers (events rows))
  flights : FlightsKnown rows

-- a keep ends a look, where that is to be known
abbrev KeepKnown : Bool → List Row → Step → Type 0
KeepKnown keeps rows s = (m : Message) (body current : List ℕ) → reading s.datagram ≡ Ok m
    → s.kind ≡ step.Keep body current → keeps ≡ true → KeepOf rows s.worker m body current

-- so it is of all keeps
abbrev KeepsKnown : Bool → List Row → Type 0
KeepsKnown keeps rows = AllRows (λ before r. KeepKnown keeps before r.step) rows

-- the observers that a row adds ask for their queries
asking_row : (keeps : Bool) (rows : List Row) (r : Row) → RowCarries keeps rows r
    → AllByRecursion IsAsking (observers (events rows))
    → AllByRecursion IsAsking (observers (events (r ∷ rows)))
unfolding events
asking_row keeps rows r carries all =
    observers_all IsAsking (length rows) r.moment.0 r.step.word r.notes
    (events rows) carries.asking all

-- a row that is no tick, from the outcome of its step
row_of_outcome : (keeps : Bool) (rows : List Row) (r : Row) (e : Effects)
    → AllRows (RowCarries keeps) rows → KeepKnown keeps rows r.step → r.sent ≡ e.sent
    → r.notes ≡ e.notes → StepOutcome rows r.moment.0 r.step e → RowCarries keeps rows r
row_of_outcome keeps rows r e all known sent notes (plain sends none) =
    plain_row keeps rows r (subst ArePlain (sym sent) sends) (ap (list_any is_keeping) notes ∙ none)
row_of_outcome keeps rows r e all known sent notes (look m heard_so read is) =
    look_row keeps rows r m heard_so read (sent ∙ ap (λ x. x.sent) is) (notes
    ∙ ap (λ x. x.notes) is)
row_of_outcome keeps rows r e all known sent notes (lookup m heard_so read lookups is) =
    lookup_row keeps rows r m all heard_so read lookups (sent ∙ ap (λ x. x.sent) is) (notes
    ∙ ap (λ x. x.notes) is)
row_of_outcome keeps rows r e all known sent notes (source m heard_so read reads is) =
    read_row keeps rows r m all heard_so read reads (sent ∙ ap (λ x. x.sent) is) (notes
    ∙ ap (λ x. x.notes) is)
row_of_outcome keeps rows r e all known sent notes (keep m body current read kind is) =
    keep_row keeps rows r m body current (known m body current read kind) kind read (sent
    ∙ ap (λ x. x.sent) is) (notes ∙ ap (λ x. x.notes) is)

-- so what is known is known with it
quiet_step : (keeps : Bool) (rows : List Row) (r : Row) → RowCarries keeps rows r
    → FormsFirst r.notes → CarriesAll keeps rows → CarriesAll keeps (r ∷ rows)
quiet_step keeps rows r carries first all = record {
  each = (carries, all.each);
  asking = asking_row keeps rows r carries all.asking;
  flights = flights_row rows r first.none first.added all.flights;
}

-- a row of a tick
tick_of : (keeps : Bool) (rows : List Row) (r : Row) (starved : Bool) → AskedPlain rows
    → CarriesAll keeps rows → r.step.kind ≡ step.Tick
    → r.sent ≡ (tick_effects starved rows r.moment.0 r.step).sent
    → r.notes ≡ (tick_effects starved rows r.moment.0 r.step).notes → TickRow rows r
unfolding tick_effects
tick_of keeps rows r starved asked all tick sent notes = by starved sent notes
  where
    same_entries : entries (r ∷ rows) ≡ entries rows
    same_entries =
        entries-none_noted rows r
        (ap entries_in notes ∙ tick_effects-entries_in starved rows r.moment.0 r.step)

    asking : (o : Observer)
        → Among o (observers (events_after_again rows r.moment.0 r.step.word))
        → IsAsking o
    asking o stands =
        all_among IsAsking o (observers (events_after_again rows r.moment.0 r.step.word))
        (stood rows r.moment.0 r.step.word IsAsking all.asking) stands

    with_parts : (notified : Effects)
        → TickSoFar rows r.moment.0 r.step.word notified
        → r.sent ≡ notified.sent ++ (requests_again rows r.moment.0).sent
        → r.notes ≡ notified.notes ++ (requests_again rows r.moment.0).notes
        → TickRow rows r
    with_parts notified so_far sends noted = record {
      notified = notified;
      requests = requests_again rows r.moment.0;
      tick = tick;
      sent = sends;
      notes = noted;
      so_far = so_far;
      plain = requests_plain rows r.moment.0 asked;
      resent = requests_again-notes rows r.moment.0;
      same_entries = same_entries;
      known = all.flights;
    }

    by : (b : Bool)
        → r.sent ≡ (tick_effects b rows r.moment.0 r.step).sent
        → r.notes ≡ (tick_effects b rows r.moment.0 r.step).notes
        → TickRow rows r
    by true s n =
        with_parts (notifications_again rows r.moment.0) (tick_begins rows r.moment.0 r.step.word) s
        n
    by false s n =
        with_parts (notifications (ticking rows r.moment.0 r.step)
        (notifications_again rows r.moment.0))
        (tick_notifies rows r.moment.0 r.step asking) s n

-- what is known is known with a row of a tick
tick_step : (keeps : Bool) (rows : List Row) (r : Row) (starved : Bool) → AskedPlain rows
    → CarriesAll keeps rows → r.step.kind ≡ step.Tick
    → r.sent ≡ (tick_effects starved rows r.moment.0 r.step).sent
    → r.notes ≡ (tick_effects starved rows r.moment.0 r.step).notes → CarriesAll keeps (r ∷ rows)
tick_step keeps rows r starved asked all tick sent notes =
    let t : TickRow rows r = tick_of keeps rows r starved asked all tick sent notes in
    let asked_now =
    subst (NotesAsAsked rows r.moment.0) (sym notes)
    (tick_notes_as_asked starved rows r.moment.0 r.step (stood rows r.moment.0 r.step.word
    IsAsking all.asking)) in
    let noted : AllByRecursion (NoteAsFormed (record { row = r; before = rows })) r.notes =
    own_notes_as_formed rows r
    (ap (λ k. former_of_body k (record { row = r; before = rows })) tick) t.same_entries r.notes
    asked_now in
    let carries : RowCarries keeps rows r =
    record {
      carried = λ _. tick_carried rows r t;
      noted = λ _. noted;
      asking = asks_as_noted (record { row = r; before = rows }) r.notes noted;
    } in
    record {
      each = (carries, all.each);
      asking = asking_row keeps rows r carries all.asking;
      flights = tick_flights rows r t;
    }

-- any row
row_step : (keeps : Bool) (rows : List Row) (s : Step) (starved : Bool) → AreRows rows
    → KeepKnown keeps rows s → CarriesAll keeps rows → CarriesAll keeps (row rows s starved ∷ rows)
unfolding row effects
row_step keeps rows s starved made_so known all = by s.kind refl
  where
    facts : AllRows RowFacts rows
    facts = rows_facts rows made_so

    sent_of : (k : StepKind)
        → s.kind ≡ k
        → (row rows s starved).sent ≡ (effects k starved rows (row_moment rows s) s).sent
    sent_of k is = ap (λ x. (effects x starved rows (row_moment rows s) s).sent) is

    notes_of : (k : StepKind)
        → s.kind ≡ k
        → (row rows s starved).notes ≡ (effects k starved rows (row_moment rows s) s).notes
    notes_of k is = ap (λ x. (effects x starved rows (row_moment rows s) s).notes) is

    with_outcome : (k : StepKind)
        → s.kind ≡ k
        → StepOutcome rows (row_moment rows s) s (effects k starved rows (row_moment rows s) s)
        → IsNoTick k
        → CarriesAll keeps (row rows s starved ∷ rows)
    with_outcome k is outcome no_tick =
        quiet_step keeps rows (row rows s starved)
        (row_of_outcome keeps rows (row rows s starved)
        (effects k starved rows (row_moment rows s) s) all.each known (sent_of k is)
        (notes_of k is) outcome)
        (subst FormsFirst (sym (notes_of k is)) (first_forms rows (row_moment rows s)
        (effects k starved rows (row_moment rows s) s).notes
        (step_observer_notes k starved rows (row_moment rows s) s no_tick))) all

    by : (k : StepKind) → s.kind ≡ k → CarriesAll keeps (row rows s starved ∷ rows)
    by step.Admit is = with_outcome step.Admit is
        (heard_outcome starved rows (row_moment rows s) s (reading s.datagram)
        (settled_plain rows facts) (ap is_heard is) refl) tt
    by step.Look is =
        with_outcome step.Look is
        (looked_outcome starved rows (row_moment rows s) s (reading s.datagram) (ap is_heard is)
        refl) tt
    by (step.Commit place) is =
        with_outcome (step.Commit place) is
        (done_outcome starved rows (row_moment rows s) place s (reading s.datagram)) tt
    by (step.Keep body current) is =
        with_outcome (step.Keep body current) is
        (kept_outcome starved rows (row_moment rows s) s (reading s.datagram) body current refl
        is) tt
    by step.Tick is = tick_step keeps rows (row rows s starved) starved
        (asked_plain rows facts) all is (sent_of step.Tick is) (notes_of step.Tick is)
    by (step.Begin first) is =
        with_outcome (step.Begin first) is
        (beginning_outcome starved rows (row_moment rows s) s first) tt

-- all rows of steps
rows_carry : (keeps : Bool) (rows : List Row) → AreRows rows → KeepsKnown keeps rows
    → CarriesAll keeps rows
unfolding events observers row
rows_carry keeps [] empty known = record { each = tt; asking = tt; flights = tt }
rows_carry keeps (r ∷ before) (added {rows} s starved rest) known =
    row_step keeps before s starved rest known.0 (rows_carry keeps before rest known.1)

-- each keep of a journal of the machine ends a look
journal_keeps : (rows : List Row) → IsJournal rows → KeepsKnown true rows
unfolding row
journal_keeps [] begun = tt
journal_keeps (r ∷ before) (made {rows} {s} starved journal may) = (
  λ m body current read kind known. keep_of before s m body current journal may.begin kind read,
  journal_keeps before journal,
)

-- of those of a desk nothing is to be known
no_keeps : (rows : List Row) → KeepsKnown false rows
no_keeps [] = tt
no_keeps (r ∷ before) =
    (λ m body current read kind known. absurd (false≢true known), no_keeps before)

-- what is known of an answer
carried_by : (keeps : Bool) (rows : List Row) → CarriesAll keeps rows → (sent : Sent rows)
    → shows_links sent ≡ true
    → (keeps || is_formed_in_rows sent.here.row.step.kind sent.here) ≡ true
    → FormedAs sent.here sent.peer sent.message
carried_by keeps rows all sent listed known =
    let parts = and_parts (is_content sent.message) _ listed in
    all_at_index (Carried sent.here) sent.here.row.sent (sent.peer, sent.octets) sent.among
    ((row_within (RowCarries keeps) rows sent.here.before sent.here.row all.each
    sent.within).carried known) sent.message sent.read parts.0 parts.1

-- each answer was built as the headline says
pub answer_formed : (rows : List Row)
    → IsJournal rows
    → (sent : Sent rows)
    → shows_links sent ≡ true
    → FormedAs sent.here sent.peer sent.message
answer_formed rows journal sent listed =
    carried_by true rows
    (rows_carry true rows (journal-AreRows rows journal) (journal_keeps rows journal)) sent listed
    refl

-- so was each answer of a desk whose body was built in a row
pub desk_answer_formed : (rows : List Row) → IsDeskJournal rows → (sent : Sent rows)
    → shows_links sent ≡ true → is_formed_in_rows sent.here.row.step.kind sent.here ≡ true
    → FormedAs sent.here sent.peer sent.message
desk_answer_formed rows journal sent listed formed =
    carried_by false rows
    (rows_carry false rows (desk-AreRows rows journal) (no_keeps rows)) sent listed formed

-- so it is in each journal of a desk
pub desk-DeskAnswersAsFormed : (rows : List Row) → IsDeskJournal rows → DeskAnswersAsFormed rows
desk-DeskAnswersAsFormed rows journal =
    record { carried = λ sent listed formed. desk_answer_formed rows journal sent listed formed }

-- each lookup answers the listing, and each read of a registration its source, of the history at
-- the row that built it, and 2.03 is sent exactly where a look names the tag
pub answers_as_formed : (rows : List Row) → IsJournal rows → AnswersAsFormed rows
answers_as_formed rows journal = record {
  carried = λ sent listed. answer_formed rows journal sent listed;
  validated = λ sent valid. sent_validates rows journal sent valid;
  valid = λ before r within fed. looks_are_validated rows before r journal within fed;
}
