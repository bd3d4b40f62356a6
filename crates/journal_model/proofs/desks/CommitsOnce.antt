-- Each admission of a journal of a desk is committed at most once: the row that commits it settles
-- it or fails it.
use Rattle.std.proofs.Common.{
  ◌≡◌,
  ℕ,
  ◌==◌,
  Bool,
  true,
  false,
  cond,
  List,
  [],
  ◌∷◌,
  ◌++◌,
  length,
  Option,
  Some,
  None,
  Result,
  Ok,
  Err,
  refl,
  sym,
  ap,
  subst,
  ◌∙◌,
}
use Rattle.std.specs.Prelude.{nat_le}
use Rattle.std.specs.List.{list_any}
use Rattle.std.proofs.lemmas.Bool.{false≢true, or_right}
use Rattle.std.proofs.lemmas.List.Folds.{list_any-append}
use Rattle.rd_base.proofs.lemmas.Numbers.{eqb-refl}
use Rattle.message_model.specs.declared.messages.Role.{Role}
use Rattle.message_model.specs.declared.messages.Role.TheVariants as role
use Rattle.message_model.specs.declared.messages.Unread.{Unread}
use Rattle.message_model.specs.declared.requests.Path.{Path}
use Rattle.message_model.specs.declared.requests.Path.TheVariants as path
use Rattle.message_model.specs.Message.{Message, role_of}
use Rattle.message_model.specs.OptionTable.{first_bad_option}
use Rattle.message_model.specs.Reading.{reading}
use Rattle.message_model.specs.Request.{path_in}
use Rattle.message_model.specs.Spelling.{spelling}
use Rattle.event_model.specs.declared.notes.Note.{Note}
use Rattle.event_model.specs.declared.notes.Note.TheVariants as note
use Rattle.event_model.specs.Events.{has_event}
use Rattle.event_model.specs.Repeats.{is_admitting, is_ending_of}
use Rattle.event_model.specs.AdmissionOrder.{is_aside}
use Rattle.event_model.specs.Fetches.{max_fetches, fetches, is_fetching}
use Rattle.event_model.proofs.NotedLaws.{has_event-noted}
use Rattle.event_model.proofs.AsideLaws.{none_noted}
use Rattle.journal_model.specs.declared.steps.Step.{Step}
use Rattle.journal_model.specs.declared.steps.StepKind.{StepKind}
use Rattle.journal_model.specs.declared.steps.StepKind.TheVariants as step
use Rattle.journal_model.specs.declared.rows.Row.{Row}
use Rattle.journal_model.specs.Journal.{events, entries, row_at}
use Rattle.journal_model.specs.Effects.{Reply, answer, answering}
use Rattle.journal_model.specs.Changes.{Outcome}
use Rattle.journal_model.specs.Requests.{
  Method,
  get,
  post,
  put,
  delete,
  other_method,
  method_of,
  is_changing,
  is_write,
  refusal_of_request,
}
use Rattle.journal_model.specs.Looks.{look_effects}
use Rattle.journal_model.specs.Lookups.{lookup_effects, read_effects}
use Rattle.journal_model.specs.EmptyMessages.{acknowledged, reset}
use Rattle.journal_model.specs.Responses.{response_effects}
use Rattle.journal_model.specs.Registrations.{registering}
use Rattle.journal_model.specs.Commits.{
  settling,
  simple_unless,
  location_outcome,
  write_done,
  commit_effects,
  fetch_room,
}
use Rattle.journal_model.specs.Rows.{
  served_on_location,
  served,
  refusal_answered,
  unread_answered,
  request_answered,
  message_effects,
  heard,
  done,
  effects,
  row_moment,
  row,
}
use Rattle.journal_model.specs.PlacedRows.{Within, Commits}
use Rattle.journal_model.specs.DeskJournal.{
  IsOpenFor,
  CommitsOpen,
  MayFollow,
  IsDeskJournal,
  begun,
  made,
}
use Rattle.journal_model.proofs.NoteKinds.{of_lookup, of_empty, of_response, are, none_of}
use Rattle.journal_model.proofs.StepNotes.{
  look_effects-notes,
  lookup_effects-notes,
  read_effects-notes,
  acknowledged-notes,
  reset-notes,
}
use Rattle.journal_model.proofs.RowEquations.{effects-Commit, events-row, row-step}
use Rattle.journal_model.proofs.notes.SilentSteps.{refusal_notes, unread_notes}
use Rattle.journal_model.proofs.notes.ChangeNotes.{response_effects-notes}
use Rattle.journal_model.proofs.desks.TouchedExchanges.{
  Touches,
  aside,
  admits,
  ends,
  ends_at,
  row-Touches,
}

-- ---- what is admitted is a write

-- what is read of a datagram is a write
abbrev is_write_reading : Result Message Unread → Bool
is_write_reading (Err fault) = false
is_write_reading (Ok m) = is_write (path_in m) (method_of m.code)

-- notes of a kind that admits nothing
never : (kind : Note → Bool)
    → ((n : Note) → kind n ≡ true → is_admitting n ≡ false)
    → (notes : List Note)
    → are kind notes ≡ true
    → list_any is_admitting notes ≡ true
    → ⊥
never kind other notes h some = false≢true (sym (none_of kind is_admitting other notes h) ∙ some)

never_noted : (notes : List Note) → notes ≡ [] → list_any is_admitting notes ≡ true → ⊥
never_noted notes none some = false≢true (sym (ap (list_any is_admitting) none) ∙ some)

lookup_admits_none : (n : Note) → of_lookup n ≡ true → is_admitting n ≡ false
lookup_admits_none (note.Admitted peer mid) h = absurd (false≢true h)
lookup_admits_none _ h = refl

empty_admits_none : (n : Note) → of_empty n ≡ true → is_admitting n ≡ false
empty_admits_none (note.Admitted peer mid) h = absurd (false≢true h)
empty_admits_none _ h = refl

response_admits_none : (n : Note) → of_response n ≡ true → is_admitting n ≡ false
response_admits_none (note.Admitted peer mid) h = absurd (false≢true h)
response_admits_none _ h = refl

there_writes : (w : Method) (rows : List Row) (moment : ℕ) (s : Step) (m : Message)
    → list_any is_admitting (served_on_location w rows moment s m).notes ≡ true
    → is_changing w ≡ true
there_writes get rows moment s m some =
    absurd (never of_lookup lookup_admits_none (read_effects rows moment s m).notes
    (read_effects-notes rows moment s m) some)
there_writes post rows moment s m some = refl
there_writes put rows moment s m some = refl
there_writes delete rows moment s m some = refl
there_writes other_method rows moment s m some = absurd (false≢true some)

served_writes : (p : Path) (rows : List Row) (moment : ℕ) (s : Step) (m : Message)
    → list_any is_admitting (served p rows moment s m).notes ≡ true
    → is_write p (method_of m.code) ≡ true
unfolding served
served_writes path.Core rows moment s m some =
    absurd (never_noted (look_effects (entries rows) moment s m).notes
    (look_effects-notes (entries rows) moment s m) some)
served_writes path.Res rows moment s m some =
    absurd (never of_lookup lookup_admits_none (lookup_effects rows moment s m).notes
    (lookup_effects-notes rows moment s m) some)
served_writes path.Ep rows moment s m some =
    absurd (never of_lookup lookup_admits_none (lookup_effects rows moment s m).notes
    (lookup_effects-notes rows moment s m) some)
served_writes path.SimpleRd rows moment s m some = refl
served_writes path.Rd rows moment s m some = refl
served_writes (path.Location number) rows moment s m some =
    there_writes (method_of m.code) rows moment s m some
served_writes path.Other rows moment s m some = absurd (false≢true some)

request_writes : (refusal : Option Reply) (rows : List Row) (moment : ℕ) (s : Step) (m : Message)
    → list_any is_admitting (request_answered refusal rows moment s m).notes ≡ true
    → is_write (path_in m) (method_of m.code) ≡ true
request_writes (Some refusal) rows moment s m some =
    absurd (never_noted (refusal_answered m.kind (first_bad_option m.options) s m refusal).notes
    (refusal_notes m.kind (first_bad_option m.options) s m refusal) some)
request_writes None rows moment s m some = served_writes (path_in m) rows moment s m some

role_writes : (r : Role) (starved : Bool) (rows : List Row) (moment : ℕ) (s : Step) (m : Message)
    → list_any is_admitting (message_effects r starved rows moment s m).notes ≡ true
    → is_write (path_in m) (method_of m.code) ≡ true
unfolding answering
role_writes role.Ping starved rows moment s m some = absurd (false≢true some)
role_writes role.Acknowledgement starved rows moment s m some =
    absurd (never of_empty empty_admits_none (acknowledged s.peer m.mid (events rows)).notes
    (acknowledged-notes s.peer m.mid (events rows)) some)
role_writes role.Reset starved rows moment s m some =
    absurd (never of_empty empty_admits_none (reset s.peer m.mid (events rows)).notes
    (reset-notes s.peer m.mid (events rows)) some)
role_writes role.Request true rows moment s m some = absurd (false≢true some)
role_writes role.Request false rows moment s m some =
    request_writes (refusal_of_request m) rows moment s m some
role_writes role.Response true rows moment s m some = absurd (false≢true some)
role_writes role.Response false rows moment s m some =
    absurd (never of_response response_admits_none (response_effects rows moment s m).notes
    (response_effects-notes rows moment s m) some)
role_writes role.Ignored starved rows moment s m some = absurd (false≢true some)

heard_writes : (starved : Bool) (rows : List Row) (moment : ℕ) (s : Step)
    (read : Result Message Unread)
    → list_any is_admitting (heard starved rows moment s read).notes ≡ true
    → is_write_reading read ≡ true
heard_writes starved rows moment s (Err fault) some =
    absurd (never_noted (unread_answered s fault).notes (unread_notes s fault) some)
heard_writes starved rows moment s (Ok m) some =
    role_writes (role_of m.kind m.code) starved rows moment s m some

effects_write : (kind : StepKind) (starved : Bool) (rows : List Row) (moment : ℕ) (s : Step)
    → kind ≡ step.Admit
    → list_any is_admitting (effects kind starved rows moment s).notes ≡ true
    → is_write_reading (reading s.datagram) ≡ true
unfolding effects
effects_write step.Admit starved rows moment s is some =
    heard_writes starved rows moment s (reading s.datagram) some
effects_write step.Look starved rows moment s is some =
    absurd (let h : step.Look ≡ step.Admit = is in cc)
effects_write (step.Commit place) starved rows moment s is some =
    absurd (let h : step.Commit place ≡ step.Admit = is in cc)
effects_write (step.Keep body tag) starved rows moment s is some =
    absurd (let h : step.Keep body tag ≡ step.Admit = is in cc)
effects_write step.Tick starved rows moment s is some =
    absurd (let h : step.Tick ≡ step.Admit = is in cc)
effects_write (step.Begin first) starved rows moment s is some =
    absurd (let h : step.Begin first ≡ step.Admit = is in cc)

row_writes : (rows : List Row) (s : Step) (starved : Bool)
    → list_any is_admitting (row rows s starved).notes ≡ true
    → is_write_reading (reading s.datagram) ≡ true
unfolding row
row_writes rows s starved some = by (row-Touches rows s starved)
  where
    none_aside : (n : Note) → is_aside n ≡ true → is_admitting n ≡ false
    none_aside (note.Admitted peer mid) h = absurd (false≢true h)
    none_aside _ h = refl

    none_ends : (place : ℕ) (n : Note) → ends_at place n ≡ true → is_admitting n ≡ false
    none_ends place (note.Admitted peer mid) h = absurd (false≢true h)
    none_ends place _ h = refl

    by : Touches s.kind rows (row rows s starved).moment.0 s (row rows s starved).notes
        → is_write_reading (reading s.datagram) ≡ true
    by (aside all) = absurd (never is_aside none_aside (row rows s starved).notes all some)
    by (admits m here read asks is none) =
        effects_write s.kind starved rows (row_moment rows s) s here some
    by (ends place here all) =
        absurd (never (ends_at place) (none_ends place) (row rows s starved).notes all some)

-- the row of a place that admitted something was of a write
write_at : (rows : List Row) (place : ℕ) (admission : Row)
    → IsDeskJournal rows
    → row_at place rows ≡ Some admission
    → list_any is_admitting admission.notes ≡ true
    → is_write_reading (reading admission.step.datagram) ≡ true
unfolding row_at
write_at [] place admission begun found some = absurd (let h : None ≡ Some admission = found in cc)
write_at (r ∷ before) place admission (made {rows} s starved journal may) found some =
    by (place == length before) found (λ there. write_at before place admission journal there some)
  where
    here : row before s starved ≡ admission
        → is_write_reading (reading admission.step.datagram) ≡ true
    here same =
        subst (λ (y : Row). is_write_reading (reading y.step.datagram) ≡ true) same
        (subst (λ (t : Step). is_write_reading (reading t.datagram) ≡ true)
        (sym (row-step before s starved)) (row_writes before s starved
        (subst (λ (y : Row). list_any is_admitting y.notes ≡ true) (sym same) some)))

    by : (b : Bool)
        → cond b (Some (row before s starved)) (row_at place before) ≡ Some admission
        → (row_at place before ≡ Some admission
        → is_write_reading (reading admission.step.datagram) ≡ true)
        → is_write_reading (reading admission.step.datagram) ≡ true
    by true is more = here (let same : row before s starved ≡ admission = cc in same)
    by false is more = more is

-- ---- what is committed is ended

commit_ends_it : (rows : List Row) (moment place : ℕ) (s : Step) (m : Message)
    → is_write (path_in m) (method_of m.code) ≡ true
    → list_any (is_ending_of place) (commit_effects rows moment place s m).notes ≡ true
unfolding commit_effects answering
commit_ends_it rows moment place s m it = by (path_in m) it
  where
    settled_at : (outcome : Outcome)
        → list_any (is_ending_of place) (settling place s m outcome).notes ≡ true
    settled_at outcome =
        list_any-append (is_ending_of place) outcome.notes
        (note.Settled place (spelling (answer s m outcome.reply)) ∷ [])
        ∙ or_right (list_any (is_ending_of place) outcome.notes)
        (list_any (is_ending_of place)
        (note.Settled place (spelling (answer s m outcome.reply)) ∷ []))
        (rw (eqb-refl place) refl)

    simple : (running too_many : Bool)
        → list_any (is_ending_of place)
        (simple_unless (fetch_room running too_many) (events rows) place s m).notes
        ≡ true
    simple true too_many = rw (eqb-refl place) refl
    simple false true = rw (eqb-refl place) refl
    simple false false = rw (eqb-refl place) refl

    by : (p : Path)
        → is_write p (method_of m.code) ≡ true
        → list_any (is_ending_of place) (write_done p rows moment place s m).notes ≡ true
    by path.SimpleRd h =
        simple (is_fetching s.peer (events rows))
        (nat_le max_fetches (length (fetches (events rows))))
    by path.Rd h = settled_at (registering rows moment s m)
    by (path.Location number) h =
        settled_at (location_outcome (method_of m.code) rows moment s m number)
    by path.Core h = absurd (false≢true h)
    by path.Res h = absurd (false≢true h)
    by path.Ep h = absurd (false≢true h)
    by path.Other h = absurd (false≢true h)

done_ends_it : (starved : Bool) (rows : List Row) (moment place : ℕ) (s : Step)
    (read : Result Message Unread)
    → is_write_reading read ≡ true
    → list_any (is_ending_of place) (done starved rows moment place s read).notes ≡ true
unfolding answering
done_ends_it starved rows moment place s (Err fault) it = absurd (false≢true it)
done_ends_it true rows moment place s (Ok m) it = rw (eqb-refl place) refl
done_ends_it false rows moment place s (Ok m) it = commit_ends_it rows moment place s m it

effects_end_it : (kind : StepKind) (starved : Bool) (rows : List Row) (moment place : ℕ) (s : Step)
    → kind ≡ step.Commit place
    → is_write_reading (reading s.datagram) ≡ true
    → list_any (is_ending_of place) (effects kind starved rows moment s).notes ≡ true
effects_end_it kind starved rows moment place s is it =
    subst (λ (k : StepKind).
    list_any (is_ending_of place) (effects k starved rows moment s).notes ≡ true) (sym is)
    (commits starved it)
  where
    commits : (b : Bool)
        → is_write_reading (reading s.datagram) ≡ true
        → list_any (is_ending_of place) (effects (step.Commit place) b rows moment s).notes ≡ true
    commits b h =
        rw (effects-Commit place b rows moment s)
        (done_ends_it b rows moment place s (reading s.datagram) h)

-- the row of a commit ends the admission
pub commit_row-ends : (rows : List Row) (s : Step) (starved : Bool) (place : ℕ)
    → IsDeskJournal rows
    → MayFollow rows s
    → s.kind ≡ step.Commit place
    → list_any (is_ending_of place) (row rows s starved).notes ≡ true
unfolding row
commit_row-ends rows s starved place journal may kind =
    by (subst (CommitsOpen rows s) kind may.commits)
  where
    by : IsOpenFor s place rows → list_any (is_ending_of place) (row rows s starved).notes ≡ true
    by it =
        effects_end_it s.kind starved rows (row_moment rows s) place s kind
        (ap (λ (octets : List ℕ). is_write_reading (reading octets)) (sym it.datagram)
        ∙ write_at rows place it.admission journal it.found it.admits)

-- ---- each row

-- a row of a journal of a desk: it is that of a step that may follow the rows before it, which are
-- one too
pub record Made (before : List Row) (r : Row) : Type 0 where
  pub step : Step
  pub starved : Bool
  pub is : r ≡ row before step starved
  pub may : MayFollow before step
  pub journal : IsDeskJournal before

pub newest : (before : List Row) (r : Row) → IsDeskJournal (r ∷ before) → Made before r
newest before r (made {rows} s starved journal may) = record {
  step = s;
  starved = starved;
  is = refl;
  may = may;
  journal = journal;
}

pub each_row : (rows before : List Row) (r : Row)
    → IsDeskJournal rows
    → Within rows before r
    → Made before r
each_row rows before r journal within =
    newest before r (after within.later (subst IsDeskJournal within.whole journal))
  where
    after : (later : List Row) → IsDeskJournal (later ++ r ∷ before) → IsDeskJournal (r ∷ before)
    after [] j = j
    after (x ∷ later) j = after later (newest (later ++ r ∷ before) x j).journal

-- what a row ends stays ended
ended_after : (place : ℕ) (later before : List Row) (r : Row)
    → list_any (is_ending_of place) r.notes ≡ true
    → has_event (is_ending_of place) (events (later ++ r ∷ before)) ≡ true
ended_after place [] before r some = by (has_event (is_ending_of place) (events (r ∷ before))) refl
  where
    by : (b : Bool)
        → has_event (is_ending_of place) (events (r ∷ before)) ≡ b
        → has_event (is_ending_of place) (events (r ∷ before)) ≡ true
    by true e = e
    by false e =
        absurd (false≢true
        (sym (none_noted (is_ending_of place) (length before) r.moment.0 r.step.word r.notes
        (events before)
        (ap (has_event (is_ending_of place)) (sym (events-row before r)) ∙ e)).0
        ∙ some))
ended_after place (x ∷ later) before r some =
    ap (has_event (is_ending_of place)) (events-row (later ++ r ∷ before) x)
    ∙ has_event-noted (is_ending_of place) (length (later ++ r ∷ before)) x.moment.0 x.step.word
    x.notes (events (later ++ r ∷ before)) (ended_after place later before r some)

-- each admission is committed at most once
pub desk-once : (rows before earlier : List Row) (r other : Row) (place : ℕ)
    → IsDeskJournal rows
    → Within rows before r
    → Within before earlier other
    → Commits r place
    → Commits other place
    → ⊥
desk-once rows before earlier r other place journal within further commits again =
    let it : Made before r = each_row rows before r journal within in
    let first : Made earlier other = each_row before earlier other it.journal further in
    let kind : it.step.kind ≡ step.Commit place = kind_of before r it commits in
    let first_kind : first.step.kind ≡ step.Commit place = kind_of earlier other first again in
    let ends : list_any (is_ending_of place) other.notes ≡ true =
    subst (λ (x : Row). list_any (is_ending_of place) x.notes ≡ true) (sym first.is)
    (commit_row-ends earlier first.step first.starved place first.journal first.may first_kind)
    in
    let ended : has_event (is_ending_of place) (events before) ≡ true =
    subst (λ (rs : List Row). has_event (is_ending_of place) (events rs) ≡ true) (sym further.whole)
    (ended_after place further.later earlier other ends) in
    open_not_ended (subst (CommitsOpen before it.step) kind it.may.commits) ended
  where
    kind_of : (past : List Row) (x : Row) (m : Made past x)
        → Commits x place
        → m.step.kind ≡ step.Commit place
    kind_of past x m c =
        ap (λ (s : Step). s.kind)
        (sym (ap (λ (y : Row). y.step) m.is ∙ row-step past m.step m.starved))
        ∙ c

    open_not_ended : {s : Step}
        → IsOpenFor s place before
        → has_event (is_ending_of place) (events before) ≡ true
        → ⊥
    open_not_ended it ended = false≢true (sym it.not_ended ∙ ended)
