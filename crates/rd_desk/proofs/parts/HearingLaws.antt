-- What an admission does and leaves, by what it hears (RFC 7252 section 4).
use Rattle.std.proofs.Common.{
  ◌≡◌,
  ℕ,
  ◌&&◌,
  ◌||◌,
  not,
  Bool,
  true,
  false,
  List,
  Option,
  None,
  Result,
  refl,
  sym,
  ap,
  subst,
  ◌∙◌,
}
use Rattle.std.specs.List.{list_any}
use Rattle.std.proofs.lemmas.Bool.{false≢true}
use Rattle.rd_base.specs.declared.moments.Moment.{Moment}
use Rattle.rd_base.specs.declared.peers.Peer.{Peer}
use Rattle.message_model.specs.declared.messages.Role.TheVariants as role
use Rattle.message_model.specs.declared.messages.Unread.{Unread}
use Rattle.message_model.specs.declared.requests.Path.{Path}
use Rattle.message_model.specs.declared.requests.Path.TheVariants as path
use Rattle.message_model.specs.Message.{Message}
use Rattle.message_model.specs.OptionTable.{first_bad_option}
use Rattle.message_model.specs.Reading.{reading}
use Rattle.message_model.specs.Request.{path_in, observe_in}
use Rattle.event_model.specs.declared.notes.Note.{Note}
use Rattle.event_model.specs.declared.notes.Note.TheVariants as note
use Rattle.event_model.specs.Repeats.{is_admitting}
use Rattle.journal_model.specs.declared.steps.Step.{Step}
use Rattle.journal_model.specs.declared.steps.StepKind.TheVariants as step
use Rattle.journal_model.specs.declared.rows.Row.{Row}
use Rattle.journal_model.specs.Effects.{Effects, Reply, nothing}
use Rattle.journal_model.specs.Journal.{events}
use Rattle.journal_model.specs.Lookups.{
  later_block,
  lookup_effects,
  block_effects,
  read_effects,
  read_block_effects,
}
use Rattle.journal_model.specs.Requests.{
  Method,
  get,
  post,
  put,
  delete,
  other_method,
  method_of,
  query_of,
  refusal_of_request,
  is_lookup,
  is_discovery,
  is_location,
  is_get,
  is_later_block,
  is_heeded,
  is_write,
  reads_registration,
  only_looks,
}
use Rattle.journal_model.specs.Responses.{response_effects}
use Rattle.journal_model.specs.Sought.{sought_in, sought_at, sought_of, has_tag}
use Rattle.journal_model.specs.Rows.{
  served,
  served_on_location,
  refusal_answered,
  unread_answered,
  message_effects,
  heard,
  row_moment,
  row,
}
use Rattle.journal_model.proofs.NoteKinds.{of_lookup, of_empty, of_response, are, none_of}
use Rattle.journal_model.proofs.StepNotes.{lookup_effects-notes, acknowledged-notes, reset-notes}
use Rattle.journal_model.proofs.RowEquations.{row-notes}
use Rattle.journal_model.proofs.notes.ChangeNotes.{response_effects-notes}
use Rattle.journal_model.proofs.notes.SilentSteps.{refusal_notes, unread_notes}
use Rattle.coap_answers.specs.declared.mids.Mids.{Mids}
use Rattle.rd_request.specs.WriteRequests.{writes_to_registrations}
use Rattle.rd_desk.specs.declared.admitted.Admitted.{Admitted}
use Rattle.rd_desk.specs.declared.stepped.Stepped.{Stepped}
use Rattle.rd_desk.specs.declared.stepped.Stepped.TheVariants as stepped
use Rattle.rd_desk.specs.calls.Admitting.{
  is_starved_admission,
  IsHeldFor,
  write_takes,
  served_on_location_takes,
  served_takes,
  request_takes,
  message_takes,
}
use Rattle.rd_desk.specs.parts.Hearing.{jobless}
use Rattle.rd_desk.specs.calls.Desks.{Seen}
use Rattle.rd_desk.specs.parts.Lookups.{later_heard, lookup_heard}
use Rattle.rd_desk.specs.parts.Responding.{response_heard}
use Rattle.rd_desk.specs.calls.Stepping.{is_starved_step}
use Rattle.rd_desk.specs.parts.UnderWay.{UnderWay}
use Rattle.rd_desk.specs.calls.Steps.{IsCalled, Made}
use Rattle.rd_desk.proofs.parts.AdmissionLaws.{admission_hears}
use Rattle.rd_desk.proofs.parts.WayLaws.{ended}
use Rattle.rd_desk.proofs.parts.WriteLaws.{without_memory-notes}

-- ---- a lookup that does not only look

-- it is of a further block, or begins or ends an observation
pub heeded-other : (m : Message)
    → is_lookup (path_in m) ≡ true
    → only_looks m ≡ false
    → is_later_block m ≡ false
    → is_heeded (observe_in m) ≡ true
heeded-other m lookup other first =
    by (is_discovery (path_in m)) (is_lookup (path_in m)) (is_later_block m)
    (is_heeded (observe_in m)) (reads_registration m) lookup other first
  where
    by : (d l later heeded reads : Bool)
        → l ≡ true
        → (d || (l && not later && not heeded) || (reads && not later)) ≡ false
        → later ≡ false
        → heeded ≡ true
    by d l later true reads h g f = refl
    by true l later false reads h g f = absurd (false≢true (sym g))
    by false false later false reads h g f = absurd (false≢true h)
    by false true true false reads h g f = absurd (false≢true (sym f))
    by false true false false reads h g f = absurd (false≢true (sym g))

-- ---- a read that does not only look

-- it is of a further block
pub later-read : (m : Message)
    → reads_registration m ≡ true
    → only_looks m ≡ false
    → is_later_block m ≡ true
later-read m reads other =
    by (is_discovery (path_in m)) (is_lookup (path_in m)) (is_later_block m)
    (is_heeded (observe_in m)) (reads_registration m) reads other
  where
    by : (d l later heeded reads : Bool)
        → reads ≡ true
        → (d || (l && not later && not heeded) || (reads && not later)) ≡ false
        → later ≡ true
    by d l true heeded reads h g = refl
    by true l false heeded reads h g = absurd (false≢true (sym g))
    by false l false heeded false h g = absurd (false≢true h)
    by false false false heeded true h g = absurd (false≢true (sym g))
    by false true false true true h g = absurd (false≢true (sym g))
    by false true false false true h g = absurd (false≢true (sym g))

-- the location of a registration and a GET, of which such a read is
reads_by : (p : Path) (method : Method) (A : Type 0)
    → (is_location p && is_get method) ≡ true
    → ((number : ℕ) → p ≡ path.Location number → method ≡ get → A)
    → A
reads_by path.Core method A h goes = absurd (false≢true h)
reads_by path.SimpleRd method A h goes = absurd (false≢true h)
reads_by path.Rd method A h goes = absurd (false≢true h)
reads_by (path.Location number) get A h goes = goes number refl refl
reads_by (path.Location number) post A h goes = absurd (false≢true h)
reads_by (path.Location number) put A h goes = absurd (false≢true h)
reads_by (path.Location number) delete A h goes = absurd (false≢true h)
reads_by (path.Location number) other_method A h goes = absurd (false≢true h)
reads_by path.Res method A h goes = absurd (false≢true h)
reads_by path.Ep method A h goes = absurd (false≢true h)
reads_by path.Other method A h goes = absurd (false≢true h)

-- what it seeks has a tag
pub read_has_tag : (m : Message)
    → reads_registration m ≡ true
    → has_tag (sought_in m) ≡ true
read_has_tag m reads =
    reads_by (path_in m) (method_of m.code) (has_tag (sought_in m) ≡ true) reads
    (λ number at gets.
    ap (λ (p : Path). has_tag (sought_at p (method_of m.code) (query_of m))) at
    ∙ ap (λ (method : Method). has_tag (sought_of number method)) gets)

-- and of a lookup
pub lookup_has_tag : (m : Message)
    → is_lookup (path_in m) ≡ true
    → has_tag (sought_in m) ≡ true
lookup_has_tag m lookup = by (path_in m) lookup
  where
    by : (p : Path)
        → is_lookup p ≡ true
        → has_tag (sought_at p (method_of m.code) (query_of m)) ≡ true
    by path.Res h = refl
    by path.Ep h = refl
    by _ h = absurd (false≢true h)

-- a further block is what a read does
pub served_read : (rows : List Row) (s : Step) (starved : Bool) (m : Message)
    → refusal_of_request m ≡ None
    → reads_registration m ≡ true
    → is_later_block m ≡ true
    → later_heard starved rows s m
    ≡ message_effects role.Request starved rows (row_moment rows s) s m
unfolding served read_effects
served_read rows s true m none reads later = refl
served_read rows s false m none reads later =
    rw none
    (sym (reads_by (path_in m) (method_of m.code)
    (served (path_in m) rows (row_moment rows s) s m ≡ later_block rows (row_moment rows s) s m)
    reads
    (λ number at gets.
    ap (λ (p : Path). served p rows (row_moment rows s) s m) at
    ∙ (ap (λ (method : Method). served_on_location method rows (row_moment rows s) s m) gets
    ∙ ap (λ (b : Bool). read_block_effects b rows (row_moment rows s) s m) later))))

-- and of a lookup, beside which Observe is ignored
pub later_lookup : (rows : List Row) (s : Step) (starved : Bool) (m : Message)
    → is_later_block m ≡ true
    → later_heard starved rows s m ≡ lookup_heard starved rows s m
unfolding lookup_effects
later_lookup rows s true m later = refl
later_lookup rows s false m later =
    sym (ap (λ (b : Bool). block_effects b rows (row_moment rows s) s m) later)

pub served_lookup : (rows : List Row) (s : Step) (starved : Bool) (m : Message)
    → refusal_of_request m ≡ None
    → is_lookup (path_in m) ≡ true
    → lookup_heard starved rows s m
    ≡ message_effects role.Request starved rows (row_moment rows s) s m
unfolding served
served_lookup rows s true m none lookup = refl
served_lookup rows s false m none lookup = rw none (by (path_in m) lookup)
  where
    by : (p : Path)
        → is_lookup p ≡ true
        → lookup_effects rows (row_moment rows s) s m ≡ served p rows (row_moment rows s) s m
    by path.Res h = refl
    by path.Ep h = refl
    by _ h = absurd (false≢true h)

-- what takes memory
pub takes_write : (rows : List Row) (s : Step) (m : Message)
    → refusal_of_request m ≡ None
    → writes_to_registrations m ≡ true
    → message_takes role.Request rows (row_moment rows s) s m ≡ false
    → write_takes rows (row_moment rows s) s m ≡ false
takes_write rows s m none writes silent =
    by (path_in m) writes
    (sym (ap (λ (o : Option Reply). request_takes o rows (row_moment rows s) s m) none)
    ∙ silent)
  where
    on_location : (method : Method) (number : ℕ)
        → is_write (path.Location number) method ≡ true
        → served_on_location_takes method rows (row_moment rows s) s m ≡ false
        → write_takes rows (row_moment rows s) s m ≡ false
    on_location get number h g = absurd (false≢true h)
    on_location post number h g = g
    on_location put number h g = g
    on_location delete number h g = g
    on_location other_method number h g = absurd (false≢true h)

    by : (p : Path)
        → is_write p (method_of m.code) ≡ true
        → served_takes p rows (row_moment rows s) s m ≡ false
        → write_takes rows (row_moment rows s) s m ≡ false
    by path.Core h g = absurd (false≢true h)
    by path.SimpleRd h g = g
    by path.Rd h g = g
    by (path.Location number) h g = on_location (method_of m.code) number h g
    by path.Res h g = absurd (false≢true h)
    by path.Ep h g = absurd (false≢true h)
    by path.Other h g = absurd (false≢true h)

-- a read does
pub takes_read : (rows : List Row) (s : Step) (m : Message) (starved : Bool)
    → refusal_of_request m ≡ None
    → reads_registration m ≡ true
    → message_takes role.Request rows (row_moment rows s) s m ≡ false
    → starved ≡ false
takes_read rows s m starved none reads silent =
    reads_by (path_in m) (method_of m.code) (starved ≡ false) reads
    (λ number at gets.
    absurd (false≢true (sym
    (sym (ap (λ (o : Option Reply). request_takes o rows (row_moment rows s) s m) none)
    ∙ silent)
    ∙ (ap (λ (p : Path). served_takes p rows (row_moment rows s) s m) at
    ∙ ap (λ (method : Method). served_on_location_takes method rows (row_moment rows s) s m)
    gets))))

pub takes_lookup : (rows : List Row) (s : Step) (m : Message) (starved : Bool)
    → refusal_of_request m ≡ None
    → is_lookup (path_in m) ≡ true
    → message_takes role.Request rows (row_moment rows s) s m ≡ false
    → starved ≡ false
takes_lookup rows s m starved none lookup silent =
    by (path_in m) lookup
    (sym (ap (λ (o : Option Reply). request_takes o rows (row_moment rows s) s m) none)
    ∙ silent)
  where
    by : (p : Path)
        → is_lookup p ≡ true
        → served_takes p rows (row_moment rows s) s m ≡ false
        → starved ≡ false
    by path.Res h g = absurd (false≢true (sym g))
    by path.Ep h g = absurd (false≢true (sym g))
    by _ h g = absurd (false≢true h)

-- ---- nothing is admitted but a write

-- notes of a kind that admits nothing
none_admitted : (kind : Note → Bool)
    → ((n : Note) → kind n ≡ true → is_admitting n ≡ false)
    → (notes : List Note)
    → are kind notes ≡ true
    → list_any is_admitting notes ≡ false
none_admitted kind other notes all = none_of kind is_admitting other notes all

lookup_admits_none : (n : Note) → of_lookup n ≡ true → is_admitting n ≡ false
lookup_admits_none (note.Admitted peer mid) h = absurd (false≢true h)
lookup_admits_none _ h = refl

empty_admits_none : (n : Note) → of_empty n ≡ true → is_admitting n ≡ false
empty_admits_none (note.Admitted peer mid) h = absurd (false≢true h)
empty_admits_none _ h = refl

response_admits_none : (n : Note) → of_response n ≡ true → is_admitting n ≡ false
response_admits_none (note.Admitted peer mid) h = absurd (false≢true h)
response_admits_none _ h = refl

pub lookup_admits : (rows : List Row) (s : Step) (starved : Bool) (m : Message)
    → list_any is_admitting (lookup_heard starved rows s m).notes ≡ false
lookup_admits rows s true m = ap (list_any is_admitting) (without_memory-notes s m)
lookup_admits rows s false m =
    none_admitted of_lookup lookup_admits_none (lookup_effects rows (row_moment rows s) s m).notes
    (lookup_effects-notes rows (row_moment rows s) s m)

-- nor by a further block
pub later_admits : (rows : List Row) (s : Step) (starved : Bool) (m : Message)
    → is_later_block m ≡ true
    → list_any is_admitting (later_heard starved rows s m).notes ≡ false
later_admits rows s starved m later =
    ap (λ (e : Effects). list_any is_admitting e.notes) (later_lookup rows s starved m later)
    ∙ lookup_admits rows s starved m

pub response_admits : (rows : List Row) (s : Step) (starved : Bool) (m : Message)
    → list_any is_admitting
    (message_effects role.Response starved rows (row_moment rows s) s m).notes
    ≡ false
response_admits rows s true m = refl
response_admits rows s false m =
    none_admitted of_response response_admits_none
    (response_effects rows (row_moment rows s) s m).notes
    (response_effects-notes rows (row_moment rows s) s m)

pub acknowledged_admits : (rows : List Row) (s : Step) (m : Message)
    → list_any is_admitting
    (message_effects role.Acknowledgement false rows (row_moment rows s) s m).notes
    ≡ false
acknowledged_admits rows s m =
    none_admitted of_empty empty_admits_none
    (message_effects role.Acknowledgement false rows (row_moment rows s) s m).notes
    (acknowledged-notes s.peer m.mid (events rows))

pub reset_admits : (rows : List Row) (s : Step) (m : Message)
    → list_any is_admitting (message_effects role.Reset false rows (row_moment rows s) s m).notes
    ≡ false
reset_admits rows s m =
    none_admitted of_empty empty_admits_none
    (message_effects role.Reset false rows (row_moment rows s) s m).notes
    (reset-notes s.peer m.mid (events rows))

pub refusal_admits : (s : Step) (m : Message) (refusal : Reply)
    → list_any is_admitting (refusal_answered m.kind (first_bad_option m.options) s m refusal).notes
    ≡ false
refusal_admits s m refusal =
    ap (list_any is_admitting) (refusal_notes m.kind (first_bad_option m.options) s m refusal)

pub unread_admits : (s : Step) (fault : Unread)
    → list_any is_admitting (unread_answered s fault).notes ≡ false
unread_admits s fault = ap (list_any is_admitting) (unread_notes s fault)

-- so a datagram that leaves no job has none
pub none_held : (x : Stepped) (notes : List Note) (s : Step) (moment : ℕ)
    → list_any is_admitting notes ≡ false
    → IsHeldFor (jobless x) notes s moment
none_held stepped.Done notes s moment none = none
none_held stepped.Starved notes s moment none = none

pub jobless_starved : (x : Stepped) → is_starved_admission (jobless x) ≡ is_starved_step x
jobless_starved stepped.Done = refl
jobless_starved stepped.Starved = refl

-- it does what its part does, whether memory ran out or not
pub jobless_way : (rows : List Row) (s : Step) (x : Stepped) (a : Admitted) (d after : Seen)
    (out sent : List (Peer × List ℕ)) (mids_before mids : Mids) (does all : Bool → Effects)
    → a ≡ jobless x
    → ((b : Bool) → does b ≡ all b)
    → (UnderWay rows s (is_starved_step x) nothing d out mids_before
    → UnderWay rows s (is_starved_step x) (does (is_starved_step x)) after sent mids)
    → UnderWay rows s (is_starved_admission a) nothing d out mids_before
    → UnderWay rows s (is_starved_admission a) (all (is_starved_admission a)) after sent mids
jobless_way rows s x a d after out sent mids_before mids does all is same goes =
    let starved : is_starved_admission a ≡ is_starved_step x =
    ap is_starved_admission is ∙ jobless_starved x in
    subst (λ (b : Bool).
    UnderWay rows s b nothing d out mids_before → UnderWay rows s b (all b) after sent mids)
    (sym starved)
    (λ way. subst (λ (e : Effects). UnderWay rows s (is_starved_step x) e after sent mids)
    (same (is_starved_step x)) (goes way))

pub jobless_held : (x : Stepped) (a : Admitted) (all : Bool → Effects) (s : Step) (moment : ℕ)
    → a ≡ jobless x
    → ((b : Bool) → list_any is_admitting (all b).notes ≡ false)
    → IsHeldFor a (all (is_starved_admission a)).notes s moment
jobless_held x a all s moment is none =
    subst (λ (y : Admitted). IsHeldFor y (all (is_starved_admission a)).notes s moment) (sym is)
    (none_held x (all (is_starved_admission a)).notes s moment (none (is_starved_admission a)))

-- so it is of a lookup
pub served_admits : (rows : List Row) (s : Step) (starved : Bool) (m : Message)
    → refusal_of_request m ≡ None
    → is_lookup (path_in m) ≡ true
    → list_any is_admitting
    (message_effects role.Request starved rows (row_moment rows s) s m).notes
    ≡ false
served_admits rows s starved m none lookup =
    ap (λ (e : Effects). list_any is_admitting e.notes)
    (sym (served_lookup rows s starved m none lookup))
    ∙ lookup_admits rows s starved m

-- and of a read
pub read_admits : (rows : List Row) (s : Step) (starved : Bool) (m : Message)
    → refusal_of_request m ≡ None
    → reads_registration m ≡ true
    → is_later_block m ≡ true
    → list_any is_admitting
    (message_effects role.Request starved rows (row_moment rows s) s m).notes
    ≡ false
read_admits rows s starved m none reads later =
    ap (λ (e : Effects). list_any is_admitting e.notes)
    (sym (served_read rows s starved m none reads later))
    ∙ later_admits rows s starved m later

-- ---- a response

pub response_is : (rows : List Row) (s : Step) (starved : Bool) (m : Message)
    → response_heard starved rows s m
    ≡ message_effects role.Response starved rows (row_moment rows s) s m
response_is rows s true m = refl
response_is rows s false m = refl

-- ---- a message, by what it is for

-- what the row of an admission notes
pub admission_notes : (rows : List Row) (s : Step) (starved : Bool) (x : Admitted)
    (read : Result Message Unread)
    → s.kind ≡ step.Admit
    → reading s.datagram ≡ read
    → IsHeldFor x (heard starved rows (row_moment rows s) s read).notes s (row_moment rows s)
    → IsHeldFor x (row rows s starved).notes s (row_moment rows s)
admission_notes rows s starved x read kind is held =
    subst (λ (ns : List Note). IsHeldFor x ns s (row_moment rows s))
    (ap (λ (e : Effects). e.notes) (admission_hears rows s starved read kind is)
    ∙ sym (row-notes rows s starved)) held

-- the row of an admission is made
pub admission_made : (rows : List Row) (s : Step) (starved : Bool) (now : Moment)
    (read : Result Message Unread) (before after : Seen) (out : List (Peer × List ℕ))
    (mids_before mids : Mids)
    → s.kind ≡ step.Admit
    → reading s.datagram ≡ read
    → IsCalled rows s now mids_before before
    → UnderWay rows s starved (heard starved rows (row_moment rows s) s read) after out mids
    → Made rows (row rows s starved) after out mids_before mids
admission_made rows s starved now read before after out mids_before mids kind is call way =
    ended rows s starved (heard starved rows (row_moment rows s) s read) after out mids_before mids
    way (admission_hears rows s starved read kind is) call.worker call.drawn
