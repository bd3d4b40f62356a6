-- A commit: the moment of the entry that it makes, what its query options say, and what is done by
-- its path.
use Rattle.std.proofs.Common.{
  ◌≡◌,
  ℕ,
  ◌==◌,
  ◌++◌,
  Bool,
  true,
  false,
  List,
  [],
  ◌∷◌,
  Option,
  Some,
  None,
  Result,
  Ok,
  IfOk,
  is_some,
  option_and_then,
  refl,
  sym,
  ap,
  subst,
  ◌∙◌,
  if◌then◌else◌,
  eqb-true,
}
use Rattle.std.proofs.lemmas.Bool.{false≢true}
use Rattle.rd_base.specs.declared.moments.Moment.{Moment}
use Rattle.rd_base.specs.declared.out_of_memory.Starved.{Starved}
use Rattle.rd_base.specs.declared.parameters.RegParams.{RegParams}
use Rattle.rd_base.specs.declared.peers.Peer.{Peer}
use Rattle.message_model.specs.declared.blocks.Block.{Block}
use Rattle.message_model.specs.declared.messages.Unread.{Unread}
use Rattle.message_model.specs.declared.requests.Path.{Path}
use Rattle.message_model.specs.declared.requests.Path.TheVariants as path
use Rattle.message_model.specs.Codes as codes_of
use Rattle.message_model.specs.Message.{Message, Opt}
use Rattle.message_model.specs.Reading.{reading}
use Rattle.message_model.specs.Request.{path_in, queries_in}
use Rattle.record_model.specs.declared.readings.Reading.{Reading}
use Rattle.record_model.specs.declared.readings.Reading.TheVariants as reading_as
use Rattle.record_model.specs.Criteria.{fault_of}
use Rattle.record_model.specs.Faults.{Fault}
use Rattle.record_model.specs.Parameters.{
  registration_values,
  update_values,
}
use Rattle.history_model.specs.declared.entries.Change.TheVariants as change
use Rattle.history_model.specs.declared.entries.Entry.{Entry}
use Rattle.history_model.specs.declared.refusals.Refusal.{Refusal}
use Rattle.history_model.specs.declared.refusals.Refusal.TheVariants as refusal
use Rattle.history_model.specs.Refusals.{change_refusal}
use Rattle.history_model.specs.Versions.{Version, VersionStandsFor}
use Rattle.event_model.specs.declared.notes.Note.{Note}
use Rattle.event_model.specs.declared.notes.Note.TheVariants as note
use Rattle.event_model.specs.AdmissionOrder.{IsOpen}
use Rattle.journal_model.specs.declared.steps.Step.{Step}
use Rattle.journal_model.specs.declared.steps.StepKind.{StepKind}
use Rattle.journal_model.specs.declared.steps.StepKind.TheVariants as step
use Rattle.journal_model.specs.declared.rows.Row.{Row}
use Rattle.journal_model.specs.Changes.{
  Outcome,
  BodyRead,
  bad_body,
  good_body,
  body_read,
  entry_of_step,
  entered_unless,
  change_made,
  number_after,
  created_at,
  registered_links,
  registration,
  changed_with,
  replaced_links,
  replacement,
  Purpose,
  to_register,
  to_replace,
  body_used,
}
use Rattle.journal_model.specs.Commits.{
  settling,
  updating,
  removing,
  location_outcome,
  write_done,
  commit_effects,
}
use Rattle.journal_model.specs.Effects.{Effects, nothing, joined, noting, bare}
use Rattle.journal_model.specs.Journal.{events, entries}
use Rattle.journal_model.specs.Registrations.{links_outcome, registering, replacing}
use Rattle.journal_model.specs.Requests.{
  sent_block,
  get,
  post,
  put,
  delete,
  other_method,
  method_of,
  is_write,
  reading_of,
  refusal_of_request,
}
use Rattle.journal_model.specs.Rows.{row_moment, effects, done, row}
use Rattle.coap_answers.specs.declared.mids.Mids.{Mids}
use Rattle.rd_request.specs.WriteRequests.{writes_to_registrations}
use Rattle.rd_request.proofs.AskedLaws.{good_request}
use Rattle.rd_desk.specs.declared.write.outcomes.Entering.{Entering}
use Rattle.rd_desk.specs.declared.write.outcomes.Outcome as planned
use Rattle.rd_desk.specs.parts.Committing.{answering_settled, unless_failing}
use Rattle.rd_desk.specs.calls.Desks.{Seen}
use Rattle.rd_desk.specs.parts.Replies.{short_said}
use Rattle.rd_desk.specs.parts.Outcomes.{IsEntering, AreNotes, IsPlanned, IsMadeAt}
use Rattle.rd_desk.specs.parts.UnderWay.{UnderWay}
use Rattle.rd_desk.specs.calls.Steps.{IsCalled, Made}
use Rattle.rd_desk.specs.calls.WriteJobs.{Write}
use Rattle.rd_desk.proofs.changes.SettlingLaws.{settling-refused, settling-entered}
use Rattle.rd_desk.proofs.parts.MakingLaws.{entries-making_nothing}
use Rattle.rd_desk.proofs.parts.WayLaws.{way_moment, ended}

-- ---- the moment of the entry

-- a change makes its own entry
change_entry : (history : List Entry) (entry made : Entry) (o : Outcome) (more : List Note)
    → (change_made history entry o).notes ≡ note.Entered made ∷ more
    → entry ≡ made
change_entry history entry made o more h = by (change_refusal 0 history entry) h
  where
    by : (why : Option Refusal)
        → (entered_unless why entry o).notes ≡ note.Entered made ∷ more
        → entry ≡ made
    by None e = cc
    by (Some refusal.Registration) e = absurd cc
    by (Some refusal.Registrations) e = absurd cc
    by (Some refusal.Text) e = absurd cc
    by (Some refusal.Entries) e = absurd cc

-- so its moment is that of the entry
pub change_made-at : (history : List Entry) (entry : Entry) (o : Outcome) (moment : ℕ)
    → entry.moment.0 ≡ moment
    → IsMadeAt moment (change_made history entry o)
change_made-at history entry o moment at made more h =
    ap (λ (e : Entry). e.moment.0) (sym (change_entry history entry made o more h)) ∙ at

-- a registration is made at its own moment
pub registration-at : (history : List Entry) (moment : ℕ) (s : Step) (params : RegParams)
    (body : List ℕ) (options : List Opt) (further : List Note)
    → IsMadeAt moment (registration history moment s params body options further)
unfolding registration
registration-at history moment s params body options further = by (body_read body)
  where
    by : (b : BodyRead)
        → IsMadeAt moment (registered_links history moment s params options further b)
    by (bad_body payload) made more h = absurd cc
    by (good_body links) made more h =
        let entry : Entry = entry_of_step moment s (change.Register params links) in
        change_made-at history entry
        (record {
          reply = created_at (number_after params.name moment (history ++ entry ∷ []))
              options;
          notes = further;
        }) moment refl made more h

-- and so is a replacement of links
pub replacement-at : (history : List Entry) (moment : ℕ) (s : Step) (number : ℕ)
    (body : List ℕ) (options : List Opt) (further : List Note)
    → IsMadeAt moment (replacement history moment s number body options further)
unfolding replacement
replacement-at history moment s number body options further = by (body_read body)
  where
    by : (b : BodyRead)
        → IsMadeAt moment (replaced_links history moment s number options further b)
    by (bad_body word) made more h = absurd cc
    by (good_body links) made more h =
        change_made-at history (entry_of_step moment s (change.Replace number links))
        (record { reply = changed_with options; notes = further }) moment refl made more h

-- whatever the links of a body are for
pub body_used-at : (purpose : Purpose) (history : List Entry) (moment : ℕ) (s : Step)
    (body : List ℕ) (options : List Opt) (further : List Note)
    → IsMadeAt moment (body_used purpose history moment s body options further)
body_used-at (to_register params) history moment s body options further =
    registration-at history moment s params body options further
body_used-at (to_replace number) history moment s body options further =
    replacement-at history moment s number body options further

pub whole-at : (purpose : Purpose) (rows : List Row) (moment : ℕ) (s : Step) (m : Message)
    → IsMadeAt moment (links_outcome None purpose rows moment s m)
whole-at purpose rows moment s m =
    body_used-at purpose (entries rows) moment s m.payload [] []

-- and so are an update and a removal
pub updating-at : (rows : List Row) (moment : ℕ) (s : Step) (m : Message) (number : ℕ)
    → IsMadeAt moment (updating rows moment s m number)
updating-at rows moment s m number =
    change_made-at (entries rows)
    (entry_of_step moment s (change.Update number (update_values (queries_in m))))
    (record { reply = bare codes_of.changed; notes = [] }) moment refl

pub removing-at : (rows : List Row) (moment : ℕ) (s : Step) (number : ℕ)
    → IsMadeAt moment (removing rows moment s number)
removing-at rows moment s number =
    change_made-at (entries rows) (entry_of_step moment s (change.Remove number))
    (record { reply = bare codes_of.deleted; notes = [] }) moment refl

-- ---- what was planned is done

-- a refused change is answered, and that settles it
pub way_refused : (rows : List Row) (s : Step) (starved : Bool) (place : ℕ) (m : Message)
    (meant : Outcome) (o : planned.Outcome) (swept : ℕ) (desk : Seen) (out : List (Peer × List ℕ))
    (mids : Mids)
    → o.entering ≡ None
    → IsPlanned (entries rows) swept [] meant o
    → UnderWay rows s starved (joined nothing (answering_settled place s m (short_said o.reply)))
    desk out mids
    → UnderWay rows s starved (settling place s m meant) desk out mids
way_refused rows s starved place m meant o swept desk out mids none is way =
    subst (λ (e : Effects). UnderWay rows s starved e desk out mids)
    (settling-refused place s m (short_said o.reply) meant is.said
    (subst (λ (e : Option Entering). AreNotes (entries rows) swept [] meant.notes e) none
    is.notes)) way

-- an entry that is ready is made at the moment of the row, and the answer settles the write after
-- that
pub way_accepted : (rows : List Row) (s : Step) (starved : Bool) (place : ℕ) (m : Message)
    (meant : Outcome) (o : planned.Outcome) (ready : Entering) (swept : ℕ) (desk : Seen)
    (out : List (Peer × List ℕ)) (mids : Mids)
    → o.entering ≡ Some ready
    → IsMadeAt (row_moment rows s) meant → IsPlanned (entries rows) swept [] meant o
    → ((entry : Entry)
    → entry.moment.0 ≡ row_moment rows s
    → IsEntering (entries rows) swept entry ready
    → UnderWay rows s starved (joined (joined nothing (noting (note.Entered entry ∷ [])))
    (answering_settled place s m (short_said o.reply))) desk out mids)
    → UnderWay rows s starved (settling place s m meant) desk out mids
way_accepted rows s starved place m meant o ready swept desk out mids some at is way =
    let noted : AreNotes (entries rows) swept [] meant.notes (Some ready) =
    subst (λ (e : Option Entering). AreNotes (entries rows) swept [] meant.notes e) some
    is.notes in
    subst (λ (e : Effects). UnderWay rows s starved e desk out mids)
    (settling-entered place s m (short_said o.reply) noted.0 meant is.said noted.1)
    (way noted.0 (at noted.0 [] noted.1) noted.2)

-- a plan that was not out of memory
pub planned_ok : (r : Result planned.Outcome Starved) (o : planned.Outcome)
    (P : planned.Outcome → Type 0)
    → r ≡ Ok o
    → IfOk r P
    → P o
planned_ok r o P is h = subst (λ (x : Result planned.Outcome Starved). IfOk x P) is h

-- what is planned of the version of a desk, at its moment, is what is meant after the journal, at
-- the moment of the row
pub planned_here : (rows : List Row) (s : Step) (starved : Bool) (d : Seen) (v : Version)
    (moment : ℕ) (out : List (Peer × List ℕ)) (mids : Mids) (r : Result planned.Outcome Starved)
    (meant : ℕ → Outcome)
    → v ≡ d.version
    → moment ≡ d.moment
    → (VersionStandsFor 0 (entries rows) v
    → IfOk r (IsPlanned (entries rows) v.swept [] (meant moment)))
    → UnderWay rows s starved nothing d out mids
    → IfOk r (IsPlanned (entries rows) d.version.swept [] (meant (row_moment rows s)))
planned_here rows s starved d v moment out mids r meant same at goes way =
    let history : VersionStandsFor 0 (entries rows) d.version =
    subst (λ (es : List Entry). VersionStandsFor 0 es d.version)
    (entries-making_nothing rows s starved) way.stands.directory.history in
    subst
    (λ (w : Version). IfOk r (IsPlanned (entries rows) w.swept [] (meant (row_moment rows s))))
    same
    (subst (λ (n : ℕ). IfOk r (IsPlanned (entries rows) v.swept [] (meant n)))
    (at ∙ way_moment rows s starved nothing d out mids way)
    (goes (subst (VersionStandsFor 0 (entries rows)) (sym same) history)))

-- ---- query options

no_fault : (fault : Option Fault) → is_some fault ≡ false → fault ≡ None
no_fault None e = refl
no_fault (Some fault) e = absurd (false≢true (sym e))

-- where nothing refuses a request, its query options have no fault as what they are read as
pub good_reading : (m : Message) (as_what : Reading)
    → refusal_of_request m ≡ None
    → reading_of (path_in m) m.code ≡ Some as_what
    → fault_of as_what (queries_in m) ≡ None
good_reading m as_what none reads =
    no_fault (fault_of as_what (queries_in m))
    (sym (ap (λ (o : Option Reading). is_some (option_and_then (λ w. fault_of w (queries_in m)) o))
    reads)
    ∙ good_request m none)

-- so of a registration, a simple one, and an update
pub good_registration : (m : Message)
    → refusal_of_request m ≡ None
    → path_in m ≡ path.Rd
    → fault_of reading_as.Register (queries_in m) ≡ None
good_registration m none is =
    good_reading m reading_as.Register none (ap (λ (p : Path). reading_of p m.code) is)

pub good_simple : (m : Message)
    → refusal_of_request m ≡ None
    → path_in m ≡ path.SimpleRd
    → fault_of reading_as.Simple (queries_in m) ≡ None
good_simple m none is =
    good_reading m reading_as.Simple none (ap (λ (p : Path). reading_of p m.code) is)

pub good_update : (m : Message) (number : ℕ)
    → refusal_of_request m ≡ None
    → path_in m ≡ path.Location number
    → m.code ≡ codes_of.post
    → fault_of reading_as.Update (queries_in m) ≡ None
good_update m number none is updates =
    good_reading m reading_as.Update none (ap (λ (p : Path). reading_of p m.code) is
    ∙ ap (λ (code : ℕ). reading_of (path.Location number) code) updates)

-- ---- by the block

-- links are used, by the block that their request says
pub way_brought : (purpose : Purpose) (rows : List Row) (s : Step) (starved : Bool) (place : ℕ)
    (m : Message) (b : Option Block) (desk : Seen) (out : List (Peer × List ℕ)) (mids : Mids)
    → b ≡ sent_block m
    → UnderWay rows s starved (unless_failing starved place s m
    (settling place s m (links_outcome b purpose rows (row_moment rows s) s m))) desk out
    mids
    → UnderWay rows s starved (unless_failing starved place s m
    (settling place s m (links_outcome (sent_block m) purpose rows (row_moment rows s) s m))) desk
    out mids
way_brought purpose rows s starved place m b desk out mids is way =
    subst (λ (x : Option Block).
    UnderWay rows s starved (unless_failing starved place s m
    (settling place s m (links_outcome x purpose rows (row_moment rows s) s m))) desk
    out mids) is way

-- a registration is what comes of links that are to register
pub registers_links : (rows : List Row) (moment : ℕ) (s : Step) (m : Message)
    → links_outcome (sent_block m) (to_register (registration_values (queries_in m))) rows
    moment s m
    ≡ registering rows moment s m
unfolding registering
registers_links rows moment s m = refl

-- ---- by the method

-- POST updates a registration
pub location_updates : (rows : List Row) (moment : ℕ) (s : Step) (m : Message) (number : ℕ)
    → m.code ≡ codes_of.post
    → updating rows moment s m number
    ≡ location_outcome (method_of m.code) rows moment s m number
location_updates rows moment s m number updates =
    ap (λ (code : ℕ). location_outcome (method_of code) rows moment s m number) (sym updates)

-- PUT replaces its links
pub location_replaces : (rows : List Row) (moment : ℕ) (s : Step) (m : Message) (number : ℕ)
    → m.code ≡ codes_of.put
    → links_outcome (sent_block m) (to_replace number) rows moment s m
    ≡ location_outcome (method_of m.code) rows moment s m number
unfolding replacing
location_replaces rows moment s m number replaces =
    ap (λ (code : ℕ). location_outcome (method_of code) rows moment s m number) (sym replaces)

-- and any other write removes it
pub location_removes : (rows : List Row) (moment : ℕ) (s : Step) (m : Message) (number : ℕ)
    → path_in m ≡ path.Location number
    → writes_to_registrations m ≡ true
    → (m.code ≡ codes_of.post → ⊥)
    → (m.code ≡ codes_of.put → ⊥)
    → removing rows moment s number
    ≡ location_outcome (method_of m.code) rows moment s m number
location_removes rows moment s m number is writes no_update no_replacement =
    by (m.code == codes_of.get) (m.code == codes_of.post) (m.code == codes_of.put)
    (m.code == codes_of.delete) (λ e. no_update (eqb-true m.code codes_of.post e))
    (λ e. no_replacement (eqb-true m.code codes_of.put e))
    (subst (λ (p : Path). is_write p (method_of m.code) ≡ true) is writes)
  where
    by : (gets posts puts deletes : Bool) → (posts ≡ true → ⊥) → (puts ≡ true → ⊥)
        → is_write (path.Location number) (if gets
        then get
        else if posts
        then post
        else if puts
        then put
        else if deletes
        then delete
        else other_method)
        ≡ true
        → removing rows moment s number
        ≡ location_outcome (if gets
        then get
        else if posts
        then post
        else if puts
        then put
        else if deletes
        then delete
        else other_method) rows moment s m number
    by true posts puts deletes e f h = absurd (false≢true h)
    by false true puts deletes e f h = absurd (e refl)
    by false false true deletes e f h = absurd (f refl)
    by false false false true e f h = refl
    by false false false false e f h = absurd (false≢true h)

-- ---- by the path

-- what is done of a write is what its path says, unless it fails
pub commit_by : (starved : Bool) (rows : List Row) (moment place : ℕ) (s : Step)
    (read : Result Message Unread) (m : Message) (p : Path)
    → read ≡ Ok m
    → p ≡ path_in m
    → unless_failing starved place s m (write_done p rows moment place s m)
    ≡ done starved rows moment place s read
unfolding commit_effects
commit_by starved rows moment place s read m p is way =
    ap (λ (q : Path). unless_failing starved place s m (write_done q rows moment place s m)) way
    ∙ (by starved ∙ ap (λ (r : Result Message Unread). done starved rows moment place s r) (sym is))
  where
    by : (b : Bool)
        → unless_failing b place s m (write_done (path_in m) rows moment place s m)
        ≡ done b rows moment place s (Ok m)
    by true = refl
    by false = refl

-- what is read of a datagram is one message
read_once : (r : Result Message Unread) (one other : Message)
    → r ≡ Ok one
    → r ≡ Ok other
    → one ≡ other
read_once r one other is was =
    let both : ◌≡◌ {A = Result Message Unread} (Ok one) (Ok other) = sym is ∙ was in cc

-- so of the job of a write, of which one part of this crate does what its path says
pub way_job : (rows : List Row) (s : Step) (starved : Bool) (place : ℕ) (sender : Peer)
    (datagram : List ℕ) (admitted : ℕ) (job : Write) (m own : Message) (p : Path) (desk : Seen)
    (out : List (Peer × List ℕ)) (mids : Mids)
    → record { peer = sender; datagram = datagram; admitted = admitted } ≡ job
    → reading datagram ≡ Ok own
    → reading job.datagram ≡ Ok m
    → p ≡ path_in own
    → s.peer ≡ job.peer
    → IsOpen place s.peer m.mid job.admitted (events rows)
    → (s.peer ≡ sender
    → IsOpen place s.peer own.mid admitted (events rows)
    → UnderWay rows s starved
    (unless_failing starved place s own (write_done p rows (row_moment rows s) place s own))
    desk out mids)
    → UnderWay rows s starved (done starved rows (row_moment rows s) place s (reading job.datagram))
    desk out mids
way_job rows s starved place sender datagram admitted job m own p desk out mids same is read way_of
    by opened goes =
    let spelled : job.datagram ≡ datagram = ap (λ (j : Write). j.datagram) (sym same) in
    let one : m ≡ own = read_once (reading job.datagram) m own read (ap reading spelled ∙ is) in
    let since : job.admitted ≡ admitted = ap (λ (j : Write). j.admitted) (sym same) in
    subst (λ (e : Effects). UnderWay rows s starved e desk out mids)
    (commit_by starved rows (row_moment rows s) place s (reading job.datagram) own p
    (ap reading spelled ∙ is) way_of)
    (goes (by ∙ ap (λ (j : Write). j.peer) (sym same))
    (subst (λ (at : ℕ). IsOpen place s.peer own.mid at (events rows)) since
    (subst (λ (x : Message). IsOpen place s.peer x.mid job.admitted (events rows)) one opened)))

-- ---- the row of the step

-- it is all that the step does
commit_is : (rows : List Row) (s : Step) (starved : Bool) (place : ℕ) (job : Write)
    → s.kind ≡ step.Commit place
    → s.datagram ≡ job.datagram
    → done starved rows (row_moment rows s) place s (reading job.datagram)
    ≡ effects s.kind starved rows (row_moment rows s) s
unfolding effects
commit_is rows s starved place job kind datagram =
    ap (λ (d : List ℕ). done starved rows (row_moment rows s) place s (reading d)) (sym datagram)
    ∙ ap (λ (k : StepKind). effects k starved rows (row_moment rows s) s) (sym kind)

-- so its row is made
pub commit_made : (rows : List Row) (s : Step) (starved : Bool) (place : ℕ) (now : Moment)
    (job : Write) (before after : Seen) (out : List (Peer × List ℕ)) (mids_before mids : Mids)
    → s.kind ≡ step.Commit place
    → s.datagram ≡ job.datagram
    → IsCalled rows s now mids_before before
    → UnderWay rows s starved (done starved rows (row_moment rows s) place s (reading job.datagram))
    after out mids
    → Made rows (row rows s starved) after out mids_before mids
commit_made rows s starved place now job before after out mids_before mids kind datagram call way =
    ended rows s starved (done starved rows (row_moment rows s) place s (reading job.datagram))
    after out mids_before mids way (commit_is rows s starved place job kind datagram)
    call.worker call.drawn
