-- What the step does that keeps a listing (RFC 7959 section 2.4).
use Rattle.std.proofs.Common.{
  ◌≡◌,
  ℕ,
  Bool,
  true,
  false,
  List,
  [],
  ◌∷◌,
  ◌++◌,
  length,
  map,
  Some,
  None,
  Result,
  Ok,
  refl,
  sym,
  ap,
  subst,
  ◌∙◌,
}
use Rattle.std.specs.List.{list_any}
use Rattle.rd_base.specs.declared.moments.Moment.{Moment}
use Rattle.rd_base.specs.declared.peers.Peer.{Peer}
use Rattle.message_model.specs.declared.messages.Unread.{Unread}
use Rattle.message_model.specs.Message.{Message}
use Rattle.message_model.specs.Reading.{reading}
use Rattle.message_model.specs.RequestKey.{key_in}
use Rattle.event_model.specs.declared.notes.Note.{Note}
use Rattle.event_model.specs.declared.notes.Note.TheVariants as note
use Rattle.event_model.specs.Events.{Event, noted}
use Rattle.event_model.specs.KeptAnswers.{Answer, KeptAnswer}
use Rattle.event_model.proofs.AsideTables.{about_uploads}
use Rattle.journal_model.specs.declared.steps.Step.{Step}
use Rattle.journal_model.specs.declared.steps.StepKind.{StepKind}
use Rattle.journal_model.specs.declared.steps.StepKind.TheVariants as step
use Rattle.journal_model.specs.declared.rows.Row.{Row}
use Rattle.journal_model.specs.Bodies.{body_reply}
use Rattle.journal_model.specs.Effects.{nothing, answering, without_memory}
use Rattle.journal_model.specs.Journal.{events}
use Rattle.journal_model.specs.Looks.{keep_effects}
use Rattle.journal_model.specs.Requests.{asked_block}
use Rattle.journal_model.specs.Rows.{row_moment, effects, kept_body, row}
use Rattle.journal_model.specs.UnfinishedRow.{making}
use Rattle.transfers.specs.Keeping.{NamedAnswer}
use Rattle.transfers.specs.TransferEvents.{
  Table,
  UploadsStandFor,
  AnswersStandFor,
  TransfersStandFor,
  kept_note,
}
use Rattle.transfers.proofs.TransferLaws.{UploadsStandFor-noted}
use Rattle.coap_answers.specs.declared.mids.Mids.{Mids}
use Rattle.coap_answers.specs.Sendings.{IsStepOf, Sends}
use Rattle.rd_look.specs.KeepJobs.{Keep}
use Rattle.rd_desk.specs.calls.Desks.{Seen}
use Rattle.rd_desk.specs.parts.UnderWay.{UnderWay}
use Rattle.rd_desk.specs.calls.Steps.{IsCalled, Made}
use Rattle.rd_desk.proofs.parts.NoteTopics as topic
use Rattle.rd_desk.proofs.parts.NoteTopics.{AreAbout}
use Rattle.rd_desk.proofs.parts.PartLaws.{more_transfers, only_silent}
use Rattle.rd_desk.proofs.parts.WayLaws.{noting_more, way_moment, step_of, only, ended}
use Rattle.rd_desk.proofs.parts.WriteLaws.{without_memory-notes}

-- ---- out of memory

-- 5.00, and the desk is as before
starved_read : (rows : List Row) (s : Step) (d : Seen) (out sent : List (Peer × List ℕ))
    (mids_before mids : Mids) (sender : Peer) (m : Message) (read : Result Message Unread)
    (body current : List ℕ)
    → s.peer ≡ sender
    → read ≡ Ok m
    → (IsStepOf s sender mids_before → Sends (without_memory s m) out sent mids_before mids)
    → UnderWay rows s true nothing d out mids_before
    → UnderWay rows s true (kept_body true s read body current) d sent mids
starved_read rows s d out sent mids_before mids sender m read body current by is sends way =
    subst (λ (r : Result Message Unread).
    UnderWay rows s true (kept_body true s r body current) d sent mids) (sym is)
    (only_silent rows s true (without_memory s m) d out sent mids_before mids
    (without_memory-notes s m)
    (sends (step_of rows s true nothing d out mids_before sender by refl way)) way)

-- so of a job
pub way_starved : (rows : List Row) (s : Step) (d : Seen) (out sent : List (Peer × List ℕ))
    (mids_before mids : Mids) (sender : Peer) (datagram : List ℕ) (answer : Answer) (job : Keep)
    (m : Message)
    → record { peer = sender; datagram = datagram; answer = answer } ≡ job
    → s.peer ≡ job.peer
    → reading datagram ≡ Ok m
    → (IsStepOf s sender mids_before → Sends (without_memory s m) out sent mids_before mids)
    → UnderWay rows s true nothing d out mids_before
    → UnderWay rows s true (kept_body true s (reading job.datagram) job.answer.body job.answer.tag)
    d sent mids
way_starved rows s d out sent mids_before mids sender datagram answer job m same by read sends way =
    subst (λ (j : Keep).
    s.peer ≡ j.peer
    → UnderWay rows s true
    (kept_body true s (reading j.datagram) j.answer.body j.answer.tag) d sent mids)
    same
    (λ mine.
    starved_read rows s d out sent mids_before mids sender m (reading datagram) answer.body
    answer.tag mine read sends way) by

-- ---- a listing that is kept

-- its note, where the answers to keep are this one
pub listing_noted : (more items : List NamedAnswer) (sender : Peer)
    (key meant shared body current : List ℕ)
    → more
    ≡ items
    ++ record { name = (sender, key); answer = record { body = shared; tag = current } }
    ∷ []
    → items ≡ []
    → key ≡ meant
    → shared ≡ body → map kept_note more ≡ note.Kept sender meant body current ∷ []
listing_noted more items sender key meant shared body current is none same whole =
    ap (map kept_note) (is
    ∙ ap (λ (xs : List NamedAnswer).
    xs
    ++ record
    { name = (sender, key); answer = record { body = shared; tag = current } }
    ∷ []) none)
    ∙ (ap (λ (k : List ℕ). note.Kept sender k shared current ∷ []) same
    ∙ ap (λ (b : List ℕ). note.Kept sender meant b current ∷ []) whole)

-- what is noted is about the transfers
about_keeping : (s : Step) (m : Message) (body current : List ℕ)
    → AreAbout topic.transfers (keep_effects s m body current).notes
unfolding keep_effects answering
about_keeping s m body current = refl

no_uploads : (s : Step) (m : Message) (body current : List ℕ)
    → list_any about_uploads (keep_effects s m body current).notes ≡ false
unfolding keep_effects answering
no_uploads s m body current = refl

-- it is the Kept of this listing
keeping_notes : (s : Step) (m : Message) (body current : List ℕ) (sender : Peer)
    → s.peer ≡ sender
    → note.Kept sender (key_in m) body current ∷ [] ≡ (keep_effects s m body current).notes
unfolding keep_effects answering
keeping_notes s m body current sender by =
    ap (λ (peer : Peer). note.Kept peer (key_in m) body current ∷ []) (sym by)

-- the listing is kept, and its block is sent
kept_read : (rows : List Row) (s : Step) (x d : Seen) (t : Table) (ready : List KeptAnswer)
    (out sent : List (Peer × List ℕ)) (mids_before mids : Mids) (sender : Peer) (m : Message)
    (read : Result Message Unread) (body current : List ℕ)
    → x ≡ d
    → s.peer ≡ sender
    → read ≡ Ok m
    → ((events : List Event) (place word : ℕ)
    → AnswersStandFor events x.transfers.answers
    → AnswersStandFor
    (noted place x.moment word (note.Kept sender (key_in m) body current ∷ []) events)
    ready)
    → ((at : ℕ) (events : List Event)
    → UploadsStandFor at events x.transfers.uploads
    → AnswersStandFor events ready
    → TransfersStandFor at events t)
    → ((s : Step) (notes : List Note)
    → IsStepOf s sender mids_before
    → Sends (answering s m (body_reply (Some current) None (asked_block m) body) notes) out sent
    mids_before mids)
    → UnderWay rows s false nothing d out mids_before
    → UnderWay rows s false (kept_body false s read body current) (record x { transfers = t }) sent
    mids
unfolding keep_effects
kept_read rows s x d t ready out sent mids_before mids sender m read body current seen by is kept
    adopted sends way =
    let e = keep_effects s m body current in
    let past = events (making rows s false nothing) in
    let moment : x.moment ≡ row_moment rows s =
    ap (λ (y : Seen). y.moment) seen ∙ way_moment rows s false nothing d out mids_before way in
    let notes : note.Kept sender (key_in m) body current ∷ [] ≡ e.notes =
    keeping_notes s m body current sender by in
    let answers : AnswersStandFor past x.transfers.answers
    → AnswersStandFor (noting_more rows s e.notes past) ready =
    λ h.
    subst (λ (ns : List Note). AnswersStandFor (noting_more rows s ns past) ready) notes
    (subst (λ (at : ℕ). AnswersStandFor (noted (length rows) at s.word (note.Kept sender (key_in m)
    body current ∷ []) past) ready) moment (kept past (length rows) s.word h)) in
    subst (λ (r : Result Message Unread).
    UnderWay rows s false (kept_body false s r body current) (record x { transfers = t })
    sent mids) (sym is)
    (only rows s false e (record x { transfers = t }) sent mids
    (more_transfers rows s false nothing e x d t out sent mids_before mids seen
    (about_keeping s m body current)
    (λ h. adopted (row_moment rows s) (noting_more rows s e.notes past)
    (UploadsStandFor-noted (row_moment rows s) x.transfers.uploads (length rows) (row_moment rows s)
    s.word e.notes past (no_uploads s m body current) h.uploads)
    (answers h.answers))
    (sends s (note.Kept s.peer (key_in m) body current ∷ [])
    (step_of rows s false nothing d out mids_before sender by refl way)) way))

-- so of a job
pub way_kept : (rows : List Row) (s : Step) (x d : Seen) (t : Table) (ready : List KeptAnswer)
    (out sent : List (Peer × List ℕ)) (mids_before mids : Mids) (sender : Peer) (datagram : List ℕ)
    (answer : Answer) (job : Keep) (m : Message) (shown : List ℕ)
    → x ≡ d
    → record { peer = sender; datagram = datagram; answer = answer } ≡ job
    → s.peer ≡ job.peer
    → reading datagram ≡ Ok m
    → shown ≡ answer.body
    → ((events : List Event) (place word : ℕ)
    → AnswersStandFor events x.transfers.answers
    → AnswersStandFor
    (noted place x.moment word (note.Kept sender (key_in m) answer.body answer.tag ∷ [])
    events) ready)
    → ((at : ℕ) (events : List Event)
    → UploadsStandFor at events x.transfers.uploads
    → AnswersStandFor events ready
    → TransfersStandFor at events t)
    → ((s : Step) (notes : List Note)
    → IsStepOf s sender mids_before
    → Sends (answering s m (body_reply (Some answer.tag) None (asked_block m) shown) notes) out
    sent mids_before mids)
    → UnderWay rows s false nothing d out mids_before
    → UnderWay rows s false
    (kept_body false s (reading job.datagram) job.answer.body job.answer.tag)
    (record x { transfers = t }) sent mids
way_kept rows s x d t ready out sent mids_before mids sender datagram answer job m shown seen same
    by read whole kept adopted sends way =
    subst (λ (j : Keep).
    s.peer ≡ j.peer
    → UnderWay rows s false
    (kept_body false s (reading j.datagram) j.answer.body j.answer.tag)
    (record x { transfers = t }) sent mids) same
    (λ mine.
    kept_read rows s x d t ready out sent mids_before mids sender m (reading datagram)
    answer.body answer.tag seen mine read kept adopted
    (λ told notes of.
    subst (λ (body : List ℕ).
    Sends (answering told m (body_reply (Some answer.tag) None (asked_block m) body) notes)
    out sent mids_before mids) whole (sends told notes of)) way) by

-- ---- the row of the step

-- it is all that the step does
keep_is : (rows : List Row) (s : Step) (starved : Bool) (job : Keep)
    → s.kind ≡ step.Keep job.answer.body job.answer.tag
    → s.datagram ≡ job.datagram
    → kept_body starved s (reading job.datagram) job.answer.body job.answer.tag
    ≡ effects s.kind starved rows (row_moment rows s) s
unfolding effects
keep_is rows s starved job kind datagram =
    ap (λ (d : List ℕ). kept_body starved s (reading d) job.answer.body job.answer.tag)
    (sym datagram)
    ∙ ap (λ (k : StepKind). effects k starved rows (row_moment rows s) s) (sym kind)

-- so its row is made
pub keep_made : (rows : List Row) (s : Step) (starved : Bool) (now : Moment) (job : Keep)
    (before after : Seen) (out : List (Peer × List ℕ)) (mids_before mids : Mids)
    → s.kind ≡ step.Keep job.answer.body job.answer.tag
    → s.datagram ≡ job.datagram
    → IsCalled rows s now mids_before before
    → UnderWay rows s starved
    (kept_body starved s (reading job.datagram) job.answer.body job.answer.tag) after out mids
    → Made rows (row rows s starved) after out mids_before mids
keep_made rows s starved now job before after out mids_before mids kind datagram call way =
    ended rows s starved (kept_body starved s (reading job.datagram) job.answer.body job.answer.tag)
    after out mids_before mids way (keep_is rows s starved job kind datagram) call.worker
    call.drawn
