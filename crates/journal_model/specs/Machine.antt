-- The machine: which jobs workers hold, which steps they may make, and the journals that result.
use Rattle.std.specs.Prelude.{
  ◌≡◌,
  ℕ,
  ◌+◌,
  ◌%◌,
  ◌^◌,
  Bool,
  false,
  ◌==◌,
  List,
  [],
  ◌∷◌,
  length,
  map,
  fold,
  Option,
  Some,
  None,
  Result,
  Ok,
  Err,
  ⊤,
  if◌then◌else◌,
}
use Rattle.rd_base.specs.declared.peers.Peer.{Peer}
use Rattle.message_model.specs.declared.messages.Role.{Role}
use Rattle.message_model.specs.declared.messages.Role.TheVariants as role
use Rattle.message_model.specs.declared.messages.Unread.{Unread}
use Rattle.message_model.specs.Message.{Message, role_of}
use Rattle.message_model.specs.Reading.{reading}
use Rattle.event_model.specs.declared.notes.Note.{Note}
use Rattle.event_model.specs.declared.notes.Note.TheVariants as note
use Rattle.event_model.specs.KeptAnswers.{Answer}
use Rattle.journal_model.specs.declared.steps.Step.{Step}
use Rattle.journal_model.specs.declared.steps.StepKind.{StepKind}
use Rattle.journal_model.specs.declared.steps.StepKind.TheVariants as step
use Rattle.journal_model.specs.declared.rows.Row.{Row}
use Rattle.journal_model.specs.Journal.{entries}
use Rattle.journal_model.specs.Requests.{is_look_request}
use Rattle.journal_model.specs.Looks.{held_after}
use Rattle.journal_model.specs.Rows.{row}

-- Returns whether a message is a request that a look answers.
abbrev pub is_look_message : Role → Message → Bool
is_look_message role.Ping m = false
is_look_message role.Acknowledgement m = false
is_look_message role.Reset m = false
is_look_message role.Request m = is_look_request m
is_look_message role.Response m = false
is_look_message role.Ignored m = false

-- Returns whether what is read of a datagram is such a request.
abbrev pub is_look_reading : Result Message Unread → Bool
is_look_reading (Err fault) = false
is_look_reading (Ok m) = is_look_message (role_of m.kind m.code) m

-- Returns whether a datagram is such a request.
unfoldable pub is_look_datagram : List ℕ → Bool
is_look_datagram datagram = is_look_reading (reading datagram)

-- Returns the kind of the step that handles a datagram: a look or an admission.
abbrev pub hearing : List ℕ → StepKind
hearing datagram = if is_look_datagram datagram then step.Look else step.Admit

-- The job that a worker holds: what it is to do, and the peer and the datagram for which it does
-- that.
pub record Job : Type 0 where
  pub kind : StepKind
  pub peer : Peer
  pub datagram : List ℕ

-- Returns a job with the peer and the datagram of a row.
abbrev pub job_from_row : StepKind → Row → Option Job
job_from_row what r = Some (record { kind = what; peer = r.step.peer; datagram = r.step.datagram })

-- Returns the job of an admitted write.
abbrev pub write_job : List Note → Row → List Row → Option Job
write_job (note.Admitted peer mid ∷ notes) r before = job_from_row (step.Commit (length before)) r
write_job _ r before = None

-- Returns the job to keep a body that a look holds.
abbrev pub keep_job : Option Answer → Row → Option Job
keep_job None r = None
keep_job (Some found) r = job_from_row (step.Keep found.body found.tag) r

-- Returns the job that a row of a worker leaves it with, if it held `held` before.
abbrev pub job_after : StepKind → Row → List Row → Option Job → Option Job
job_after step.Admit r before held = write_job r.notes r before
job_after step.Look r before held =
    keep_job (held_after r.starved (entries before) r.moment.0 (reading r.step.datagram)) r
job_after (step.Commit place) r before held = None
job_after (step.Keep body tag) r before held = None
job_after step.Tick r before held = held
job_after (step.Begin first) r before held = held

-- Returns the job that a worker holds: the one that its last row left, ticks and beginnings apart.
unfoldable pub job_of : ℕ → List Row → Option Job
job_of worker [] = None
job_of worker (r ∷ before) =
    if r.step.worker == worker
    then job_after r.step.kind r before (job_of worker before)
    else job_of worker before

-- Returns how many Message IDs a worker drew, modulo 2^64.
unfoldable pub mids_drawn : ℕ → List Row → ℕ
mids_drawn worker [] = 0
mids_drawn worker (r ∷ before) =
    if r.step.worker == worker
    then (mids_drawn worker before + r.drew) % 2 ^ 64
    else mids_drawn worker before

-- A step that a worker may make: a tick or a beginning at any time, a datagram if it holds no job,
-- or else the job.
pub data MayBegin (rows : List Row) : Step → Type 0 where
  hears : {s : Step} → job_of s.worker rows ≡ None → s.kind ≡ hearing s.datagram → MayBegin rows s
  goes : {s : Step}
      → job_of s.worker rows ≡ Some (record { kind = s.kind; peer = s.peer; datagram = s.datagram })
      → MayBegin rows s
  ticks : {s : Step} → s.kind ≡ step.Tick → MayBegin rows s
  begins : {s : Step} {first : ℕ} → s.kind ≡ step.Begin first → MayBegin rows s

-- A step that a worker may make, and that names how many Message IDs its worker drew before.
pub record MayMake (rows : List Row) (s : Step) : Type 0 where
  pub begin : MayBegin rows s
  pub drawn : s.drawn ≡ mids_drawn s.worker rows

-- A journal of the machine: each row is that of a step that might be made after the rows before it.
pub data IsJournal : List Row → Type 0 where
  begun : IsJournal []
  made : {rows : List Row} {s : Step}
      → (starved : Bool)
      → IsJournal rows
      → MayMake rows s
      → IsJournal (row rows s starved ∷ rows)

-- Returns the journal of steps, each with whether memory ran out in it.
unfoldable pub run : List (Step × Bool) → List Row
run steps = fold (λ rows next. row rows next.0 next.1 ∷ rows) [] steps

-- Returns steps in none of which memory runs out.
abbrev pub unstarved : List Step → List (Step × Bool)
unstarved steps = map (λ s. (s, false)) steps

-- States that steps may be made one after the other, after a journal.
abbrev pub MayRun : List (Step × Bool) → List Row → Type 0
MayRun [] rows = ⊤
MayRun (next ∷ steps) rows = MayMake rows next.0 × MayRun steps (row rows next.0 next.1 ∷ rows)
