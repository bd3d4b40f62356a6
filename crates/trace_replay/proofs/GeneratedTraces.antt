-- No line of a generated trace is bad: each is a line, there is its worker, and a worker that hears
-- holds no job.
use Rattle.std.proofs.Common.{
  ◌≡◌,
  ℕ,
  zero,
  suc,
  lit<,
  ◌+◌,
  ◌*◌,
  ◌/◌,
  ◌%◌,
  ◌<◌,
  ◌≤◌,
  ◌==◌,
  ◌&&◌,
  Bool,
  true,
  false,
  cond,
  List,
  [],
  ◌∷◌,
  ◌++◌,
  length,
  map,
  Option,
  Some,
  None,
  Result,
  Ok,
  codes,
  not,
  ◌||◌,
  option_map,
  is_none,
  refl,
  sym,
  ap,
  ap₂,
  subst,
  ◌∙◌,
  arith,
  append_assoc,
  append-nil,
}
use Rattle.std.specs.Prelude.{nat_lt}
use Rattle.std.proofs.lemmas.Bool.{false≢true, eqb-true}
use Rattle.std.proofs.lemmas.Nat.{mod_below}
use Rattle.std.proofs.lemmas.List.{map-append}
use Rattle.rd_base.specs.declared.peers.Peer.{Peer}
use Rattle.message_model.specs.Message.{Message, Opt}
use Rattle.message_model.specs.Numbers.{uint_of}
use Rattle.message_model.specs.declared.messages.Unread.{Unread}
use Rattle.message_model.specs.declared.requests.Path.{Path}
use Rattle.message_model.specs.declared.requests.Path.TheVariants as path
use Rattle.message_model.specs.Reading.{reading}
use Rattle.message_model.specs.Request.{path_of, path_in, observe_in}
use Rattle.message_model.specs.OptionTable.{values, is_recognized, first_of, first_bad_option}
use Rattle.message_model.specs.Spelling.{spelling}
use Rattle.message_model.proofs.MessageLaws.{reading_again}
use Rattle.message_model.proofs.TableLemmas.{values-push}
use Rattle.message_model.proofs.OnLiterals.{messages_on_literals}
use Rattle.line_model.specs.declared.lines.Line.{Line}
use Rattle.line_model.specs.declared.lines.Line.TheVariants as line
use Rattle.line_model.specs.declared.lines.Reason.{Reason}
use Rattle.line_model.specs.Generator.{
  kind_text,
  pace,
  device,
  onlooker,
  device_registration,
  observation,
  divides,
  observer_lines,
  tick_lines,
  device_lines,
  lines_up_to,
  generated_lines,
  generated,
}
use Rattle.line_model.specs.Lines.{line_text, IsLine, go, tick}
use Rattle.line_model.proofs.PrintedLines.{line_of-line_text}
use Rattle.event_model.specs.declared.notes.Note.{Note}
use Rattle.event_model.specs.declared.notes.Note.TheVariants as note
use Rattle.journal_model.specs.declared.steps.Step.{Step}
use Rattle.journal_model.specs.declared.steps.StepKind.{StepKind}
use Rattle.journal_model.specs.declared.steps.StepKind.TheVariants as step
use Rattle.journal_model.specs.declared.rows.Row.{Row}
use Rattle.journal_model.specs.DeskJournal.{ends_job}
use Rattle.journal_model.specs.Effects.{Effects, Reply}
use Rattle.journal_model.specs.Lookups.{lookup_effects}
use Rattle.journal_model.specs.Journal.{entries}
use Rattle.journal_model.specs.Looks.{held_after}
use Rattle.event_model.specs.KeptAnswers.{Answer}
use Rattle.journal_model.specs.Machine.{
  Job,
  is_look_datagram,
  is_look_reading,
  hearing,
  write_job,
  keep_job,
  job_after,
  job_of,
}
use Rattle.journal_model.specs.Requests.{
  refusal_of_request,
  is_look_request,
  only_looks,
  is_discovery,
  is_lookup,
  is_location,
  is_get,
  method_of,
  is_later_block,
  is_heeded,
}
use Rattle.journal_model.specs.Rows.{served, heard, request_answered, effects, row_moment, row}
use Rattle.journal_model.proofs.NoteKinds.{of_lookup, are}
use Rattle.journal_model.proofs.RowEquations.{row-step, row-notes, effects-Admit}
use Rattle.journal_model.proofs.StepNotes.{lookup_effects-notes}
use Rattle.journal_model.proofs.notes.SilentSteps.{refusal_notes}
use Rattle.trace_model.specs.Steps.{
  step_after,
  come_step,
  go_step,
  step_of_worker,
  worker_of,
  if_worker,
  step_of_line,
  trace_line,
  trace_from,
  first_bad,
  nobody,
}
use Rattle.trace_replay.proofs.GeneratedMessages.{
  spelling_bytes,
  registration-IsMessage,
  observation-IsMessage,
  registration-short,
  observation-short,
  come-IsLine,
}
use Rattle.trace_replay.proofs.GeneratedTexts.{generated_texts}
use Rattle.trace_replay.proofs.JobRows.{job-after}
use Rattle.trace_replay.proofs.OtherWorkers.{job_of-other}

-- ---- what a step leaves

-- no worker holds a job
abbrev Idle : List Row → Type 0
Idle rows = (worker : ℕ) → job_of worker rows ≡ None

-- a job is one that ends: a commit or a keep
write_ends : (notes : List Note) (r : Row) (before : List Row) (job : Job)
    → write_job notes r before ≡ Some job
    → ends_job job.kind ≡ true
write_ends (note.Admitted peer mid ∷ notes) r before job e = ap kind_ends (sym e)
  where
    kind_ends : Option Job → Bool
    kind_ends None = true
    kind_ends (Some j) = ends_job j.kind
write_ends _ r before job e = absurd (let h : None ≡ Some job = e in cc)

keep_ends : (held : Option Answer) (r : Row) (job : Job)
    → keep_job held r ≡ Some job
    → ends_job job.kind ≡ true
keep_ends (Some found) r job e = ap kind_ends (sym e)
  where
    kind_ends : Option Job → Bool
    kind_ends None = true
    kind_ends (Some j) = ends_job j.kind
keep_ends None r job e = absurd (let h : None ≡ Some job = e in cc)

job-ends : (worker : ℕ) (rows : List Row) (job : Job)
    → job_of worker rows ≡ Some job
    → ends_job job.kind ≡ true
unfolding job_of
job-ends worker [] job e = absurd (let h : None ≡ Some job = e in cc)
job-ends worker (r ∷ before) job e =
    by (r.step.worker == worker) e (λ h. job-ends worker before job h)
  where
    own : (kind : StepKind)
        → job_after kind r before (job_of worker before) ≡ Some job
        → (job_of worker before ≡ Some job → ends_job job.kind ≡ true)
        → ends_job job.kind ≡ true
    own step.Admit h more = write_ends r.notes r before job h
    own step.Look h more =
        keep_ends (held_after r.starved (entries before) r.moment.0 (reading r.step.datagram)) r job
        h
    own (step.Commit place) h more = absurd (let no : None ≡ Some job = h in cc)
    own (step.Keep body tag) h more = absurd (let no : None ≡ Some job = h in cc)
    own step.Tick h more = more h
    own (step.Begin first) h more = more h

    by : (b : Bool)
        → cond b (job_after r.step.kind r before (job_of worker before)) (job_of worker before)
        ≡ Some job
        → (job_of worker before ≡ Some job → ends_job job.kind ≡ true)
        → ends_job job.kind ≡ true
    by true h more = own r.step.kind h more
    by false h more = more h

-- so its own step leaves none
after_end : (kind : StepKind) (r : Row) (rows : List Row) (held : Option Job)
    → ends_job kind ≡ true
    → job_after kind r rows held ≡ None
after_end step.Admit r rows held e = absurd (false≢true e)
after_end step.Look r rows held e = absurd (false≢true e)
after_end (step.Commit place) r rows held e = refl
after_end (step.Keep body tag) r rows held e = refl
after_end step.Tick r rows held e = absurd (false≢true e)
after_end (step.Begin first) r rows held e = absurd (false≢true e)

-- where all but one hold no job, and the row leaves that one none, nobody holds one
idle_after : (rows : List Row) (s : Step)
    → ((worker : ℕ) → (s.worker == worker) ≡ false → job_of worker rows ≡ None)
    → job_after s.kind (row rows s false) rows (job_of s.worker rows) ≡ None
    → Idle (row rows s false ∷ rows)
idle_after rows s others own worker = by (s.worker == worker) refl
  where
    by : (b : Bool) → (s.worker == worker) ≡ b → job_of worker (row rows s false ∷ rows) ≡ None
    by true e =
        subst (λ w. job_of w (row rows s false ∷ rows) ≡ None) (eqb-true s.worker worker e)
        (job-after rows (row rows s false) s (row-step rows s false) ∙ own)
    by false e = job_of-other worker rows s false e ∙ others worker e

-- ---- a line

-- a line that is read makes its step, and is not bad
one_step : (workers number : ℕ) (rows : List Row) (l : Line) (more : List (List ℕ)) (s : Step)
    → IsLine l
    → nat_lt (worker_of l) workers ≡ true
    → step_of_worker rows l ≡ Ok (Some s)
    → (trace_from workers (number + 1) (row rows s false ∷ rows) more).bad ≡ None
    → (trace_from workers number rows (line_text l ∷ more)).bad ≡ None
unfolding trace_from
one_step workers number rows l more s fits within makes later =
    ap (λ (said : Result (Option Step) Reason).
    (trace_line number rows (λ after. trace_from workers (number + 1) after more) said).bad)
    (ap (step_of_line workers rows) (line_of-line_text l fits)
    ∙ (ap (λ b. if_worker b rows l) within ∙ makes))
    ∙ later

-- or makes none
no_step : (workers number : ℕ) (rows : List Row) (l : Line) (more : List (List ℕ))
    → IsLine l
    → nat_lt (worker_of l) workers ≡ true
    → step_of_worker rows l ≡ Ok None
    → (trace_from workers (number + 1) rows more).bad ≡ None
    → (trace_from workers number rows (line_text l ∷ more)).bad ≡ None
unfolding trace_from
no_step workers number rows l more fits within makes later =
    ap (λ (said : Result (Option Step) Reason).
    (trace_line number rows (λ after. trace_from workers (number + 1) after more) said).bad)
    (ap (step_of_line workers rows) (line_of-line_text l fits)
    ∙ (ap (λ b. if_worker b rows l) within ∙ makes))
    ∙ later

-- ---- lines

-- after rows in which nobody holds a job the lines are not bad, and then nobody holds one
abbrev Goes : ℕ → List Line → Type 0
Goes workers lines = (rows : List Row) (number : ℕ) (more : List (List ℕ)) → Idle rows
    → ((later : List Row) (next : ℕ) → Idle later → (trace_from workers next later more).bad ≡ None)
    → (trace_from workers number rows (map line_text lines ++ more)).bad ≡ None

goes_none : (workers : ℕ) → Goes workers []
goes_none workers rows number more idle later = later rows number idle

goes_both : (workers : ℕ) (xs ys : List Line)
    → Goes workers xs
    → Goes workers ys
    → Goes workers (xs ++ ys)
goes_both workers xs ys first second rows number more idle later =
    ap (λ (texts : List (List ℕ)). (trace_from workers number rows (texts ++ more)).bad)
    (map-append line_text xs ys)
    ∙ (ap (λ (texts : List (List ℕ)). (trace_from workers number rows texts).bad)
    (append_assoc (map line_text xs) (map line_text ys) more)
    ∙ first rows number (map line_text ys ++ more) idle
    (λ after next idle_then. second after next more idle_then later))

-- time passes
tick_goes : (workers worker at word : ℕ)
    → nat_lt worker workers ≡ true
    → IsLine (line.Tick worker (record { 0 = at }) word)
    → Goes workers (line.Tick worker (record { 0 = at }) word ∷ [])
tick_goes workers worker at word within fits rows number more idle later =
    let s : Step = step_after rows step.Tick worker at word nobody [] in
    one_step workers number rows (line.Tick worker (record { 0 = at }) word) more s fits within refl
    (later (row rows s false ∷ rows) (number + 1)
    (idle_after rows s (λ v other. idle v) (idle worker)))

-- a datagram comes to a worker, who then ends the job that it leaves
served_goes : (workers worker at after : ℕ) (peer : Peer) (datagram : List ℕ)
    → nat_lt worker workers ≡ true
    → IsLine (line.Come worker (record { 0 = at }) peer datagram 0)
    → IsLine (line.Go worker (record { 0 = after }))
    → Goes workers (line.Come worker (record { 0 = at }) peer datagram 0
    ∷ line.Go worker (record { 0 = after })
    ∷ [])
served_goes workers worker at after peer datagram within comes ends rows number more idle later =
    one_step workers number rows (line.Come worker (record { 0 = at }) peer datagram 0)
    (line_text (line.Go worker (record { 0 = after })) ∷ more) s comes within
    (ap (λ job. come_step job rows worker at peer datagram 0) (idle worker))
    (by (job_of worker middle) refl)
  where
    s : Step
    s = step_after rows (hearing datagram) worker at 0 peer datagram

    middle : List Row
    middle = row rows s false ∷ rows

    others : (v : ℕ) → (worker == v) ≡ false → job_of v middle ≡ None
    others v other = job_of-other v rows s false other ∙ idle v

    by : (job : Option Job)
        → job_of worker middle ≡ job
        → (trace_from workers (number + 1) middle
        (line_text (line.Go worker (record { 0 = after })) ∷ more)).bad
        ≡ None
    by None none =
        no_step workers (number + 1) middle (line.Go worker (record { 0 = after })) more ends within
        (ap (λ job. go_step job middle worker after) none)
        (later middle (number + 1 + 1) (λ v. each v (worker == v) refl))
      where
        each : (v : ℕ) (b : Bool) → (worker == v) ≡ b → job_of v middle ≡ None
        each v true e = subst (λ w. job_of w middle ≡ None) (eqb-true worker v e) none
        each v false e = others v e
    by (Some job) has =
        let t : Step = step_after middle job.kind worker after 0 job.peer job.datagram in
        one_step workers (number + 1) middle (line.Go worker (record { 0 = after })) more t ends
        within (ap (λ held. go_step held middle worker after) has)
        (later (row middle t false ∷ middle) (number + 1 + 1)
        (idle_after middle t others
        (after_end job.kind (row middle t false) middle (job_of worker middle)
        (job-ends worker middle job has))))

-- ---- observations

-- the options of an observation but for its query
abbrev observing : List Opt
observing = (6, []) ∷ (11, codes "rd-lookup") ∷ (11, codes "res") ∷ []

-- a query option gives no values of another number
and_none : (b : Bool) (value : List ℕ)
    → ◌≡◌ {A = List (List ℕ)} (cond (b && false) (value ∷ []) []) []
and_none true value = refl
and_none false value = refl

values_but : (number : ℕ) (value : List ℕ) (others : List (List ℕ))
    → (15 == number) ≡ false
    → values number observing ≡ others
    → values number (observing ++ (15, value) ∷ []) ≡ others
values_but number value others other front =
    values-push number observing (15, value)
    ∙ (ap₂ (λ (vs : List (List ℕ)) (b : Bool).
    vs ++ cond (is_recognized observing 15 (length value) && b) (value ∷ []) []) front other
    ∙ (ap (λ (vs : List (List ℕ)). others ++ vs)
    (and_none (is_recognized observing 15 (length value)) value)
    ∙ append-nil others))

front_paths : values 11 observing ≡ codes "rd-lookup" ∷ codes "res" ∷ []
unfolding messages_on_literals
front_paths = refl

front_observe : values 6 observing ≡ [] ∷ []
unfolding messages_on_literals
front_observe = refl

path_res : path_of (codes "rd-lookup" ∷ codes "res" ∷ []) ≡ path.Res
unfolding messages_on_literals
path_res = refl

-- it is a lookup of resources, which asks to observe
observation-path : (i : ℕ) → path_in (observation i) ≡ path.Res
observation-path i =
    ap path_of
    (values_but 11 (codes "rt=" ++ kind_text i) (codes "rd-lookup" ∷ codes "res" ∷ []) refl
    front_paths)
    ∙ path_res

observation-observes : (i : ℕ) → observe_in (observation i) ≡ Some 0
observation-observes i =
    ap (λ (vs : List (List ℕ)). option_map uint_of (first_of vs))
    (values_but 6 (codes "rt=" ++ kind_text i) ([] ∷ []) refl front_observe)

-- so it does not only look
observation-looks : (i : ℕ) → only_looks (observation i) ≡ false
observation-looks i =
    ap₂ (λ (p : Path) (seen : Option ℕ).
    is_discovery p
    || (is_lookup p && not (is_later_block (observation i)) && not (is_heeded seen))
    || ((is_location p && is_get (method_of (observation i).code))
    && not (is_later_block (observation i))))
    (observation-path i) (observation-observes i)
    ∙ by (is_later_block (observation i))
  where
    by : (b : Bool) → (false || (true && not b && not true) || (false && not b)) ≡ false
    by true = refl
    by false = refl

observation-hearing : (i : ℕ) → i ≤ 4_000 → hearing (spelling (observation i)) ≡ step.Admit
unfolding is_look_datagram is_look_request
observation-hearing i low =
    ap (λ b. cond b step.Look step.Admit)
    (ap is_look_reading (reading_again (observation i) (observation-IsMessage i low))
    ∙ (ap (λ b. is_none (refusal_of_request (observation i)) && b) (observation-looks i)
    ∙ none (is_none (refusal_of_request (observation i)))))
  where
    none : (b : Bool) → (b && false) ≡ false
    none true = refl
    none false = refl

-- and is no write, so it leaves no job
lookup_leaves : (notes : List Note) (r : Row) (rows : List Row)
    → are of_lookup notes ≡ true
    → write_job notes r rows ≡ None
lookup_leaves (note.Admitted peer mid ∷ notes) r rows e = absurd (false≢true e)
lookup_leaves _ r rows e = refl

answered_leaves : (refusal : Option Reply) (rows : List Row) (moment : ℕ) (s : Step) (m : Message)
    (r : Row)
    → path_in m ≡ path.Res
    → write_job (request_answered refusal rows moment s m).notes r rows ≡ None
unfolding served
answered_leaves (Some refusal) rows moment s m r at =
    ap (λ (notes : List Note). write_job notes r rows)
    (refusal_notes m.kind (first_bad_option m.options) s m refusal)
answered_leaves None rows moment s m r at =
    ap (λ (p : Path). write_job (served p rows moment s m).notes r rows) at
    ∙ lookup_leaves (lookup_effects rows moment s m).notes r rows
    (lookup_effects-notes rows moment s m)

observation-leaves : (rows : List Row) (s : Step) (i : ℕ)
    → i ≤ 4_000
    → s.kind ≡ step.Admit
    → s.datagram ≡ spelling (observation i)
    → (held : Option Job)
    → job_after s.kind (row rows s false) rows held ≡ None
observation-leaves rows s i low kind of held =
    ap (λ (k : StepKind). job_after k (row rows s false) rows held) kind
    ∙ (ap (λ (notes : List Note). write_job notes (row rows s false) rows)
    (row-notes rows s false
    ∙ (ap (λ (k : StepKind). (effects k false rows (row_moment rows s) s).notes) kind
    ∙ (ap (λ (e : Effects). e.notes) (effects-Admit false rows (row_moment rows s) s)
    ∙ ap (λ (read : Result Message Unread). (heard false rows (row_moment rows s) s read).notes)
    (ap reading of ∙ reading_again (observation i) (observation-IsMessage i low)))))
    ∙ answered_leaves (refusal_of_request (observation i)) rows (row_moment rows s) s
    (observation i) (row rows s false) (observation-path i))

observed_goes : (workers worker at i : ℕ)
    → i ≤ 4_000
    → nat_lt worker workers ≡ true
    → IsLine (line.Come worker (record { 0 = at }) onlooker (spelling (observation i)) 0)
    → Goes workers (line.Come worker (record { 0 = at }) onlooker (spelling (observation i)) 0 ∷ [])
observed_goes workers worker at i low within fits rows number more idle later =
    let s : Step =
    step_after rows (hearing (spelling (observation i))) worker at 0 onlooker
    (spelling (observation i)) in
    one_step workers number rows
    (line.Come worker (record { 0 = at }) onlooker (spelling (observation i)) 0) more s fits
    within
    (ap (λ job. come_step job rows worker at onlooker (spelling (observation i)) 0) (idle worker))
    (later (row rows s false ∷ rows) (number + 1) (idle_after rows s (λ v other. idle v)
    (observation-leaves rows s i low (observation-hearing i low) refl
    (job_of worker rows))))

-- ---- the whole trace

one_if : (workers : ℕ) (b : Bool) (l : Line)
    → Goes workers (l ∷ [])
    → Goes workers (cond b (l ∷ []) [])
one_if workers true l h = h
one_if workers false l h = goes_none workers

device_goes : (workers i : ℕ)
    → 0 < workers
    → workers ≤ 16
    → i ≤ 4_000
    → Goes workers (device_lines workers i)
device_goes workers i some few low =
    let turn = mod_below i workers some in
    let within : nat_lt (i % workers) workers ≡ true = grind (arith, turn) in
    let worker : i % workers ≤ 255 = omega (arith, turn, few) in
    goes_both workers
    (line.Come (i % workers) (record { 0 = pace * i }) (device i)
    (spelling (device_registration i)) 0
    ∷ line.Go (i % workers) (record { 0 = pace * i + 1 })
    ∷ [])
    (observer_lines workers i ++ tick_lines workers i)
    (served_goes workers (i % workers) (pace * i) (pace * i + 1) (device i)
    (spelling (device_registration i)) within
    (come-IsLine (i % workers) (pace * i) (10 ∷ 0 ∷ i / 256 ∷ i % 256 ∷ []) 5_683
    (spelling (device_registration i)) worker (omega (arith, low)) refl
    (lit< tt, (lit< tt, (omega (arith, low), (omega arith, tt)))) (omega arith) (lit< tt)
    (registration-short i low)
    (spelling_bytes (device_registration i) (registration-IsMessage i low)))
    (go worker (omega (arith, low))))
    (goes_both workers (observer_lines workers i) (tick_lines workers i)
    (one_if workers (divides 10 i) _
    (observed_goes workers (i % workers) (pace * i + 2) i low within
    (come-IsLine (i % workers) (pace * i + 2) (10 ∷ 1 ∷ 0 ∷ 1 ∷ []) 40_000
    (spelling (observation i)) worker (omega (arith, low)) refl
    (lit< tt, (lit< tt, (lit< tt, (lit< tt, tt)))) (omega arith) (lit< tt)
    (observation-short i) (spelling_bytes (observation i) (observation-IsMessage i low)))))
    (one_if workers (divides 100 i) _ (tick_goes workers (i % workers) (pace * i + 3) i within
    (tick worker (omega (arith, low)) (omega (arith, low))))))

up_to_goes : (workers devices : ℕ)
    → 0 < workers
    → workers ≤ 16
    → devices ≤ 4_000
    → Goes workers (lines_up_to workers devices)
up_to_goes workers zero some few low = goes_none workers
up_to_goes workers (suc n) some few low =
    goes_both workers (lines_up_to workers n) (device_lines workers (suc n))
    (up_to_goes workers n some few (omega (arith, low)))
    (device_goes workers (suc n) some few low)

none_held : (worker : ℕ) → job_of worker [] ≡ None
unfolding job_of
none_held worker = refl

-- no line of a generated trace is bad
pub generated_good : (devices workers : ℕ)
    → 1 ≤ workers
    → workers ≤ 16
    → devices ≤ 4_000
    → first_bad workers (generated devices workers) ≡ None
unfolding generated_lines trace_from
generated_good devices workers some few low =
    let whole =
    goes_both workers (lines_up_to workers devices)
    (line.Tick 0 (record { 0 = pace * devices + 10 }) 0 ∷ [])
    (up_to_goes workers devices (omega (arith, some)) few low)
    (tick_goes workers 0 (pace * devices + 10) 0 (grind (arith, some)) (tick (omega arith) (omega
    (arith, low)) (omega arith))) in
    ap (λ (texts : List (List ℕ)). (trace_from workers 1 [] texts).bad)
    (generated_texts devices workers some few low
    ∙ sym (append-nil (map line_text (generated_lines devices workers))))
    ∙ whole [] 1 [] none_held (λ later next idle. refl)
