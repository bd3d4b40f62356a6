-- How many observe and are fetched from after each journal of a desk: no more than may; and whoever
-- observes asks with a token and a block size that a message may have.
use Rattle.std.proofs.Common.{
  ◌≡◌,
  ℕ,
  ◌+◌,
  ◌≤◌,
  ◌<◌,
  ◌==◌,
  ◌&&◌,
  ◌||◌,
  nat_lt,
  nat_le,
  Bool,
  true,
  false,
  not,
  cond,
  List,
  [],
  ◌∷◌,
  ◌++◌,
  length,
  filter,
  Option,
  Some,
  None,
  Ok,
  refl,
  sym,
  ap,
  subst,
  ◌∙◌,
  arith,
  append-nil,
  codes,
}
use Rattle.std.specs.List.{list_any, AllByRecursion}
use Rattle.std.proofs.lemmas.Bool.{false≢true, and_parts, ne_eqb}
use Rattle.std.proofs.lemmas.Bool.Decides.{nat_tests}
use Rattle.rd_base.specs.declared.peers.Peer.{Peer}
use Rattle.rd_base.specs.declared.parameters.RegParams.{RegParams}
use Rattle.rd_base.proofs.lemmas.Each.{each_failing, each_weaker}
use Rattle.message_model.specs.declared.blocks.Block.{Block}
use Rattle.message_model.specs.declared.messages.Kind4.{Kind4}
use Rattle.message_model.specs.declared.messages.Kind4.TheVariants.{Con, Non, Ack, Rst}
use Rattle.message_model.specs.declared.requests.Path.{Path}
use Rattle.message_model.specs.declared.requests.Path.TheVariants as path
use Rattle.message_model.specs.Codes as codes_of
use Rattle.message_model.specs.Message.{Message, Opt}
use Rattle.message_model.specs.Reading.{reading}
use Rattle.message_model.specs.Request.{path_in, queries_in, observe_in}
use Rattle.message_model.specs.RequestKey.{key_in}
use Rattle.message_model.specs.Spelling.{spelling}
use Rattle.message_model.specs.Responses.{block_in, is_elsewhere}
use Rattle.message_model.proofs.ReadingLaws.{header_read}
use Rattle.record_model.specs.Parameters.{registration_values}
use Rattle.history_model.specs.declared.entries.Change.TheVariants as change
use Rattle.history_model.specs.declared.entries.Entry.{Entry}
use Rattle.event_model.specs.declared.notes.Note.{Note}
use Rattle.event_model.specs.declared.notes.Note.TheVariants as note
use Rattle.event_model.specs.declared.notes.Observer.{Observer}
use Rattle.event_model.specs.Same.{RequestName, is_same_request}
use Rattle.event_model.specs.Events.{Event, noted}
use Rattle.event_model.specs.Observers.{name_of, observers, is_observer, has_room_for}
use Rattle.event_model.specs.Fetches.{
  Request,
  max_fetches,
  fetches,
  is_fetching,
  is_start,
  starts_or_ends_fetch,
  started_by,
  next_token,
  gathered,
  collected,
}
use Rattle.event_model.proofs.NotedLaws.{event_at, is_watching}
use Rattle.event_model.proofs.ObserverEvents.{
  without_named,
  observers_left,
  observers-Watched,
  observers-Unwatched,
  observers-quiet,
}
use Rattle.journal_model.proofs.notes.BeginNotes.{beginning-notes}
use Rattle.journal_model.specs.declared.steps.Step.{Step}
use Rattle.journal_model.specs.declared.steps.StepKind.{StepKind}
use Rattle.journal_model.specs.declared.rows.Row.{Row}
use Rattle.journal_model.specs.DeskJournal.{IsDeskJournal, begun, made}
use Rattle.journal_model.specs.Effects.{bare, answer, answering, mid_of, drawn_for}
use Rattle.journal_model.specs.Journal.{events, entries}
use Rattle.journal_model.specs.Rows.{row_moment, effects, row}
use Rattle.journal_model.specs.Requests.{
  query_of,
  asked_block,
  is_lookup,
  is_later_block,
  register,
  deregister,
  Method,
  method_of,
}
use Rattle.journal_model.specs.Changes.{
  Outcome,
  refused,
  BodyRead,
  bad_body,
  good_body,
  body_read,
  registered_links,
  registration,
  created_at,
  number_after,
  entry_of_step,
}
use Rattle.journal_model.specs.Registrations.{registering}
use Rattle.journal_model.specs.Commits.{
  settling,
  location_outcome,
  simple_unless,
  write_done,
  commit_effects,
  fetch_room,
}
use Rattle.journal_model.specs.Lookups.{
  listing_now,
  later_block,
  removal,
  without,
  keeping,
  observed_if,
  observed,
  unobserved,
  observation_effects,
  first_block_effects,
  block_effects,
  lookup_effects,
  observing_by,
}
use Rattle.journal_model.specs.Lookups as lookups
use Rattle.journal_model.specs.Bodies.{is_long}
use Rattle.journal_model.specs.Responses.{
  fetch_of,
  strange,
  acknowledgement,
  more_follow,
  ends_fetch,
  completed,
  gathering,
  response_taken,
  response_to,
  response_to_request,
  response_effects,
  response_use,
}
use Rattle.journal_model.proofs.NoteKinds.{
  of_lookup,
  of_read,
  of_write,
  of_empty,
  of_tick,
  of_commit,
  of_response,
  are,
  are-append,
  none_of,
}
use Rattle.journal_model.proofs.StepNotes.{
  look_effects-notes,
  later_block-kept,
  lookup_effects-notes,
  read_effects-kept,
  read_effects-notes,
  keep_effects-notes,
  write_effects-notes,
  tick_effects-notes,
}
use Rattle.journal_model.proofs.notes.ChangeNotes.{
  change_made-notes,
  registering-notes,
  location-notes,
  commit_effects-notes,
  response_effects-notes,
}
use Rattle.journal_model.proofs.notes.LookupNotes.{
  IsAsking,
  NoteAsAsked,
  lookup_notes_as_asked,
  OfWatched,
  observers_all,
}
use Rattle.journal_model.proofs.notes.StepTable.{
  StepNoted,
  nothing,
  write,
  lookup,
  source,
  empty,
  response,
  commit,
  failed,
  keep,
  tick,
  effects-StepNoted,
  begins,
}
use Rattle.observation.proofs.FoundObservers.{request_turned}

-- ---- lists

length-filter : {X : Type 0} (test : X → Bool) (xs : List X) → length (filter test xs) ≤ length xs
length-filter test [] = omega arith
length-filter {X} test (x ∷ xs) = by (test x) (length-filter test xs)
  where
    by : (b : Bool)
        → length (filter test xs) ≤ length xs
        → length (cond b (x ∷ filter test xs) (filter test xs)) ≤ length (x ∷ xs)
    by true h = omega (arith, h)
    by false h = omega (arith, h)

length-append : {X : Type 0} (xs ys : List X) → length (xs ++ ys) ≡ length xs + length ys
length-append [] ys = omega arith
length-append (x ∷ xs) ys = let rest = length-append xs ys in omega (arith, rest)

-- ---- observers

-- where none is added, no more observe
pub no_more_observers : (place moment word : ℕ) (notes : List Note) (before : List Event)
    → list_any is_watching notes ≡ false
    → length (observers (noted place moment word notes before)) ≤ length (observers before)
no_more_observers place moment word notes before none =
    subst (λ (os : List Observer). length os ≤ length (observers before))
    (sym (observers_left place moment word notes before none))
    (length-filter _ (observers before))

-- a name, turned
without_turned : (name : RequestName) (os : List Observer) → without_named name os ≡ without name os
without_turned name [] = refl
without_turned name (o ∷ os) =
    by (is_same_request name (name_of o)) (is_same_request (name_of o) name)
    (request_turned name (name_of o)) (without_turned name os)
  where
    by : (a b : Bool)
        → a ≡ b
        → without_named name os ≡ without name os
        → cond (not a) (o ∷ without_named name os) (without_named name os)
        ≡ cond (not b) (o ∷ without name os) (without name os)
    by true true e more = more
    by false false e more = ap (λ (xs : List Observer). o ∷ xs) more
    by true false e more = absurd (false≢true (sym e))
    by false true e more = absurd (false≢true e)

-- what is noted of one who joins
joined_notes : Bool → Bool → Observer → List ℕ → Note → List Note
joined_notes stood long o body kept =
    cond stood (note.Unwatched o.peer o.token ∷ []) []
    ++ (note.Watched o ∷ note.Formed o.peer o.token body None ∷ cond long (kept ∷ []) [])

one_joins : (place moment word : ℕ) (stood long : Bool) (o : Observer)
    (body key kept_body current : List ℕ) (before : List Event)
    → length (without (o.peer, o.token) (observers before)) < 1_024
    → length (observers (noted place moment word
    (joined_notes stood long o body (note.Kept o.peer key kept_body current)) before))
    ≤ 1_024
unfolding joined_notes
one_joins place moment word stood long o body key kept_body current before room = by stood long
  where
    Formed : Event
    Formed = event_at place moment word (note.Formed o.peer o.token body None)

    Watched : Event
    Watched = event_at place moment word (note.Watched o)

    Unwatched : Event
    Unwatched = event_at place moment word (note.Unwatched o.peer o.token)

    Kept : Event
    Kept = event_at place moment word (note.Kept o.peer key kept_body current)

    added : (past : List Event)
        → length (without_named (o.peer, o.token) (observers past)) < 1_024
        → length (observers (Formed ∷ Watched ∷ past)) ≤ 1_024
    added past few =
        let same =
        ap (λ (os : List Observer). length os)
        (observers-quiet Formed (Watched ∷ past) refl ∙ observers-Watched place moment word
        o past) in
        let sum = length-append (without_named (o.peer, o.token) (observers past)) (o ∷ []) in
        omega (arith, same, sum, few)

    first : length (without_named (o.peer, o.token) (observers before)) < 1_024
    first =
        subst (λ (os : List Observer). length os < 1_024)
        (sym (without_turned (o.peer, o.token) (observers before))) room

    again : length (without_named (o.peer, o.token) (observers (Unwatched ∷ before))) < 1_024
    again =
        let less =
        length-filter (λ x. not (is_same_request (o.peer, o.token) (name_of x)))
        (observers (Unwatched ∷ before)) in
        let same =
        ap (λ (os : List Observer). length os)
        (observers-Unwatched place moment word o.peer o.token before) in
        omega (arith, less, same, first)

    kept : (past : List Event)
        → length (observers past) ≤ 1_024
        → length (observers (Kept ∷ past)) ≤ 1_024
    kept past few =
        subst (λ (os : List Observer). length os ≤ 1_024) (sym (observers-quiet Kept past refl)) few

    by : (b c : Bool)
        → length (observers (noted place moment word
        (joined_notes b c o body (note.Kept o.peer key kept_body current)) before))
        ≤ 1_024
    by true true = kept (Formed ∷ Watched ∷ Unwatched ∷ before) (added (Unwatched ∷ before) again)
    by true false = added (Unwatched ∷ before) again
    by false true = kept (Formed ∷ Watched ∷ before) (added before first)
    by false false = added before first

-- a read adds none
read_adds : (n : Note) → of_read n ≡ true → is_watching n ≡ false
read_adds (note.Watched o) h = absurd (false≢true h)
read_adds _ h = refl

-- a lookup
lookup_few : (rows : List Row) (moment place at : ℕ) (s : Step) (m : Message)
    → length (observers (events rows)) ≤ 1_024
    → length
    (observers (noted place at s.word (lookup_effects rows moment s m).notes (events rows)))
    ≤ 1_024
unfolding lookup_effects observed unobserved answering has_room_for joined_notes
lookup_few rows moment place at s m few = by (is_later_block m)
  where
    quiet : (notes : List Note)
        → list_any is_watching notes ≡ false
        → length (observers (noted place at s.word notes (events rows))) ≤ 1_024
    quiet notes none =
        let less = no_more_observers place at s.word notes (events rows) none in
        omega (arith, less, few)

    silent : (notes : List Note)
        → notes ≡ []
        → length (observers (noted place at s.word notes (events rows))) ≤ 1_024
    silent notes is = quiet notes (ap (list_any is_watching) is)

    left : (stood long : Bool)
        → length
        (observers (noted place at s.word (cond stood (note.Unwatched s.peer m.token ∷ []) []
        ++ cond long (note.Kept s.peer (key_in m) (listing_now rows moment m).body
        (listing_now rows moment m).tag
        ∷ []) []) (events rows)))
        ≤ 1_024
    left true true =
        quiet (note.Unwatched s.peer m.token
        ∷ note.Kept s.peer (key_in m) (listing_now rows moment m).body
        (listing_now rows moment m).tag
        ∷ []) refl
    left true false = quiet (note.Unwatched s.peer m.token ∷ []) refl
    left false true =
        quiet (note.Kept s.peer (key_in m) (listing_now rows moment m).body
        (listing_now rows moment m).tag
        ∷ []) refl
    left false false = quiet [] refl

    room : (n : ℕ) (more : Bool) → (nat_lt n 1_024 && more) ≡ true → n < 1_024
    room n more h = let it = (and_parts (nat_lt n 1_024) more h).0 in grind (arith, nat_tests, it)

    with_value : (b : Bool)
        → has_room_for (query_of m) (without (s.peer, m.token) (observers (events rows))) ≡ b
        → length (observers
        (noted place at s.word (observed_if b rows s m (listing_now rows moment m)).notes
        (events rows)))
        ≤ 1_024
    with_value true has =
        one_joins place at s.word (is_observer (s.peer, m.token) (observers (events rows)))
        (is_long (asked_block m) (listing_now rows moment m).body) (lookups.observer_of s m)
        (listing_now rows moment m).body (key_in m)
        (listing_now rows moment m).body (listing_now rows moment m).tag (events rows)
        (room (length (without (s.peer, m.token) (observers (events rows)))) _ has)
    with_value false has =
        left (is_observer (s.peer, m.token) (observers (events rows)))
        (is_long (asked_block m) (listing_now rows moment m).body)

    valued : (b c : Bool)
        → length (observers (noted place at s.word
        (observation_effects (observing_by b c) rows moment s m).notes (events rows)))
        ≤ 1_024
    valued true c =
        with_value (has_room_for (query_of m) (without (s.peer, m.token) (observers (events rows))))
        refl
    valued false true =
        left (is_observer (s.peer, m.token) (observers (events rows)))
        (is_long (asked_block m) (listing_now rows moment m).body)
    valued false false = silent _ (look_effects-notes (entries rows) moment s m)

    observe : (o : Option ℕ)
        → length (observers (noted place at s.word (first_block_effects o rows moment s m).notes
        (events rows)))
        ≤ 1_024
    observe None = silent _ (look_effects-notes (entries rows) moment s m)
    observe (Some value) = valued (value == register) (value == deregister)

    by : (b : Bool)
        → length (observers
        (noted place at s.word (block_effects b rows moment s m).notes (events rows)))
        ≤ 1_024
    by true =
        quiet (later_block rows moment s m).notes
        (none_of of_read is_watching read_adds (later_block rows moment s m).notes
        (later_block-kept rows moment s m))
    by false = observe (observe_in m)

-- kinds of notes that add no observer
write_adds : (n : Note) → of_write n ≡ true → is_watching n ≡ false
write_adds (note.Watched o) h = absurd (false≢true h)
write_adds _ h = refl

empty_adds : (n : Note) → of_empty n ≡ true → is_watching n ≡ false
empty_adds (note.Watched o) h = absurd (false≢true h)
empty_adds _ h = refl

tick_adds : (n : Note) → of_tick n ≡ true → is_watching n ≡ false
tick_adds (note.Watched o) h = absurd (false≢true h)
tick_adds _ h = refl

commit_adds : (n : Note) → of_commit n ≡ true → is_watching n ≡ false
commit_adds (note.Watched o) h = absurd (false≢true h)
commit_adds _ h = refl

response_adds : (n : Note) → of_response n ≡ true → is_watching n ≡ false
response_adds (note.Watched o) h = absurd (false≢true h)
response_adds _ h = refl

-- what the notes of a step are to observers: they add none, or they are those of a lookup
data AddsBy (rows : List Row) (moment : ℕ) (s : Step) (notes : List Note) : Type 0 where
  adds_none : list_any is_watching notes ≡ false → AddsBy rows moment s notes
  looks : (m : Message)
      → reading s.datagram ≡ Ok m
      → is_lookup (path_in m) ≡ true
      → notes ≡ (lookup_effects rows moment s m).notes
      → AddsBy rows moment s notes

adds_by : (kind : StepKind) (starved : Bool) (rows : List Row) (moment : ℕ) (s : Step)
    (notes : List Note)
    → StepNoted kind starved rows moment s notes
    → AddsBy rows moment s notes
adds_by kind starved rows moment s notes (nothing is) = adds_none (ap (list_any is_watching) is)
adds_by kind starved rows moment s notes (write m of read asks is) =
    adds_none (none_of of_write is_watching write_adds notes
    (ap (are of_write) is ∙ write_effects-notes (events rows) moment s m))
adds_by kind starved rows moment s notes (lookup m of read asks is) = looks m read asks is
adds_by kind starved rows moment s notes (source m of read asks is) =
    adds_none (none_of of_read is_watching read_adds notes
    (ap (are of_read) is ∙ read_effects-kept rows moment s m))
adds_by kind starved rows moment s notes (empty of all) =
    adds_none (none_of of_empty is_watching empty_adds notes all)
adds_by kind starved rows moment s notes (response m of read asks is) =
    adds_none (none_of of_response is_watching response_adds notes
    (ap (are of_response) is ∙ response_effects-notes rows moment s m))
adds_by kind starved rows moment s notes (commit m place of read is) =
    adds_none (none_of of_commit is_watching commit_adds notes
    (ap (are of_commit) is ∙ commit_effects-notes rows moment place s m))
adds_by kind starved rows moment s notes (failed place of is) =
    adds_none (ap (list_any is_watching) is)
adds_by kind starved rows moment s notes (keep m body current of is) =
    adds_none (ap (list_any is_watching) (is ∙ keep_effects-notes s m body current))
adds_by kind starved rows moment s notes (tick of is) =
    adds_none (none_of of_tick is_watching tick_adds notes
    (ap (are of_tick) is ∙ tick_effects-notes starved rows moment s))
adds_by kind starved rows moment s notes (begins first of is) =
    adds_none (none_of of_commit is_watching commit_adds notes
    (ap (are of_commit) is
    ∙ beginning-notes of_commit (λ entry. refl) starved (entries rows) moment s first))

-- No more observe than may.
pub few_observers : (rows : List Row)
    → IsDeskJournal rows
    → length (observers (events rows)) ≤ 1_024
unfolding events observers row
few_observers [] begun = omega arith
few_observers (r ∷ before) (made {rows} s starved journal may) =
    by (effects s.kind starved before (row_moment before s) s).notes
    (adds_by s.kind starved before (row_moment before s) s _
    (effects-StepNoted s.kind starved before (row_moment before s) s))
    (few_observers before journal)
  where
    by : (notes : List Note)
        → AddsBy before (row_moment before s) s notes
        → length (observers (events before)) ≤ 1_024
        → length
        (observers (noted (length before) (row_moment before s) s.word notes (events before)))
        ≤ 1_024
    by notes (adds_none never) few =
        let less =
        no_more_observers (length before) (row_moment before s) s.word notes (events before)
        never in
        omega (arith, less, few)
    by notes (looks m read asks is) few =
        subst (λ (ns : List Note).
        length (observers
        (noted (length before) (row_moment before s) s.word ns (events before)))
        ≤ 1_024) (sym is)
        (lookup_few before (row_moment before s) (length before) (row_moment before s) s m few)

-- Each asks with a token and a block size that a message may have.
pub asking_observers : (rows : List Row)
    → IsDeskJournal rows
    → AllByRecursion IsAsking (observers (events rows))
unfolding events observers row
asking_observers [] begun = tt
asking_observers (r ∷ before) (made {rows} s starved journal may) =
    observers_all IsAsking (length before) (row_moment before s) s.word
    (effects s.kind starved before (row_moment before s) s).notes (events before)
    (by (effects s.kind starved before (row_moment before s) s).notes
    (adds_by s.kind starved before (row_moment before s) s _
    (effects-StepNoted s.kind starved before (row_moment before s) s)))
    (asking_observers before journal)
  where
    other : (n : Note) → is_watching n ≡ false → OfWatched IsAsking n
    other (note.Watched o) h = absurd (false≢true (sym h))
    other _ h = tt

    asks_one : (n : Note)
        → NoteAsAsked (entries before) (row_moment before s) n
        → OfWatched IsAsking n
    asks_one (note.Watched o) h = h
    asks_one _ h = tt

    by : (notes : List Note)
        → AddsBy before (row_moment before s) s notes
        → AllByRecursion (OfWatched IsAsking) notes
    by notes (adds_none never) = each_failing is_watching (OfWatched IsAsking) other notes never
    by notes (looks m read asks is) =
        subst (AllByRecursion (OfWatched IsAsking)) (sym is)
        (each_weaker (NoteAsAsked (entries before) (row_moment before s)) (OfWatched IsAsking)
        asks_one (lookup_effects before (row_moment before s) s m).notes
        (lookup_notes_as_asked before (row_moment before s) s m asks
        (header_read s.datagram m read).token))

-- ---- fetches

-- the note starts no fetch
not_start : Note → Bool
not_start n = not (is_start n)

no_more_fetches : (place moment word : ℕ) (notes : List Note) (before : List Event)
    → list_any is_start notes ≡ false
    → length (fetches (noted place moment word notes before)) ≤ length (fetches before)
unfolding fetches
no_more_fetches place moment word [] before quiet = omega arith
no_more_fetches place moment word (n ∷ notes) before quiet =
    by (is_start n) refl quiet
    (λ h. no_more_fetches place moment word notes (event_at place moment word n ∷ before) h)
  where
    none : (x : Note) → is_start x ≡ false → started_by x ≡ []
    none (note.Asked p token mid params number) h = rw h refl
    none _ h = refl

    one : is_start n ≡ false
        → length (fetches (event_at place moment word n ∷ before)) ≤ length (fetches before)
    one h =
        subst (λ (ps : List Peer). length ps ≤ length (fetches before))
        (sym (ap (λ (more : List Peer).
        filter (λ p. not (starts_or_ends_fetch n p)) (fetches before) ++ more)
        (none n h)
        ∙ append-nil (filter (λ p. not (starts_or_ends_fetch n p)) (fetches before))))
        (length-filter (λ p. not (starts_or_ends_fetch n p)) (fetches before))

    by : (b : Bool) → is_start n ≡ b → (b || list_any is_start notes) ≡ false
        → (list_any is_start notes ≡ false
        → length
        (fetches (noted place moment word notes (event_at place moment word n ∷ before)))
        ≤ length (fetches (event_at place moment word n ∷ before)))
        → length (fetches (noted place moment word notes (event_at place moment word n ∷ before)))
        ≤ length (fetches before)
    by true e h more = absurd (false≢true (sym h))
    by false e h more = let rest = more h in let first = one e in omega (arith, rest, first)

-- what starts none
never_start : (notes : List Note) → are not_start notes ≡ true → list_any is_start notes ≡ false
unfolding not_start
never_start notes h = none_of not_start is_start (λ n k. turned (is_start n) k) notes h
  where
    turned : (b : Bool) → not b ≡ true → b ≡ false
    turned true k = absurd (false≢true k)
    turned false k = refl

-- a registration of a whole body starts none
registration_starts : (history : List Entry) (moment : ℕ) (s : Step) (params : RegParams)
    (body : List ℕ) (further : List Opt) (notes : List Note)
    → are not_start notes ≡ true
    → are not_start (registration history moment s params body further notes).notes ≡ true
unfolding registration not_start
registration_starts history moment s params body further notes h = by (body_read body)
  where
    by : (read : BodyRead)
        → are not_start (registered_links history moment s params further notes read).notes ≡ true
    by (bad_body payload) = refl
    by (good_body links) =
        let entry : Entry = entry_of_step moment s (change.Register params links) in
        change_made-notes not_start (λ entry. refl) history entry
        (record {
          reply = created_at (number_after params.name moment (history ++ entry ∷ []))
              further;
          notes = notes;
        }) h

-- nor does a response: the next block has a number above 0
response_starts : (rows : List Row) (moment : ℕ) (s : Step) (m : Message)
    → are not_start (response_effects rows moment s m).notes ≡ true
unfolding response_effects not_start
response_starts rows moment s m = by (fetch_of s m (events rows))
  where
    foreign : (k : Kind4) → are not_start (strange s m k).notes ≡ true
    foreign Con = refl
    foreign Non = refl
    foreign Ack = refl
    foreign Rst = refl

    acknowledged : (k : Kind4) → are not_start (acknowledgement s m k).notes ≡ true
    acknowledged Con = refl
    acknowledged Non = refl
    acknowledged Ack = refl
    acknowledged Rst = refl

    whole : (request : Request) (body : List ℕ)
        → are not_start (completed rows moment s request body).notes ≡ true
    whole request body =
        are-append not_start (registration (entries rows) moment s request.params body [] []).notes
        (note.Ceased s.peer ∷ [])
        (registration_starts (entries rows) moment s request.params body [] [] refl) refl

    above : (n : ℕ) → (n + 1 == 0) ≡ false
    above n = ne_eqb (n + 1) 0 (λ e. absurd (omega (arith, e)))

    gathers : (more : Bool) (b : Option Block) (request : Request)
        → are not_start (gathering more b rows moment s m request).notes ≡ true
    gathers more None request = whole request (collected s.peer (events rows) ++ m.payload)
    gathers false (Some b) request = whole request (collected s.peer (events rows) ++ m.payload)
    gathers true (Some b) request = rw (above b.num) refl

    taken : (elsewhere over : Bool) (request : Request)
        → are not_start (response_taken (response_use elsewhere over) rows moment s m
        request).notes ≡ true
    taken true over request = refl
    taken false true request = refl
    taken false false request = gathers (more_follow (block_in m)) (block_in m) request

    by : (request : Option Request)
        → are not_start (response_to_request request rows moment s m).notes ≡ true
    by None = foreign m.kind
    by (Some request) =
        are-append not_start (acknowledgement s m m.kind).notes
        (response_to rows moment s m request).notes (acknowledged m.kind)
        (taken (is_elsewhere (block_in m) (length (collected s.peer (events rows))))
        (ends_fetch m (gathered s.peer (events rows)) (length (collected s.peer (events rows))))
        request)

-- a commit starts one where there is room
commit_few : (rows : List Row) (moment place at : ℕ) (s : Step) (m : Message)
    → length (fetches (events rows)) ≤ 64
    → length (fetches (noted (length rows) at s.word (commit_effects rows moment place s m).notes
    (events rows)))
    ≤ 64
unfolding commit_effects answering not_start fetches
commit_few rows moment place at s m few = by (path_in m)
  where
    quiet : (notes : List Note)
        → list_any is_start notes ≡ false
        → length (fetches (noted (length rows) at s.word notes (events rows))) ≤ 64
    quiet notes none =
        let less = no_more_fetches (length rows) at s.word notes (events rows) none in
        omega (arith, less, few)

    settled : (done : Outcome)
        → are not_start done.notes ≡ true
        → length (fetches
        (noted (length rows) at s.word (settling place s m done).notes (events rows)))
        ≤ 64
    settled done h =
        quiet (settling place s m done).notes
        (never_start (settling place s m done).notes (are-append not_start done.notes _ h refl))

    location : (w : Method) (number : ℕ)
        → length (fetches (noted (length rows) at s.word
        (settling place s m (location_outcome w rows moment s m number)).notes (events rows)))
        ≤ 64
    location w number =
        settled (location_outcome w rows moment s m number)
        (location-notes not_start (λ entry. refl) (λ peer key number octets. refl)
        (λ peer key. refl) w rows moment s m number)

    starts : (x : Event) (past : List Event)
        → length (fetches past) < 64
        → length (started_by x.note) ≤ 1
        → length (fetches (x ∷ past)) ≤ 64
    starts x past room one =
        let less = length-filter (λ p. not (starts_or_ends_fetch x.note p)) (fetches past) in
        let sum =
        length-append (filter (λ p. not (starts_or_ends_fetch x.note p)) (fetches past))
        (started_by x.note) in
        omega (arith, less, sum, room, one)

    simple : (running too_many : Bool)
        → nat_le max_fetches (length (fetches (events rows))) ≡ too_many
        → length (fetches (noted (length rows) at s.word
        (simple_unless (fetch_room running too_many) (events rows) place s m).notes (events rows)))
        ≤ 64
    simple true too_many e = settled (refused codes_of.service_unavailable (codes "fetching")) refl
    simple false true e = settled (refused codes_of.service_unavailable (codes "fetches")) refl
    simple false false e =
        let some : length (fetches (events rows)) < 64 = grind (arith, nat_tests, e) in
        let settles =
        event_at (length rows) at s.word
        (note.Settled place (spelling (answer s m (bare codes_of.changed)))) in
        let less = no_more_fetches (length rows) at s.word (settles.note ∷ []) (events rows) refl in
        starts (event_at (length rows) at s.word (note.Asked s.peer (next_token (events rows))
        (mid_of s.worker (s.drawn + drawn_for m.kind))
        (registration_values (queries_in m)) 0)) (settles ∷ events rows)
        (omega (arith, less, some)) (omega arith)

    by : (p : Path)
        → length (fetches (noted (length rows) at s.word (write_done p rows moment place s m).notes
        (events rows)))
        ≤ 64
    by path.Core = few
    by path.SimpleRd =
        simple (is_fetching s.peer (events rows))
        (nat_le max_fetches (length (fetches (events rows)))) refl
    by path.Rd =
        settled (registering rows moment s m)
        (registering-notes not_start (λ entry. refl) (λ peer key number octets. refl)
        (λ peer key. refl) rows moment s m)
    by (path.Location number) = location (method_of m.code) number
    by path.Res = few
    by path.Ep = few
    by path.Other = few

-- kinds of notes that start none
write_starts : (n : Note) → of_write n ≡ true → is_start n ≡ false
write_starts (note.Asked p token mid params number) h = absurd (false≢true h)
write_starts _ h = refl

empty_starts : (n : Note) → of_empty n ≡ true → is_start n ≡ false
empty_starts (note.Asked p token mid params number) h = absurd (false≢true h)
empty_starts _ h = refl

lookup_starts : (n : Note) → of_lookup n ≡ true → is_start n ≡ false
lookup_starts (note.Asked p token mid params number) h = absurd (false≢true h)
lookup_starts _ h = refl

tick_starts : (n : Note) → of_tick n ≡ true → is_start n ≡ false
tick_starts (note.Asked p token mid params number) h = absurd (false≢true h)
tick_starts _ h = refl

abbrev of_begin : Note → Bool
of_begin (note.Entered entry) = true
of_begin _ = false

begin_starts : (n : Note) → of_begin n ≡ true → is_start n ≡ false
begin_starts (note.Entered entry) h = refl
begin_starts _ h = absurd (false≢true h)

-- No more are fetched from than may be.
pub few_fetches : (rows : List Row) → IsDeskJournal rows → length (fetches (events rows)) ≤ 64
unfolding events fetches row
few_fetches [] begun = omega arith
few_fetches (r ∷ before) (made {rows} s starved journal may) =
    by (effects s.kind starved before (row_moment before s) s).notes (few_fetches before journal)
    (effects-StepNoted s.kind starved before (row_moment before s) s)
  where
    Few : List Note → Type 0
    Few notes =
        length (fetches (noted (length before) (row_moment before s) s.word notes (events before)))
        ≤ 64

    quiet : (notes : List Note)
        → length (fetches (events before)) ≤ 64
        → list_any is_start notes ≡ false
        → Few notes
    quiet notes few none =
        let less =
        no_more_fetches (length before) (row_moment before s) s.word notes (events before)
        none in
        omega (arith, less, few)

    by : (notes : List Note)
        → length (fetches (events before)) ≤ 64
        → StepNoted s.kind starved before (row_moment before s) s notes
        → Few notes
    by notes few (nothing is) = quiet notes few (ap (list_any is_start) is)
    by notes few (write m of read asks is) =
        quiet notes few (none_of of_write is_start write_starts notes (ap (are of_write) is
        ∙ write_effects-notes (events before) (row_moment before s) s m))
    by notes few (lookup m of read asks is) =
        quiet notes few (none_of of_lookup is_start lookup_starts notes
        (ap (are of_lookup) is ∙ lookup_effects-notes before (row_moment before s) s m))
    by notes few (source m of read asks is) =
        quiet notes few (none_of of_lookup is_start lookup_starts notes
        (ap (are of_lookup) is ∙ read_effects-notes before (row_moment before s) s m))
    by notes few (empty of all) = quiet notes few (none_of of_empty is_start empty_starts notes all)
    by notes few (response m of read asks is) =
        quiet notes few (never_start notes
        (ap (are not_start) is ∙ response_starts before (row_moment before s) s m))
    by notes few (commit m place of read is) =
        subst Few (sym is)
        (commit_few before (row_moment before s) place (row_moment before s) s m few)
    by notes few (failed place of is) = quiet notes few (ap (list_any is_start) is)
    by notes few (keep m body current of is) =
        quiet notes few (ap (list_any is_start) (is ∙ keep_effects-notes s m body current))
    by notes few (tick of is) =
        quiet notes few (none_of of_tick is_start tick_starts notes
        (ap (are of_tick) is ∙ tick_effects-notes starved before (row_moment before s) s))
    by notes few (begins first of is) =
        quiet notes few (none_of of_begin is_start begin_starts notes
        (ap (are of_begin) is
        ∙ beginning-notes of_begin (λ entry. refl) starved (entries before)
        (row_moment before s) s first))
