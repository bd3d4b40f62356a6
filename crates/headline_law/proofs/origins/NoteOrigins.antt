-- Where it comes from what a step notes of admissions, uploads, fetches and kept answers that are
-- read: of a request or a response in the datagram of the step.
use Rattle.std.proofs.Common.{
  ◌≡◌,
  ◌⊎◌,
  inl,
  inr,
  ℕ,
  ◌+◌,
  ◌==◌,
  ◌&&◌,
  Bool,
  true,
  false,
  not,
  cond,
  List,
  [],
  ◌∷◌,
  ◌++◌,
  length,
  Option,
  Some,
  None,
  nat_lt,
  nat_le,
  Ok,
  refl,
  sym,
  ap,
  subst,
  ◌∙◌,
}
use Rattle.std.specs.List.{AllByRecursion, IsAmong}
use Rattle.std.proofs.lemmas.Bool.{and_parts, false≢true}
use Rattle.rd_base.specs.declared.parameters.RegParams.{RegParams}
use Rattle.rd_base.specs.declared.peers.Peer.{Peer}
use Rattle.rd_base.proofs.lemmas.Among.{all_at_index}
use Rattle.rd_base.proofs.lemmas.Each.{each_append}
use Rattle.message_model.specs.declared.blocks.Block.{Block}
use Rattle.message_model.specs.declared.messages.Kind4.{Kind4}
use Rattle.message_model.specs.declared.messages.Kind4.TheVariants.{Con, Non, Ack, Rst}
use Rattle.message_model.specs.declared.messages.Role.TheVariants as role
use Rattle.message_model.specs.declared.requests.Path.{Path}
use Rattle.message_model.specs.declared.requests.Path.TheVariants as path
use Rattle.message_model.specs.Message.{Message, Opt, role_of}
use Rattle.message_model.specs.Blocks.{block_of}
use Rattle.message_model.specs.Reading.{reading}
use Rattle.message_model.specs.Request.{path_in, queries_in, observe_in, echo_in}
use Rattle.message_model.specs.RequestKey.{key_in}
use Rattle.message_model.specs.Uploads.{max_body, collected_before, is_one_too_many}
use Rattle.message_model.specs.Responses.{block_in, is_elsewhere}
use Rattle.record_model.specs.Parameters.{registration_values}
use Rattle.history_model.specs.declared.entries.Change.TheVariants as change
use Rattle.history_model.specs.declared.entries.Entry.{Entry}
use Rattle.event_model.specs.declared.notes.Note.{Note}
use Rattle.event_model.specs.declared.notes.Note.TheVariants as note
use Rattle.event_model.specs.Events.{Event}
use Rattle.event_model.specs.Repeats.{repeated, settled, is_full_of_exchanges}
use Rattle.event_model.specs.KeptAnswers.{Answer, kept_answer}
use Rattle.event_model.specs.Observers.{observers, is_observer, has_room_for}
use Rattle.event_model.specs.Uploads.{live_upload, live_uploads}
use Rattle.event_model.specs.Fetches.{
  Request,
  max_fetches,
  next_token,
  fetches,
  is_fetching,
  gathered,
  collected,
}
use Rattle.journal_model.specs.declared.steps.Step.{Step}
use Rattle.journal_model.specs.declared.steps.StepKind.TheVariants as step
use Rattle.journal_model.specs.declared.rows.Row.{Row}
use Rattle.journal_model.specs.Journal.{events, entries}
use Rattle.journal_model.specs.Effects.{answering}
use Rattle.journal_model.specs.Bodies.{is_long}
use Rattle.journal_model.specs.Requests.{
  Method,
  get,
  post,
  put,
  delete,
  other_method,
  method_of,
  sent_block,
  asked_block,
  number_of,
  szx_of,
  query_of,
  is_later_block,
  register,
  deregister,
}
use Rattle.journal_model.specs.Changes.{
  Outcome,
  BodyRead,
  bad_body,
  good_body,
  body_read,
  registered_links,
  registration,
  created_at,
  changed_with,
  number_after,
  entry_of_step,
  replaced_links,
  replacement,
  Purpose,
  to_register,
  to_replace,
  body_used,
}
use Rattle.journal_model.specs.Registrations.{
  block_taken,
  block_unless,
  block_after,
  block_uploaded,
  links_outcome,
  registering,
  replacing,
  block_room,
}
use Rattle.journal_model.specs.Commits.{
  settling,
  simple_unless,
  location_outcome,
  write_done,
  commit_effects,
  fetch_room,
}
use Rattle.journal_model.specs.Looks.{look_effects}
use Rattle.journal_model.specs.Lookups.{
  listing_now,
  found_now,
  block_now,
  block_of_found,
  block_of_kept,
  later_block,
  removal,
  without,
  addition,
  observer_of,
  keeping,
  observed_if,
  observed,
  unobserved,
  observation_effects,
  first_block_effects,
  block_effects,
  lookup_effects,
  read_block_effects,
  read_effects,
  observing_by,
}
use Rattle.journal_model.specs.Writes.{
  again_answered,
  is_fetched_for,
  shows_address,
  is_unproved,
  admitted_unless,
  write_unless,
  write_effects,
}
use Rattle.journal_model.specs.Responses.{
  fetch_of,
  strange,
  acknowledgement,
  more_follow,
  ends_fetch,
  completed,
  gathering,
  response_taken,
  response_to,
  response_to_request,
  response_effects,
  response_use,
}
use Rattle.journal_model.specs.Rows.{effects, row_moment, row, AreRows}
use Rattle.journal_model.specs.PlacedRows.{Within}
use Rattle.journal_model.specs.FetchCompletions.{AnswersFetch}
use Rattle.journal_model.specs.AskedChanges.{IsCollected}
use Rattle.headline_law.specs.NothingInvented.{GoesOnWith, CameInResponse}
use Rattle.journal_model.proofs.NoteKinds.{of_empty, of_tick, are, are-append, are-weaker}
use Rattle.journal_model.proofs.StepNotes.{
  look_effects-notes,
  keep_effects-notes,
  tick_effects-notes,
}
use Rattle.journal_model.proofs.entries.JournalLaws.{RowMade, each_made}
use Rattle.journal_model.proofs.notes.BeginNotes.{beginning-notes}
use Rattle.journal_model.proofs.notes.ChangeNotes.{change_made-notes}
use Rattle.journal_model.proofs.notes.StepTable.{StepNoted, effects-StepNoted}
use Rattle.journal_model.proofs.notes.StepTable as noted

-- ---- what notes say of their step

-- the datagram of the step is a request that is admitted under this Message ID; where it is a
-- simple registration, it answers the challenge of its peer
pub record AdmitsOwn (rows : List Row) (moment : ℕ) (s : Step) (peer : Peer) (mid : ℕ) : Type 0
  where
    pub heard : s.kind ≡ step.Admit
    pub message : Message
    pub read : reading s.datagram ≡ Ok message
    pub asks : role_of message.kind message.code ≡ role.Request
    pub peer_is : peer ≡ s.peer
    pub mid_is : mid ≡ message.mid
    pub shows : path_in message ≡ path.SimpleRd
        → shows_address (echo_in message) moment s.peer (events rows) ≡ true

-- the step commits a write whose request has this key, and whose payload is the block of this
-- number, which goes on with what is collected
pub record PieceOf (rows : List Row) (moment : ℕ) (s : Step) (peer : Peer) (key : List ℕ)
    (number : ℕ) (octets : List ℕ) : Type 0 where
  pub place : ℕ
  pub commits : s.kind ≡ step.Commit place
  pub message : Message
  pub read : reading s.datagram ≡ Ok message
  pub peer_is : peer ≡ s.peer
  pub key_is : key ≡ key_in message
  pub block : Block
  pub block_is : sent_block message ≡ Some block
  pub number_is : number ≡ block.num
  pub more : block.more ≡ true
  pub collected : List ℕ
  pub joins : IsCollected (Some block) rows moment s message collected
  pub octets_are : octets ≡ message.payload

-- the step hears a request for a block above 0 with this key, of which an answer is kept
pub record ReadsKept (rows : List Row) (moment : ℕ) (s : Step) (peer : Peer) (key : List ℕ) : Type 0
  where
    pub heard : s.kind ≡ step.Admit
    pub message : Message
    pub read : reading s.datagram ≡ Ok message
    pub further : is_later_block message ≡ true
    pub peer_is : s.peer ≡ peer
    pub key_is : key_in message ≡ key
    pub answer : Answer
    pub found : kept_answer moment (s.peer, key_in message) (events rows) ≡ Some answer

-- the step commits a simple registration with these parameters, and this is the first block
pub record StartsHere (rows : List Row) (s : Step) (peer : Peer) (token : List ℕ)
    (params : RegParams) (number : ℕ) : Type 0 where
  pub place : ℕ
  pub commits : s.kind ≡ step.Commit place
  pub message : Message
  pub read : reading s.datagram ≡ Ok message
  pub simple : path_in message ≡ path.SimpleRd
  pub peer_is : peer ≡ s.peer
  pub params_are : params ≡ registration_values (queries_in message)
  pub token_is : token ≡ next_token (events rows)
  pub none_runs : is_fetching s.peer (events rows) ≡ false
  pub room : nat_le max_fetches (length (fetches (events rows))) ≡ false
  pub first : number ≡ 0

-- where a note of a step comes from, after rows at a moment
abbrev pub NoteOrigin : List Row → ℕ → Step → Note → Type 0
NoteOrigin rows moment s (note.Admitted peer mid) = AdmitsOwn rows moment s peer mid
NoteOrigin rows moment s (note.Piece peer key number octets) =
    PieceOf rows moment s peer key number octets
NoteOrigin rows moment s (note.Used peer key) = ReadsKept rows moment s peer key
NoteOrigin rows moment s (note.Asked peer token mid params number) =
    StartsHere rows s peer token params number ⊎ GoesOnWith rows s peer token params number
NoteOrigin rows moment s (note.Gathered peer octets tag) = CameInResponse rows s peer octets tag
NoteOrigin rows moment s _ = Unit {0}

-- of all notes
abbrev pub NoteOrigins : List Row → ℕ → Step → List Note → Type 0
NoteOrigins rows moment s notes = AllByRecursion (NoteOrigin rows moment s) notes

-- ---- other notes

-- the note says nothing of that
abbrev pub is_silent : Note → Bool
is_silent (note.Admitted peer mid) = false
is_silent (note.Piece peer key number octets) = false
is_silent (note.Used peer key) = false
is_silent (note.Asked peer token mid params number) = false
is_silent (note.Gathered peer octets tag) = false
is_silent _ = true

silent : (rows : List Row) (moment : ℕ) (s : Step) (notes : List Note)
    → are is_silent notes ≡ true
    → NoteOrigins rows moment s notes
silent rows moment s [] h = tt
silent rows moment s (n ∷ notes) h =
    let both = and_parts (is_silent n) (are is_silent notes) h in
    (by n both.0, silent rows moment s notes both.1)
  where
    by : (x : Note) → is_silent x ≡ true → NoteOrigin rows moment s x
    by (note.Admitted peer mid) e = absurd (false≢true e)
    by (note.Piece peer key number octets) e = absurd (false≢true e)
    by (note.Used peer key) e = absurd (false≢true e)
    by (note.Asked peer token mid params number) e = absurd (false≢true e)
    by (note.Gathered peer octets tag) e = absurd (false≢true e)
    by _ e = tt

-- notes of a kind that says nothing
silent_of : (kind : Note → Bool)
    → ((n : Note) → kind n ≡ true → is_silent n ≡ true)
    → (rows : List Row) (moment : ℕ) (s : Step) (notes : List Note)
    → are kind notes ≡ true
    → NoteOrigins rows moment s notes
silent_of kind never rows moment s notes h =
    silent rows moment s notes (are-weaker kind is_silent never notes h)

-- no notes
none_noted : (rows : List Row) (moment : ℕ) (s : Step) (notes : List Note)
    → notes ≡ []
    → NoteOrigins rows moment s notes
none_noted rows moment s notes none = subst (NoteOrigins rows moment s) (sym none) tt

-- ---- writes as they are heard

-- what is not unproved shows its address
shown_by : (events : List Event) (moment : ℕ) (s : Step) (m : Message)
    → is_unproved events moment s m ≡ false
    → path_in m ≡ path.SimpleRd
    → shows_address (echo_in m) moment s.peer events ≡ true
shown_by events moment s m proved simple =
    by (shows_address (echo_in m) moment s.peer events)
    (sym (ap (λ (p : Path).
    is_fetched_for p && not (shows_address (echo_in m) moment s.peer events)) simple)
    ∙ proved)
  where
    by : (b : Bool) → (true && not b) ≡ false → b ≡ true
    by true e = refl
    by false e = absurd (false≢true (sym e))

write_origins : (rows : List Row) (moment : ℕ) (s : Step) (m : Message)
    → s.kind ≡ step.Admit
    → reading s.datagram ≡ Ok m
    → role_of m.kind m.code ≡ role.Request
    → NoteOrigins rows moment s (write_effects (events rows) moment s m).notes
unfolding write_effects answering
write_origins rows moment s m here read asks = by (repeated moment s.peer m.mid (events rows))
  where
    again : (octets : Option (List ℕ))
        → NoteOrigins rows moment s (again_answered s octets).notes
    again None = tt
    again (Some octets) = tt

    new : (full unproved : Bool)
        → is_unproved (events rows) moment s m ≡ unproved
        → NoteOrigins rows moment s (admitted_unless full unproved (events rows) s m).notes
    new true unproved e = tt
    new false true e = (tt, tt)
    new false false e = (
      record {
        heard = here;
        message = m;
        read = read;
        asks = asks;
        peer_is = refl;
        mid_is = refl;
        shows = shown_by (events rows) moment s m e;
      },
      tt,
    )

    by : (first : Option Event)
        → NoteOrigins rows moment s (write_unless first (events rows) moment s m).notes
    by (Some first) = again (settled first.place (events rows))
    by None =
        new (is_full_of_exchanges moment (events rows)) (is_unproved (events rows) moment s m) refl

-- ---- lookups and reads of a registration

later_origins : (rows : List Row) (moment : ℕ) (s : Step) (m : Message)
    → s.kind ≡ step.Admit
    → reading s.datagram ≡ Ok m
    → is_later_block m ≡ true
    → NoteOrigins rows moment s (later_block rows moment s m).notes
unfolding later_block answering
later_origins rows moment s m here read later =
    by (found_now rows moment m) (kept_answer moment (s.peer, key_in m) (events rows)) refl
  where
    part_of : (a : Answer) (part : Option (List ℕ × Bool))
        → NoteOrigins rows moment s (block_now s m a part).notes
    part_of a None = tt
    part_of a (Some part) = (tt, tt)

    fresh : (found : Option Answer) → NoteOrigins rows moment s (block_of_found s m found).notes
    fresh None = tt
    fresh (Some a) =
        part_of a (block_of a.body (number_of (asked_block m)) (szx_of (asked_block m)))

    by : (found kept : Option Answer)
        → kept_answer moment (s.peer, key_in m) (events rows) ≡ kept
        → NoteOrigins rows moment s (block_of_kept s m found kept).notes
    by found (Some answer) is = (
      record {
        heard = here;
        message = m;
        read = read;
        further = later;
        peer_is = refl;
        key_is = refl;
        answer = answer;
        found = is;
      },
      tt,
    )
    by found None is = fresh found

look_origins : (rows : List Row) (moment : ℕ) (s : Step) (m : Message)
    → NoteOrigins rows moment s (look_effects (entries rows) moment s m).notes
look_origins rows moment s m =
    none_noted rows moment s _ (look_effects-notes (entries rows) moment s m)

read_origins : (rows : List Row) (moment : ℕ) (s : Step) (m : Message)
    → s.kind ≡ step.Admit
    → reading s.datagram ≡ Ok m
    → NoteOrigins rows moment s (read_effects rows moment s m).notes
unfolding read_effects
read_origins rows moment s m here read = by (is_later_block m) refl
  where
    by : (b : Bool)
        → is_later_block m ≡ b
        → NoteOrigins rows moment s (read_block_effects b rows moment s m).notes
    by true later = later_origins rows moment s m here read later
    by false first = look_origins rows moment s m

lookup_origins : (rows : List Row) (moment : ℕ) (s : Step) (m : Message)
    → s.kind ≡ step.Admit
    → reading s.datagram ≡ Ok m
    → NoteOrigins rows moment s (lookup_effects rows moment s m).notes
unfolding lookup_effects observed unobserved answering
lookup_origins rows moment s m here read = by (is_later_block m) refl
  where
    removed : (b : Bool) → are is_silent (cond b (note.Unwatched s.peer m.token ∷ []) []) ≡ true
    removed true = refl
    removed false = refl

    keeps : (b : Bool) (a : Answer)
        → are is_silent (cond b (note.Kept s.peer (key_in m) a.body a.tag ∷ []) []) ≡ true
    keeps true a = refl
    keeps false a = refl

    added : (b : Bool) (a : Answer) → are is_silent (observed_if b rows s m a).notes ≡ true
    added true a =
        are-append is_silent (removal (s.peer, m.token) (observers (events rows)))
        (addition (observer_of s m) a.body ++ keeping s m a)
        (removed (is_observer (s.peer, m.token) (observers (events rows))))
        (are-append is_silent (addition (observer_of s m) a.body) (keeping s m a) refl
        (keeps (is_long (asked_block m) a.body) a))
    added false a =
        are-append is_silent (removal (s.peer, m.token) (observers (events rows))) (keeping s m a)
        (removed (is_observer (s.peer, m.token) (observers (events rows))))
        (keeps (is_long (asked_block m) a.body) a)

    now : Answer
    now = listing_now rows moment m

    valued : (b c : Bool)
        → NoteOrigins rows moment s (observation_effects (observing_by b c) rows moment s m).notes
    valued true c =
        silent rows moment s _
        (added (has_room_for (query_of m) (without (s.peer, m.token) (observers (events rows))))
        (listing_now rows moment m))
    valued false true = silent rows moment s _ (added false (listing_now rows moment m))
    valued false false = look_origins rows moment s m

    observe : (o : Option ℕ)
        → NoteOrigins rows moment s (first_block_effects o rows moment s m).notes
    observe None = look_origins rows moment s m
    observe (Some value) = valued (value == register) (value == deregister)

    by : (b : Bool)
        → is_later_block m ≡ b
        → NoteOrigins rows moment s (block_effects b rows moment s m).notes
    by true later = later_origins rows moment s m here read later
    by false first = observe (observe_in m)

-- ---- bodies

pub registration_silent : (history : List Entry) (moment : ℕ) (s : Step) (params : RegParams)
    (body : List ℕ) (further : List Opt) (notes : List Note)
    → are is_silent notes ≡ true
    → are is_silent (registration history moment s params body further notes).notes ≡ true
unfolding registration
registration_silent history moment s params body further notes h = by (body_read body)
  where
    by : (read : BodyRead)
        → are is_silent (registered_links history moment s params further notes read).notes ≡ true
    by (bad_body word) = refl
    by (good_body links) =
        let entry : Entry = entry_of_step moment s (change.Register params links) in
        change_made-notes is_silent (λ e. refl) history entry
        (record {
          reply = created_at (number_after params.name moment (history ++ entry ∷ []))
              further;
          notes = notes;
        }) h

replacement_silent : (history : List Entry) (moment : ℕ) (s : Step) (number : ℕ) (body : List ℕ)
    (further : List Opt) (notes : List Note)
    → are is_silent notes ≡ true
    → are is_silent (replacement history moment s number body further notes).notes ≡ true
unfolding replacement
replacement_silent history moment s number body further notes h = by (body_read body)
  where
    by : (read : BodyRead)
        → are is_silent (replaced_links history moment s number further notes read).notes ≡ true
    by (bad_body word) = refl
    by (good_body links) =
        change_made-notes is_silent (λ e. refl) history
        (entry_of_step moment s (change.Replace number links))
        (record { reply = changed_with further; notes = notes }) h

body_silent : (purpose : Purpose) (history : List Entry) (moment : ℕ) (s : Step) (body : List ℕ)
    (further : List Opt) (notes : List Note)
    → are is_silent notes ≡ true
    → are is_silent (body_used purpose history moment s body further notes).notes ≡ true
body_silent (to_register params) history moment s body further notes h =
    registration_silent history moment s params body further notes h
body_silent (to_replace number) history moment s body further notes h =
    replacement_silent history moment s number body further notes h

-- links that come whole, or a block of them
links_origins : (purpose : Purpose) (rows : List Row) (moment place : ℕ) (s : Step) (m : Message)
    → s.kind ≡ step.Commit place
    → reading s.datagram ≡ Ok m
    → NoteOrigins rows moment s (links_outcome (sent_block m) purpose rows moment s m).notes
unfolding block_uploaded
links_origins purpose rows moment place s m here read = by (sent_block m) refl
  where
    taken : (more : Bool) (b : Block) (front body : List ℕ)
        → sent_block m ≡ Some b
        → b.more ≡ more
        → IsCollected (Some b) rows moment s m front
        → NoteOrigins rows moment s (block_taken more purpose rows moment s m b body).notes
    taken true b front body is follows joins = (
      record {
        place = place;
        commits = here;
        message = m;
        read = read;
        peer_is = refl;
        key_is = refl;
        block = b;
        block_is = is;
        number_is = refl;
        more = follows;
        collected = front;
        joins = joins;
        octets_are = refl;
      },
      tt,
    )
    taken false b front body is follows joins =
        silent rows moment s _
        (body_silent purpose (entries rows) moment s body _ (note.Finished s.peer (key_in m) ∷ [])
        refl)

    unless : (too_long too_many : Bool) (b : Block) (front body : List ℕ)
        → sent_block m ≡ Some b
        → IsCollected (Some b) rows moment s m front
        → NoteOrigins rows moment s
        (block_unless (block_room too_long too_many) purpose rows moment s m b body).notes
    unless true too_many b front body is joins = tt
    unless false true b front body is joins = tt
    unless false false b front body is joins = taken b.more b front body is refl joins

    after : (front upload : Option (List ℕ)) (b : Block)
        → sent_block m ≡ Some b
        → collected_before b (live_upload moment (s.peer, key_in m) (events rows)) ≡ front
        → NoteOrigins rows moment s (block_after front upload purpose rows moment s m b).notes
    after None upload b is joins = tt
    after (Some front) upload b is joins =
        unless (nat_lt max_body (length front + length m.payload))
        (is_one_too_many b upload (live_uploads moment (events rows))) b front
        (front ++ m.payload) is joins

    by : (b : Option Block)
        → sent_block m ≡ b
        → NoteOrigins rows moment s (links_outcome b purpose rows moment s m).notes
    by None is =
        silent rows moment s _
        (body_silent purpose (entries rows) moment s m.payload [] [] refl)
    by (Some b) is =
        let upload : Option (List ℕ) = live_upload moment (s.peer, key_in m) (events rows) in
        after (collected_before b upload) upload b is refl

-- ---- commits

location_origins : (w : Method) (rows : List Row) (moment place : ℕ) (s : Step) (m : Message)
    (number : ℕ)
    → s.kind ≡ step.Commit place
    → reading s.datagram ≡ Ok m
    → NoteOrigins rows moment s (location_outcome w rows moment s m number).notes
unfolding replacing
location_origins get rows moment place s m number here read = tt
location_origins post rows moment place s m number here read =
    silent rows moment s _ (change_made-notes is_silent (λ e. refl) (entries rows) _ _ refl)
location_origins put rows moment place s m number here read =
    links_origins (to_replace number) rows moment place s m here read
location_origins delete rows moment place s m number here read =
    silent rows moment s _ (change_made-notes is_silent (λ e. refl) (entries rows) _ _ refl)
location_origins other_method rows moment place s m number here read = tt

commit_origins : (rows : List Row) (moment place : ℕ) (s : Step) (m : Message)
    → s.kind ≡ step.Commit place
    → reading s.datagram ≡ Ok m
    → NoteOrigins rows moment s (commit_effects rows moment place s m).notes
unfolding commit_effects answering registering
commit_origins rows moment place s m here read = by (path_in m) refl
  where
    settles : (done : Outcome)
        → NoteOrigins rows moment s done.notes
        → NoteOrigins rows moment s (settling place s m done).notes
    settles done h = each_append (NoteOrigin rows moment s) done.notes _ h (tt, tt)

    simple : (running too_many : Bool)
        → is_fetching s.peer (events rows) ≡ running
        → nat_le max_fetches (length (fetches (events rows))) ≡ too_many
        → path_in m ≡ path.SimpleRd
        → NoteOrigins rows moment s
        (simple_unless (fetch_room running too_many) (events rows) place s m).notes
    simple true too_many runs many at = (tt, tt)
    simple false true runs many at = (tt, tt)
    simple false false runs many at = (
      tt,
      (
        inl (record {
          place = place;
          commits = here;
          message = m;
          read = read;
          simple = at;
          peer_is = refl;
          params_are = refl;
          token_is = refl;
          none_runs = runs;
          room = many;
          first = refl;
        }),
        tt,
      ),
    )

    by : (p : Path)
        → path_in m ≡ p
        → NoteOrigins rows moment s (write_done p rows moment place s m).notes
    by path.Core at = tt
    by path.SimpleRd at =
        simple (is_fetching s.peer (events rows))
        (nat_le max_fetches (length (fetches (events rows)))) refl refl at
    by path.Rd at =
        settles (registering rows moment s m)
        (links_origins (to_register (registration_values (queries_in m))) rows moment place s m here
        read)
    by (path.Location number) at =
        settles (location_outcome (method_of m.code) rows moment s m number)
        (location_origins (method_of m.code) rows moment place s m number here read)
    by path.Res at = tt
    by path.Ep at = tt
    by path.Other at = tt

-- ---- responses

response_origins : (rows : List Row) (moment : ℕ) (s : Step) (m : Message)
    → s.kind ≡ step.Admit
    → reading s.datagram ≡ Ok m
    → role_of m.kind m.code ≡ role.Response
    → NoteOrigins rows moment s (response_effects rows moment s m).notes
unfolding response_effects
response_origins rows moment s m here read responds = by (fetch_of s m (events rows)) refl
  where
    answers : (request : Request)
        → fetch_of s m (events rows) ≡ Some request
        → AnswersFetch rows s
    answers request is = record {
      kind = here;
      message = m;
      read = read;
      response = responds;
      request = request;
      fetch = is;
    }

    foreign : (k : Kind4) → NoteOrigins rows moment s (strange s m k).notes
    foreign Con = tt
    foreign Non = tt
    foreign Ack = tt
    foreign Rst = tt

    acknowledged : (k : Kind4) → NoteOrigins rows moment s (acknowledgement s m k).notes
    acknowledged Con = tt
    acknowledged Non = tt
    acknowledged Ack = tt
    acknowledged Rst = tt

    whole : (request : Request) (body : List ℕ)
        → NoteOrigins rows moment s (completed rows moment s request body).notes
    whole request body =
        each_append (NoteOrigin rows moment s)
        (registration (entries rows) moment s request.params body [] []).notes
        (note.Ceased s.peer ∷ [])
        (silent rows moment s _
        (registration_silent (entries rows) moment s request.params body [] [] refl)) (tt, tt)

    gathers : (more : Bool) (b : Option Block) (request : Request)
        → more_follow b ≡ more
        → block_in m ≡ b
        → is_elsewhere (block_in m) (length (collected s.peer (events rows))) ≡ false
        → ends_fetch m (gathered s.peer (events rows)) (length (collected s.peer (events rows)))
        ≡ false
        → fetch_of s m (events rows) ≡ Some request
        → NoteOrigins rows moment s (gathering more b rows moment s m request).notes
    gathers more None request e at joins whole_so_far is =
        whole request (collected s.peer (events rows) ++ m.payload)
    gathers false (Some b) request e at joins whole_so_far is =
        whole request (collected s.peer (events rows) ++ m.payload)
    gathers true (Some b) request e at joins whole_so_far is = (
      record {
        answers = answers request is;
        peer_is = refl;
        octets_are = refl;
        tag_is = refl;
        joins = joins;
        whole = whole_so_far;
        more = ap (λ (x : Option Block). more_follow x) at ∙ e;
      },
      (
        inr (record {
          answers = answers request is;
          peer_is = refl;
          token_is = refl;
          params_are = refl;
          block = b;
          block_is = at;
          more = e;
          next = refl;
        }),
        tt,
      ),
    )

    taken : (elsewhere over : Bool) (request : Request)
        → is_elsewhere (block_in m) (length (collected s.peer (events rows))) ≡ elsewhere
        → ends_fetch m (gathered s.peer (events rows)) (length (collected s.peer (events rows)))
        ≡ over
        → fetch_of s m (events rows) ≡ Some request
        → NoteOrigins rows moment s
        (response_taken (response_use elsewhere over) rows moment s m request).notes
    taken true over request joins whole_so_far is = tt
    taken false true request joins whole_so_far is = (tt, tt)
    taken false false request joins whole_so_far is =
        gathers (more_follow (block_in m)) (block_in m) request refl refl joins whole_so_far is

    by : (request : Option Request)
        → fetch_of s m (events rows) ≡ request
        → NoteOrigins rows moment s (response_to_request request rows moment s m).notes
    by None is = foreign m.kind
    by (Some request) is =
        each_append (NoteOrigin rows moment s) (acknowledgement s m m.kind).notes
        (response_to rows moment s m request).notes (acknowledged m.kind)
        (taken (is_elsewhere (block_in m) (length (collected s.peer (events rows))))
        (ends_fetch m (gathered s.peer (events rows)) (length (collected s.peer (events rows))))
        request refl refl is)

-- ---- any step

pub effects-NoteOrigins : (starved : Bool) (rows : List Row) (moment : ℕ) (s : Step)
    → NoteOrigins rows moment s (effects s.kind starved rows moment s).notes
effects-NoteOrigins starved rows moment s =
    by (effects s.kind starved rows moment s).notes
    (effects-StepNoted s.kind starved rows moment s)
  where
    of_ticks : (n : Note) → of_tick n ≡ true → is_silent n ≡ true
    of_ticks (note.Unwatched peer token) h = refl
    of_ticks (note.Again peer mid) h = refl
    of_ticks (note.Formed peer token body mid) h = refl
    of_ticks (note.Kept peer key body tag) h = refl
    of_ticks (note.Unchanged peer token) h = refl
    of_ticks (note.Resent peer) h = refl
    of_ticks (note.Ceased peer) h = refl
    of_ticks _ h = absurd (false≢true h)

    of_empties : (n : Note) → of_empty n ≡ true → is_silent n ≡ true
    of_empties (note.Landed peer mid) h = refl
    of_empties (note.Unwatched peer token) h = refl
    of_empties (note.Waiting peer) h = refl
    of_empties (note.Ceased peer) h = refl
    of_empties _ h = absurd (false≢true h)

    as_noted : (ns more : List Note)
        → ns ≡ more
        → NoteOrigins rows moment s more
        → NoteOrigins rows moment s ns
    as_noted ns more is h = subst (NoteOrigins rows moment s) (sym is) h

    by : (ns : List Note) → StepNoted s.kind starved rows moment s ns → NoteOrigins rows moment s ns
    by ns (noted.nothing blank) = none_noted rows moment s ns blank
    by ns (noted.write m here read asks is) =
        as_noted ns _ is (write_origins rows moment s m here read asks)
    by ns (noted.lookup m here read at is) =
        as_noted ns _ is (lookup_origins rows moment s m here read)
    by ns (noted.source m here read at is) =
        as_noted ns _ is (read_origins rows moment s m here read)
    by ns (noted.empty here all) = silent_of of_empty of_empties rows moment s ns all
    by ns (noted.response m here read responds is) =
        as_noted ns _ is (response_origins rows moment s m here read responds)
    by ns (noted.commit m place commits read is) =
        as_noted ns _ is (commit_origins rows moment place s m commits read)
    by ns (noted.failed place commits is) = as_noted ns _ is (tt, tt)
    by ns (noted.keep m body tag keeps is) =
        as_noted ns _ (is ∙ keep_effects-notes s m body tag) (tt, tt)
    by ns (noted.tick ticks is) =
        silent_of of_tick of_ticks rows moment s ns
        (ap (are of_tick) is ∙ tick_effects-notes starved rows moment s)
    by ns (noted.begins first begins is) =
        silent rows moment s ns
        (ap (are is_silent) is
        ∙ beginning-notes is_silent (λ entry. refl) starved (entries rows) moment s first)

-- the notes of the row of a step
pub row-NoteOrigins : (rows : List Row) (s : Step) (starved : Bool)
    → NoteOrigins rows (row rows s starved).moment.0 (row rows s starved).step
    (row rows s starved).notes
unfolding row
row-NoteOrigins rows s starved = effects-NoteOrigins starved rows (row_moment rows s) s

-- all notes of it
pub row_origins : (rows before : List Row) (r : Row)
    → AreRows rows
    → Within rows before r
    → NoteOrigins before r.moment.0 r.step r.notes
row_origins rows before r all within =
    let it : RowMade before r = each_made rows before r all within in
    subst (λ (x : Row). NoteOrigins before x.moment.0 x.step x.notes) (sym it.is)
    (row-NoteOrigins before it.step it.starved)

-- a note of a row among rows of steps
pub origin_of : (rows before : List Row) (r : Row) (n : Note)
    → AreRows rows
    → Within rows before r
    → IsAmong r.notes n
    → NoteOrigin before r.moment.0 r.step n
origin_of rows before r n all within among =
    all_at_index (NoteOrigin before r.moment.0 r.step) r.notes n among
    (row_origins rows before r all within)
