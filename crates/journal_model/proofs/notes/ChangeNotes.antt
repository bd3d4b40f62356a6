-- What commits and responses note.
use Rattle.std.proofs.Common.{
  ◌≡◌,
  ℕ,
  ◌+◌,
  Bool,
  true,
  false,
  List,
  [],
  ◌∷◌,
  ◌++◌,
  length,
  Option,
  Some,
  None,
  refl,
  nat_lt,
  nat_le,
}
use Rattle.std.proofs.lemmas.Bool.{and_from, and_parts, false≢true}
use Rattle.rd_base.specs.declared.parameters.RegParams.{RegParams}
use Rattle.rd_base.specs.declared.peers.Peer.{Peer}
use Rattle.message_model.specs.declared.blocks.Block.{Block}
use Rattle.message_model.specs.declared.messages.Kind4.{Kind4}
use Rattle.message_model.specs.declared.messages.Kind4.TheVariants.{Con, Non, Ack, Rst}
use Rattle.message_model.specs.declared.requests.Path.{Path}
use Rattle.message_model.specs.declared.requests.Path.TheVariants as path
use Rattle.message_model.specs.Message.{Message, Opt}
use Rattle.message_model.specs.Request.{path_in, queries_in}
use Rattle.message_model.specs.RequestKey.{key_in}
use Rattle.message_model.specs.Uploads.{max_body, collected_before, is_one_too_many}
use Rattle.message_model.specs.Responses.{block_in, is_elsewhere}
use Rattle.record_model.specs.Parameters.{registration_values}
use Rattle.history_model.specs.declared.entries.Change.TheVariants as change
use Rattle.history_model.specs.declared.entries.Entry.{Entry}
use Rattle.history_model.specs.declared.refusals.Refusal.{Refusal}
use Rattle.history_model.specs.declared.refusals.Refusal.TheVariants as refusal
use Rattle.history_model.specs.Refusals.{change_refusal}
use Rattle.event_model.specs.declared.notes.Note.{Note}
use Rattle.event_model.specs.declared.notes.Note.TheVariants as note
use Rattle.event_model.specs.Uploads.{live_upload, live_uploads}
use Rattle.event_model.specs.Fetches.{
  Request,
  max_fetches,
  fetches,
  is_fetching,
  gathered,
  collected,
}
use Rattle.journal_model.specs.declared.steps.Step.{Step}
use Rattle.journal_model.specs.declared.rows.Row.{Row}
use Rattle.journal_model.specs.Journal.{events, entries}
use Rattle.journal_model.specs.Effects.{answering}
use Rattle.journal_model.specs.Requests.{
  Method,
  get,
  post,
  put,
  delete,
  other_method,
  method_of,
  sent_block,
}
use Rattle.journal_model.specs.Changes.{
  Outcome,
  refused_as,
  entered_unless,
  change_made,
  BodyRead,
  bad_body,
  good_body,
  body_read,
  registered_links,
  registration,
  created_at,
  changed_with,
  number_after,
  entry_of_step,
  replaced_links,
  replacement,
  Purpose,
  to_register,
  to_replace,
  body_used,
}
use Rattle.journal_model.specs.Registrations.{
  block_taken,
  block_unless,
  block_after,
  block_uploaded,
  links_outcome,
  registering,
  replacing,
  block_room,
}
use Rattle.journal_model.specs.Commits.{
  settling,
  simple_unless,
  location_outcome,
  write_done,
  commit_effects,
  fetch_room,
}
use Rattle.journal_model.specs.Responses.{
  fetch_of,
  strange,
  acknowledgement,
  more_follow,
  ends_fetch,
  completed,
  gathering,
  response_taken,
  response_to,
  response_to_request,
  response_effects,
  response_use,
}
use Rattle.journal_model.proofs.NoteKinds.{of_commit, of_response, are, are-append}

-- a change, where what is noted beside its entry is of a kind that entries are of too
pub change_made-notes : (kind : Note → Bool)
    → ((entry : Entry) → kind (note.Entered entry) ≡ true)
    → (history : List Entry) (entry : Entry) (done : Outcome)
    → are kind done.notes ≡ true
    → are kind (change_made history entry done).notes ≡ true
change_made-notes kind entered history entry done h = by (change_refusal 0 history entry)
  where
    refused : (why : Refusal) → are kind (refused_as why).notes ≡ true
    refused refusal.Registration = refl
    refused refusal.Registrations = refl
    refused refusal.Text = refl
    refused refusal.Entries = refl

    by : (why : Option Refusal) → are kind (entered_unless why entry done).notes ≡ true
    by (Some why) = refused why
    by None = and_from (kind (note.Entered entry)) (are kind done.notes) (entered entry) h

-- a registration of a whole body
registration-notes : (kind : Note → Bool)
    → ((entry : Entry) → kind (note.Entered entry) ≡ true)
    → (history : List Entry) (moment : ℕ) (s : Step) (params : RegParams) (body : List ℕ)
    (further : List Opt) (notes : List Note)
    → are kind notes ≡ true
    → are kind (registration history moment s params body further notes).notes ≡ true
unfolding registration
registration-notes kind entered history moment s params body further notes h = by (body_read body)
  where
    by : (read : BodyRead)
        → are kind (registered_links history moment s params further notes read).notes ≡ true
    by (bad_body word) = refl
    by (good_body links) =
        let entry : Entry = entry_of_step moment s (change.Register params links) in
        change_made-notes kind entered history entry
        (record {
          reply = created_at (number_after params.name moment (history ++ entry ∷ []))
              further;
          notes = notes;
        }) h

-- a replacement of links by those of a whole body
replacement-notes : (kind : Note → Bool)
    → ((entry : Entry) → kind (note.Entered entry) ≡ true)
    → (history : List Entry) (moment : ℕ) (s : Step) (number : ℕ) (body : List ℕ)
    (further : List Opt) (notes : List Note)
    → are kind notes ≡ true
    → are kind (replacement history moment s number body further notes).notes ≡ true
unfolding replacement
replacement-notes kind entered history moment s number body further notes h = by (body_read body)
  where
    by : (read : BodyRead)
        → are kind (replaced_links history moment s number further notes read).notes ≡ true
    by (bad_body word) = refl
    by (good_body links) =
        change_made-notes kind entered history
        (entry_of_step moment s (change.Replace number links))
        (record { reply = changed_with further; notes = notes }) h

-- a whole body, by what its links are for
body_used-notes : (kind : Note → Bool)
    → ((entry : Entry) → kind (note.Entered entry) ≡ true)
    → (purpose : Purpose) (history : List Entry) (moment : ℕ) (s : Step) (body : List ℕ)
    (further : List Opt) (notes : List Note)
    → are kind notes ≡ true
    → are kind (body_used purpose history moment s body further notes).notes ≡ true
body_used-notes kind entered (to_register params) history moment s body further notes h =
    registration-notes kind entered history moment s params body further notes h
body_used-notes kind entered (to_replace number) history moment s body further notes h =
    replacement-notes kind entered history moment s number body further notes h

-- links that come whole, or a block of them, where what may be noted is of a kind
links_outcome-notes : (kind : Note → Bool)
    → ((entry : Entry) → kind (note.Entered entry) ≡ true)
    → ((peer : Peer) (key : List ℕ) (number : ℕ) (octets : List ℕ)
    → kind (note.Piece peer key number octets) ≡ true)
    → ((peer : Peer) (key : List ℕ) → kind (note.Finished peer key) ≡ true)
    → (block : Option Block) (purpose : Purpose) (rows : List Row) (moment : ℕ) (s : Step)
    (m : Message)
    → are kind (links_outcome block purpose rows moment s m).notes ≡ true
unfolding block_uploaded
links_outcome-notes kind entered piece finished block purpose rows moment s m = by block
  where
    taken : (more : Bool) (b : Block) (body : List ℕ)
        → are kind (block_taken more purpose rows moment s m b body).notes ≡ true
    taken true b body =
        and_from (kind (note.Piece s.peer (key_in m) b.num m.payload)) true
        (piece s.peer (key_in m) b.num m.payload) refl
    taken false b body =
        body_used-notes kind entered purpose (entries rows) moment s body _
        (note.Finished s.peer (key_in m) ∷ [])
        (and_from (kind (note.Finished s.peer (key_in m))) true (finished s.peer (key_in m)) refl)

    unless : (too_long too_many : Bool) (b : Block) (body : List ℕ)
        → are kind (block_unless (block_room too_long too_many) purpose rows moment s m b
        body).notes ≡ true
    unless true too_many b body = refl
    unless false true b body = refl
    unless false false b body = taken b.more b body

    after : (front upload : Option (List ℕ)) (b : Block)
        → are kind (block_after front upload purpose rows moment s m b).notes ≡ true
    after None upload b = refl
    after (Some front) upload b =
        unless (nat_lt max_body (length front + length m.payload))
        (is_one_too_many b upload (live_uploads moment (events rows))) b (front ++ m.payload)

    by : (b : Option Block) → are kind (links_outcome b purpose rows moment s m).notes ≡ true
    by None = body_used-notes kind entered purpose (entries rows) moment s m.payload [] [] refl
    by (Some b) =
        let upload : Option (List ℕ) = live_upload moment (s.peer, key_in m) (events rows) in
        after (collected_before b upload) upload b

-- a registration, and a replacement of links
pub registering-notes : (kind : Note → Bool)
    → ((entry : Entry) → kind (note.Entered entry) ≡ true)
    → ((peer : Peer) (key : List ℕ) (number : ℕ) (octets : List ℕ)
    → kind (note.Piece peer key number octets) ≡ true)
    → ((peer : Peer) (key : List ℕ) → kind (note.Finished peer key) ≡ true)
    → (rows : List Row) (moment : ℕ) (s : Step) (m : Message)
    → are kind (registering rows moment s m).notes ≡ true
unfolding registering
registering-notes kind entered piece finished rows moment s m =
    links_outcome-notes kind entered piece finished (sent_block m)
    (to_register (registration_values (queries_in m))) rows moment s m

pub replacing-notes : (kind : Note → Bool)
    → ((entry : Entry) → kind (note.Entered entry) ≡ true)
    → ((peer : Peer) (key : List ℕ) (number : ℕ) (octets : List ℕ)
    → kind (note.Piece peer key number octets) ≡ true)
    → ((peer : Peer) (key : List ℕ) → kind (note.Finished peer key) ≡ true)
    → (rows : List Row) (moment : ℕ) (s : Step) (m : Message) (number : ℕ)
    → are kind (replacing rows moment s m number).notes ≡ true
unfolding replacing
replacing-notes kind entered piece finished rows moment s m number =
    links_outcome-notes kind entered piece finished (sent_block m) (to_replace number) rows moment s
    m

-- a write on a registration
pub location-notes : (kind : Note → Bool)
    → ((entry : Entry) → kind (note.Entered entry) ≡ true)
    → ((peer : Peer) (key : List ℕ) (number : ℕ) (octets : List ℕ)
    → kind (note.Piece peer key number octets) ≡ true)
    → ((peer : Peer) (key : List ℕ) → kind (note.Finished peer key) ≡ true)
    → (w : Method) (rows : List Row) (moment : ℕ) (s : Step) (m : Message) (number : ℕ)
    → are kind (location_outcome w rows moment s m number).notes ≡ true
location-notes kind entered piece finished get rows moment s m number = refl
location-notes kind entered piece finished post rows moment s m number =
    change_made-notes kind entered (entries rows) _ _ refl
location-notes kind entered piece finished put rows moment s m number =
    replacing-notes kind entered piece finished rows moment s m number
location-notes kind entered piece finished delete rows moment s m number =
    change_made-notes kind entered (entries rows) _ _ refl
location-notes kind entered piece finished other_method rows moment s m number = refl

-- a write that is done settles it, and notes its change
abbrev pub of_done : Note → Bool
of_done (note.Settled place reply) = true
of_done (note.Entered entry) = true
of_done (note.Piece peer key number octets) = true
of_done (note.Finished peer key) = true
of_done (note.Asked peer token mid params number) = true
of_done _ = false

-- a commit of a write that is done
pub commit_effects-done : (rows : List Row) (moment place : ℕ) (s : Step) (m : Message)
    → are of_done (commit_effects rows moment place s m).notes ≡ true
unfolding commit_effects answering
commit_effects-done rows moment place s m = by (path_in m)
  where
    settled : (done : Outcome)
        → are of_done done.notes ≡ true
        → are of_done (settling place s m done).notes ≡ true
    settled done h = are-append of_done done.notes _ h refl

    simple : (running too_many : Bool)
        → are of_done (simple_unless (fetch_room running too_many) (events rows) place s m).notes
        ≡ true
    simple true too_many = refl
    simple false true = refl
    simple false false = refl

    by : (p : Path) → are of_done (write_done p rows moment place s m).notes ≡ true
    by path.Core = refl
    by path.SimpleRd =
        simple (is_fetching s.peer (events rows))
        (nat_le max_fetches (length (fetches (events rows))))
    by path.Rd =
        settled (registering rows moment s m)
        (registering-notes of_done (λ entry. refl) (λ peer key number octets. refl)
        (λ peer key. refl) rows moment s m)
    by (path.Location number) =
        settled (location_outcome (method_of m.code) rows moment s m number)
        (location-notes of_done (λ entry. refl) (λ peer key number octets. refl) (λ peer key. refl)
        (method_of m.code) rows moment s m number)
    by path.Res = refl
    by path.Ep = refl
    by path.Other = refl

-- so it notes what commits note
pub commit_effects-notes : (rows : List Row) (moment place : ℕ) (s : Step) (m : Message)
    → are of_commit (commit_effects rows moment place s m).notes ≡ true
commit_effects-notes rows moment place s m =
    each (commit_effects rows moment place s m).notes (commit_effects-done rows moment place s m)
  where
    one : (n : Note) → of_done n ≡ true → of_commit n ≡ true
    one (note.Settled place reply) h = refl
    one (note.Entered entry) h = refl
    one (note.Piece peer key number octets) h = refl
    one (note.Finished peer key) h = refl
    one (note.Asked peer token mid params number) h = refl
    one _ h = absurd (false≢true h)

    each : (notes : List Note) → are of_done notes ≡ true → are of_commit notes ≡ true
    each [] h = refl
    each (n ∷ notes) h =
        let parts = and_parts (of_done n) (are of_done notes) h in
        and_from (of_commit n) (are of_commit notes) (one n parts.0) (each notes parts.1)

-- a response
pub response_effects-notes : (rows : List Row) (moment : ℕ) (s : Step) (m : Message)
    → are of_response (response_effects rows moment s m).notes ≡ true
unfolding response_effects
response_effects-notes rows moment s m = by (fetch_of s m (events rows))
  where
    foreign : (k : Kind4) → are of_response (strange s m k).notes ≡ true
    foreign Con = refl
    foreign Non = refl
    foreign Ack = refl
    foreign Rst = refl

    acknowledged : (k : Kind4) → are of_response (acknowledgement s m k).notes ≡ true
    acknowledged Con = refl
    acknowledged Non = refl
    acknowledged Ack = refl
    acknowledged Rst = refl

    whole : (request : Request) (body : List ℕ)
        → are of_response (completed rows moment s request body).notes ≡ true
    whole request body =
        are-append of_response
        (registration (entries rows) moment s request.params body [] []).notes
        (note.Ceased s.peer ∷ [])
        (registration-notes of_response (λ entry. refl) (entries rows) moment s request.params body
        [] [] refl) refl

    gathers : (more : Bool) (b : Option Block) (request : Request)
        → are of_response (gathering more b rows moment s m request).notes ≡ true
    gathers more None request = whole request (collected s.peer (events rows) ++ m.payload)
    gathers false (Some b) request = whole request (collected s.peer (events rows) ++ m.payload)
    gathers true (Some b) request = refl

    taken : (elsewhere over : Bool) (request : Request)
        → are of_response (response_taken (response_use elsewhere over) rows moment s m
        request).notes ≡ true
    taken true over request = refl
    taken false true request = refl
    taken false false request = gathers (more_follow (block_in m)) (block_in m) request

    by : (request : Option Request)
        → are of_response (response_to_request request rows moment s m).notes ≡ true
    by None = foreign m.kind
    by (Some request) =
        are-append of_response (acknowledgement s m m.kind).notes
        (response_to rows moment s m request).notes (acknowledged m.kind)
        (taken (is_elsewhere (block_in m) (length (collected s.peer (events rows))))
        (ends_fetch m (gathered s.peer (events rows)) (length (collected s.peer (events rows))))
        request)
