-- The change that a step requests, and the entry that is made of it (RFC 9176 sections 5 and 5.3).
use Rattle.std.specs.Prelude.{◌≡◌, ℕ, Bool, false, ◌&&◌, ◌||◌, ◌==◌, List, [], ◌++◌, Option}
use Rattle.std.specs.Prelude.{Some, None, Result, Ok, Err}
use Rattle.rd_base.specs.declared.submitted_links.SubmittedLink.{SubmittedLink}
use Rattle.message_model.specs.declared.blocks.Block.{Block}
use Rattle.message_model.specs.declared.messages.Unread.{Unread}
use Rattle.message_model.specs.declared.requests.Path.{Path}
use Rattle.message_model.specs.declared.requests.Path.TheVariants as path
use Rattle.message_model.specs.Message.{Message}
use Rattle.message_model.specs.Codes as codes_of
use Rattle.message_model.specs.Reading.{reading}
use Rattle.message_model.specs.Request.{path_in, queries_in}
use Rattle.message_model.specs.RequestKey.{key_in}
use Rattle.message_model.specs.Uploads.{collected_before}
use Rattle.record_model.specs.Parameters.{registration_values, update_values}
use Rattle.history_model.specs.declared.entries.Change.{Change}
use Rattle.history_model.specs.declared.entries.Change.TheVariants as change
use Rattle.history_model.specs.declared.entries.Entry.{Entry}
use Rattle.event_model.specs.Fetches.{Request, collected}
use Rattle.event_model.specs.Uploads.{live_upload}
use Rattle.journal_model.specs.declared.steps.Step.{Step}
use Rattle.journal_model.specs.declared.steps.StepKind.{StepKind}
use Rattle.journal_model.specs.declared.steps.StepKind.TheVariants as step
use Rattle.journal_model.specs.declared.rows.Row.{Row}
use Rattle.journal_model.specs.Journal.{events}
use Rattle.journal_model.specs.Requests.{is_location, sent_block}
use Rattle.journal_model.specs.Changes.{entry_of_step, good_body, body_read}
use Rattle.journal_model.specs.Responses.{more_follow}
use Rattle.journal_model.specs.PlacedRows.{code_sent}
use Rattle.journal_model.specs.FetchCompletions.{AnswersFetch, EndsBody}

-- Returns whether the datagram names a registration by its location.
abbrev pub names_location : Result Message Unread → Bool
names_location (Err fault) = false
names_location (Ok m) = is_location (path_in m)

-- Returns whether the code says that a change was made: 2.01, 2.02, or 2.04 of an update or a
-- replacement.
abbrev pub is_code_of_change : ℕ → Bool → Bool
is_code_of_change code of_location =
    code
    == codes_of.created || code
    == codes_of.deleted || (code == codes_of.changed && of_location)

-- Returns whether the response that a row sent says that a change was made.
abbrev pub answers_change : Row → Bool
answers_change r = is_code_of_change (code_sent r.sent) (names_location (reading r.step.datagram))

-- States what is collected before a block of a body: nothing before a whole one.
abbrev pub IsCollected : Option Block → List Row → ℕ → Step → Message → List ℕ → Type 0
IsCollected None rows moment s m collected = collected ≡ []
IsCollected (Some b) rows moment s m collected =
    collected_before b (live_upload moment (s.peer, key_in m) (events rows)) ≡ Some collected

-- A request that brings these links. Its body is whole: its payload, after what is collected before
-- it, and no more follows.
pub record BringsLinks (rows : List Row) (moment : ℕ) (s : Step) (m : Message)
    (links : List SubmittedLink) : Type 0 where
  pub last : more_follow (sent_block m) ≡ false
  pub collected : List ℕ
  pub before : IsCollected (sent_block m) rows moment s m collected
  pub read : body_read (collected ++ m.payload) ≡ good_body links

-- States that a request to `/rd` asks for the registration of its links.
abbrev pub AsksRegistration : List Row → ℕ → Step → Message → Change → Type 0
AsksRegistration rows moment s m (change.Register params links) =
    (params ≡ registration_values (queries_in m)) × BringsLinks rows moment s m links
AsksRegistration rows moment s m (change.Update n given) = ⊥
AsksRegistration rows moment s m (change.Replace n links) = ⊥
AsksRegistration rows moment s m (change.Remove n) = ⊥
AsksRegistration rows moment s m (change.Begin n) = ⊥

-- States that a request on the registration with a number asks for the change. POST asks to update
-- it, PUT to replace its links, and DELETE to remove it.
abbrev pub AsksOfLocation : ℕ → List Row → ℕ → Step → Message → Change → Type 0
AsksOfLocation number rows moment s m (change.Register params links) = ⊥
AsksOfLocation number rows moment s m (change.Update n params) =
    (m.code ≡ codes_of.post) × (n ≡ number) × (params ≡ update_values (queries_in m))
AsksOfLocation number rows moment s m (change.Replace n links) =
    (m.code ≡ codes_of.put) × (n ≡ number) × BringsLinks rows moment s m links
AsksOfLocation number rows moment s m (change.Remove n) =
    (m.code ≡ codes_of.delete) × (n ≡ number)
AsksOfLocation number rows moment s m (change.Begin n) = ⊥

-- States that the change is the one that a request asks for: a registration of its links, or a
-- change of the registration that its location names. That is an update, a replacement of the
-- links, or a removal.
abbrev pub AsksChange : Path → List Row → ℕ → Step → Message → Change → Type 0
AsksChange path.Core rows moment s m what = ⊥
AsksChange path.SimpleRd rows moment s m what = ⊥
AsksChange path.Rd rows moment s m what = AsksRegistration rows moment s m what
AsksChange (path.Location number) rows moment s m what = AsksOfLocation number rows moment s m what
AsksChange path.Res rows moment s m what = ⊥
AsksChange path.Ep rows moment s m what = ⊥
AsksChange path.Other rows moment s m what = ⊥

-- States that the change is the one that a fetch was made for: a registration of what it collected,
-- with the parameters of its first request.
abbrev pub FetchesChange : List Row → Step → Message → Request → Change → Type 0
FetchesChange rows s m request (change.Register params links) =
    (params ≡ request.params)
    × (body_read (collected s.peer (events rows) ++ m.payload) ≡ good_body links)
FetchesChange rows s m request (change.Update n given) = ⊥
FetchesChange rows s m request (change.Replace n links) = ⊥
FetchesChange rows s m request (change.Remove n) = ⊥
FetchesChange rows s m request (change.Begin n) = ⊥

-- A step that commits a write, which asks for the change.
pub record CommitAsks (rows : List Row) (moment : ℕ) (s : Step) (what : Change) : Type 0 where
  pub message : Message
  pub read : reading s.datagram ≡ Ok message
  pub asks : AsksChange (path_in message) rows moment s message what

-- A step that completes a fetch, and makes the change.
pub record CompletionMakes (rows : List Row) (s : Step) (what : Change) : Type 0 where
  pub answers : AnswersFetch rows s
  pub body : EndsBody rows s answers.message
  pub makes : FetchesChange rows s answers.message answers.request what

-- States that the change is what a step of this kind makes. A commit makes what its own request
-- asks for, a datagram that is handled what its fetch was made for, and a beginning its own.
abbrev pub IsAskedBy : StepKind → List Row → ℕ → Step → Change → Type 0
IsAskedBy (step.Commit place) rows moment s what = CommitAsks rows moment s what
IsAskedBy step.Admit rows moment s what = CompletionMakes rows s what
IsAskedBy step.Look rows moment s what = ⊥
IsAskedBy (step.Keep body tag) rows moment s what = ⊥
IsAskedBy step.Tick rows moment s what = ⊥
IsAskedBy (step.Begin first) rows moment s what = what ≡ change.Begin first

-- An entry with the moment, the worker and the peer of its row, and the change that was asked for.
pub record IsEntryOf (rows : List Row) (moment : ℕ) (s : Step) (entry : Entry) : Type 0 where
  pub stamped : entry ≡ entry_of_step moment s entry.change
  pub asked : IsAskedBy s.kind rows moment s entry.change
