-- Steps that change the registrations: commits. A commit has an entry exactly where its answer
-- reports a change; the entry comes next after the history, and is the only one.
use Rattle.std.proofs.Common.{
  ◌≡◌,
  ℕ,
  ◌+◌,
  Bool,
  true,
  false,
  List,
  [],
  ◌∷◌,
  ◌++◌,
  length,
  Option,
  Some,
  None,
  is_some,
  codes,
  refl,
  ap,
  ◌∙◌,
  nat_lt,
  nat_le,
  Result,
  Ok,
  Err,
  sym,
  subst,
}
use Rattle.std.proofs.lemmas.Bool.{false≢true}
use Rattle.rd_base.specs.declared.parameters.RegParams.{RegParams}
use Rattle.rd_base.specs.declared.submitted_links.SubmittedLink.{SubmittedLink}
use Rattle.message_model.specs.declared.blocks.Block.{Block}
use Rattle.message_model.specs.declared.requests.Path.{Path}
use Rattle.message_model.specs.declared.requests.Path.TheVariants as path
use Rattle.message_model.specs.Message.{Message, Opt}
use Rattle.message_model.specs.Request.{path_in, queries_in}
use Rattle.message_model.specs.RequestKey.{key_in}
use Rattle.message_model.specs.Uploads.{max_body, collected_before, is_one_too_many}
use Rattle.record_model.specs.Bodies.{linked_references}
use Rattle.record_model.specs.Parameters.{registration_values}
use Rattle.record_model.specs.Refusals.{first_unlimited, is_refused_as_limited}
use Rattle.history_model.specs.declared.entries.Change.TheVariants as change
use Rattle.history_model.specs.declared.entries.Entry.{Entry}
use Rattle.history_model.specs.declared.refusals.Refusal.{Refusal}
use Rattle.history_model.specs.declared.refusals.Refusal.TheVariants as refusal
use Rattle.history_model.specs.Legal.{AreOfGoodBody, HasGoodBody}
use Rattle.history_model.specs.Refusals.{change_refusal}
use Rattle.event_model.specs.declared.notes.Note.{Note}
use Rattle.event_model.specs.declared.notes.Note.TheVariants as note
use Rattle.event_model.specs.Uploads.{live_upload, live_uploads}
use Rattle.event_model.specs.Fetches.{max_fetches, fetches, is_fetching}
use Rattle.journal_model.specs.declared.steps.Step.{Step}
use Rattle.journal_model.specs.declared.rows.Row.{Row}
use Rattle.journal_model.specs.Journal.{events, entries}
use Rattle.journal_model.specs.Effects.{answering}
use Rattle.journal_model.specs.Requests.{
  Method,
  get,
  post,
  put,
  delete,
  other_method,
  method_of,
  is_location,
  sent_block,
}
use Rattle.journal_model.specs.Changes.{
  Outcome,
  refused_as,
  entered_unless,
  change_made,
  BodyRead,
  bad_body,
  good_body,
  limited_links,
  links_or_bad,
  body_read,
  registered_links,
  registration,
  created_at,
  changed_with,
  number_after,
  entry_of_step,
  replaced_links,
  replacement,
  Purpose,
  to_register,
  to_replace,
  body_used,
}
use Rattle.journal_model.specs.Registrations.{
  block_taken,
  block_unless,
  block_after,
  block_uploaded,
  links_outcome,
  registering,
  replacing,
  block_room,
}
use Rattle.journal_model.specs.Commits.{
  settling,
  simple_unless,
  location_outcome,
  write_done,
  commit_effects,
  fetch_room,
}
use Rattle.journal_model.specs.PlacedRows.{code_sent}
use Rattle.journal_model.specs.AskedChanges.{names_location, is_code_of_change}
use Rattle.journal_model.proofs.EntriesNoted.{entries_in, NotesNext, none, one, entries_in-append}
use Rattle.message_model.specs.declared.messages.Unread.{Unread}
use Rattle.message_model.specs.Reading.{reading}
use Rattle.message_model.specs.Spelling.{spelling, header_spelling}
use Rattle.journal_model.specs.declared.steps.StepKind.TheVariants as step
use Rattle.journal_model.specs.Rows.{done, effects}

-- no entry beside an answer that reports no change, or one that comes next beside an answer that
-- reports one
pub data ChangeEntry (history : List Entry) (moment : ℕ) (notes : List Note) (reports : Bool) : Type
    0 where
  no_change : entries_in notes ≡ [] → reports ≡ false → ChangeEntry history moment notes reports
  one_change : (entry : Entry)
      → entries_in notes ≡ entry ∷ []
      → entry.moment.0 ≡ moment
      → HasGoodBody entry.change
      → change_refusal 0 history entry ≡ None
      → reports ≡ true
      → ChangeEntry history moment notes reports

-- so the notes have no entry, or one that comes next
pub ChangeEntry-NotesNext : (history : List Entry) (moment : ℕ) (notes : List Note) (reports : Bool)
    → ChangeEntry history moment notes reports
    → NotesNext history moment notes
ChangeEntry-NotesNext history moment notes reports (no_change h r) = none h
ChangeEntry-NotesNext history moment notes reports (one_change entry h at good accepted r) =
    one entry h at good accepted

-- and they have one, or none, as the answer reports
pub ChangeEntry-one : (history : List Entry) (moment : ℕ) (notes : List Note) (reports : Bool)
    → ChangeEntry history moment notes reports
    → reports ≡ true
    → length (entries_in notes) ≡ 1
ChangeEntry-one history moment notes reports (no_change h r) e = absurd (false≢true (sym r ∙ e))
ChangeEntry-one history moment notes reports (one_change entry h at good accepted r) e = ap length h

-- where it reports no change, they have none
pub ChangeEntry-none : (history : List Entry) (moment : ℕ) (notes : List Note) (reports : Bool)
    → ChangeEntry history moment notes reports
    → reports ≡ false
    → entries_in notes ≡ []
ChangeEntry-none history moment notes reports (no_change h r) e = h
ChangeEntry-none history moment notes reports (one_change entry h at good accepted r) e =
    absurd (false≢true (sym e ∙ r))

-- what comes of a write, for a path that is a location or is none
abbrev pub OutcomeEntry : List Entry → ℕ → Outcome → Bool → Type 0
OutcomeEntry history moment outcome of_location =
    ChangeEntry history moment outcome.notes (is_code_of_change outcome.reply.code of_location)

-- a change is refused, or its entry is noted
change_made-OutcomeEntry : (history : List Entry) (moment : ℕ) (entry : Entry) (outcome : Outcome)
    (l : Bool)
    → entry.moment.0 ≡ moment
    → HasGoodBody entry.change
    → entries_in outcome.notes ≡ []
    → is_code_of_change outcome.reply.code l ≡ true
    → OutcomeEntry history moment (change_made history entry outcome) l
change_made-OutcomeEntry history moment entry outcome l at good silent reports =
    by (change_refusal 0 history entry) refl
  where
    refused : (why : Refusal) → OutcomeEntry history moment (refused_as why) l
    refused refusal.Registration = no_change refl refl
    refused refusal.Registrations = no_change refl refl
    refused refusal.Text = no_change refl refl
    refused refusal.Entries = no_change refl refl

    by : (why : Option Refusal)
        → change_refusal 0 history entry ≡ why
        → OutcomeEntry history moment (entered_unless why entry outcome) l
    by (Some why) e = refused why
    by None e = one_change entry (ap (λ entries. entry ∷ entries) silent) at good e reports

-- what is read of a good body
body_read-good : (body : List ℕ) (links : List SubmittedLink)
    → body_read body ≡ good_body links
    → AreOfGoodBody links
unfolding body_read is_refused_as_limited
body_read-good body links e = by (linked_references body) refl e
  where
    limited : (all : List SubmittedLink) (b : Bool)
        → linked_references body ≡ Some all
        → is_some (first_unlimited all) ≡ b
        → limited_links b all ≡ good_body links
        → AreOfGoodBody links
    limited all true linked tested same =
        absurd (let h : bad_body (codes "limited") ≡ good_body links = same in cc)
    limited all false linked tested same =
        let equal : all ≡ links = cc in
        (body, linked ∙ ap Some equal, rw linked tested)

    by : (read : Option (List SubmittedLink))
        → linked_references body ≡ read
        → links_or_bad read ≡ good_body links
        → AreOfGoodBody links
    by None linked same = absurd (let h : bad_body (codes "links") ≡ good_body links = same in cc)
    by (Some all) linked same = limited all (is_some (first_unlimited all)) linked refl same

-- a registration of a whole body
pub registration-OutcomeEntry : (history : List Entry) (moment : ℕ) (s : Step) (params : RegParams)
    (body : List ℕ) (further : List Opt) (notes : List Note) (l : Bool)
    → entries_in notes ≡ []
    → OutcomeEntry history moment (registration history moment s params body further notes) l
unfolding registration
registration-OutcomeEntry history moment s params body further notes l silent =
    by (body_read body) refl
  where
    bad : (word : List ℕ)
        → OutcomeEntry history moment
        (registered_links history moment s params further notes (bad_body word)) l
    bad word = no_change refl refl

    by : (read : BodyRead)
        → body_read body ≡ read
        → OutcomeEntry history moment (registered_links history moment s params further notes read)
        l
    by (bad_body word) e = bad word
    by (good_body links) e =
        let entry : Entry = entry_of_step moment s (change.Register params links) in
        change_made-OutcomeEntry history moment entry
        (record {
          reply = created_at (number_after params.name moment (history ++ entry ∷ []))
              further;
          notes = notes;
        }) l refl
        (body_read-good body links e) silent refl

-- a replacement of links by those of a whole body; its answer reports a change on a location
replacement-OutcomeEntry : (history : List Entry) (moment : ℕ) (s : Step) (number : ℕ)
    (body : List ℕ) (further : List Opt) (notes : List Note)
    → entries_in notes ≡ []
    → OutcomeEntry history moment (replacement history moment s number body further notes) true
unfolding replacement
replacement-OutcomeEntry history moment s number body further notes silent =
    by (body_read body) refl
  where
    bad : (word : List ℕ)
        → OutcomeEntry history moment
        (replaced_links history moment s number further notes (bad_body word)) true
    bad word = no_change refl refl

    by : (read : BodyRead)
        → body_read body ≡ read
        → OutcomeEntry history moment (replaced_links history moment s number further notes read)
        true
    by (bad_body word) e = bad word
    by (good_body links) e =
        change_made-OutcomeEntry history moment
        (entry_of_step moment s (change.Replace number links))
        (record { reply = changed_with further; notes = notes }) true refl
        (body_read-good body links e) silent refl

-- what is noted of a body that is whole, or of a block, is for a location or is for none
abbrev reports_at : Purpose → Bool → Type 0
reports_at (to_register params) l = Unit {0}
reports_at (to_replace number) l = l ≡ true

-- a whole body, by what its links are for
body_used-OutcomeEntry : (purpose : Purpose) (history : List Entry) (moment : ℕ) (s : Step)
    (body : List ℕ) (further : List Opt) (notes : List Note) (l : Bool)
    → reports_at purpose l
    → entries_in notes ≡ []
    → OutcomeEntry history moment (body_used purpose history moment s body further notes) l
body_used-OutcomeEntry (to_register params) history moment s body further notes l at silent =
    registration-OutcomeEntry history moment s params body further notes l silent
body_used-OutcomeEntry (to_replace number) history moment s body further notes l at silent =
    subst (OutcomeEntry history moment (replacement history moment s number body further notes))
    (sym at) (replacement-OutcomeEntry history moment s number body further notes silent)

-- links that come whole, or a block of them
links-OutcomeEntry : (block : Option Block) (purpose : Purpose) (rows : List Row) (moment : ℕ)
    (s : Step) (m : Message) (l : Bool)
    → reports_at purpose l
    → OutcomeEntry (entries rows) moment (links_outcome block purpose rows moment s m) l
unfolding block_uploaded
links-OutcomeEntry block purpose rows moment s m l at = by block
  where
    taken : (more : Bool) (b : Block) (body : List ℕ)
        → OutcomeEntry (entries rows) moment (block_taken more purpose rows moment s m b body) l
    taken true b body = no_change refl refl
    taken false b body =
        body_used-OutcomeEntry purpose (entries rows) moment s body _
        (note.Finished s.peer (key_in m) ∷ []) l at refl

    unless : (too_long too_many : Bool) (b : Block) (body : List ℕ)
        → OutcomeEntry (entries rows) moment
        (block_unless (block_room too_long too_many) purpose rows moment s m b body)
        l
    unless true too_many b body = no_change refl refl
    unless false true b body = no_change refl refl
    unless false false b body = taken b.more b body

    after : (front upload : Option (List ℕ)) (b : Block)
        → OutcomeEntry (entries rows) moment (block_after front upload purpose rows moment s m b) l
    after None upload b = no_change refl refl
    after (Some front) upload b =
        unless (nat_lt max_body (length front + length m.payload))
        (is_one_too_many b upload (live_uploads moment (events rows))) b (front ++ m.payload)

    by : (b : Option Block)
        → OutcomeEntry (entries rows) moment (links_outcome b purpose rows moment s m) l
    by None =
        body_used-OutcomeEntry purpose (entries rows) moment s m.payload [] [] l at refl
    by (Some b) =
        let upload : Option (List ℕ) = live_upload moment (s.peer, key_in m) (events rows) in
        after (collected_before b upload) upload b

-- a registration, whole or a block of one
registering-OutcomeEntry : (rows : List Row) (moment : ℕ) (s : Step) (m : Message) (l : Bool)
    → OutcomeEntry (entries rows) moment (registering rows moment s m) l
unfolding registering
registering-OutcomeEntry rows moment s m l =
    links-OutcomeEntry (sent_block m) (to_register (registration_values (queries_in m))) rows moment
    s m l tt

-- a write on a registration, by its method
location-OutcomeEntry : (w : Method) (rows : List Row) (moment : ℕ) (s : Step) (m : Message)
    (number : ℕ)
    → OutcomeEntry (entries rows) moment (location_outcome w rows moment s m number) true
unfolding replacing
location-OutcomeEntry get rows moment s m number = no_change refl refl
location-OutcomeEntry post rows moment s m number =
    change_made-OutcomeEntry (entries rows) moment _ _ true refl tt refl refl
location-OutcomeEntry put rows moment s m number =
    links-OutcomeEntry (sent_block m) (to_replace number) rows moment s m true refl
location-OutcomeEntry delete rows moment s m number =
    change_made-OutcomeEntry (entries rows) moment _ _ true refl tt refl refl
location-OutcomeEntry other_method rows moment s m number = no_change refl refl

-- the answer has the code of what came of the write, and settling it notes no entry
settling-ChangeEntry : (history : List Entry) (moment place : ℕ) (s : Step) (m : Message)
    (outcome : Outcome) (l : Bool)
    → OutcomeEntry history moment outcome l
    → ChangeEntry history moment (settling place s m outcome).notes
    (is_code_of_change (code_sent (settling place s m outcome).sent) l)
unfolding answering spelling header_spelling
settling-ChangeEntry history moment place s m outcome l (no_change h reports) =
    no_change (entries_in-append outcome.notes _ ∙ ap (λ entries. entries ++ []) h) reports
settling-ChangeEntry history moment place s m outcome l
    (one_change entry h at good accepted reports) =
    one_change entry (entries_in-append outcome.notes _ ∙ ap (λ entries. entries ++ []) h) at good
    accepted reports

-- a commit of a write that was read
pub commit_effects-ChangeEntry : (rows : List Row) (moment place : ℕ) (s : Step) (m : Message)
    → ChangeEntry (entries rows) moment (commit_effects rows moment place s m).notes
    (is_code_of_change (code_sent (commit_effects rows moment place s m).sent)
    (is_location (path_in m)))
unfolding commit_effects answering spelling header_spelling
commit_effects-ChangeEntry rows moment place s m = by (path_in m)
  where
    simple : (running too_many : Bool)
        → ChangeEntry (entries rows) moment
        (simple_unless (fetch_room running too_many) (events rows) place s m).notes
        (is_code_of_change
        (code_sent (simple_unless (fetch_room running too_many) (events rows) place s m).sent)
        false)
    simple true too_many = no_change refl refl
    simple false true = no_change refl refl
    simple false false = no_change refl refl

    by : (p : Path)
        → ChangeEntry (entries rows) moment (write_done p rows moment place s m).notes
        (is_code_of_change (code_sent (write_done p rows moment place s m).sent)
        (is_location p))
    by path.Core = no_change refl refl
    by path.SimpleRd =
        simple (is_fetching s.peer (events rows))
        (nat_le max_fetches (length (fetches (events rows))))
    by path.Rd =
        settling-ChangeEntry (entries rows) moment place s m (registering rows moment s m) false
        (registering-OutcomeEntry rows moment s m false)
    by (path.Location number) =
        settling-ChangeEntry (entries rows) moment place s m
        (location_outcome (method_of m.code) rows moment s m number) true
        (location-OutcomeEntry (method_of m.code) rows moment s m number)
    by path.Res = no_change refl refl
    by path.Ep = no_change refl refl
    by path.Other = no_change refl refl

-- a commit has an entry exactly where its answer reports a change
pub commit-ChangeEntry : (place : ℕ) (starved : Bool) (rows : List Row) (moment : ℕ) (s : Step)
    → ChangeEntry (entries rows) moment (effects (step.Commit place) starved rows moment s).notes
    (is_code_of_change (code_sent (effects (step.Commit place) starved rows moment s).sent)
    (names_location (reading s.datagram)))
unfolding effects answering spelling header_spelling
commit-ChangeEntry place starved rows moment s = by starved (reading s.datagram)
  where
    by : (b : Bool) (read : Result Message Unread)
        → ChangeEntry (entries rows) moment (done b rows moment place s read).notes
        (is_code_of_change (code_sent (done b rows moment place s read).sent)
        (names_location read))
    by b (Err fault) = no_change refl refl
    by true (Ok m) = no_change refl refl
    by false (Ok m) = commit_effects-ChangeEntry rows moment place s m
