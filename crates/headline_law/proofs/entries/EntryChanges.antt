-- An entry has the moment, the worker and the peer of its row, and is the change that its request
-- asks for.
use Rattle.std.proofs.Common.{◌≡◌, ℕ, ◌+◌, ◌==◌, Bool, true, false, List, [], ◌∷◌, ◌++◌, length}
use Rattle.std.proofs.Common.{Option, Some, None, Ok, refl, sym, ap, subst, ◌∙◌, eqb-true, nat_lt}
use Rattle.std.proofs.Common.{nat_le, cond}
use Rattle.std.specs.List.{AllByRecursion}
use Rattle.rd_base.specs.declared.parameters.RegParams.{RegParams}
use Rattle.rd_base.specs.declared.submitted_links.SubmittedLink.{SubmittedLink}
use Rattle.rd_base.proofs.lemmas.Each.{each_append}
use Rattle.message_model.specs.declared.blocks.Block.{Block}
use Rattle.message_model.specs.declared.messages.Kind4.{Kind4}
use Rattle.message_model.specs.declared.messages.Kind4.TheVariants.{Con, Non, Ack, Rst}
use Rattle.message_model.specs.declared.requests.Path.{Path}
use Rattle.message_model.specs.declared.requests.Path.TheVariants as path
use Rattle.message_model.specs.Codes as codes_of
use Rattle.message_model.specs.Message.{Message, Opt}
use Rattle.message_model.specs.Reading.{reading}
use Rattle.message_model.specs.Request.{path_in, queries_in}
use Rattle.message_model.specs.RequestKey.{key_in}
use Rattle.message_model.specs.Uploads.{max_body, collected_before, is_one_too_many}
use Rattle.message_model.specs.Responses.{block_in, is_elsewhere}
use Rattle.record_model.specs.Parameters.{registration_values}
use Rattle.history_model.specs.declared.entries.Change.{Change}
use Rattle.history_model.specs.declared.entries.Change.TheVariants as change
use Rattle.history_model.specs.declared.entries.Entry.{Entry}
use Rattle.history_model.specs.declared.refusals.Refusal.{Refusal}
use Rattle.history_model.specs.declared.refusals.Refusal.TheVariants as refusal
use Rattle.history_model.specs.Refusals.{change_refusal}
use Rattle.event_model.specs.declared.notes.Note.{Note}
use Rattle.event_model.specs.declared.notes.Note.TheVariants as note
use Rattle.event_model.specs.Uploads.{live_upload, live_uploads}
use Rattle.event_model.specs.Fetches.{
  Request,
  gathered,
  collected,
  max_fetches,
  fetches,
  is_fetching,
}
use Rattle.journal_model.specs.Beginnings.{beginning, entered_alone, begin_entry}
use Rattle.journal_model.specs.declared.steps.Step.{Step}
use Rattle.journal_model.specs.declared.rows.Row.{Row}
use Rattle.journal_model.specs.Journal.{events, entries, entries_of}
use Rattle.journal_model.specs.Effects.{answering}
use Rattle.journal_model.specs.Requests.{
  sent_block,
  Method,
  get,
  post,
  put,
  delete,
  other_method,
  method_of,
}
use Rattle.journal_model.specs.Changes.{
  Outcome,
  refused_as,
  entered_unless,
  change_made,
  BodyRead,
  bad_body,
  good_body,
  body_read,
  registered_links,
  registration,
  created_at,
  changed_with,
  number_after,
  entry_of_step,
  replaced_links,
  replacement,
  Purpose,
  to_register,
  to_replace,
  body_used,
}
use Rattle.journal_model.specs.Registrations.{
  block_taken,
  block_unless,
  block_after,
  block_uploaded,
  links_outcome,
  registering,
  replacing,
  block_room,
}
use Rattle.journal_model.specs.Commits.{
  settling,
  simple_unless,
  location_outcome,
  write_done,
  commit_effects,
  fetch_room,
}
use Rattle.journal_model.specs.Responses.{
  fetch_of,
  strange,
  acknowledgement,
  more_follow,
  ends_fetch,
  completed,
  gathering,
  response_taken,
  response_to,
  response_to_request,
  response_effects,
  response_use,
}
use Rattle.journal_model.specs.Rows.{row_moment, row, AreRows}
use Rattle.journal_model.specs.PlacedRows.{Within}
use Rattle.journal_model.specs.declared.steps.StepKind.{StepKind}
use Rattle.journal_model.specs.declared.steps.StepKind.TheVariants as step
use Rattle.journal_model.specs.FetchCompletions.{EndsBody}
use Rattle.journal_model.specs.AskedChanges.{BringsLinks, AsksChange, IsAskedBy, IsEntryOf}
use Rattle.journal_model.proofs.entries.ResponseEntries.{content_of}
use Rattle.journal_model.proofs.NoteKinds.{empty-entries_in}
use Rattle.journal_model.proofs.EntriesNoted.{entries_in}
use Rattle.journal_model.proofs.notes.StepTable.{StepNoted, effects-StepNoted}
use Rattle.journal_model.proofs.notes.StepTable as noted
use Rattle.journal_model.proofs.entries.QuietSteps.{
  keep_effects-entries_in,
  lookup_effects-entries_in,
  read_effects-entries_in,
  write_effects-entries_in,
  tick_effects-entries_in,
}
use Rattle.journal_model.proofs.entries.JournalLaws.{RowMade, each_made}

-- whatever a note enters is so
abbrev Enters : (Entry → Type 0) → Note → Type 0
Enters P (note.Entered entry) = P entry
Enters P _ = Unit {0}

-- so is whatever notes enter
abbrev AllEnter : (Entry → Type 0) → List Note → Type 0
AllEnter P notes = AllByRecursion (Enters P) notes

-- notes that enter nothing
none_enter : (P : Entry → Type 0) (notes : List Note) → entries_in notes ≡ [] → AllEnter P notes
none_enter P [] h = tt
none_enter P (n ∷ notes) h = by n h (λ e. none_enter P notes e)
  where
    by : (x : Note)
        → entries_in (x ∷ notes) ≡ []
        → (entries_in notes ≡ [] → AllEnter P notes)
        → AllEnter P (x ∷ notes)
    by (note.Entered entry) e more = absurd (let no : entry ∷ entries_in notes ≡ [] = e in cc)
    by _ e more = (tt, more e)

-- the entries that notes hold
entered : (P : Entry → Type 0) (notes : List Note)
    → AllEnter P notes
    → AllByRecursion P (entries_in notes)
entered P [] all = tt
entered P (n ∷ notes) all = by n all.0 (entered P notes all.1)
  where
    by : (x : Note)
        → Enters P x
        → AllByRecursion P (entries_in notes)
        → AllByRecursion P (entries_in (x ∷ notes))
    by (note.Entered entry) h more = (h, more)
    by _ h more = more

-- a change
change_made-enters : (P : Entry → Type 0) (history : List Entry) (entry : Entry) (done : Outcome)
    → P entry
    → AllEnter P done.notes
    → AllEnter P (change_made history entry done).notes
change_made-enters P history entry done good notes = by (change_refusal 0 history entry)
  where
    refused : (why : Refusal) → AllEnter P (refused_as why).notes
    refused refusal.Registration = tt
    refused refusal.Registrations = tt
    refused refusal.Text = tt
    refused refusal.Entries = tt

    by : (why : Option Refusal) → AllEnter P (entered_unless why entry done).notes
    by (Some why) = refused why
    by None = (good, notes)

-- a registration of a body
registration-enters : (P : Entry → Type 0) (history : List Entry) (moment : ℕ) (s : Step)
    (params : RegParams) (body : List ℕ) (further : List Opt) (notes : List Note)
    → ((links : List SubmittedLink)
    → body_read body ≡ good_body links
    → P (entry_of_step moment s (change.Register params links)))
    → AllEnter P notes
    → AllEnter P (registration history moment s params body further notes).notes
unfolding registration
registration-enters P history moment s params body further notes good others =
    by (body_read body) refl
  where
    by : (read : BodyRead)
        → body_read body ≡ read
        → AllEnter P (registered_links history moment s params further notes read).notes
    by (bad_body word) e = tt
    by (good_body links) e =
        let entry : Entry = entry_of_step moment s (change.Register params links) in
        change_made-enters P history entry
        (record {
          reply = created_at (number_after params.name moment (history ++ entry ∷ []))
              further;
          notes = notes;
        }) (good links e) others

-- the entry of a request
abbrev OfRequest : Path → List Row → ℕ → Step → Message → Entry → Type 0
OfRequest p rows moment s m entry =
    (entry ≡ entry_of_step moment s entry.change) × AsksChange p rows moment s m entry.change

-- a replacement of links by those of a body
replacement-enters : (P : Entry → Type 0) (history : List Entry) (moment : ℕ) (s : Step)
    (number : ℕ) (body : List ℕ) (further : List Opt) (notes : List Note)
    → ((links : List SubmittedLink)
    → body_read body ≡ good_body links
    → P (entry_of_step moment s (change.Replace number links)))
    → AllEnter P notes
    → AllEnter P (replacement history moment s number body further notes).notes
unfolding replacement
replacement-enters P history moment s number body further notes good others =
    by (body_read body) refl
  where
    by : (read : BodyRead)
        → body_read body ≡ read
        → AllEnter P (replaced_links history moment s number further notes read).notes
    by (bad_body word) e = tt
    by (good_body links) e =
        change_made-enters P history (entry_of_step moment s (change.Replace number links))
        (record { reply = changed_with further; notes = notes }) (good links e) others

-- the change that links are for
abbrev change_for : Purpose → List SubmittedLink → Change
change_for (to_register params) links = change.Register params links
change_for (to_replace number) links = change.Replace number links

-- a whole body, by what its links are for
body_used-enters : (P : Entry → Type 0) (purpose : Purpose) (history : List Entry) (moment : ℕ)
    (s : Step) (body : List ℕ) (further : List Opt) (notes : List Note)
    → ((links : List SubmittedLink)
    → body_read body ≡ good_body links
    → P (entry_of_step moment s (change_for purpose links)))
    → AllEnter P notes
    → AllEnter P (body_used purpose history moment s body further notes).notes
body_used-enters P (to_register params) history moment s body further notes good others =
    registration-enters P history moment s params body further notes good others
body_used-enters P (to_replace number) history moment s body further notes good others =
    replacement-enters P history moment s number body further notes good others

-- links that come whole, or a block of them
links-enter : (P : Entry → Type 0) (purpose : Purpose) (rows : List Row) (moment : ℕ) (s : Step)
    (m : Message)
    → ((links : List SubmittedLink)
    → BringsLinks rows moment s m links
    → P (entry_of_step moment s (change_for purpose links)))
    → AllEnter P (links_outcome (sent_block m) purpose rows moment s m).notes
unfolding block_uploaded
links-enter P purpose rows moment s m good = by (sent_block m) refl
  where
    taken : (more : Bool) (b : Block) (before : List ℕ) → b.more ≡ more → sent_block m ≡ Some b
        → collected_before b (live_upload moment (s.peer, key_in m) (events rows)) ≡ Some before
        → AllEnter P (block_taken more purpose rows moment s m b (before ++ m.payload)).notes
    taken true b before last is e = (tt, tt)
    taken false b before last is e =
        body_used-enters P purpose (entries rows) moment s (before ++ m.payload) _
        (note.Finished s.peer (key_in m) ∷ [])
        (λ links read. good links (record {
          last = ap more_follow is ∙ last;
          collected = before;
          before = rw is e;
          read = read;
        })) (tt, tt)

    unless : (too_long too_many : Bool) (b : Block) (before : List ℕ)
        → sent_block m ≡ Some b
        → collected_before b (live_upload moment (s.peer, key_in m) (events rows)) ≡ Some before
        → AllEnter P (block_unless (block_room too_long too_many) purpose rows moment s m b
        (before ++ m.payload)).notes
    unless true too_many b before is e = tt
    unless false true b before is e = tt
    unless false false b before is e = taken b.more b before refl is e

    after : (front : Option (List ℕ)) (b : Block)
        → sent_block m ≡ Some b
        → collected_before b (live_upload moment (s.peer, key_in m) (events rows)) ≡ front
        → AllEnter P
        (block_after front (live_upload moment (s.peer, key_in m) (events rows)) purpose rows moment
        s m b).notes
    after None b is e = tt
    after (Some front) b is e =
        unless (nat_lt max_body (length front + length m.payload))
        (is_one_too_many b (live_upload moment (s.peer, key_in m) (events rows))
        (live_uploads moment (events rows))) b front is e

    by : (b : Option Block)
        → sent_block m ≡ b
        → AllEnter P (links_outcome b purpose rows moment s m).notes
    by None is =
        body_used-enters P purpose (entries rows) moment s m.payload [] []
        (λ links read. good links (record {
          last = ap more_follow is;
          collected = [];
          before = rw is refl;
          read = read;
        })) tt
    by (Some b) is =
        after (collected_before b (live_upload moment (s.peer, key_in m) (events rows))) b is refl

-- a registration, whole or a block of one
registering-enters : (rows : List Row) (moment : ℕ) (s : Step) (m : Message)
    → AllEnter (OfRequest path.Rd rows moment s m) (registering rows moment s m).notes
unfolding registering
registering-enters rows moment s m =
    links-enter (OfRequest path.Rd rows moment s m)
    (to_register (registration_values (queries_in m))) rows moment s m
    (λ links brings. (refl, (refl, brings)))

-- the code of a method that a request has
post_code : (m : Message) → method_of m.code ≡ post → m.code ≡ codes_of.post
post_code m is = eqb-true m.code codes_of.post (by (m.code == codes_of.get)
    (m.code == codes_of.post) (m.code == codes_of.put) (m.code == codes_of.delete) is)
  where
    by : (a b c d : Bool)
        → cond a get (cond b post (cond c put (cond d delete other_method))) ≡ post
        → b ≡ true
    by true b c d e = absurd (let no : get ≡ post = e in cc)
    by false true c d e = refl
    by false false true d e = absurd (let no : put ≡ post = e in cc)
    by false false false true e = absurd (let no : delete ≡ post = e in cc)
    by false false false false e = absurd (let no : other_method ≡ post = e in cc)

put_code : (m : Message) → method_of m.code ≡ put → m.code ≡ codes_of.put
put_code m is = eqb-true m.code codes_of.put (by (m.code == codes_of.get)
    (m.code == codes_of.post) (m.code == codes_of.put) (m.code == codes_of.delete) is)
  where
    by : (a b c d : Bool)
        → cond a get (cond b post (cond c put (cond d delete other_method))) ≡ put
        → c ≡ true
    by true b c d e = absurd (let no : get ≡ put = e in cc)
    by false true c d e = absurd (let no : post ≡ put = e in cc)
    by false false true d e = refl
    by false false false true e = absurd (let no : delete ≡ put = e in cc)
    by false false false false e = absurd (let no : other_method ≡ put = e in cc)

delete_code : (m : Message) → method_of m.code ≡ delete → m.code ≡ codes_of.delete
delete_code m is = eqb-true m.code codes_of.delete (by (m.code == codes_of.get)
    (m.code == codes_of.post) (m.code == codes_of.put) (m.code == codes_of.delete) is)
  where
    by : (a b c d : Bool)
        → cond a get (cond b post (cond c put (cond d delete other_method))) ≡ delete
        → d ≡ true
    by true b c d e = absurd (let no : get ≡ delete = e in cc)
    by false true c d e = absurd (let no : post ≡ delete = e in cc)
    by false false true d e = absurd (let no : put ≡ delete = e in cc)
    by false false false true e = refl
    by false false false false e = absurd (let no : other_method ≡ delete = e in cc)

-- a write on a registration, by its method
location-enters : (w : Method) (rows : List Row) (moment : ℕ) (s : Step) (m : Message) (number : ℕ)
    → method_of m.code ≡ w
    → AllEnter (OfRequest (path.Location number) rows moment s m)
    (location_outcome w rows moment s m number).notes
unfolding replacing
location-enters get rows moment s m number is = tt
location-enters post rows moment s m number is =
    change_made-enters (OfRequest (path.Location number) rows moment s m) (entries rows) _ _
    (refl, (post_code m is, refl, refl)) tt
location-enters put rows moment s m number is =
    links-enter (OfRequest (path.Location number) rows moment s m) (to_replace number) rows moment s
    m (λ links brings. (refl, (put_code m is, refl, brings)))
location-enters delete rows moment s m number is =
    change_made-enters (OfRequest (path.Location number) rows moment s m) (entries rows) _ _
    (refl, (delete_code m is, refl)) tt
location-enters other_method rows moment s m number is = tt

-- a commit
commit_enters : (rows : List Row) (moment place : ℕ) (s : Step) (m : Message)
    → AllEnter (OfRequest (path_in m) rows moment s m) (commit_effects rows moment place s m).notes
unfolding commit_effects answering
commit_enters rows moment place s m = by (path_in m)
  where
    settled : (P : Entry → Type 0) (outcome : Outcome)
        → AllEnter P outcome.notes
        → AllEnter P (settling place s m outcome).notes
    settled P outcome h = each_append (Enters P) outcome.notes _ h (tt, tt)

    simple : (running too_many : Bool)
        → AllEnter (OfRequest path.SimpleRd rows moment s m)
        (simple_unless (fetch_room running too_many) (events rows) place s m).notes
    simple true too_many = (tt, tt)
    simple false true = (tt, tt)
    simple false false = (tt, (tt, tt))

    by : (p : Path)
        → AllEnter (OfRequest p rows moment s m) (write_done p rows moment place s m).notes
    by path.Core = tt
    by path.SimpleRd =
        simple (is_fetching s.peer (events rows))
        (nat_le max_fetches (length (fetches (events rows))))
    by path.Rd =
        settled (OfRequest path.Rd rows moment s m) (registering rows moment s m)
        (registering-enters rows moment s m)
    by (path.Location number) =
        settled (OfRequest (path.Location number) rows moment s m)
        (location_outcome (method_of m.code) rows moment s m number)
        (location-enters (method_of m.code) rows moment s m number refl)
    by path.Res = tt
    by path.Ep = tt
    by path.Other = tt

-- a response
response_enters : (rows : List Row) (moment : ℕ) (s : Step) (m : Message) (P : Entry → Type 0)
    → ((request : Request) (links : List SubmittedLink) → fetch_of s m (events rows) ≡ Some request
    → EndsBody rows s m
    → body_read (collected s.peer (events rows) ++ m.payload) ≡ good_body links
    → P (entry_of_step moment s (change.Register request.params links)))
    → AllEnter P (response_effects rows moment s m).notes
unfolding response_effects
response_enters rows moment s m P good = by (fetch_of s m (events rows)) refl
  where
    foreign : (k : Kind4) → AllEnter P (strange s m k).notes
    foreign Con = tt
    foreign Non = tt
    foreign Ack = tt
    foreign Rst = tt

    acknowledged : (k : Kind4) → AllEnter P (acknowledgement s m k).notes
    acknowledged Con = tt
    acknowledged Non = tt
    acknowledged Ack = tt
    acknowledged Rst = tt

    size : ℕ
    size = length (collected s.peer (events rows))

    whole : (request : Request) → fetch_of s m (events rows) ≡ Some request → EndsBody rows s m
        → AllEnter P (completed rows moment s request
        (collected s.peer (events rows) ++ m.payload)).notes
    whole request e ended =
        each_append (Enters P) (registration (entries rows) moment s request.params
        (collected s.peer (events rows) ++ m.payload) [] []).notes (note.Ceased s.peer ∷ [])
        (registration-enters P (entries rows) moment s request.params
        (collected s.peer (events rows) ++ m.payload) [] []
        (λ links read. good request links e ended read) tt) (tt, tt)

    gathers : (more : Bool) (b : Option Block) (request : Request)
        → fetch_of s m (events rows) ≡ Some request → (more ≡ false → EndsBody rows s m)
        → (b ≡ None → more ≡ false)
        → AllEnter P (gathering more b rows moment s m request).notes
    gathers more None request e ended one = whole request e (ended (one refl))
    gathers false (Some b) request e ended one = whole request e (ended refl)
    gathers true (Some b) request e ended one = (tt, (tt, tt))

    taken : (elsewhere over : Bool) (request : Request) → fetch_of s m (events rows) ≡ Some request
        → is_elsewhere (block_in m) size ≡ elsewhere
        → ends_fetch m (gathered s.peer (events rows)) size ≡ over
        → AllEnter P (response_taken (response_use elsewhere over) rows moment s m request).notes
    taken true over request e joins goes_on = tt
    taken false true request e joins goes_on = (tt, tt)
    taken false false request e joins goes_on =
        gathers (more_follow (block_in m)) (block_in m) request e
        (λ last_one. record {
          content = content_of m (gathered s.peer (events rows)) size goes_on;
          joins = joins;
          last = last_one;
          whole = goes_on;
        })
        (λ none. ap more_follow none)

    by : (request : Option Request)
        → fetch_of s m (events rows) ≡ request
        → AllEnter P (response_to_request request rows moment s m).notes
    by None e = foreign m.kind
    by (Some request) e =
        each_append (Enters P) (acknowledgement s m m.kind).notes
        (response_to rows moment s m request).notes (acknowledged m.kind)
        (taken (is_elsewhere (block_in m) size)
        (ends_fetch m (gathered s.peer (events rows)) size) request e refl refl)

-- whatever a step enters
step_enters : (starved : Bool) (rows : List Row) (moment : ℕ) (s : Step) (ns : List Note)
    → StepNoted s.kind starved rows moment s ns
    → AllEnter (IsEntryOf rows moment s) ns
step_enters starved rows moment s ns it = by it
  where
    P : Entry → Type 0
    P = IsEntryOf rows moment s

    -- what a commit enters
    committed : (place : ℕ) → s.kind ≡ step.Commit place → (m : Message) → reading s.datagram ≡ Ok m
        → (notes : List Note) → AllEnter (OfRequest (path_in m) rows moment s m) notes
        → AllEnter P notes
    committed place kind m read [] all = tt
    committed place kind m read (n ∷ notes) all =
        (one n all.0, committed place kind m read notes all.1)
      where
        one : (x : Note) → Enters (OfRequest (path_in m) rows moment s m) x → Enters P x
        one (note.Entered entry) h = record {
          stamped = h.0;
          asked = subst (λ (k : StepKind). IsAskedBy k rows moment s entry.change) (sym kind)
              (record { message = m; read = read; asks = h.1 });
        }
        one _ h = tt

    -- what a beginning enters
    begun : (first : ℕ)
        → s.kind ≡ step.Begin first
        → (b : Bool)
        → AllEnter P (beginning b (entries rows) moment s first).notes
    begun first kind true = tt
    begun first kind false = unless (change_refusal 0 (entries rows) (begin_entry moment s first))
      where
        unless : (o : Option Refusal)
            → AllEnter P (entered_alone o (begin_entry moment s first)).notes
        unless (Some why) = tt
        unless None = (
          record {
            stamped = refl;
            asked =
                subst (λ (k : StepKind). IsAskedBy k rows moment s (change.Begin first)) (sym kind)
                refl;
          },
          tt,
        )

    by : StepNoted s.kind starved rows moment s ns → AllEnter P ns
    by (noted.nothing blank) = none_enter P ns (ap entries_in blank)
    by (noted.write m here read asks is) =
        none_enter P ns (ap entries_in is ∙ write_effects-entries_in (events rows) moment s m)
    by (noted.lookup m here read at is) =
        none_enter P ns (ap entries_in is ∙ lookup_effects-entries_in rows moment s m)
    by (noted.source m here read at is) =
        none_enter P ns (ap entries_in is ∙ read_effects-entries_in rows moment s m)
    by (noted.empty here all) = none_enter P ns (empty-entries_in ns all)
    by (noted.response m here read responds is) =
        subst (AllEnter P) (sym is) (response_enters rows moment s m P
        (λ request links e ended body. record {
          stamped = refl;
          asked = subst (λ (k : StepKind). IsAskedBy k rows moment s
              (change.Register request.params links)) (sym here) (record {
                answers = record {
                  kind = here;
                  message = m;
                  read = read;
                  response = responds;
                  request = request;
                  fetch = e;
                };
                body = ended;
                makes = (refl, body);
              });
        }))
    by (noted.commit m place commits read is) =
        subst (AllEnter P) (sym is)
        (committed place commits m read (commit_effects rows moment place s m).notes
        (commit_enters rows moment place s m))
    by (noted.failed place commits is) = none_enter P ns (ap entries_in is)
    by (noted.keep m body tag keeps is) =
        none_enter P ns (ap entries_in is ∙ keep_effects-entries_in s m body tag)
    by (noted.tick ticks is) =
        none_enter P ns (ap entries_in is ∙ tick_effects-entries_in starved rows moment s)
    by (noted.begins first begins is) =
        subst (AllEnter P) (sym is) (begun first begins starved)

-- whatever a row enters
row_enters : (rows : List Row) (s : Step) (starved : Bool)
    → AllEnter (IsEntryOf rows (row rows s starved).moment.0 s) (row rows s starved).notes
unfolding row
row_enters rows s starved =
    step_enters starved rows (row_moment rows s) s _
    (effects-StepNoted s.kind starved rows (row_moment rows s) s)

-- so it is of rows of steps
pub rows-entry : (rows before : List Row) (r : Row) (entry : Entry)
    → AreRows rows
    → Within rows before r
    → entries_of r ≡ entry ∷ []
    → IsEntryOf before r.moment.0 r.step entry
unfolding row
rows-entry rows before r entry all_rows within is =
    let it : RowMade before r = each_made rows before r all_rows within in
    let all : AllEnter (IsEntryOf before r.moment.0 r.step) r.notes =
    subst (λ (x : Row). AllEnter (IsEntryOf before x.moment.0 x.step) x.notes) (sym it.is)
    (row_enters before it.step it.starved) in
    (subst (AllByRecursion (IsEntryOf before r.moment.0 r.step)) is
    (entered (IsEntryOf before r.moment.0 r.step) r.notes all)).0
