-- A row that is no tick: what it sends was built as the headline says, and so was what it keeps.
use Rattle.std.proofs.Common.{◌≡◌, ℕ, ◌≤◌, ◌&&◌, ◌||◌, Bool, true, false, not, cond, List, [], ◌∷◌}
use Rattle.std.proofs.Common.{length, option_map, Some, Result, Ok, Err, refl, sym, ap, ap₂}
use Rattle.std.proofs.Common.{subst, ◌∙◌}
use Rattle.std.specs.List.{list_any, AllByRecursion}
use Rattle.std.proofs.lemmas.Bool.{false≢true}
use Rattle.rd_base.specs.declared.peers.Peer.{Peer}
use Rattle.message_model.specs.declared.messages.Unread.{Unread}
use Rattle.message_model.specs.Message.{Message, longest_token}
use Rattle.message_model.specs.RequestKey.{key_in}
use Rattle.message_model.specs.Reading.{reading}
use Rattle.history_model.specs.Listing.{tag}
use Rattle.event_model.specs.declared.notes.Note.{Note}
use Rattle.event_model.specs.declared.notes.Note.TheVariants as note
use Rattle.event_model.specs.Same.{RequestName}
use Rattle.event_model.proofs.SameLaws.{is_same_request-refl}
use Rattle.journal_model.specs.declared.steps.StepKind.{StepKind}
use Rattle.journal_model.specs.declared.steps.StepKind.TheVariants as step
use Rattle.journal_model.specs.declared.rows.Row.{Row}
use Rattle.journal_model.specs.Journal.{is_heard, entries}
use Rattle.journal_model.specs.Requests.{is_later_block}
use Rattle.journal_model.specs.Sought.{Sought, sought_in, has_tag}
use Rattle.journal_model.specs.Sought as seeking
use Rattle.journal_model.specs.Looks.{look_effects}
use Rattle.journal_model.specs.PlacedRows.{Placed}
use Rattle.journal_model.specs.BodyFormers.{former_of_body, reads_answer, reads_further_block}
use Rattle.journal_model.specs.BodyFormers.{former_of_further, former_at, is_keep}
use Rattle.journal_model.specs.BodyFormers.{is_formed_in_rows}
use Rattle.journal_model.specs.AskedListings.{asked_of, asked_in, asked_at, seeks_links}
use Rattle.journal_model.specs.AskedListings.{answers_with_links}
use Rattle.journal_model.proofs.EntriesNoted.{entries_in}
use Rattle.journal_model.proofs.StepNotes.{look_effects-notes}
use Rattle.message_model.proofs.ReadingLaws.{header_read}
use Rattle.journal_model.proofs.sends.BodyAnswers.{
  wanted_by,
  asking,
  Bears,
  IsUntagged,
  HasNone,
  other_code,
  bears_carries,
}
use Rattle.journal_model.proofs.sends.PlainSteps.{ArePlain, IsPlain}
use Rattle.headline_law.proofs.sends.LookupSends.{IsAnswerOf, AreFound, of_body, of_none}
use Rattle.headline_law.proofs.sends.LookupSends.{LookOutcome, found, discovered, look_outcome}
use Rattle.headline_law.proofs.sends.LookupSends.{reads_kept}
use Rattle.journal_model.proofs.notes.LookupNotes.{IsAsking, KeptAt, NoteAsAsked, NotesAsAsked}
use Rattle.journal_model.proofs.notes.LookupNotes.{OfWatched}
use Rattle.headline_law.proofs.flights.CarriedListings.{Carried, former_holds_seen}
use Rattle.headline_law.proofs.sends.StepOutcomes.{is_keeping}
use Rattle.journal_model.proofs.entries.JournalLaws.{entries-none_noted}
use Rattle.rd_base.proofs.lemmas.Each.{each_weaker, each_failing, none_pass}

-- an answer that is kept at a row: what is found of what its key seeks, at the row that built it
pub record KeptAsFormed (here : Placed) (key body current : List ℕ) : Type 0 where
  pub former : Placed
  pub formed : former_of_body here.row.step.kind here ≡ Some former
  pub is_kept : KeptAt (entries (former.row ∷ former.before)) former.row.moment.0 key body current

-- a note of a row is as it was built: what is kept is what is found at the row that built it, and
-- an observer asks for its query
abbrev pub NoteAsFormed : Placed → Note → Type 0
NoteAsFormed here (note.Kept peer key body current) = KeptAsFormed here key body current
NoteAsFormed here (note.Watched o) = IsAsking o
NoteAsFormed here _ = Unit {0}

-- what holds of each row: where the keeps are known to end looks, as in a journal of the machine,
-- of all rows; else of those whose bodies were built in rows
pub record RowCarries (keeps : Bool) (before : List Row) (r : Row) : Type 0 where
  pub carried : (keeps || is_formed_in_rows r.step.kind (record { row = r; before = before })) ≡
      true
      → AllByRecursion (Carried (record { row = r; before = before })) r.sent
  pub noted : (keeps || not (is_keep r.step.kind)) ≡ true
      → AllByRecursion (NoteAsFormed (record { row = r; before = before })) r.notes
  pub asking : AllByRecursion (OfWatched IsAsking) r.notes

-- an observer that a note adds asks for its query
pub asks_as_noted : (here : Placed) (notes : List Note) → AllByRecursion (NoteAsFormed here) notes
    → AllByRecursion (OfWatched IsAsking) notes
asks_as_noted here notes all = each_weaker (NoteAsFormed here) (OfWatched IsAsking) by notes all
  where
    by : (n : Note) → NoteAsFormed here n → OfWatched IsAsking n
    by (note.Watched o) h = h
    by _ h = tt

-- ---- plain rows

-- what keeps nothing
keeps_nothing : (here : Placed) (notes : List Note)
    → list_any is_keeping notes ≡ false
    → AllByRecursion (NoteAsFormed here) notes
keeps_nothing here notes none = each_failing is_keeping (NoteAsFormed here) by notes none
  where
    by : (x : Note) → is_keeping x ≡ false → NoteAsFormed here x
    by (note.Kept peer key body current) h = absurd (false≢true (sym h))
    by (note.Watched o) h = absurd (false≢true (sym h))
    by _ h = tt

-- so it is of a row of plain messages
pub plain_row : (keeps : Bool) (rows : List Row) (r : Row) → ArePlain r.sent
    → list_any is_keeping r.notes ≡ false → RowCarries keeps rows r
plain_row keeps rows r plain none = record {
  carried = λ _. each_weaker (λ (d : Peer × List ℕ). IsPlain d.1)
      (Carried (record { row = r; before = rows }))
      (λ d p m e listed _. absurd (false≢true (sym (other_code d.1 p.no_content m e) ∙ listed)))
      r.sent plain;
  noted = λ _. keeps_nothing (record { row = r; before = rows }) r.notes none;
  asking = asks_as_noted (record { row = r; before = rows }) r.notes
      (keeps_nothing (record { row = r; before = rows }) r.notes none);
}

-- ---- rows of datagrams that are heard

-- the row that built what a heard datagram is answered with: its own, unless it reads a further
-- block
pub heard_former : (k : StepKind) (peer : Peer) (mid : ℕ) (here : Placed) → is_heard k ≡ true
    → former_at k peer mid here ≡ cond (reads_further_block (reading here.row.step.datagram) here)
    (former_of_further (reading here.row.step.datagram) here) (Some here)
heard_former step.Admit peer mid here h = refl
heard_former step.Look peer mid here h = refl
heard_former (step.Commit place) peer mid here h = absurd (false≢true h)
heard_former (step.Keep body current) peer mid here h = absurd (false≢true h)
heard_former step.Tick peer mid here h = absurd (false≢true h)
heard_former (step.Begin first) peer mid here h = absurd (false≢true h)

-- what is asked for is what the request asks for
pub heard_asked : (k : StepKind) (name : RequestName) (here : Placed)
    → is_heard k ≡ true
    → asked_at k name here ≡ asked_in name here.row.step.peer (reading here.row.step.datagram)
heard_asked step.Admit name here h = refl
heard_asked step.Look name here h = refl
heard_asked (step.Commit place) name here h = absurd (false≢true h)
heard_asked (step.Keep body current) name here h = absurd (false≢true h)
heard_asked step.Tick name here h = absurd (false≢true h)
heard_asked (step.Begin first) name here h = absurd (false≢true h)

-- where the answer has its peer and its token
pub asked_in-own : (peer : Peer) (m : Message) (sought : Sought) (name : RequestName)
    (read : Result Message Unread)
    → read ≡ Ok m
    → sought_in m ≡ Some sought
    → name.0 ≡ peer
    → name.1 ≡ m.token
    → asked_in name peer read ≡ Some (asking (wanted_by m) sought)
asked_in-own peer m sought name read is seeks same_peer same_token =
    ap (asked_in name peer) is
    ∙ subst (λ (x : RequestName). asked_in x peer (Ok m) ≡ Some (asking (wanted_by m) sought))
    (ap₂ (λ p t. (p, t)) (sym same_peer) (sym same_token))
    (rw (is_same_request-refl (peer, m.token)) (ap (option_map (asked_of m)) seeks))

-- and what such a row keeps, it built itself
pub heard_forms_itself : (k : StepKind) (here : Placed)
    → is_heard k ≡ true
    → former_of_body k here ≡ Some here
heard_forms_itself step.Admit here h = refl
heard_forms_itself step.Look here h = refl
heard_forms_itself (step.Commit place) here h = absurd (false≢true h)
heard_forms_itself (step.Keep body current) here h = absurd (false≢true h)
heard_forms_itself step.Tick here h = absurd (false≢true h)
heard_forms_itself (step.Begin first) here h = absurd (false≢true h)

-- a row that reads no kept answer reads no further block
reads_none : (here : Placed) (read : Result Message Unread)
    → list_any reads_kept here.row.notes ≡ false → reads_further_block read here ≡ false
reads_none here (Err fault) none = refl
reads_none here (Ok m) none =
    by (is_later_block m)
    (none_pass reads_kept (reads_answer (here.row.step.peer, key_in m)) never here.row.notes none)
  where
    never : (n : Note) → reads_kept n ≡ false
        → reads_answer (here.row.step.peer, key_in m) n ≡ false
    never (note.Used p key) h = absurd (false≢true (sym h))
    never _ h = refl

    by : (b : Bool) → list_any (reads_answer (here.row.step.peer, key_in m)) here.row.notes ≡ false
        → (b && list_any (reads_answer (here.row.step.peer, key_in m)) here.row.notes) ≡ false
    by true h = h
    by false h = refl

-- so it built what it answers
formed_now : (here : Placed) (k : StepKind) (peer : Peer) (mid : ℕ) → is_heard k ≡ true
    → list_any reads_kept here.row.notes ≡ false → former_at k peer mid here ≡ Some here
formed_now here k peer mid hears none =
    heard_former k peer mid here hears
    ∙ rw (reads_none here (reading here.row.step.datagram) none) refl

-- what is found now
pub now_carried : (rows : List Row) (r : Row) (m : Message) → is_heard r.step.kind ≡ true
    → reading r.step.datagram ≡ Ok m → entries (r ∷ rows) ≡ entries rows
    → list_any reads_kept r.notes ≡ false
    → AreFound r.step.peer m (entries rows) r.moment.0 r.sent
    → AllByRecursion (Carried (record { row = r; before = rows })) r.sent
now_carried rows r m hears read same_entries none (of_none all) =
    each_weaker (λ (d : Peer × List ℕ). HasNone d.1) (Carried (record { row = r; before = rows }))
    (λ d no n e content _. absurd (false≢true (sym (no n e) ∙ content))) r.sent all
now_carried rows r m hears read same_entries none (of_body sought whole seeks is all) =
    each_weaker (IsAnswerOf r.step.peer (wanted_by m) whole (tag (entries rows) r.moment.0))
    (Carried (record { row = r; before = rows })) one r.sent all
  where
    one : (d : Peer × List ℕ)
        → IsAnswerOf r.step.peer (wanted_by m) whole (tag (entries rows) r.moment.0) d
        → Carried (record { row = r; before = rows }) d
    one d body n e listed _ = record {
      former = record { row = r; before = rows };
      formed = formed_now (record { row = r; before = rows }) r.step.kind d.0 n.mid hears none;
      asked = asking (wanted_by m) sought;
      asks =
          heard_asked r.step.kind (d.0, n.token) (record { row = r; before = rows }) hears
          ∙ asked_in-own r.step.peer m sought (d.0, n.token) (reading r.step.datagram) read seeks
          body.0 (body.1 n e listed).token_is;
      carries = bears_carries (wanted_by m) sought (entries (r ∷ rows)) r.moment.0 whole n
          (subst (λ history. seeking.body sought history r.moment.0 ≡ Some whole) (sym same_entries)
          is)
          (subst (λ history. Bears (wanted_by m) whole (tag history r.moment.0) n)
          (sym same_entries) (body.1 n e listed));
      holds_seen = former_holds_seen r.step.kind d.0 n.mid (record { row = r; before = rows })
          (record { row = r; before = rows })
          (formed_now (record { row = r; before = rows }) r.step.kind d.0 n.mid hears none);
    }

-- what a row keeps that builds its own answers
pub own_notes_as_formed : (rows : List Row) (r : Row)
    → former_of_body r.step.kind (record { row = r; before = rows })
    ≡ Some (record { row = r; before = rows })
    → entries (r ∷ rows) ≡ entries rows
    → (notes : List Note)
    → NotesAsAsked rows r.moment.0 notes
    → AllByRecursion (NoteAsFormed (record { row = r; before = rows })) notes
own_notes_as_formed rows r formed same_entries [] h = tt
own_notes_as_formed rows r formed same_entries (n ∷ notes) h =
    (by n h.0, own_notes_as_formed rows r formed same_entries notes h.1)
  where
    by : (x : Note)
        → NoteAsAsked (entries rows) r.moment.0 x
        → NoteAsFormed (record { row = r; before = rows }) x
    by (note.Kept peer key body current) k = record {
      former = record { row = r; before = rows };
      formed = formed;
      is_kept = subst (λ history. KeptAt history r.moment.0 key body current) (sym same_entries) k;
    }
    by (note.Watched o) k = k
    by _ k = tt

-- a row of a look
pub look_row : (keeps : Bool) (rows : List Row) (r : Row) (m : Message)
    → is_heard r.step.kind ≡ true → reading r.step.datagram ≡ Ok m
    → r.sent ≡ (look_effects (entries rows) r.moment.0 r.step m).sent
    → r.notes ≡ (look_effects (entries rows) r.moment.0 r.step m).notes → RowCarries keeps rows r
look_row keeps rows r m hears read sent notes = record {
  carried = λ _. by (look_outcome (entries rows) r.moment.0 r.step m small);
  noted = λ _. subst (AllByRecursion (NoteAsFormed (record { row = r; before = rows })))
      (sym none) tt;
  asking = subst (AllByRecursion (OfWatched IsAsking)) (sym none) tt;
}
  where
    none : r.notes ≡ []
    none = notes ∙ look_effects-notes (entries rows) r.moment.0 r.step m

    small : length m.token ≤ longest_token
    small = (header_read r.step.datagram m read).token

    -- a discovery seeks neither a listing nor a source
    no_links : (k : StepKind)
        → is_heard k ≡ true
        → has_tag (sought_in m) ≡ false
        → answers_with_links k (reading r.step.datagram) ≡ false
    no_links step.Admit h without = ap seeks_links read ∙ without
    no_links step.Look h without = ap seeks_links read ∙ without
    no_links (step.Commit place) h without = absurd (false≢true h)
    no_links (step.Keep body current) h without = absurd (false≢true h)
    no_links step.Tick h without = absurd (false≢true h)
    no_links (step.Begin first) h without = absurd (false≢true h)

    by : LookOutcome r.step.peer m (entries rows) r.moment.0
        (look_effects (entries rows) r.moment.0 r.step m).sent
        → AllByRecursion (Carried (record { row = r; before = rows })) r.sent
    by (discovered without all) =
        each_weaker (λ (d : Peer × List ℕ). IsUntagged d.1)
        (Carried (record { row = r; before = rows }))
        (λ d untagged n e content listed.
        absurd
        (false≢true (sym (rw (no_links r.step.kind hears without, untagged n e content) refl)
        ∙ listed))) r.sent
        (subst (AllByRecursion (λ (d : Peer × List ℕ). IsUntagged d.1)) (sym sent) all)
    by (found it) =
        now_carried rows r m hears read (entries-none_noted rows r (ap entries_in none))
        (ap (list_any reads_kept) none)
        (subst (AreFound r.step.peer m (entries rows) r.moment.0) (sym sent) it)
