-- Rows of lookups and of reads of a registration: what they send was built as the headline says,
-- also where it is read from a kept answer.
use Rattle.std.proofs.Common.{◌≡◌, ℕ, ◌||◌, Bool, true, false, not, cond, List, [], ◌∷◌}
use Rattle.std.proofs.Common.{length, Option, Some, None, option_and_then, Ok, refl, sym, ap, subst}
use Rattle.std.proofs.Common.{◌∙◌}
use Rattle.std.specs.Prelude.{is_some}
use Rattle.std.specs.List.{list_any, AllByRecursion}
use Rattle.std.proofs.lemmas.Bool.{false≢true}
use Rattle.std.proofs.lemmas.Option.{same_Some}
use Rattle.rd_base.specs.declared.peers.Peer.{Peer}
use Rattle.message_model.specs.Message.{Message}
use Rattle.message_model.specs.Reading.{reading}
use Rattle.message_model.specs.Request.{path_in}
use Rattle.message_model.specs.RequestKey.{key_in}
use Rattle.event_model.specs.declared.notes.Note.{Note}
use Rattle.event_model.specs.declared.notes.Note.TheVariants as note
use Rattle.event_model.specs.Same.{RequestName, is_same_request}
use Rattle.event_model.specs.Events.{Event, last_said}
use Rattle.event_model.specs.KeptAnswers.{Answer, answer_kept, is_live_answer, kept_answer}
use Rattle.event_model.proofs.SameLaws.{is_same_request-Decides, is_same_request-refl}
use Rattle.journal_model.specs.declared.steps.StepKind.{StepKind}
use Rattle.journal_model.specs.declared.steps.StepKind.TheVariants as step
use Rattle.journal_model.specs.declared.rows.Row.{Row}
use Rattle.journal_model.specs.Journal.{is_heard, events, entries}
use Rattle.journal_model.specs.Effects.{Effects}
use Rattle.journal_model.specs.Requests.{is_lookup, is_later_block, reads_registration}
use Rattle.journal_model.specs.Lookups.{lookup_effects, read_effects}
use Rattle.journal_model.specs.PlacedRows.{Placed}
use Rattle.journal_model.specs.BodyFormers.{former_of_body, former_of_kept, reads_answer}
use Rattle.journal_model.specs.BodyFormers.{reads_further_block, former_of_further, former_at}
use Rattle.journal_model.specs.BodyFormers.{last_kept, is_keep, is_of_keep, reads_body_of_keep}
use Rattle.journal_model.specs.BodyFormers.{is_formed_in_rows}
use Rattle.journal_model.proofs.EntriesNoted.{entries_in}
use Rattle.journal_model.proofs.entries.QuietSteps.{
  lookup_effects-entries_in,
  read_effects-entries_in,
}
use Rattle.message_model.proofs.ReadingLaws.{header_read}
use Rattle.journal_model.proofs.sends.BodyAnswers.{
  wanted_by,
  asking,
  Bears,
  tag-length,
  bears_carries,
}
use Rattle.headline_law.proofs.sends.LookupSends.{IsAnswerOf, AreFound, AreBodiesOf, reads_kept}
use Rattle.headline_law.proofs.sends.LookupSends.{LookupOutcome, now, kept, lookup_outcome}
use Rattle.headline_law.proofs.sends.LookupSends.{read_outcome}
use Rattle.journal_model.proofs.EventRows.{AllRows, row_of, row_within, said_by}
use Rattle.journal_model.proofs.notes.LookupNotes.{
  seeks_once,
  KeptAt,
  NotesAsAsked,
  lookup_notes_as_asked,
  read_notes_as_asked,
}
use Rattle.headline_law.proofs.flights.CarriedListings.{Carried, former_holds_seen}
use Rattle.headline_law.proofs.rows.RowCarries.{KeptAsFormed, NoteAsFormed, RowCarries}
use Rattle.headline_law.proofs.rows.RowCarries.{asks_as_noted, heard_former, heard_asked}
use Rattle.headline_law.proofs.rows.RowCarries.{asked_in-own}
use Rattle.headline_law.proofs.rows.RowCarries.{heard_forms_itself, now_carried}
use Rattle.headline_law.proofs.rows.RowCarries.{own_notes_as_formed}
use Rattle.rd_base.proofs.lemmas.Among.{all_among}
use Rattle.journal_model.proofs.entries.JournalLaws.{entries-none_noted}
use Rattle.rd_base.proofs.lemmas.Each.{each_weaker}

-- ---- kept answers

-- the note that keeps an answer under a name
kept_note : (here : Placed) (name : RequestName) (answer : Answer) (n : Note)
    → NoteAsFormed here n
    → answer_kept name n ≡ Some answer
    → KeptAsFormed here name.1 answer.body answer.tag
kept_note here name answer (note.Kept peer key body current) k said =
    by (is_same_request (peer, key) name) refl said
  where
    by : (b : Bool)
        → is_same_request (peer, key) name ≡ b
        → cond b (Some (record { body = body; tag = current })) None ≡ Some answer
        → KeptAsFormed here name.1 answer.body answer.tag
    by true same e =
        subst (λ (a : Answer). KeptAsFormed here name.1 a.body a.tag)
        (same_Some (record { body = body; tag = current }) answer e)
        (subst (λ other. KeptAsFormed here other body current)
        (ap (λ (x : RequestName). x.1) ((is_same_request-Decides (peer, key) name).0 same)) k)
    by false other e = absurd (let no_one : None ≡ Some answer = e in cc)
kept_note here name answer _ k said = absurd (let no_one : None ≡ Some answer = said in cc)

-- a kept answer that lives was kept
was_kept : (moment : ℕ) (name : RequestName) (past : List Event) (answer : Answer)
    → kept_answer moment name past ≡ Some answer
    → last_said (answer_kept name) past ≡ Some answer
unfolding kept_answer
was_kept moment name past answer e = by (last_said (answer_kept name) past) e
  where
    live : (b : Bool) (a : Answer) → cond b (Some a) None ≡ Some answer → Some a ≡ Some answer
    live true a h = h
    live false a h = absurd (let no_one : None ≡ Some answer = h in cc)

    by : (o : Option Answer)
        → option_and_then (λ a. cond (is_live_answer moment name past) (Some a) None) o
        ≡ Some answer
        → o ≡ Some answer
    by None h = absurd (let no_one : None ≡ Some answer = h in cc)
    by (Some a) h = live (is_live_answer moment name past) a h

-- a kept answer, with the row that built it
pub record KeptFrom (rows : List Row) (name : RequestName) (answer : Answer) : Type 0 where
  pub former : Placed
  pub formed : former_of_kept name rows ≡ Some former
  pub is_kept : KeptAt (entries (former.row ∷ former.before)) former.row.moment.0 name.1 answer.body
      answer.tag

-- so it is of each kept answer that lives
-- where the keeps are known, or none kept it
pub kept_from : (keeps : Bool) (rows : List Row) (moment : ℕ) (name : RequestName) (answer : Answer)
    → AllRows (RowCarries keeps) rows → (keeps || not (is_of_keep (last_kept name rows))) ≡ true
    → kept_answer moment name (events rows) ≡ Some answer → KeptFrom rows name answer
kept_from keeps rows moment name answer all known e =
    let found =
    said_by (answer_kept name) (events rows) answer
    (was_kept moment name (events rows) answer e) in
    let it = row_of (λ n. is_some (answer_kept name n)) rows found.0 found.1 in
    let formed_so : (keeps || not (is_keep it.placed.row.step.kind)) ≡ true =
    subst (λ (o : Option Placed). (keeps || not (is_of_keep o)) ≡ true) it.last known in
    let noted = all_among (NoteAsFormed it.placed) found.0.note it.placed.row.notes
    ((row_within (RowCarries keeps) rows it.placed.before it.placed.row all it.within).noted
    formed_so) it.note in
    let by = kept_note it.placed name answer found.0.note noted found.2 in
    record {
      former = by.former;
      formed =
          ap (λ (o : Option Placed).
          option_and_then (λ (p : Placed). former_of_body p.row.step.kind p) o) it.last
          ∙ by.formed;
      is_kept = by.is_kept;
    }

-- ---- a row of a lookup, or of a read of a registration

-- one that reads a kept answer
used_carried : (rows : List Row) (r : Row) (m : Message) (answer : Answer) → is_later_block m ≡ true
    → is_heard r.step.kind ≡ true → reading r.step.datagram ≡ Ok m
    → r.notes ≡ note.Used r.step.peer (key_in m) ∷ []
    → KeptFrom rows (r.step.peer, key_in m) answer
    → AreBodiesOf r.step.peer (wanted_by m) answer.body answer.tag r.sent
    → AllByRecursion (Carried (record { row = r; before = rows })) r.sent
used_carried rows r m answer further heard read notes from all =
    each_weaker (IsAnswerOf r.step.peer (wanted_by m) answer.body answer.tag)
    (Carried (record { row = r; before = rows })) one r.sent all
  where
    here : Placed
    here = record { row = r; before = rows }

    reads : reads_further_block (reading r.step.datagram) here ≡ true
    reads = ap (λ read_as. reads_further_block read_as here) read
        ∙ rw (
          further,
          ap (list_any (reads_answer (r.step.peer, key_in m))) notes,
          is_same_request-refl (r.step.peer, key_in m),
        ) refl

    formed : (peer : Peer) (mid : ℕ) → former_at r.step.kind peer mid here ≡ Some from.former
    formed peer mid = heard_former r.step.kind peer mid here heard
        ∙ rw reads (ap (λ read_as. former_of_further read_as here) read ∙ from.formed)

    one : (d : Peer × List ℕ)
        → IsAnswerOf r.step.peer (wanted_by m) answer.body answer.tag d
        → Carried (record { row = r; before = rows }) d
    one d body n e listed _ = record {
      former = from.former;
      formed = formed d.0 n.mid;
      asked = asking (wanted_by m) from.is_kept.sought;
      asks =
          heard_asked r.step.kind (d.0, n.token) (record { row = r; before = rows }) heard
          ∙ asked_in-own r.step.peer m from.is_kept.sought (d.0, n.token)
          (reading r.step.datagram) read
          (seeks_once (key_in m) from.is_kept.sought m from.is_kept.seeks refl) body.0
          (body.1 n e listed).token_is;
      holds_seen = former_holds_seen r.step.kind d.0 n.mid here from.former (formed d.0 n.mid);
      carries =
          bears_carries (wanted_by m) from.is_kept.sought
          (entries (from.former.row ∷ from.former.before)) from.former.row.moment.0 answer.body n
          from.is_kept.found
          (subst (λ t. Bears (wanted_by m) answer.body t n) from.is_kept.tag_is
          (body.1 n e listed));
    }

-- any row with what a lookup or a read sends and notes
row_of_lookup : (keeps : Bool) (rows : List Row) (r : Row) (m : Message) (e : Effects)
    → AllRows (RowCarries keeps) rows → is_heard r.step.kind ≡ true → reading r.step.datagram ≡ Ok m
    → r.sent ≡ e.sent → r.notes ≡ e.notes
    → entries_in e.notes ≡ []
    → NotesAsAsked rows r.moment.0 e.notes
    → LookupOutcome rows r.moment.0 r.step m e
    → RowCarries keeps rows r
row_of_lookup keeps rows r m e all heard read sent notes silent as_asked outcome = record {
  carried = λ known. by known outcome;
  noted = λ _. own;
  asking = asks_as_noted here r.notes own;
}
  where
    here : Placed
    here = record { row = r; before = rows }

    same_entries : entries (r ∷ rows) ≡ entries rows
    same_entries = entries-none_noted rows r (ap entries_in notes ∙ silent)

    own : AllByRecursion (NoteAsFormed here) r.notes
    own = own_notes_as_formed rows r
        (heard_forms_itself r.step.kind (record { row = r; before = rows }) heard) same_entries
        r.notes (subst (NotesAsAsked rows r.moment.0) (sym notes) as_asked)

    reads_of : reads_further_block (Ok m) here ≡ true
        → reads_body_of_keep (reading r.step.datagram) here ≡ is_of_keep
        (last_kept (r.step.peer, key_in m) rows)
    reads_of reads = ap (λ read_as. reads_body_of_keep read_as here) read ∙ rw reads refl

    -- what is read was kept by a row that is known
    known_by : (k : StepKind) → is_heard k ≡ true → (keeps || is_formed_in_rows k here) ≡ true
        → reads_further_block (Ok m) here ≡ true
        → (keeps || not (is_of_keep (last_kept (r.step.peer, key_in m) rows))) ≡ true
    known_by step.Admit h known reads = subst (λ b. (keeps || not b) ≡ true) (reads_of reads) known
    known_by step.Look h known reads = subst (λ b. (keeps || not b) ≡ true) (reads_of reads) known
    known_by (step.Commit place) h known reads = absurd (false≢true h)
    known_by (step.Keep body current) h known reads = absurd (false≢true h)
    known_by step.Tick h known reads = absurd (false≢true h)
    known_by (step.Begin first) h known reads = absurd (false≢true h)

    by : (keeps || is_formed_in_rows r.step.kind here) ≡ true
        → LookupOutcome rows r.moment.0 r.step m e
        → AllByRecursion (Carried (record { row = r; before = rows })) r.sent
    by known (now none it) =
        now_carried rows r m heard read same_entries (ap (list_any reads_kept) notes
        ∙ none) (subst (AreFound r.step.peer m (entries rows) r.moment.0) (sym sent) it)
    by known (kept answer further live used bodies) =
        let reads : reads_further_block (Ok m) here ≡ true =
        rw (
          further,
          ap (list_any (reads_answer (r.step.peer, key_in m))) (notes ∙ used),
          is_same_request-refl (r.step.peer, key_in m),
        ) refl in
        let from = kept_from keeps rows r.moment.0 (r.step.peer, key_in m) answer all
        (known_by r.step.kind heard known reads) live in
        used_carried rows r m answer further heard read (notes ∙ used) from
        (subst (AreBodiesOf r.step.peer (wanted_by m) answer.body answer.tag) (sym sent)
        (bodies (ap length from.is_kept.tag_is
        ∙ tag-length (entries (from.former.row ∷ from.former.before))
        from.former.row.moment.0)))

-- any row of a lookup
pub lookup_row : (keeps : Bool) (rows : List Row) (r : Row) (m : Message)
    → AllRows (RowCarries keeps) rows → is_heard r.step.kind ≡ true → reading r.step.datagram ≡ Ok m
    → is_lookup (path_in m) ≡ true
    → r.sent ≡ (lookup_effects rows r.moment.0 r.step m).sent
    → r.notes ≡ (lookup_effects rows r.moment.0 r.step m).notes → RowCarries keeps rows r
lookup_row keeps rows r m all heard read lookup sent notes =
    let small = (header_read r.step.datagram m read).token in
    row_of_lookup keeps rows r m (lookup_effects rows r.moment.0 r.step m) all heard read sent notes
    (lookup_effects-entries_in rows r.moment.0 r.step m)
    (lookup_notes_as_asked rows r.moment.0 r.step m lookup small)
    (lookup_outcome rows r.moment.0 r.step m small lookup)

-- any row of a read of a registration
pub read_row : (keeps : Bool) (rows : List Row) (r : Row) (m : Message)
    → AllRows (RowCarries keeps) rows → is_heard r.step.kind ≡ true → reading r.step.datagram ≡ Ok m
    → reads_registration m ≡ true
    → r.sent ≡ (read_effects rows r.moment.0 r.step m).sent
    → r.notes ≡ (read_effects rows r.moment.0 r.step m).notes → RowCarries keeps rows r
read_row keeps rows r m all heard read reads sent notes =
    row_of_lookup keeps rows r m (read_effects rows r.moment.0 r.step m) all heard read sent notes
    (read_effects-entries_in rows r.moment.0 r.step m)
    (read_notes_as_asked rows r.moment.0 r.step m)
    (read_outcome rows r.moment.0 r.step m (header_read r.step.datagram m read).token reads)
