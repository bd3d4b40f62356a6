-- The entries of responses: one stands only beside a note that ends the fetch of its peer, and it
-- comes next after the history.
use Rattle.std.proofs.Common.{
  ◌≡◌,
  ℕ,
  ◌==◌,
  Bool,
  true,
  false,
  List,
  [],
  ◌∷◌,
  ◌++◌,
  length,
  Option,
  Some,
  None,
  refl,
  sym,
  ap,
  ◌∙◌,
  eqb-true,
}
use Rattle.std.specs.List.{list_any}
use Rattle.std.proofs.lemmas.Bool.{false≢true, or_right}
use Rattle.std.proofs.lemmas.List.Folds.{list_any-append}
use Rattle.rd_base.specs.declared.peers.Peer.{Peer}
use Rattle.message_model.specs.declared.blocks.Block.{Block}
use Rattle.message_model.specs.declared.messages.Kind4.{Kind4}
use Rattle.message_model.specs.declared.messages.Kind4.TheVariants.{Con, Non, Ack, Rst}
use Rattle.message_model.specs.Message.{Message}
use Rattle.message_model.specs.Codes as codes_of
use Rattle.message_model.specs.Responses.{block_in, is_elsewhere}
use Rattle.event_model.specs.declared.notes.Note.{Note}
use Rattle.event_model.specs.declared.notes.Note.TheVariants as note
use Rattle.event_model.specs.Fetches.{Request, gathered, collected}
use Rattle.event_model.proofs.SameLaws.{is_same_peer-refl}
use Rattle.journal_model.specs.declared.steps.Step.{Step}
use Rattle.journal_model.specs.declared.rows.Row.{Row}
use Rattle.journal_model.specs.Journal.{events, entries}
use Rattle.journal_model.specs.Changes.{registration}
use Rattle.journal_model.specs.Responses.{
  fetch_of,
  strange,
  acknowledgement,
  more_follow,
  ends_fetch,
  completed,
  gathering,
  response_taken,
  response_to,
  response_to_request,
  response_effects,
  response_use,
}
use Rattle.journal_model.specs.FetchCompletions.{is_end_of_fetch, EndsBody}
use Rattle.journal_model.proofs.EntriesNoted.{
  entries_in,
  none-append,
  NotesNext,
  NotesNext-after,
  NotesNext-before,
}
use Rattle.journal_model.proofs.entries.ChangeEntries.{
  registration-OutcomeEntry,
  ChangeEntry-NotesNext,
}

-- one of the notes ends the fetch of a peer
abbrev pub ends_fetch_of : Peer → List Note → Bool
ends_fetch_of peer notes = list_any (is_end_of_fetch peer) notes

-- notes of a response: they have no entry, or the response brings the end of a whole body and they
-- end the fetch of its peer, and have none or one that comes next
pub data EntryHeard (before : List Row) (moment : ℕ) (s : Step) (m : Message) (notes : List Note) :
    Type 0 where
  silent : entries_in notes ≡ [] → EntryHeard before moment s m notes
  ends : EndsBody before s m
      → ends_fetch_of s.peer notes ≡ true
      → NotesNext (entries before) moment notes
      → EntryHeard before moment s m notes

-- after notes that have none
ends_after : (peer : Peer) (notes more : List Note)
    → ends_fetch_of peer more ≡ true
    → ends_fetch_of peer (notes ++ more) ≡ true
ends_after peer notes more h =
    list_any-append (is_end_of_fetch peer) notes more
    ∙ or_right (ends_fetch_of peer notes) (ends_fetch_of peer more) h

EntryHeard-after : (before : List Row) (moment : ℕ) (s : Step) (m : Message)
    (notes more : List Note)
    → entries_in notes ≡ []
    → EntryHeard before moment s m more → EntryHeard before moment s m (notes ++ more)
EntryHeard-after before moment s m notes more h (silent g) = silent (none-append notes more h g)
EntryHeard-after before moment s m notes more h (ends body g next) =
    ends body (ends_after s.peer notes more g)
    (NotesNext-after (entries before) moment notes more h next)

-- a response that belongs to no fetch
pub no_fetch-entries_in : (rows : List Row) (moment : ℕ) (s : Step) (m : Message)
    → fetch_of s m (events rows) ≡ None
    → entries_in (response_effects rows moment s m).notes ≡ []
unfolding response_effects
no_fetch-entries_in rows moment s m none = rw none (foreign m.kind)
  where
    foreign : (k : Kind4) → entries_in (strange s m k).notes ≡ []
    foreign Con = refl
    foreign Non = refl
    foreign Ack = refl
    foreign Rst = refl

-- what does not end a fetch without a registration is 2.05
pub content_of : (m : Message) (blocks : List (List ℕ × Option (List ℕ))) (size : ℕ)
    → ends_fetch m blocks size ≡ false
    → m.code ≡ codes_of.content
content_of m blocks size h = by (m.code == codes_of.content) refl
  where
    by : (b : Bool) → (m.code == codes_of.content) ≡ b → m.code ≡ codes_of.content
    by true e = eqb-true m.code codes_of.content e
    by false e =
        let over : ends_fetch m blocks size ≡ true = rw e refl in absurd (false≢true (sym h ∙ over))

-- a response
pub response_effects-EntryHeard : (rows : List Row) (moment : ℕ) (s : Step) (m : Message)
    → EntryHeard rows moment s m (response_effects rows moment s m).notes
unfolding response_effects
response_effects-EntryHeard rows moment s m = by (fetch_of s m (events rows))
  where
    foreign : (k : Kind4) → entries_in (strange s m k).notes ≡ []
    foreign Con = refl
    foreign Non = refl
    foreign Ack = refl
    foreign Rst = refl

    acknowledged : (k : Kind4) → entries_in (acknowledgement s m k).notes ≡ []
    acknowledged Con = refl
    acknowledged Non = refl
    acknowledged Ack = refl
    acknowledged Rst = refl

    last : ends_fetch_of s.peer (note.Ceased s.peer ∷ []) ≡ true
    last = rw (is_same_peer-refl s.peer) refl

    size : ℕ
    size = length (collected s.peer (events rows))

    whole : EndsBody rows s m
        → (request : Request) (body : List ℕ)
        → EntryHeard rows moment s m (completed rows moment s request body).notes
    whole ended request body =
        ends ended (ends_after s.peer
        (registration (entries rows) moment s request.params body [] []).notes
        (note.Ceased s.peer ∷ []) last)
        (NotesNext-before (entries rows) moment
        (registration (entries rows) moment s request.params body [] []).notes
        (note.Ceased s.peer ∷ [])
        (ChangeEntry-NotesNext (entries rows) moment
        (registration (entries rows) moment s request.params body [] []).notes _
        (registration-OutcomeEntry (entries rows) moment s request.params body [] [] false
        refl)) refl)

    gathers : (more : Bool) (b : Option Block) (request : Request)
        → (more ≡ false → EndsBody rows s m)
        → (b ≡ None → more ≡ false)
        → EntryHeard rows moment s m (gathering more b rows moment s m request).notes
    gathers more None request ended one =
        whole (ended (one refl)) request (collected s.peer (events rows) ++ m.payload)
    gathers false (Some b) request ended one =
        whole (ended refl) request (collected s.peer (events rows) ++ m.payload)
    gathers true (Some b) request ended one = silent refl

    taken : (elsewhere over : Bool) (request : Request)
        → is_elsewhere (block_in m) size ≡ elsewhere
        → ends_fetch m (gathered s.peer (events rows)) size ≡ over
        → EntryHeard rows moment s m (response_taken (response_use elsewhere over) rows moment s m
        request).notes
    taken true over request joins e = silent refl
    taken false true request joins e = silent refl
    taken false false request joins e =
        gathers (more_follow (block_in m)) (block_in m) request
        (λ last_one. record {
          content = content_of m (gathered s.peer (events rows)) size e;
          joins = joins;
          last =
              last_one;
          whole = e;
        })
        (λ none. ap more_follow none)

    by : (request : Option Request)
        → EntryHeard rows moment s m (response_to_request request rows moment s m).notes
    by None = silent (foreign m.kind)
    by (Some request) =
        EntryHeard-after rows moment s m (acknowledgement s m m.kind).notes
        (response_to rows moment s m request).notes (acknowledged m.kind)
        (taken (is_elsewhere (block_in m) size) (ends_fetch m (gathered s.peer (events rows)) size)
        request refl refl)
