-- What is noted of lookups and of reads of a registration: answers are kept under the key of a
-- request that seeks them, and observers ask for their query.
use Rattle.std.proofs.Common.{
  ◌≡◌,
  ℕ,
  ◌≤◌,
  ◌<◌,
  ◌==◌,
  ◌&&◌,
  Bool,
  true,
  false,
  not,
  cond,
  List,
  [],
  ◌∷◌,
  ◌++◌,
  length,
  filter,
  Option,
  Some,
  None,
  refl,
  sym,
  ap,
  subst,
  ◌∙◌,
}
use Rattle.std.specs.Prelude.{option_map, option_and_then}
use Rattle.std.specs.List.{AllByRecursion}
use Rattle.std.proofs.lemmas.Bool.{false≢true}
use Rattle.rd_base.specs.declared.peers.Peer.{Peer}
use Rattle.message_model.specs.declared.requests.Path.{Path}
use Rattle.message_model.specs.declared.requests.Path.TheVariants as path
use Rattle.message_model.specs.Message.{Message, longest_token}
use Rattle.message_model.specs.Blocks.{reserved_szx, block_of}
use Rattle.message_model.specs.Request.{path_in, queries_in, observe_in}
use Rattle.message_model.specs.RequestKey.{key_in}
use Rattle.message_model.specs.OptionTable as table
use Rattle.message_model.specs.OptionTable.{values}
use Rattle.message_model.proofs.KeyLaws.{IsSameRequest, key_of_once}
use Rattle.message_model.proofs.LocationLaws.{path_fits}
use Rattle.record_model.specs.Criteria.{lookup_values}
use Rattle.history_model.specs.declared.entries.Entry.{Entry}
use Rattle.history_model.specs.Listing.{listing, tag}
use Rattle.rd_base.proofs.lemmas.Each.{each_filter, each_append}
use Rattle.event_model.specs.declared.notes.Note.{Note}
use Rattle.event_model.specs.declared.notes.Note.TheVariants as note
use Rattle.event_model.specs.declared.notes.Observer.{Observer}
use Rattle.event_model.specs.Events.{Event, noted}
use Rattle.event_model.specs.KeptAnswers.{Answer, kept_answer}
use Rattle.event_model.specs.Observers.{
  name_of,
  is_end_of,
  observer_added,
  observers,
  is_observer,
  has_room_for,
}
use Rattle.event_model.proofs.NotedLaws.{event_at}
use Rattle.journal_model.specs.declared.steps.Step.{Step}
use Rattle.journal_model.specs.declared.rows.Row.{Row}
use Rattle.journal_model.specs.Journal.{events, entries}
use Rattle.journal_model.specs.Effects.{answering}
use Rattle.journal_model.specs.Bodies.{is_long}
use Rattle.journal_model.specs.Requests.{
  Method,
  get,
  post,
  put,
  delete,
  other_method,
  method_of,
  is_get,
  kind_of,
  query_of,
  asked_block,
  number_of,
  szx_of,
  is_lookup,
  is_location,
  reads_registration,
  is_later_block,
  register,
  deregister,
}
use Rattle.journal_model.specs.Sought.{
  Sought,
  listing_of,
  sought_at,
  sought_in,
  has_tag,
  answer_of,
  answer_for,
}
use Rattle.journal_model.specs.Sought as seeking
use Rattle.journal_model.specs.Looks.{look_effects}
use Rattle.journal_model.specs.Lookups.{
  listing_now,
  found_now,
  block_now,
  block_of_found,
  block_of_kept,
  later_block,
  removal,
  without,
  addition,
  observer_of,
  keeping,
  observed_if,
  observed,
  unobserved,
  observation_effects,
  first_block_effects,
  block_effects,
  lookup_effects,
  read_block_effects,
  read_effects,
  observing_by,
}
use Rattle.journal_model.proofs.StepNotes.{look_effects-notes}
use Rattle.journal_model.proofs.sends.BodyAnswers.{szx-usable, request-usable}

-- a request with this key seeks this
pub record Seeks (key : List ℕ) (sought : Sought) : Type 0 where
  pub request : Message
  pub key_is : key ≡ key_in request
  pub sought_is : sought_in request ≡ Some sought

-- a lookup seeks the listing of its query
pub lookup_seeks : (m : Message)
    → is_lookup (path_in m) ≡ true
    → sought_in m ≡ Some (listing_of (query_of m))
lookup_seeks m lookup = by (path_in m) lookup
  where
    by : (p : Path)
        → is_lookup p ≡ true
        → sought_at p (method_of m.code) (query_of m) ≡ Some (listing_of (query_of m))
    by path.Core e = absurd (false≢true e)
    by path.SimpleRd e = absurd (false≢true e)
    by path.Rd e = absurd (false≢true e)
    by (path.Location number) e = absurd (false≢true e)
    by path.Res e = refl
    by path.Ep e = refl
    by path.Other e = absurd (false≢true e)

-- a read of a registration seeks its source, under a tag
pub read_seeks : (m : Message) → reads_registration m ≡ true → has_tag (sought_in m) ≡ true
read_seeks m reads = by (path_in m) (method_of m.code) reads
  where
    by : (p : Path) (w : Method)
        → (is_location p && is_get w) ≡ true
        → has_tag (sought_at p w (query_of m)) ≡ true
    by path.Core w e = absurd (false≢true e)
    by path.SimpleRd w e = absurd (false≢true e)
    by path.Rd w e = absurd (false≢true e)
    by (path.Location number) get e = refl
    by (path.Location number) post e = absurd (false≢true e)
    by (path.Location number) put e = absurd (false≢true e)
    by (path.Location number) delete e = absurd (false≢true e)
    by (path.Location number) other_method e = absurd (false≢true e)
    by path.Res w e = absurd (false≢true e)
    by path.Ep w e = absurd (false≢true e)
    by path.Other w e = absurd (false≢true e)

-- whichever request has the key seeks the same
pub seeks_once : (key : List ℕ) (sought : Sought) (m : Message)
    → Seeks key sought
    → key ≡ key_in m
    → sought_in m ≡ Some sought
seeks_once key sought m it same =
    let one : IsSameRequest it.request.code (path_in it.request) (queries_in it.request) m.code
    (path_in m) (queries_in m) =
    key_of_once it.request.code (path_in it.request) (queries_in it.request) m.code (path_in m)
    (queries_in m) (path_fits (values table.uri_path it.request.options))
    (path_fits (values table.uri_path m.options)) (sym it.key_is ∙ same) in
    sym (ap (λ (c : ℕ).
    sought_at (path_in it.request) (method_of c)
    (lookup_values (kind_of (path_in it.request)) (queries_in it.request))) one.method
    ∙ (ap (λ (p : Path).
    sought_at p (method_of m.code) (lookup_values (kind_of p) (queries_in it.request))) one.path
    ∙ ap (λ (qs : List (List ℕ)).
    sought_at (path_in m) (method_of m.code) (lookup_values (kind_of (path_in m)) qs)) one.queries))
    ∙ it.sought_is

-- an observer asks for its query, in blocks of a size that there is
pub record IsAsking (o : Observer) : Type 0 where
  pub asks : Seeks o.key (listing_of o.query)
  pub token : length o.token ≤ longest_token
  pub szx : o.szx < reserved_szx

-- an answer is what is found of what its key seeks, in a history at a moment
pub record KeptAt (history : List Entry) (moment : ℕ) (key whole current : List ℕ) : Type 0 where
  pub sought : Sought
  pub seeks : Seeks key sought
  pub found : seeking.body sought history moment ≡ Some whole
  pub tag_is : current ≡ tag history moment

-- the note is as its request asked, after a history at a moment: what is kept is what is found of
-- what it seeks, and an observer asks for its query
abbrev pub NoteAsAsked : List Entry → ℕ → Note → Type 0
NoteAsAsked history moment (note.Kept peer key body current) =
    KeptAt history moment key body current
NoteAsAsked history moment (note.Watched o) = IsAsking o
NoteAsAsked history moment _ = Unit {0}

-- all notes of a row
abbrev pub NotesAsAsked : List Row → ℕ → List Note → Type 0
NotesAsAsked rows moment notes = AllByRecursion (NoteAsAsked (entries rows) moment) notes

-- what is found now is what the key of the request seeks
pub found_KeptAt : (rows : List Row) (moment : ℕ) (m : Message) (a : Answer)
    → found_now rows moment m ≡ Some a
    → KeptAt (entries rows) moment (key_in m) a.body a.tag
found_KeptAt rows moment m a found = by (sought_in m) refl found
  where
    with_body : (sought : Sought) (b : Option (List ℕ))
        → sought_in m ≡ Some sought
        → seeking.body sought (entries rows) moment ≡ b
        → option_map (λ (whole : List ℕ).
        answer_of whole (tag (entries rows) moment)) b
        ≡ Some a
        → KeptAt (entries rows) moment (key_in m) a.body a.tag
    with_body sought None seeks is e = absurd (let none : None ≡ Some a = e in cc)
    with_body sought (Some whole) seeks is e =
        let same : answer_of whole (tag (entries rows) moment) ≡ a = cc in
        subst (λ (x : Answer). KeptAt (entries rows) moment (key_in m) x.body x.tag) same
        (record {
          sought = sought;
          seeks = record { request = m; key_is = refl; sought_is = seeks };
          found = is;
          tag_is = refl;
        })

    by : (o : Option Sought)
        → sought_in m ≡ o
        → option_and_then (λ (sought : Sought). answer_for sought (entries rows) moment) o ≡ Some a
        → KeptAt (entries rows) moment (key_in m) a.body a.tag
    by None e h = absurd (let none : None ≡ Some a = h in cc)
    by (Some sought) e h =
        with_body sought (seeking.body sought (entries rows) moment) e refl h

-- ---- lookups and reads

-- the notes of a further block are so
later_notes_as_asked : (rows : List Row) (moment : ℕ) (s : Step) (m : Message)
    → NotesAsAsked rows moment (later_block rows moment s m).notes
unfolding later_block answering
later_notes_as_asked rows moment s m =
    by (found_now rows moment m) (kept_answer moment (s.peer, key_in m) (events rows)) refl
  where
    now_block : (a : Answer)
        → found_now rows moment m ≡ Some a
        → (part : Option (List ℕ × Bool))
        → NotesAsAsked rows moment (block_now s m a part).notes
    now_block a found None = tt
    now_block a found (Some part) = (found_KeptAt rows moment m a found, tt)

    fresh : (o : Option Answer)
        → found_now rows moment m ≡ o
        → NotesAsAsked rows moment (block_of_found s m o).notes
    fresh None found = tt
    fresh (Some a) found =
        now_block a found (block_of a.body (number_of (asked_block m)) (szx_of (asked_block m)))

    by : (o kept : Option Answer)
        → found_now rows moment m ≡ o
        → NotesAsAsked rows moment (block_of_kept s m o kept).notes
    by o (Some answer) found = (tt, tt)
    by o None found = fresh o found

-- those of a look are none
look_notes_as_asked : (rows : List Row) (moment : ℕ) (s : Step) (m : Message)
    → NotesAsAsked rows moment (look_effects (entries rows) moment s m).notes
look_notes_as_asked rows moment s m =
    subst (NotesAsAsked rows moment) (sym (look_effects-notes (entries rows) moment s m)) tt

-- the notes of a read of a registration are so
pub read_notes_as_asked : (rows : List Row) (moment : ℕ) (s : Step) (m : Message)
    → NotesAsAsked rows moment (read_effects rows moment s m).notes
unfolding read_effects
read_notes_as_asked rows moment s m = by (is_later_block m)
  where
    by : (b : Bool) → NotesAsAsked rows moment (read_block_effects b rows moment s m).notes
    by true = later_notes_as_asked rows moment s m
    by false = look_notes_as_asked rows moment s m

-- the notes of a lookup are so
pub lookup_notes_as_asked : (rows : List Row) (moment : ℕ) (s : Step) (m : Message)
    → is_lookup (path_in m) ≡ true
    → length m.token ≤ longest_token
    → NotesAsAsked rows moment (lookup_effects rows moment s m).notes
unfolding lookup_effects observed unobserved answering
lookup_notes_as_asked rows moment s m lookup small = by (is_later_block m)
  where
    asks : Seeks (key_in m) (listing_of (query_of m))
    asks = record { request = m; key_is = refl; sought_is = lookup_seeks m lookup }

    kept : KeptAt (entries rows) moment (key_in m) (listing (query_of m) (entries rows) moment)
        (tag (entries rows) moment)
    kept = record {
      sought = listing_of (query_of m);
      seeks = asks;
      found = refl;
      tag_is = refl;
    }

    removed : (b : Bool) (peer : Peer) (token : List ℕ)
        → NotesAsAsked rows moment (cond b (note.Unwatched peer token ∷ []) [])
    removed true peer token = (tt, tt)
    removed false peer token = tt

    keeps : (b : Bool)
        → NotesAsAsked rows moment
        (cond b (note.Kept s.peer (key_in m) (listing_now rows moment m).body
        (listing_now rows moment m).tag
        ∷ []) [])
    keeps true = (kept, tt)
    keeps false = tt

    added : (b : Bool)
        → NotesAsAsked rows moment (observed_if b rows s m (listing_now rows moment m)).notes
    added true =
        each_append (NoteAsAsked (entries rows) moment)
        (removal (s.peer, m.token) (observers (events rows)))
        (addition (observer_of s m) (listing_now rows moment m).body
        ++ keeping s m (listing_now rows moment m))
        (removed (is_observer (s.peer, m.token) (observers (events rows))) s.peer m.token) (
          record {
            asks = asks;
            token = small;
            szx = szx-usable (asked_block m) (request-usable m);
          },
          (tt, keeps (is_long (asked_block m) (listing_now rows moment m).body)),
        )
    added false =
        each_append (NoteAsAsked (entries rows) moment)
        (removal (s.peer, m.token) (observers (events rows)))
        (keeping s m (listing_now rows moment m))
        (removed (is_observer (s.peer, m.token) (observers (events rows))) s.peer m.token)
        (keeps (is_long (asked_block m) (listing_now rows moment m).body))

    valued : (b c : Bool)
        → NotesAsAsked rows moment (observation_effects (observing_by b c) rows moment s m).notes
    valued true c =
        added (has_room_for (query_of m) (without (s.peer, m.token) (observers (events rows))))
    valued false true = added false
    valued false false = look_notes_as_asked rows moment s m

    observe : (o : Option ℕ)
        → NotesAsAsked rows moment (first_block_effects o rows moment s m).notes
    observe None = look_notes_as_asked rows moment s m
    observe (Some value) = valued (value == register) (value == deregister)

    by : (b : Bool) → NotesAsAsked rows moment (block_effects b rows moment s m).notes
    by true = later_notes_as_asked rows moment s m
    by false = observe (observe_in m)

-- ---- observers

-- what holds of the observer that a note adds
abbrev pub OfWatched : (Observer → Type 0) → Note → Type 0
OfWatched P (note.Watched o) = P o
OfWatched P _ = Unit {0}

-- what holds of each that stood and of each that is added holds of each that stands
pub observers_all : (P : Observer → Type 0) (place moment word : ℕ) (notes : List Note)
    (before : List Event)
    → AllByRecursion (OfWatched P) notes
    → AllByRecursion P (observers before)
    → AllByRecursion P (observers (noted place moment word notes before))
unfolding observers
observers_all P place moment word [] before all each = each
observers_all P place moment word (n ∷ notes) before all each =
    observers_all P place moment word notes (event_at place moment word n ∷ before) all.1
    (each_append P (filter (λ o. not (is_end_of n (name_of o))) (observers before))
    (observer_added n)
    (each_filter P (λ o. not (is_end_of n (name_of o))) (observers before) each) (by n all.0))
  where
    by : (x : Note) → OfWatched P x → AllByRecursion P (observer_added x)
    by (note.Watched o) h = (h, tt)
    by _ h = tt
