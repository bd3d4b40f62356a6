-- Which kinds of notes a step may note.
use Rattle.std.proofs.Common.{◌≡◌, Bool, true, false, List, [], ◌∷◌, ◌++◌, None, refl}
use Rattle.std.specs.List.{list_any, list_all}
use Rattle.std.proofs.lemmas.Bool.{and_parts, and_from, false≢true}
use Rattle.event_model.specs.declared.notes.Note.{Note}
use Rattle.event_model.specs.declared.notes.Note.TheVariants as note
use Rattle.journal_model.specs.Journal.{entry_noted}
use Rattle.journal_model.proofs.EntriesNoted.{entries_in}

-- of lookups
abbrev pub of_lookup : Note → Bool
of_lookup (note.Kept peer key body tag) = true
of_lookup (note.Used peer key) = true
of_lookup (note.Watched o) = true
of_lookup (note.Unwatched peer token) = true
of_lookup (note.Formed peer token body mid) = true
of_lookup _ = false

-- of writes as they are heard
abbrev pub of_write : Note → Bool
of_write (note.Admitted peer mid) = true
of_write (note.Challenged peer value) = true
of_write _ = false

-- of empty messages
abbrev pub of_empty : Note → Bool
of_empty (note.Landed peer mid) = true
of_empty (note.Unwatched peer token) = true
of_empty (note.Waiting peer) = true
of_empty (note.Ceased peer) = true
of_empty _ = false

-- of reads of a registration, and of further blocks of lookups
abbrev pub of_read : Note → Bool
of_read (note.Kept peer key body tag) = true
of_read (note.Used peer key) = true
of_read _ = false

-- of notifications, and of requests of fetches, that are retransmitted
abbrev pub of_again : Note → Bool
of_again (note.Unwatched peer token) = true
of_again (note.Again peer mid) = true
of_again _ = false

abbrev pub of_resent : Note → Bool
of_resent (note.Resent peer) = true
of_resent (note.Ceased peer) = true
of_resent _ = false

-- of ticks
abbrev pub of_tick : Note → Bool
of_tick (note.Unwatched peer token) = true
of_tick (note.Again peer mid) = true
of_tick (note.Formed peer token body mid) = true
of_tick (note.Kept peer key body tag) = true
of_tick (note.Unchanged peer token) = true
of_tick (note.Resent peer) = true
of_tick (note.Ceased peer) = true
of_tick _ = false

-- of commits
abbrev pub of_commit : Note → Bool
of_commit (note.Settled place reply) = true
of_commit (note.Failed place) = true
of_commit (note.Entered entry) = true
of_commit (note.Piece peer key number octets) = true
of_commit (note.Finished peer key) = true
of_commit (note.Asked peer token mid params number) = true
of_commit _ = false

-- of responses
abbrev pub of_response : Note → Bool
of_response (note.Gathered peer octets tag) = true
of_response (note.Asked peer token mid params number) = true
of_response (note.Entered entry) = true
of_response (note.Ceased peer) = true
of_response _ = false

-- all of them are of a kind
abbrev pub are : (Note → Bool) → List Note → Bool
are kind notes = list_all kind notes

-- one after the other
pub are-append : (kind : Note → Bool) (notes more : List Note)
    → are kind notes ≡ true
    → are kind more ≡ true
    → are kind (notes ++ more) ≡ true
are-append kind [] more h g = g
are-append kind (n ∷ notes) more h g =
    let both = and_parts (kind n) (are kind notes) h in
    and_from (kind n) (are kind (notes ++ more)) both.0 (are-append kind notes more both.1 g)

-- of a wider kind
pub are-weaker : (kind other : Note → Bool)
    → ((n : Note) → kind n ≡ true → other n ≡ true)
    → (notes : List Note)
    → are kind notes ≡ true
    → are other notes ≡ true
are-weaker kind other wider [] h = refl
are-weaker kind other wider (n ∷ notes) h =
    let both = and_parts (kind n) (are kind notes) h in
    and_from (other n) (are other notes) (wider n both.0) (are-weaker kind other wider notes both.1)

-- what reads note lookups may note
pub read_lookup : (notes : List Note) → are of_read notes ≡ true → are of_lookup notes ≡ true
read_lookup notes h = are-weaker of_read of_lookup wider notes h
  where
    wider : (n : Note) → of_read n ≡ true → of_lookup n ≡ true
    wider (note.Kept peer key body tag) e = refl
    wider (note.Used peer key) e = refl
    wider _ e = absurd (false≢true e)

-- what is retransmitted is of a tick
pub again_tick : (notes : List Note) → are of_again notes ≡ true → are of_tick notes ≡ true
again_tick notes h = are-weaker of_again of_tick wider notes h
  where
    wider : (n : Note) → of_again n ≡ true → of_tick n ≡ true
    wider (note.Unwatched peer token) e = refl
    wider (note.Again peer mid) e = refl
    wider _ e = absurd (let h : false ≡ true = e in cc)

pub resent_tick : (notes : List Note) → are of_resent notes ≡ true → are of_tick notes ≡ true
resent_tick notes h = are-weaker of_resent of_tick wider notes h
  where
    wider : (n : Note) → of_resent n ≡ true → of_tick n ≡ true
    wider (note.Resent peer) e = refl
    wider (note.Ceased peer) e = refl
    wider _ e = absurd (let h : false ≡ true = e in cc)

-- what no note of a kind is, none of them is
pub none_of : (kind test : Note → Bool)
    → ((n : Note) → kind n ≡ true → test n ≡ false)
    → (notes : List Note)
    → are kind notes ≡ true
    → list_any test notes ≡ false
none_of kind test never [] h = refl
none_of kind test never (n ∷ notes) h =
    let both = and_parts (kind n) (are kind notes) h in
    rw (never n both.0) (none_of kind test never notes both.1)

-- where no note of a kind is an entry, notes of the kind hold none
pub entries_in-none : (kind : Note → Bool)
    → ((n : Note) → kind n ≡ true → entry_noted n ≡ None)
    → (notes : List Note)
    → are kind notes ≡ true
    → entries_in notes ≡ []
entries_in-none kind never [] h = refl
entries_in-none kind never (n ∷ notes) h =
    let both = and_parts (kind n) (are kind notes) h in
    rw (never n both.0) (entries_in-none kind never notes both.1)

-- lookups, writes as they are heard, empty messages and ticks note no entry
pub lookup-entries_in : (notes : List Note) → are of_lookup notes ≡ true → entries_in notes ≡ []
lookup-entries_in notes h = entries_in-none of_lookup never notes h
  where
    never : (n : Note) → of_lookup n ≡ true → entry_noted n ≡ None
    never (note.Entered entry) e = absurd (let h : false ≡ true = e in cc)
    never _ e = refl

pub write-entries_in : (notes : List Note) → are of_write notes ≡ true → entries_in notes ≡ []
write-entries_in notes h = entries_in-none of_write never notes h
  where
    never : (n : Note) → of_write n ≡ true → entry_noted n ≡ None
    never (note.Entered entry) e = absurd (let h : false ≡ true = e in cc)
    never _ e = refl

pub empty-entries_in : (notes : List Note) → are of_empty notes ≡ true → entries_in notes ≡ []
empty-entries_in notes h = entries_in-none of_empty never notes h
  where
    never : (n : Note) → of_empty n ≡ true → entry_noted n ≡ None
    never (note.Entered entry) e = absurd (let h : false ≡ true = e in cc)
    never _ e = refl

pub tick-entries_in : (notes : List Note) → are of_tick notes ≡ true → entries_in notes ≡ []
tick-entries_in notes h = entries_in-none of_tick never notes h
  where
    never : (n : Note) → of_tick n ≡ true → entry_noted n ≡ None
    never (note.Entered entry) e = absurd (let h : false ≡ true = e in cc)
    never _ e = refl
