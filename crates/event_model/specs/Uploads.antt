-- Bodies that arrive in blocks (RFC 7959 section 2.5): what is collected of each, and which uploads
-- live.
use Rattle.std.specs.Prelude.{
  ℕ,
  Bool,
  false,
  not,
  ◌&&◌,
  ◌==◌,
  List,
  [],
  ◌∷◌,
  ◌++◌,
  length,
  filter,
  filter_map,
  Option,
  Some,
  None,
  is_some,
  option_map,
  option_and_then,
  if◌then◌else◌,
}
use Rattle.event_model.specs.declared.notes.Note.{Note}
use Rattle.event_model.specs.declared.notes.Note.TheVariants as note
use Rattle.event_model.specs.Same.{RequestName, is_same_request}
use Rattle.event_model.specs.Events.{Event, last_event, event_moment, is_young}

-- Returns what is collected under a name after a note. Its first block begins anew, a later one
-- continues, and its end leaves nothing.
abbrev pub collected_after : RequestName → Note → Option (List ℕ) → Option (List ℕ)
collected_after name (note.Piece peer key number octets) before =
    if is_same_request (peer, key) name
    then (if number == 0 then Some octets else option_map (λ collected. collected ++ octets) before)
    else before
collected_after name (note.Finished peer key) before =
    if is_same_request (peer, key) name then None else before
collected_after name _ before = before

-- Returns the upload of a name: its blocks joined from the last first one on, if no end follows.
unfoldable pub upload : RequestName → List Event → Option (List ℕ)
upload name [] = None
upload name (e ∷ before) = collected_after name e.note (upload name before)

-- Returns whether a note is a block of the upload of a name.
abbrev pub is_piece_of : RequestName → Note → Bool
is_piece_of name (note.Piece peer key number octets) = is_same_request (peer, key) name
is_piece_of name _ = false

-- Returns whether the upload lives: its last block is young enough.
abbrev pub is_live_upload : ℕ → RequestName → List Event → Bool
is_live_upload now name events = is_lately (last_event (is_piece_of name) events)
  where
    is_lately : Option Event → Bool
    is_lately None = false
    is_lately (Some e) = is_young now e.moment

-- Returns the upload of a name, if it lives.
unfoldable pub live_upload : ℕ → RequestName → List Event → Option (List ℕ)
live_upload now name events =
    option_and_then (λ body. if is_live_upload now name events then Some body else None)
    (upload name events)

-- Returns whether the note begins or ends the upload of a name.
abbrev pub starts_or_ends_upload : Note → RequestName → Bool
starts_or_ends_upload (note.Piece peer key number octets) name =
    number == 0 && is_same_request (peer, key) name
starts_or_ends_upload (note.Finished peer key) name = is_same_request (peer, key) name
starts_or_ends_upload _ name = false

-- Returns the name of the upload that the note begins.
abbrev pub begun_by : Note → List RequestName
begun_by (note.Piece peer key number octets) = if number == 0 then (peer, key) ∷ [] else []
begun_by _ = []

-- Returns the names that have an upload.
unfoldable pub uploads : List Event → List RequestName
uploads [] = []
uploads (e ∷ before) =
    filter (λ name. not (starts_or_ends_upload e.note name)) (uploads before) ++ begun_by e.note

-- Returns how many uploads live.
unfoldable pub live_uploads : ℕ → List Event → ℕ
live_uploads now events =
    length (filter (λ name. is_some (live_upload now name events)) (uploads events))

-- An upload that lives: its name, what is collected, and the moment of its last block.
pub record Upload : Type 0 where
  pub name : RequestName
  pub body : List ℕ
  pub moment : ℕ

-- Returns the upload of a name, if it lives.
abbrev pub upload_of : ℕ → List Event → RequestName → Option Upload
upload_of now events name =
    option_map (λ body.
    record {
      name = name;
      body = body;
      moment = event_moment
          (last_event (is_piece_of name) events);
    }) (live_upload now name events)

-- Returns the uploads that live at a moment, in the order in which they began.
unfoldable pub uploads_at : ℕ → List Event → List Upload
uploads_at now events = filter_map (upload_of now events) (uploads events)
