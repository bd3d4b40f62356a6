-- Lookups, reads of a registration, and discovery that are answered from the registrations alone
-- (RFC 9176 sections 4.1, 5.3.3 and 6, RFC 7252 section 5.10.6.2).
use Rattle.std.specs.Prelude.{
  ℕ,
  Bool,
  true,
  false,
  List,
  [],
  ◌∷◌,
  Option,
  Some,
  None,
  Result,
  Ok,
  Err,
  option_map,
  bytes_eq,
  codes,
}
use Rattle.std.specs.List.{list_any}
use Rattle.message_model.specs.declared.messages.Unread.{Unread}
use Rattle.message_model.specs.Message.{Message}
use Rattle.message_model.specs.Codes as codes_of
use Rattle.message_model.specs.Request.{etags_in}
use Rattle.message_model.specs.RequestKey.{key_in}
use Rattle.history_model.specs.declared.entries.Entry.{Entry}
use Rattle.event_model.specs.declared.notes.Note.TheVariants as note
use Rattle.event_model.specs.KeptAnswers.{Answer}
use Rattle.journal_model.specs.declared.steps.Step.{Step}
use Rattle.journal_model.specs.Effects.{
  Effects,
  Reply,
  nothing,
  diagnostic,
  answering,
  without_memory,
}
use Rattle.journal_model.specs.Requests.{asked_block}
use Rattle.journal_model.specs.Bodies.{tag_option, body_reply, is_long}
use Rattle.journal_model.specs.Sought.{Sought, sought_in, body, body_tag}

-- What a look gives: a response, or a body under its tag, which the worker then has the job to
-- keep.
pub data Look : Type 0 where
  answered : Reply → Look
  held : Answer → Look

-- Returns whether a tag is among those that the request names.
abbrev pub names_tag : List ℕ → Message → Bool
names_tag current m = list_any (bytes_eq current) (etags_in m)

-- Returns 2.03: what the client has is still what is found.
abbrev pub still_valid : List ℕ → Reply
still_valid current = record {
  code = codes_of.valid;
  options = tag_option (Some current);
  payload = [];
}

-- Returns the response, unless the body is longer than the block size. Such a body is not sent: it
-- is held, to be kept first.
abbrev pub unless_long : Bool → Message → Answer → Look
unless_long true m found = held found
unless_long false m found = answered (body_reply (Some found.tag) None (asked_block m) found.body)

-- Returns 2.03 if the client has what is found, and otherwise the body.
abbrev pub unless_valid : Bool → Message → Answer → Look
unless_valid true m found = answered (still_valid found.tag)
unless_valid false m found = unless_long (is_long (asked_block m) found.body) m found

-- Returns what a look gives of what is found under a tag, or under none.
abbrev pub found_under : Option (List ℕ) → Message → List ℕ → Look
found_under None m what = answered (body_reply None None (asked_block m) what)
found_under (Some current) m what =
    unless_valid (names_tag current m) m (record { body = what; tag = current })

-- The response 4.04 to a read of a registration that is not live, and so has no source.
abbrev pub not_live : Reply
not_live = diagnostic codes_of.not_found (codes "registration")

-- Returns what a look gives of what is found under a tag, or under none, or 4.04 if nothing is
-- found.
abbrev pub found_or_not : Option (List ℕ) → Message → Option (List ℕ) → Look
found_or_not current m None = answered not_live
found_or_not current m (Some what) = found_under current m what

-- Returns what a look for this gives, from a history at a moment.
abbrev pub look_for : List Entry → ℕ → Message → Sought → Look
look_for history moment m sought =
    found_or_not (body_tag sought history moment) m (body sought history moment)

-- Returns what a look gives from a prefix at a moment, or nothing if nothing is sought.
unfoldable pub look : List Entry → ℕ → Message → Option Look
look history moment m = option_map (look_for history moment m) (sought_in m)

-- Answers the request, if the look gives a response.
abbrev pub look_sent : Step → Message → Option Look → Effects
look_sent s m None = nothing
look_sent s m (Some (answered reply)) = answering s m reply []
look_sent s m (Some (held found)) = nothing

-- Does a look, from a prefix at a moment.
unfoldable pub look_effects : List Entry → ℕ → Step → Message → Effects
look_effects history moment s m = look_sent s m (look history moment m)

-- Does a look at a datagram, from a prefix at a moment. If memory ran out, it is answered 5.00.
abbrev pub looked : Bool → List Entry → ℕ → Step → Result Message Unread → Effects
looked starved history moment s (Err fault) = nothing
looked true history moment s (Ok m) = without_memory s m
looked false history moment s (Ok m) = look_effects history moment s m

-- Returns the body that a look holds.
abbrev pub body_held : Option Look → Option Answer
body_held None = None
body_held (Some (answered reply)) = None
body_held (Some (held found)) = Some found

-- Returns the body that a look at a datagram leaves its worker with the job to keep.
abbrev pub held_after : Bool → List Entry → ℕ → Result Message Unread → Option Answer
held_after starved history moment (Err fault) = None
held_after true history moment (Ok m) = None
held_after false history moment (Ok m) = body_held (look history moment m)

-- Keeps the body of a look under its tag, and sends its first block.
unfoldable pub keep_effects : Step → Message → List ℕ → List ℕ → Effects
keep_effects s m body current =
    answering s m (body_reply (Some current) None (asked_block m) body)
    (note.Kept s.peer (key_in m) body current ∷ [])
