-- Answers that are kept so that their blocks come from one state (RFC 7959 section 2.4).
use Rattle.std.specs.Prelude.{
  ℕ,
  Bool,
  false,
  not,
  ◌&&◌,
  List,
  [],
  ◌∷◌,
  ◌++◌,
  take,
  filter,
  filter_map,
  Option,
  Some,
  None,
  option_map,
  option_and_then,
  if◌then◌else◌,
}
use Rattle.std.specs.List.{list_any}
use Rattle.event_model.specs.declared.limits.TheConstants.{MAX_ANSWERS}
use Rattle.event_model.specs.declared.notes.Note.{Note}
use Rattle.event_model.specs.declared.notes.Note.TheVariants as note
use Rattle.event_model.specs.Same.{RequestName, is_same_request}
use Rattle.event_model.specs.Events.{Event, last_event, event_moment, last_said, is_young}

-- The most answers that are kept.
abbrev pub max_answers : ℕ
max_answers = MAX_ANSWERS

-- A kept answer: its body, and its entity tag.
pub record Answer : Type 0 where
  pub body : List ℕ
  pub tag : List ℕ

-- Returns the answer that a note keeps under a name.
abbrev pub answer_kept : RequestName → Note → Option Answer
answer_kept name (note.Kept peer key body tag) =
    if is_same_request (peer, key) name then Some (record { body = body; tag = tag }) else None
answer_kept name _ = None

-- Returns the name that a note uses. Keeping an answer is a use, and so is reading it.
abbrev pub used_by : Note → List RequestName
used_by (note.Kept peer key body tag) = (peer, key) ∷ []
used_by (note.Used peer key) = (peer, key) ∷ []
used_by _ = []

-- Returns whether the name is among these.
abbrev pub is_named_among : List RequestName → RequestName → Bool
is_named_among names name = list_any (is_same_request name) names

-- Returns whether the note is a use of the name.
abbrev pub is_use_of : RequestName → Note → Bool
is_use_of name n = is_named_among (used_by n) name

-- Returns the names that were used, that of the latest use first.
unfoldable pub names_used : List Event → List RequestName
names_used [] = []
names_used (e ∷ before) =
    used_by e.note ++ filter (λ name. not (is_use_of name e.note)) (names_used before)

-- Returns whether the name is among the 64 that were used last, and its last use is young enough.
abbrev pub is_live_answer : ℕ → RequestName → List Event → Bool
is_live_answer now name events =
    is_named_among (take max_answers (names_used events)) name
    && is_lately (last_event (is_use_of name) events)
  where
    is_lately : Option Event → Bool
    is_lately None = false
    is_lately (Some e) = is_young now e.moment

-- Returns the kept answer of a name: the one that was kept last, if it lives.
unfoldable pub kept_answer : ℕ → RequestName → List Event → Option Answer
kept_answer now name events =
    option_and_then (λ a. if is_live_answer now name events then Some a else None)
    (last_said (answer_kept name) events)

-- A kept answer that lives: its name, the answer, and the moment of its last use.
pub record KeptAnswer : Type 0 where
  pub name : RequestName
  pub answer : Answer
  pub moment : ℕ

-- Returns the kept answer of a name, if it lives.
abbrev pub kept_answer_of : ℕ → List Event → RequestName → Option KeptAnswer
kept_answer_of now events name =
    option_map (λ answer.
    record {
      name = name;
      answer = answer;
      moment = event_moment
          (last_event (is_use_of name) events);
    }) (kept_answer now name events)

-- Returns the kept answers that live at a moment, that of the latest use first.
unfoldable pub kept_answers_at : ℕ → List Event → List KeptAnswer
kept_answers_at now events = filter_map (kept_answer_of now events) (names_used events)
