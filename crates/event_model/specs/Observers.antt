-- Who observes a lookup (RFC 7641 section 4.1), and what was built for whom.
use Rattle.std.specs.Prelude.{
  ℕ,
  ◌+◌,
  ◌%◌,
  ◌^◌,
  Bool,
  true,
  false,
  not,
  ◌&&◌,
  ◌||◌,
  nat_lt,
  List,
  [],
  ◌∷◌,
  ◌++◌,
  length,
  filter,
  count_by,
  Option,
  Some,
  None,
  if◌then◌else◌,
}
use Rattle.std.specs.List.{list_any}
use Rattle.rd_base.specs.declared.queries.Query.{Query}
use Rattle.event_model.specs.declared.limits.TheConstants.{MAX_OBSERVERS, MAX_WATCHED}
use Rattle.event_model.specs.declared.notes.Observer.{Observer}
use Rattle.event_model.specs.declared.notes.Note.{Note}
use Rattle.event_model.specs.declared.notes.Note.TheVariants as note
use Rattle.event_model.specs.Same.{RequestName, is_same_request, is_same_query}
use Rattle.event_model.specs.Events.{Event, last_said}

-- The most observers.
abbrev pub max_observers : ℕ
max_observers = MAX_OBSERVERS

-- The most queries that are observed.
abbrev pub max_watched : ℕ
max_watched = MAX_WATCHED

-- Returns the name of an observer: its peer and its token (RFC 7641 section 4.1).
abbrev pub name_of : Observer → RequestName
name_of o = (o.peer, o.token)

-- Returns whether the note replaces or removes the observer with this name.
abbrev pub is_end_of : Note → RequestName → Bool
is_end_of (note.Watched o) name = is_same_request (name_of o) name
is_end_of (note.Unwatched peer token) name = is_same_request (peer, token) name
is_end_of _ name = false

-- Returns the observer that a note adds.
abbrev pub observer_added : Note → List Observer
observer_added (note.Watched o) = o ∷ []
observer_added _ = []

-- Returns the observers that no later note replaces or removes, in the order in which they were
-- added.
unfoldable pub observers : List Event → List Observer
observers [] = []
observers (e ∷ before) =
    filter (λ o. not (is_end_of e.note (name_of o))) (observers before) ++ observer_added e.note

-- Returns whether an observer with this name is among these.
abbrev pub is_observer : RequestName → List Observer → Bool
is_observer name standing = list_any (λ o. is_same_request (name_of o) name) standing

-- Returns whether the query is observed.
abbrev pub is_watched : Query → List Observer → Bool
is_watched query standing = list_any (λ o. is_same_query o.query query) standing

-- Returns how many queries are observed, each counted once.
abbrev pub number_watched : List Observer → ℕ
number_watched [] = 0
number_watched (o ∷ standing) =
    if is_watched o.query standing then number_watched standing else 1 + number_watched standing

-- Returns whether there is room for one more observer of the query.
unfoldable pub has_room_for : Query → List Observer → Bool
has_room_for query standing =
    nat_lt (length standing) max_observers
    && (is_watched query standing || nat_lt (number_watched standing) max_watched)

-- Returns whether a note says that a body was built for an observer.
abbrev pub is_forming : Note → Bool
is_forming (note.Formed peer token body mid) = true
is_forming _ = false

-- Returns the Observe value that is sent next: one more than the number of values sent before, in
-- its low 24 bits (RFC 7641 section 3.4).
unfoldable pub observe_value : List Event → ℕ
observe_value events = (count_by (λ e. is_forming e.note) events + 1) % 2 ^ 24

-- Returns how many Observe values were sent, modulo 2^64.
unfoldable pub observe_values_sent : List Event → ℕ
observe_values_sent events = count_by (λ e. is_forming e.note) events % 2 ^ 64

-- Returns the body that a note builds for the observer with a name.
abbrev pub body_formed : RequestName → Note → Option (List ℕ)
body_formed name (note.Formed peer token body mid) =
    if is_same_request (peer, token) name then Some body else None
body_formed name _ = None

-- Returns the body that was last built for the observer with a name.
unfoldable pub last_body_formed : RequestName → List Event → Option (List ℕ)
last_body_formed name events = last_said (body_formed name) events
