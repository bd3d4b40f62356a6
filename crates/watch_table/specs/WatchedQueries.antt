-- Watched queries, each in its slot, and how calls change them (RFC 7641 section 1.3).
use Rattle.std.specs.Prelude.{
  ◌≡◌,
  ℕ,
  ◌+◌,
  ◌-◌,
  ◌≤◌,
  Bool,
  true,
  false,
  nat_eq,
  nat_le,
  List,
  [],
  ◌∷◌,
  ◌++◌,
  map,
  find,
  length,
  Option,
  Some,
  None,
  option_map,
  option_and_then,
  if◌then◌else◌,
}
use Rattle.std.specs.Map.{lookup, remove_entry, set_value}
use Rattle.rd_base.specs.declared.queries.Query.{Query}
use Rattle.rd_base.specs.declared.records.Record.{Record}
use Rattle.history_model.specs.ChangedParts.{is_other_part}
use Rattle.event_model.specs.Same.{is_same_query}
use Rattle.event_model.specs.Observers.{max_watched}

-- A watched query, with the number of its observers. It is marked if its lines changed since the
-- marks were last cleared. Its body is the one last built for it, if its lines have not changed
-- since.
pub record Watched : Type 0 where
  pub query : Query
  pub observers : ℕ
  pub marked : Bool
  pub body : Option (List ℕ)

-- The watched queries, each with its slot.
abbrev pub Table : Type 0
Table = List (ℕ × Watched)

-- Returns what is watched in a slot, or `None` if nothing is.
abbrev pub watched_at : ℕ → Table → Option Watched
watched_at slot t = lookup (nat_eq slot) t

-- Returns the query that is watched in a slot, or `None` if there is none.
abbrev pub query_at : ℕ → Table → Option Query
query_at slot t = option_map (λ w. w.query) (watched_at slot t)

-- Returns whether something is watched, and it is marked.
abbrev pub is_marked : Option Watched → Bool
is_marked None = false
is_marked (Some w) = w.marked

-- Returns whether the query of a slot is marked. Returns false if none is watched there.
abbrev pub is_marked_at : ℕ → Table → Bool
is_marked_at slot t = is_marked (watched_at slot t)

-- Returns the body last built for the query of a slot, or `None` if there is no valid one.
abbrev pub body_at : ℕ → Table → Option (List ℕ)
body_at slot t = option_and_then (λ w. w.body) (watched_at slot t)

-- Returns the slot in which a query is watched, or `None` if it is not watched.
abbrev pub slot_of : Query → Table → Option ℕ
slot_of query t = option_map (λ e. e.0) (find (λ e. is_same_query e.1.query query) t)

-- Returns a watched query with its first observer, without a mark or a body.
abbrev pub watched_first : Query → Watched
watched_first query = record { query = query; observers = 1; marked = false; body = None }

-- Returns the table with one more observer of a query in a slot, given what is watched there.
abbrev pub more_at : Option Watched → ℕ → Query → Table → Table
more_at None slot query t = t ++ (slot, watched_first query) ∷ []
more_at (Some w) slot query t = set_value (nat_eq slot) t (record w { observers = w.observers + 1 })

-- Returns the table with one more observer of a query in a slot.
abbrev pub one_more : ℕ → Query → Table → Table
one_more slot query t = more_at (watched_at slot t) slot query t

-- Returns the table with one observer fewer of what is watched in a slot. It is dropped with its
-- last observer.
abbrev pub fewer_of : Watched → ℕ → Table → Table
fewer_of w slot t =
    if nat_le w.observers 1
    then remove_entry (nat_eq slot) t
    else set_value (nat_eq slot) t (record w { observers = w.observers - 1 })

abbrev pub fewer_at : Option Watched → ℕ → Table → Table
fewer_at None slot t = t
fewer_at (Some w) slot t = fewer_of w slot t

-- Returns the table with one observer fewer in a slot. Its query is dropped with its last observer.
unfoldable pub one_fewer : ℕ → Table → Table
one_fewer slot t = fewer_at (watched_at slot t) slot t

-- Returns the table with one observer fewer in the slot that an observer had before, if it had one.
abbrev pub without : Option ℕ → Table → Table
without None t = t
without (Some slot) t = one_fewer slot t

-- States which slot a query gets: its own if it is watched, or else a free one of the first 257.
abbrev pub IsSlotOf : Option ℕ → ℕ → Table → Type 0
IsSlotOf (Some own) slot t = slot ≡ own
IsSlotOf None slot t = (watched_at slot t ≡ None) × (slot ≤ max_watched)

abbrev pub IsSlotFor : Query → ℕ → Table → Type 0
IsSlotFor query slot t = IsSlotOf (slot_of query t) slot t

-- A table without room for this query: it is not watched, and as many other queries are as can be.
pub record IsFullFor (query : Query) (t : Table) : Type 0 where
  pub other : slot_of query t ≡ None
  pub full : max_watched ≤ length t

-- Returns a watched query after a change of a registration. If its lines changed, it is marked and
-- its body is dropped.
abbrev pub touched : Option Record → Option Record → Watched → Watched
touched old new w =
    if is_other_part w.query old new then record w { marked = true; body = None } else w

-- Returns each of the watched queries after a change of a registration.
abbrev pub all_touched : Option Record → Option Record → Table → Table
all_touched old new t = map (λ e. (e.0, touched old new e.1)) t

-- Returns a watched query without its mark.
abbrev pub unmarked : Watched → Watched
unmarked w = record w { marked = false }

abbrev pub all_unmarked : Table → Table
all_unmarked t = map (λ e. (e.0, unmarked e.1)) t

-- Returns the table with this body for what is watched in a slot, if something is.
abbrev pub body_set : Option Watched → ℕ → List ℕ → Table → Table
body_set None slot body t = t
body_set (Some w) slot body t = set_value (nat_eq slot) t (record w { body = Some body })

-- Returns the table with this body for the query of a slot, if one is watched there.
abbrev pub with_body : ℕ → List ℕ → Table → Table
with_body slot body t = body_set (watched_at slot t) slot body t
