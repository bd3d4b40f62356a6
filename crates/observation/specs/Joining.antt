-- What adding an observer of a lookup does to the watched queries and their observers (RFC 7641
-- section 4.1).
use Rattle.std.specs.Prelude.{
  ◌≡◌,
  ℕ,
  Bool,
  true,
  false,
  nat_lt,
  ◌&&◌,
  ◌||◌,
  List,
  [],
  ◌∷◌,
  ◌++◌,
  find,
  None,
  option_map,
  Result,
  Ok,
  Err,
}
use Rattle.std.specs.Arc.{arc_value}
use Rattle.rd_base.specs.declared.out_of_memory.Starved.{Starved}
use Rattle.rd_base.specs.declared.peers.Peer.{Peer}
use Rattle.rd_base.specs.declared.queries.Query.{Query}
use Rattle.rd_base.specs.Firsts.{without_first}
use Rattle.event_model.specs.declared.notes.Note.{Note}
use Rattle.event_model.specs.declared.notes.Observer.{Observer}
use Rattle.event_model.specs.Observers.{
  name_of,
  max_observers,
  max_watched,
  is_watched,
  number_watched,
}
use Rattle.journal_model.specs.Lookups.{removal, addition}
use Rattle.watch_table.specs.WatchedQueries.{one_more, without, IsSlotFor}
use Rattle.observers.specs.Standing.{Standing, is_named}
use Rattle.observation.specs.declared.joining.Joining.{Joining}
use Rattle.observation.specs.Watching.{Watching}

-- Returns the observer as the notes have it, with the query that it requests.
abbrev pub observer_joining : Query → Joining → Observer
observer_joining query j = record {
  peer = j.peer;
  token = j.token;
  query = query;
  key = j.key;
  szx = j.szx;
}

-- Returns the observer as the table stores it, with the slot of its query. It is not due, a body
-- was built for it, and no notification to it is in flight.
abbrev pub standing_joining : ℕ → Joining → Standing
standing_joining slot j = record {
  peer = j.peer;
  token = j.token;
  slot = slot;
  key = j.key;
  szx = j.szx;
  due = false;
  last = arc_value j.body;
  flight = None;
}

-- Returns the watched queries and observers without the observer of this peer and token.
abbrev pub without_observer : Peer → List ℕ → Watching → Watching
without_observer peer token w = record {
  watches = without (option_map (λ x. x.slot) (find (is_named peer token) w.observers)) w.watches;
  observers = without_first (is_named peer token) w.observers;
}

-- The watched queries and observers before and after one more observer was added. Its query is
-- watched in its slot.
pub record IsAdded (query : Query) (j : Joining) (before after : Watching) : Type 0 where
  pub slot : ℕ
  pub slot_for : IsSlotFor query slot before.watches
  pub watches : after.watches ≡ one_more slot query before.watches
  pub observers : after.observers ≡ before.observers ++ standing_joining slot j ∷ []

-- States the result of a request to observe. The observer of the same peer and token is removed.
-- Then this one is added, or there is no room for it. If memory ran out, nothing changed.
abbrev pub Joins : Query → Joining → Watching → Result Bool Starved → Watching → Type 0
Joins query j before (Ok true) after =
    IsAdded query j (without_observer j.peer j.token before) after
Joins query j before (Ok false) after = after ≡ without_observer j.peer j.token before
Joins query j before (Err starved) after = after ≡ before

-- Returns whether there is room for one more observer of a query, given the number of other
-- observers and the observers themselves.
abbrev pub has_room : Query → ℕ → List Observer → Bool
has_room query others standing =
    nat_lt others max_observers
    && (is_watched query standing || nat_lt (number_watched standing) max_watched)

-- Returns the notes of a request to observe: the removal of an earlier observer of that name and,
-- if there is room, the addition of this one.
abbrev pub joining_notes : Bool → Observer → List ℕ → List Observer → List Note
joining_notes true o body standing = removal (name_of o) standing ++ addition o body
joining_notes false o body standing = removal (name_of o) standing
