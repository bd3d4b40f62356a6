-- What the functions over a map of watched queries require of each other and ensure.
use Rattle.std.specs.Prelude.{
  ◌≡◌,
  ℕ,
  ◌≤◌,
  ◌<◌,
  ◌-◌,
  ◌^◌,
  zero,
  suc,
  Bool,
  false,
  List,
  [],
  ◌∷◌,
  nat_le,
  Option,
  Some,
  None,
}
use Rattle.std.specs.List.{AllByRecursion}
use Rattle.event_model.specs.Observers.{max_watched}
use Rattle.watch_table.specs.WatchedQueries.{Watched, Table, watched_at}

-- Returns whether a watched query has at most one observer left. Returns false if there is none.
abbrev pub has_last : Option Watched → Bool
has_last None = false
has_last (Some w) = nat_le w.observers 1

-- States that one more observer of each query can be counted.
abbrev pub CanCount : Table → Type 0
CanCount t = AllByRecursion (λ e. e.1.observers < 2 ^ 64 - 1) t

-- States that nothing is watched in the slot, which is one of the first 257.
abbrev pub IsFree : ℕ → Table → Type 0
IsFree slot t = (watched_at slot t ≡ None) × (slot ≤ max_watched)

-- Returns the table with a change of the watched query of the entry at this index.
abbrev pub changed_at : (Watched → Watched) → ℕ → Table → Table
changed_at change i [] = []
changed_at change zero (e ∷ es) = (e.0, change e.1) ∷ es
changed_at change (suc i) (e ∷ es) = e ∷ changed_at change i es
