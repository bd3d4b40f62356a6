-- The ends of a board, as contracts see them.
use Rattle.std.specs.Prelude.{ℕ, Bool, false, List, [], Option}
use Rattle.history_model.specs.Versions.{Version}
use Rattle.history_model.specs.declared.entries.Entry.{Entry}

-- A publisher: the name of its board, the published entries, the published version, and the next
-- one, if it is staged.
pub record PublisherSeen : Type 0 where
  pub name : List ℕ
  pub told : List Entry
  pub published : Option Version
  pub staged : Option Version

-- A looker: the name of its board, the entries that it has seen, and whether it stores the version
-- that stands for them.
pub record LookerSeen : Type 0 where
  pub name : List ℕ
  pub seen : List Entry
  pub has : Bool

-- Returns a looker that has seen nothing.
abbrev pub new_looker : List ℕ → LookerSeen
new_looker name = record { name = name; seen = []; has = false }
