-- The observers that a table of watched queries stands for (RFC 7641 section 4.1).
use Rattle.std.specs.Prelude.{
  ◌≡◌,
  ℕ,
  ◌≤◌,
  ◌<◌,
  Bool,
  false,
  ◌||◌,
  nat_eq,
  nat_lt,
  List,
  [],
  ◌∷◌,
  sum_by,
  count_by,
  if◌then◌else◌,
}
use Rattle.std.specs.List.{AllByRecursion}
use Rattle.rd_base.specs.declared.queries.Query.{Query}
use Rattle.event_model.specs.declared.notes.Observer.{Observer}
use Rattle.event_model.specs.Same.{is_same_query}
use Rattle.event_model.specs.Observers.{is_watched, number_watched, max_watched}
use Rattle.watch_table.specs.WatchedQueries.{Watched, Table}

-- Returns the number of observers of a query that an entry of a table counts.
abbrev pub counted_by : Query → ℕ × Watched → ℕ
counted_by query e = if is_same_query e.1.query query then e.1.observers else 0

-- Returns the number of observers of a query that a table counts.
abbrev pub counted_of : Query → Table → ℕ
counted_of query t = sum_by (counted_by query) t

-- Returns how many of these observers observe a query.
abbrev pub observers_of : Query → List Observer → ℕ
observers_of query standing = count_by (λ o. is_same_query o.query query) standing

-- States that two entries have different queries and different slots.
abbrev pub IsApart : ℕ × Watched → ℕ × Watched → Type 0
IsApart e other = (is_same_query other.1.query e.1.query ≡ false) × (nat_eq e.0 other.0 ≡ false)

-- States that no query is watched twice, and no slot has two queries.
abbrev pub AreApart : Table → Type 0
AreApart [] = Unit {0}
AreApart (e ∷ es) = AllByRecursion (IsApart e) es × AreApart es

-- A table that stands for these observers. It counts as many observers of each query as there are.
-- Each watched query has at least one, and a slot of its own.
pub record WatchesStandFor (standing : List Observer) (t : Table) : Type 0 where
  pub observers : (query : Query) → counted_of query t ≡ observers_of query standing
  pub some : AllByRecursion (λ e. 0 < e.1.observers) t
  pub apart : AreApart t

-- States that there is no room to watch this query: it is not observed, and as many other queries
-- are observed as can be watched.
abbrev pub IsFullAmong : Query → List Observer → Type 0
IsFullAmong query standing =
    (is_watched query standing || nat_lt (number_watched standing) max_watched) ≡ false
