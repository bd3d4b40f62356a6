-- Cursors over the carriers of criteria, which advance alternately until one of them ends.
use Rattle.std.specs.Prelude.{
  ◌≡◌,
  ℕ,
  ◌+◌,
  Bool,
  true,
  false,
  List,
  [],
  ◌++◌,
  map,
  length,
  Contains,
  Result,
  Ok,
  Err,
}
use Rattle.rd_base.specs.declared.queries.Criterion.{Criterion}
use Rattle.attribute_index.specs.Entries.{Entry, carriers_of, has_number}
use Rattle.directory_core.specs.Bounds.{attribute_criteria}

-- A cursor: the numbers that it returned, and those that remain.
pub record Run : Type 0 where
  pub given : List ℕ
  pub left : List ℕ

-- Returns all numbers of a cursor.
abbrev pub whole : Run → List ℕ
whole run = run.given ++ run.left

-- Returns a cursor at the first carrier of a criterion.
abbrev pub run_of : List Entry → Criterion → Run
run_of index criterion = record {
  given = [];
  left = carriers_of criterion.name criterion.pattern index;
}

-- Returns the cursors of the criteria that are about attributes.
abbrev pub runs_of : List Entry → List Criterion → List Run
runs_of index criteria = map (run_of index) (attribute_criteria criteria)

-- States what an advance with this result leaves: one more number was returned, or none was left.
abbrev pub HasTurned : {E : Type 0} → Run → Run → Result Bool E → Type 0
HasTurned old new (Ok true) =
    (whole new ≡ whole old)
    × (length new.given ≡ length old.given + 1)
    × (length old.left ≡ length new.left + 1)
HasTurned old new (Ok false) = (whole new ≡ whole old) × (whole new ≡ new.given)
HasTurned old new (Err error) = Unit {0}

-- The numbers of the carriers of one criterion about attributes.
pub record AreNumbersOf (index : List Entry) (criteria : List Criterion) (numbers : List ℕ) : Type 0
  where
    pub criterion : Criterion
    pub among : Contains (attribute_criteria criteria) criterion
    pub are : (n : ℕ)
        → has_number numbers n ≡ has_number (carriers_of criterion.name criterion.pattern index) n
