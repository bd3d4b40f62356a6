-- The moments of rows. The time of a journal is the time that was passed in with its steps.
use Rattle.std.specs.Prelude.{◌≡◌, ℕ, max, List, [], ◌∷◌}
use Rattle.journal_model.specs.declared.rows.Row.{Row}
use Rattle.journal_model.specs.PlacedRows.{Within}

-- Returns the greatest moment that was passed in with rows, in milliseconds, or 0 if there are
-- none.
unfoldable pub greatest_handed : List Row → ℕ
greatest_handed [] = 0
greatest_handed (r ∷ before) = max r.step.handed.0 (greatest_handed before)

-- The sentence about moments. The moment of a row is the greatest that was passed in so far,
-- including its own. So every age and every lifetime is measured in the time that was passed in
-- (RFC 7252 section 4.8.2, RFC 9176 section 5).
pub record Moments (rows : List Row) : Type 0 where
  pub greatest : (before : List Row) (r : Row)
      → Within rows before r
      → r.moment.0 ≡ greatest_handed (r ∷ before)
