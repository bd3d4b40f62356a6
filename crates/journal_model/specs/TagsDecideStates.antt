-- The third sentence of the headline: equally tagged blocks come from one state.
use Rattle.std.specs.Prelude.{◌≡◌, true, List, ◌∷◌, Some}
use Rattle.message_model.specs.Request.{etags_in}
use Rattle.history_model.specs.Live.{live}
use Rattle.history_model.specs.Listing.{tag}
use Rattle.journal_model.specs.declared.rows.Row.{Row}
use Rattle.journal_model.specs.Journal.{entries}
use Rattle.journal_model.specs.PlacedRows.{Within}
use Rattle.journal_model.specs.Sought.{Sought}
use Rattle.journal_model.specs.CarriedBlocks.{FormedAs, Sent, shows_links}
use Rattle.journal_model.specs.BlocksOfOne.{sought_of_sent, AreBlocksOfOne}

-- The sentence: equally tagged blocks come from one state.
-- - `histories`, `records`: if the tags at two rows are equal, so are the histories and the live
--   registrations.
-- - `answers`: take two answers to one query, or to reads of one registration. If the tags that are
--   read in them are equal, both carry blocks of one listing, or of one source, whose tag this is.
pub record TagsDecideStates (rows : List Row) : Type 0 where
  pub histories : (before other_before : List Row) (r other : Row)
      → Within rows before r
      → Within rows other_before other
      → tag (entries (r ∷ before)) r.moment.0 ≡ tag (entries (other ∷ other_before)) other.moment.0
      → entries (r ∷ before) ≡ entries (other ∷ other_before)
  pub records : (before other_before : List Row) (r other : Row)
      → Within rows before r
      → Within rows other_before other
      → tag (entries (r ∷ before)) r.moment.0 ≡ tag (entries (other ∷ other_before)) other.moment.0
      → live (entries (r ∷ before)) r.moment.0
      ≡ live (entries (other ∷ other_before)) other.moment.0
  pub answers : (one other : Sent rows) (sought : Sought)
      → shows_links one ≡ true → shows_links other ≡ true
      → etags_in one.message ≡ etags_in other.message
      → sought_of_sent one ≡ Some sought → sought_of_sent other ≡ Some sought
      → AreBlocksOfOne rows sought one.message other.message

-- The same if a keep may have any body and tag, as in a journal of a desk. It holds of rows, and of
-- two answers whose bodies were built in rows.
pub record FormedTagsDecideStates (rows : List Row) : Type 0 where
  pub histories : (before other_before : List Row) (r other : Row)
      → Within rows before r
      → Within rows other_before other
      → tag (entries (r ∷ before)) r.moment.0 ≡ tag (entries (other ∷ other_before)) other.moment.0
      → entries (r ∷ before) ≡ entries (other ∷ other_before)
  pub records : (before other_before : List Row) (r other : Row)
      → Within rows before r
      → Within rows other_before other
      → tag (entries (r ∷ before)) r.moment.0 ≡ tag (entries (other ∷ other_before)) other.moment.0
      → live (entries (r ∷ before)) r.moment.0
      ≡ live (entries (other ∷ other_before)) other.moment.0
  pub answers : (one other : Sent rows) (sought : Sought)
      → FormedAs one.here one.peer one.message → FormedAs other.here other.peer other.message
      → etags_in one.message ≡ etags_in other.message
      → sought_of_sent one ≡ Some sought → sought_of_sent other ≡ Some sought
      → AreBlocksOfOne rows sought one.message other.message
