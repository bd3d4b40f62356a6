-- Two messages that carry blocks of one body: of one listing, or of one source.
use Rattle.std.specs.Prelude.{◌≡◌, ℕ, List, [], ◌∷◌, Option, Some, option_map}
use Rattle.message_model.specs.Message.{Message}
use Rattle.message_model.specs.Request.{etags_in}
use Rattle.history_model.specs.Listing.{tag}
use Rattle.journal_model.specs.declared.rows.Row.{Row}
use Rattle.journal_model.specs.Journal.{entries}
use Rattle.journal_model.specs.Requests.{asked_block}
use Rattle.journal_model.specs.Sought.{Sought, body}
use Rattle.journal_model.specs.PlacedRows.{Within}
use Rattle.journal_model.specs.AskedListings.{asked_at}
use Rattle.journal_model.specs.CarriedBlocks.{IsBlockOf, Sent}

-- Returns what is sought in the request that a message answers.
abbrev pub sought_of_sent : {rows : List Row} → Sent rows → Option Sought
sought_of_sent it =
    option_map (λ asked. asked.sought)
    (asked_at it.here.row.step.kind (it.peer, it.message.token) it.here)

-- Two messages that carry blocks of one body. It is what the entries up to one row of the journal
-- give of what is sought, at the moment of that row. Both messages carry its tag.
pub record AreBlocksOfOne (rows : List Row) (sought : Sought) (one other : Message) : Type 0 where
  pub before : List Row
  pub row : Row
  pub within : Within rows before row
  pub whole : List ℕ
  pub found : body sought (entries (row ∷ before)) row.moment.0 ≡ Some whole
  pub first_tag : etags_in one ≡ tag (entries (row ∷ before)) row.moment.0 ∷ []
  pub second_tag : etags_in other ≡ tag (entries (row ∷ before)) row.moment.0 ∷ []
  pub first : IsBlockOf (asked_block one) whole one.payload
  pub second : IsBlockOf (asked_block other) whole other.payload
