-- The second sentence of the headline. Each lookup answers the listing, and each read of a
-- registration its source, of the history at the row that built it.
use Rattle.std.specs.Prelude.{◌≡◌, true, false, ◌&&◌, ◌==◌, List}
use Rattle.message_model.specs.Codes as codes_of
use Rattle.message_model.specs.Reading.{reading}
use Rattle.journal_model.specs.declared.rows.Row.{Row}
use Rattle.journal_model.specs.Journal.{is_look, entries}
use Rattle.journal_model.specs.PlacedRows.{Within, code_sent}
use Rattle.journal_model.specs.BodyFormers.{is_formed_in_rows}
use Rattle.journal_model.specs.CarriedBlocks.{
  FormedAs,
  looks_with_tag,
  Sent,
  shows_links,
  Validates,
}

-- The sentence: each lookup answers the listing, and each read of a registration its source, of the
-- history at the row that built it.
-- - `carried`: take a 2.05 to a lookup or such a read, as a notification or with a tag. It carries
--   the tag, and the requested block of the listing or the source. Both are of the entries up to
--   the row that built its body, at the moment of that row.
-- - `validated`: only a look sends a 2.03. It is for a listing, or for the source of a live
--   registration, and names the tag at its own row. The 2.03 has this tag and nothing else. This
--   holds even if memory ran out.
-- - `valid`: if memory suffices, every such look sends it.
pub record AnswersAsFormed (rows : List Row) : Type 0 where
  pub carried : (sent : Sent rows)
      → shows_links sent ≡ true
      → FormedAs sent.here sent.peer sent.message
  pub validated : (sent : Sent rows)
      → sent.message.code ≡ codes_of.valid
      → Validates sent.here sent.peer sent.message
  pub valid : (before : List Row) (r : Row) → Within rows before r → r.starved ≡ false
      → (code_sent r.sent == codes_of.valid)
      ≡ (is_look r.step.kind
      && looks_with_tag (entries before) r.moment.0 (reading r.step.datagram))

-- The same for a journal of a desk, whose keeps may have any body and tag. Each such 2.05 whose
-- body was built in a row carries the tag, and the requested block of the listing or the source.
-- Both are of the entries up to the row that built its body, at the moment of that row.
pub record DeskAnswersAsFormed (rows : List Row) : Type 0 where
  pub carried : (sent : Sent rows) → shows_links sent ≡ true
      → is_formed_in_rows sent.here.row.step.kind sent.here ≡ true
      → FormedAs sent.here sent.peer sent.message
