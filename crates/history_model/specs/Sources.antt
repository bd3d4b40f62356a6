-- The source of a registration: its links as they were submitted (RFC 9176 section 5.3, RFC 6690
-- section 2).
use Rattle.std.specs.Prelude.{ℕ, List, Option, option_map}
use Rattle.rd_base.specs.LinkLines.{submitted}
use Rattle.rd_base.specs.declared.records.Record.{Record}
use Rattle.history_model.specs.declared.entries.Entry.{Entry}
use Rattle.history_model.specs.Live.{live}
use Rattle.history_model.specs.Replay.{numbered}

-- Returns the source of a record: the lines of its links in the order of the body, with commas
-- between them. Each has its target and its anchor as they were submitted.
abbrev pub record_source : Record → List ℕ
record_source r = submitted r.items

-- Returns the source of the registration with a number at a moment, if it is live.
unfoldable pub source : ℕ → List Entry → ℕ → Option (List ℕ)
source number history moment = option_map record_source (numbered number (live history moment))
