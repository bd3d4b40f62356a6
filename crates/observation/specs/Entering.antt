-- An entry that a row makes, and its registration before and after it.
use Rattle.std.specs.Prelude.{◌≡◌, List, [], ◌∷◌, ◌++◌, Option, None}
use Rattle.rd_base.specs.declared.records.Record.{Record}
use Rattle.history_model.specs.declared.entries.Entry.{Entry}
use Rattle.history_model.specs.Live.{live}
use Rattle.history_model.specs.Refusals.{change_refusal}
use Rattle.history_model.specs.Replay.{replay, numbered, number_about}
use Rattle.journal_model.specs.declared.steps.Step.{Step}
use Rattle.journal_model.specs.declared.rows.Row.{Row}
use Rattle.journal_model.specs.Journal.{entries}
use Rattle.journal_model.specs.Rows.{row_moment}

-- An entry that the row of a step makes. It is accepted, and it is made at the moment of the row.
-- `old` and `new` are the live states of its registration at that moment, before and after it.
pub record IsEntered (rows : List Row) (s : Step) (entry : Entry) (old new : Option Record) : Type 0
  where
    pub accepted : change_refusal 0 (entries rows) entry ≡ None
    pub at : entry.moment.0 ≡ row_moment rows s
    pub before :
        old
        ≡ numbered (number_about (replay (entries rows)) entry.moment.0 entry.change)
        (live (entries rows) entry.moment.0)
    pub after :
        new
        ≡ numbered (number_about (replay (entries rows)) entry.moment.0 entry.change)
        (live (entries rows ++ entry ∷ []) entry.moment.0)
