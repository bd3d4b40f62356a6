-- A journal while its last row is being made: what was done of it so far, and the rows before it.
use Rattle.std.specs.Prelude.{ℕ, zero, suc, ◌+◌, ◌%◌, ◌^◌, Bool, List, ◌∷◌, length}
use Rattle.event_model.specs.AdmissionOrder.{NoneAfter, IsNewPlace, IsOrderly}
use Rattle.journal_model.specs.declared.steps.Step.{Step}
use Rattle.journal_model.specs.declared.rows.Row.{Row}
use Rattle.journal_model.specs.Journal.{events}
use Rattle.journal_model.specs.Effects.{Effects}
use Rattle.journal_model.specs.Rows.{row_with, row_moment}

-- Returns a journal with the row of a step that did this so far. With all that the step does it is
-- the journal with its row.
abbrev pub making : List Row → Step → Bool → Effects → List Row
making rows s starved e = row_with s (row_moment rows s) starved e ∷ rows

-- Returns how many Message IDs are drawn with `n` more, modulo 2^64.
abbrev pub drawing : ℕ → ℕ → ℕ
drawing zero drawn = drawn
drawing (suc n) drawn = (drawn + suc n) % 2 ^ 64

-- A journal after which a step may be made: admissions are in order, and the place and the moment
-- of its row come after all events.
pub record IsReady (rows : List Row) (s : Step) : Type 0 where
  pub orderly : IsOrderly (events rows)
  pub in_time : NoneAfter (row_moment rows s) (events rows)
  pub new_place : IsNewPlace (length rows) (events rows)
