-- The result of a step that does a job, of a tick or of a beginning.
use Rattle.std.specs.Prelude.{Bool, true, false}
use Rattle.rd_desk.specs.declared.stepped.Stepped.{Stepped}
use Rattle.rd_desk.specs.declared.stepped.Stepped.TheVariants as stepped

-- Returns whether memory ran out.
abbrev pub is_starved_step : Stepped → Bool
is_starved_step stepped.Done = false
is_starved_step stepped.Starved = true
