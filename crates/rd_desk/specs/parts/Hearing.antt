-- What a write does on receipt, and the result of a datagram that leaves no job.
use Rattle.std.specs.Prelude.{Bool, true, false, List, [], codes}
use Rattle.message_model.specs.Message.{Message}
use Rattle.message_model.specs.Codes as codes_of
use Rattle.journal_model.specs.declared.steps.Step.{Step}
use Rattle.journal_model.specs.declared.rows.Row.{Row}
use Rattle.journal_model.specs.Effects.{
  Effects,
  nothing,
  sending,
  diagnostic,
  answering,
  without_memory,
}
use Rattle.journal_model.specs.Journal.{events}
use Rattle.journal_model.specs.Rows.{row_moment}
use Rattle.journal_model.specs.Writes.{write_effects}
use Rattle.exchange_core.specs.declared.writes.Keyed.{Keyed}
use Rattle.exchange_core.specs.declared.writes.Keyed.TheVariants as keyed
use Rattle.rd_desk.specs.declared.admitted.Admitted.{Admitted}
use Rattle.rd_desk.specs.declared.admitted.Admitted.TheVariants as admitted
use Rattle.rd_desk.specs.declared.stepped.Stepped.{Stepped}
use Rattle.rd_desk.specs.declared.stepped.Stepped.TheVariants as stepped

-- Returns the effects of a write that is not refused. If memory ran out, the answer is 5.00.
abbrev pub write_heard : Bool → List Row → Step → Message → Effects
write_heard true rows s m = without_memory s m
write_heard false rows s m = write_effects (events rows) (row_moment rows s) s m

-- Returns the effects of a write that is not admitted (RFC 7252 section 4.5). A duplicate gets the
-- octets of the first answer, or nothing while the write is in progress. A write for which there is
-- no room is refused.
abbrev pub unadmitted : Keyed → Step → Message → Effects
unadmitted keyed.Fresh s m = nothing
unadmitted keyed.InFlight s m = nothing
unadmitted (keyed.Kept reply) s m = sending s.peer reply
unadmitted keyed.FullExchanges s m =
    answering s m (diagnostic codes_of.service_unavailable (codes "exchanges")) []

-- Returns the result of a datagram that leaves no job.
abbrev pub jobless : Stepped → Admitted
jobless stepped.Done = admitted.Done
jobless stepped.Starved = admitted.Starved
