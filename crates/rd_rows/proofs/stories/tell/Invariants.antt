use Rattle.trace_replay.specs.Machines.{IsMachine}
use Rattle.rd_rows.proofs.stories.tell.Given as goal

-- the machine stands after a journal
abbrev pub invariant-lines : goal.invariant-lines
invariant-lines l = IsMachine l.machine
