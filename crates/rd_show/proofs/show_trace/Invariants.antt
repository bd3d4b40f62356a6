use Rattle.trace_replay.specs.Machines.{IsMachine}
use Rattle.rd_show.proofs.show_trace.Given as goal

-- the machine stands after a journal
abbrev pub invariant-pieces : goal.invariant-pieces
invariant-pieces g l = IsMachine l.shown.machine

-- each piece lowers the turns of the source
abbrev pub decreases-pieces : goal.decreases-pieces
decreases-pieces g l = g.S.Source.turns l.source
