use Rattle.std.proofs.Common.{◌≡◌, ◌≤◌, ◌-◌, ◌*◌}
use Rattle.rd_server.specs.serving.Workers.{worker_seen}
use Rattle.rd_server.specs.serving.Sums.{IsBelow}
use Rattle.rd_server.proofs.service.TurnLaws.{TurnsMade}
use Rattle.rd_server.proofs.serving.workers.run.Given as goal

-- so many turns were made, and no receive failed
abbrev pub invariant-turns : goal.invariant-turns
invariant-turns g l = (l.seat.hall ≡ l.context.hall.now) × (l.done ≤ l.turns)
    × IsBelow (4000 * l.done) l.tally.served
    × TurnsMade l.done (worker_seen g.L.Link g.C.Clock l.fn.seat l.fn.link l.fn.clock)
    (worker_seen g.L.Link g.C.Clock l.seat l.link l.clock) l.tally.served

abbrev pub decreases-turns : goal.decreases-turns
decreases-turns g l = l.turns - l.done
