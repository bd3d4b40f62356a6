use Rattle.std.proofs.Common.{◌≡◌, ◌≤◌, ◌-◌}
use Rattle.rd_seat.specs.Callers.{caller_seen}
use Rattle.joint_server.specs.Standing.{IsFew, StandsSo}
use Rattle.joint_server.proofs.standing.attend_door.Given as goal

-- The connections that were opened so far were served.
abbrev pub invariant-turns : goal.invariant-turns
invariant-turns g l = record {
  hall : l.seat.hall ≡ l.hall;
  within : l.done ≤ l.turns;
  few : IsFew l.done l.attended;
  so : StandsSo (g.E.Entrance.seen l.fn.door) (g.E.Entrance.seen l.door)
      (caller_seen g.C.Clock l.fn.seat l.fn.clock) (caller_seen g.C.Clock l.seat l.clock)
      l.attended;
}

abbrev pub decreases-turns : goal.decreases-turns
decreases-turns g l = l.turns - l.done
