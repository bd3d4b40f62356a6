use Rattle.std.proofs.Common.{◌≡◌, ◌≤◌, ◌-◌, ◌*◌}
use Rattle.rd_seat.specs.Callers.{caller_seen}
use Rattle.coap_stream.specs.Serving.{NeverFail, ServedSo}
use Rattle.coap_stream.proofs.serving.serve_all.Given as goal

-- So many connections were served.
abbrev pub invariant-connections : goal.invariant-connections
invariant-connections g l = record {
  hall : l.seat.hall ≡ l.hall;
  done : l.done ≤ l.count;
  few : l.asked ≤ 65536 * l.done;
  so : ServedSo (NeverFail g.A.In.Source g.A.Out.Sink) l.done l.asked
      (caller_seen g.C.Clock l.fn.seat l.fn.clock) (caller_seen g.C.Clock l.seat l.clock)
      (g.A.Accept.coming l.fn.door) (g.A.Accept.coming l.door)
      (g.A.Accept.faults l.fn.door) (g.A.Accept.faults l.door);
}

abbrev pub decreases-connections : goal.decreases-connections
decreases-connections g l = l.count - l.done
