use Rattle.std.proofs.Common.{◌≡◌, ℕ, Ok, subst, ◌∙◌, arith}
use Rattle.rd_seat.specs.Callers.{caller_seen}
use Rattle.coap_stream.specs.Serving.{NeverFail, ServesAll}
use Rattle.coap_stream.proofs.ServingLaws.{served_all, served_fails, served_more, served_none}
use Rattle.coap_stream.proofs.serving.serve_all.Goals as goal

pub connections-init : goal.connections-init
connections-init g c = record {
  hall = c.requires.hall;
  done = omega arith;
  few = omega arith;
  so = served_none _ _ _ _;
}

pub returns-in-Err : goal.returns-in-Err
returns-in-Err g c = record {
  serves = served_fails _ c.connections.done c.connections.asked c.args.count _ _ _ _ _ _ _ _ _
      c.in-Err.why c.connections.invariant.so c.connections-test.true c.in-Err.ensures.serves;
}

pub connections-preserved : goal.connections-preserved
connections-preserved g c = record {
  hall = c.serve_one.ensures.hall ∙ c.connections.invariant.hall;
  done = omega (arith, c.connections-test.true);
  few = omega (arith, c.in-Ok.ensures.few, c.connections.invariant.few);
  so = served_more _ c.connections.done c.connections.asked c.in-Ok.more _ _ _ _ _ _ _ _ _
      c.connections.invariant.so c.in-Ok.ensures.serves;
}

pub returns : goal.returns
returns g c =
    let all : c.connections.done ≡ c.args.count =
    omega (arith, c.connections-test.false, c.connections.invariant.done) in
    record {
      serves = subst (λ (n : ℕ). ServesAll (NeverFail g.A.In.Source g.A.Out.Sink) n
          (caller_seen g.C.Clock c.args.seat.now c.args.clock.now)
          (caller_seen g.C.Clock c.connections.seat c.connections.clock)
          (g.A.Accept.coming c.args.door.now) (g.A.Accept.coming c.connections.door)
          (g.A.Accept.faults c.args.door.now) (g.A.Accept.faults c.connections.door)
          (Ok c.connections.asked)) all
          (served_all _ c.connections.done c.connections.asked _ _ _ _ _ _
          c.connections.invariant.so);
    }
