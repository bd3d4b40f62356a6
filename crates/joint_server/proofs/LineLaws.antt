-- The sums of workers.
use Rattle.std.proofs.Common.{ℕ, ◌+◌, ◌≤◌, Result, Ok, Err, arith}
use Rattle.std.specs.Prelude.{IfOk}
use Rattle.rd_server.specs.declared.serving.served.ServeFault.{ServeFault}
use Rattle.rd_server.specs.declared.serving.served.ServeFault.TheVariants as fault
use Rattle.joint_server.specs.declared.lines.Sums.{Sums}
use Rattle.joint_server.specs.Lines.{AreBelow, join}

sums_more : (m n : ℕ) (s : Sums) → m ≤ n → AreBelow m s → AreBelow n s
sums_more m n s le b = record {
  served = record {
    heard = omega (arith, le, b.served.heard);
    sent = omega (arith, le, b.served.sent);
    lost = omega (arith, le, b.served.lost);
    too_long = omega (arith, le, b.served.too_long);
    starved = omega (arith, le, b.served.starved);
  };
  attended = record {
    connections = omega (arith, le, b.attended.connections);
    asked = omega (arith, le, b.attended.asked);
  };
}

pub below_more : (m n : ℕ) (o : Result Sums ServeFault) → m ≤ n → IfOk o (AreBelow m)
    → IfOk o (AreBelow n)
below_more m n (Ok s) le b = sums_more m n s le b
below_more m n (Err f) le b = tt

pub join_below : (m : ℕ) (a b : Result Sums ServeFault) → IfOk a (AreBelow m)
    → IfOk b (AreBelow 1) → IfOk (join a b) (AreBelow (m + 1))
join_below m (Ok a) (Ok b) x y = record {
  served = record {
    heard = omega (arith, x.served.heard, y.served.heard);
    sent = omega (arith, x.served.sent, y.served.sent);
    lost = omega (arith, x.served.lost, y.served.lost);
    too_long = omega (arith, x.served.too_long, y.served.too_long);
    starved = omega (arith, x.served.starved, y.served.starved);
  };
  attended = record {
    connections = omega (arith, x.attended.connections, y.attended.connections);
    asked = omega (arith, x.attended.asked, y.attended.asked);
  };
}
join_below m (Ok a) (Err f) x y = tt
join_below m (Err f) (Ok b) x y = tt
join_below m (Err fault.Memory) (Err g) x y = tt
join_below m (Err fault.Link) (Err g) x y = tt
