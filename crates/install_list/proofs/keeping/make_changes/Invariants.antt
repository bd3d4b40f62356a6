use Rattle.std.proofs.Common.{◌≡◌}
use Rattle.install_list.proofs.keeping.make_changes.Given as goal

-- no call failed
abbrev pub invariant-turns : goal.invariant-turns
invariant-turns g l = record {
  receives : g.L.Link.recv_faults l.link ≡ g.L.Link.recv_faults l.fn.link;
  writes : g.K.Sink.faults l.out ≡ g.K.Sink.faults l.fn.out;
}
