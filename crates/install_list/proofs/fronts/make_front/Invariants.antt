use Rattle.std.proofs.Common.{◌≡◌, drop}
use Rattle.install_list.specs.Printing.{Puts}
use Rattle.install_list.proofs.fronts.make_front.Given as goal

-- the lines so far were written, and no call failed
abbrev pub invariant-turns : goal.invariant-turns
invariant-turns g l = record {
  puts :
      Puts l.fn.front.verb (drop l.fn.front.written l.fn.front.numbers.items)
      (drop l.front.written l.front.numbers.items) l.fn.front.is_undone l.front.is_undone
      (g.K.Sink.holds l.fn.out) (g.K.Sink.holds l.out);
  verb : l.front.verb ≡ l.fn.front.verb;
  receives : g.L.Link.recv_faults l.link ≡ g.L.Link.recv_faults l.fn.link;
  writes : g.K.Sink.faults l.out ≡ g.K.Sink.faults l.fn.out;
}
