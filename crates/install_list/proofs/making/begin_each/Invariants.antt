use Rattle.std.proofs.Common.{◌≡◌}
use Rattle.install_list.proofs.making.begin_each.Given as goal

-- no receive failed
abbrev pub invariant-directories : goal.invariant-directories
invariant-directories g l = g.L.Link.recv_faults l.link ≡ g.L.Link.recv_faults l.fn.link
