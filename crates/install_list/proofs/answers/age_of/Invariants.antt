use Rattle.std.proofs.Common.{◌≤◌}
use Rattle.install_list.proofs.answers.age_of.Given as goal

abbrev pub invariant-octets : goal.invariant-octets
invariant-octets l = l.age ≤ 3600
