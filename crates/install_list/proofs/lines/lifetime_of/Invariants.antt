use Rattle.std.proofs.Common.{◌≡◌, ◌≤◌, length}
use Rattle.install_list.specs.Lists.{lifetime_from}
use Rattle.install_list.proofs.lines.lifetime_of.Given as goal

-- the lifetime so far and the remaining options give the lifetime of all options
abbrev pub invariant-options : goal.invariant-options
invariant-options l = record {
  same : lifetime_from 90000 l.options ≡ lifetime_from l.lifetime l.left;
  within : l.lifetime ≤ 4294967295;
}

abbrev pub decreases-options : goal.decreases-options
decreases-options l = length l.left
