use Rattle.std.proofs.Common.{◌≡◌, length}
use Rattle.exchange_core.specs.Table.{InOrder, young}
use Rattle.exchange_core.proofs.table.drop_old.Given as goal

abbrev pub invariant-oldest : goal.invariant-oldest
invariant-oldest l = record {
  items : young l.now.0 l.queue ≡ young l.now.0 l.initial.queue;
  order : InOrder l.now.0 l.queue;
}

abbrev pub decreases-oldest : goal.decreases-oldest
decreases-oldest l = length l.queue
