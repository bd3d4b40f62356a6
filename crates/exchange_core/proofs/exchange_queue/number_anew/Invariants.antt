use Rattle.std.proofs.Common.{◌≡◌, ◌≤◌, length, drop}
use Rattle.std.specs.VecDeque.{deque_capacity}
use Rattle.exchange_core.specs.Buckets.{AreFoundBy}
use Rattle.exchange_core.proofs.exchange_queue.number_anew.Given as goal

abbrev pub invariant-rows : goal.invariant-rows
invariant-rows l = record {
  within : l.index ≤ length l.rows.items;
  found : AreFoundBy l.chains.first l.chains.latest.items l.chains.older.items
      (drop l.index l.rows.items);
  first : l.chains.first ≡ 1;
  room : deque_capacity l.chains.older ≡ deque_capacity l.initial.chains.older;
}

abbrev pub decreases-rows : goal.decreases-rows
decreases-rows l = l.index
