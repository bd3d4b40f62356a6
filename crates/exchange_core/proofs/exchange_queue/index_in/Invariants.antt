use Rattle.std.proofs.Common.{ℕ}
use Rattle.exchange_core.specs.Table.{is_sought}
use Rattle.exchange_core.specs.Buckets.{bucket_of}
use Rattle.exchange_core.proofs.ChainLaws.{CameTo}
use Rattle.exchange_core.proofs.exchange_queue.index_in.Given as goal

abbrev pub invariant-older : goal.invariant-older
invariant-older l =
    CameTo l.chains.first (bucket_of l.peer l.mid) l.number (is_sought l.peer l.mid l.admitted)
    l.rows.items

abbrev pub decreases-older : goal.decreases-older
decreases-older l = l.number
