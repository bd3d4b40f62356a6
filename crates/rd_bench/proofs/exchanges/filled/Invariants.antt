use Rattle.std.proofs.Common.{◌≤◌}
use Rattle.rd_bench.proofs.exchanges.filled.Given as goal

abbrev pub invariant-writes : goal.invariant-writes
invariant-writes l = l.table.moment ≤ 1_000
