use Rattle.std.proofs.Common.{ap, sym, ◌∙◌, refl, length, arith}
use Rattle.exchange_core.proofs.ChainLaws.{AreFoundBy-same, AreFoundBy-none}
use Rattle.exchange_core.proofs.exchange_queue.ExchangeQueue.make.Goals as goal

pub invariant_of-result : goal.invariant_of-result
invariant_of-result c =
    let rows = c.in_ok-rows.ensures in
    let made = c.in_ok-chains.ensures in
    let ok = c.in_ok-rows.rows.ok.0 in
    let none = ap length rows.items in
    let room = rows.capacity in (
      omega (arith, room),
      made.room,
      omega (arith, ok, none),
      AreFoundBy-same made.first refl refl rows.items
          (AreFoundBy-none c.in_ok-chains.chains.latest.items c.in_ok-chains.chains.older.items
          made.buckets made.none made.empty),
    )
