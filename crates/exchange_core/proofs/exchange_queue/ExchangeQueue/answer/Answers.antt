use Rattle.std.proofs.Common.{◌<◌, length, sym, ap, ◌∙◌, arith}
use Rattle.exchange_core.specs.Buckets.{bucket}
use Rattle.exchange_core.proofs.ChainLaws.{AreFoundBy-set}
use Rattle.exchange_core.proofs.exchange_queue.ExchangeQueue.answer.Goals as goal

pub invariant_of-self : goal.invariant_of-self
invariant_of-self c =
    let was = c.self.invariant in
    let view = ap length c.self.view_is in
    let asked = c.requires in
    let inside : c.args.index < length c.self.inside.rows.items = omega (arith, view, asked) in (
      was.0,
      was.1,
      was.2,
      AreFoundBy-set c.self.inside.chains.first c.self.inside.chains.latest.items
          c.self.inside.chains.older.items c.self.inside.rows.items c.args.index c.answer.new.self
          c.index_mut.result.now inside
          (ap bucket c.answer.ensures ∙ ap bucket c.index_mut.ensures.value) was.3,
    )
