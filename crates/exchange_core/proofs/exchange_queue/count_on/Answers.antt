use Rattle.std.proofs.Common.{arith}
use Rattle.exchange_core.proofs.ChainLaws.{AreLinked-length}
use Rattle.exchange_core.proofs.exchange_queue.count_on.Goals as goal

pub next-requires : goal.next-requires
next-requires c =
    let counted = c.requires.found.counted in
    let many =
    AreLinked-length c.args.chains.now.first c.args.chains.now.older.items c.args.rows.now.items
    c.requires.found.links in
    omega (arith, counted, many)

pub returns-then-next-lt18446744073709551615-clause-counted :
    goal.returns-then-next-lt18446744073709551615-clause-counted
returns-then-next-lt18446744073709551615-clause-counted c =
    let many =
    AreLinked-length c.args.chains.now.first c.args.chains.now.older.items c.args.rows.now.items
    c.requires.found.links in
    omega (arith, c.next.ensures, c.if-next-lt18446744073709551615.true, many)
