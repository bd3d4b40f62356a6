use Rattle.std.proofs.Common.{get_or, arith}
use Rattle.rd_server.specs.serving.Servers.{seated}
use Rattle.rd_server.proofs.service.EndLaws.{took_first, seated-more, seated-left}
use Rattle.rd_server.proofs.serving.ends.seat_ends.Goals as goal

pub ends-preserved : goal.ends-preserved
ends-preserved g c =
    let so_far = c.ends.invariant in
    let took = took_first c.take_first.result c.ends.seats c.take_first.new.self c.args.seats
    c.ends.end-index c.take_first.ensures.some c.take_first.ensures.none so_far.0 in (
      took.0,
      seated-more c.args.ends.now c.ends.end-items c.args.seats c.ends.end-index
          c.end-item.result c.take_first.result
          (omega (arith, c.ends-test.true, c.ends.auto.end-items)) so_far.1 so_far.2 took.1,
      seated-left c.args.ends.now c.ends.end-items c.ends.end-index
          (seated (get_or c.ends.end-items c.ends.end-index c.end-item.result)
          c.take_first.result) so_far.2,
    )
