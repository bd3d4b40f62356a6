use Rattle.std.proofs.Common.{None, get_or, arith}
use Rattle.rd_server.specs.serving.Servers.{seated}
use Rattle.rd_server.proofs.service.EndLaws.{left-more, left-IsUnserved, seated-left}
use Rattle.rd_server.proofs.serving.ends.unseat_ends.Goals as goal

pub ends-preserved : goal.ends-preserved
ends-preserved g c =
    let so_far = c.ends.invariant in
    let more = left-more c.args.ends.now c.ends.end-items c.ends.end-index c.end-item.result
    (omega (arith, c.ends-test.true, c.ends.auto.end-items)) so_far.1 so_far.2 in (
      λ i d lt. left-IsUnserved (get_or c.args.ends.now i d) _ (more i d lt),
      more,
      seated-left c.args.ends.now c.ends.end-items c.ends.end-index
          (seated (get_or c.ends.end-items c.ends.end-index c.end-item.result) None) so_far.2,
    )
