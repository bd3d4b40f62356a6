use Rattle.std.proofs.Common.{arith}
use Rattle.rd_server.proofs.service.EndLaws.{took_first}
use Rattle.joint_server.proofs.PostLaws.{seated-by, left-by}
use Rattle.joint_server.proofs.ends.seat_posts.Goals as goal

pub posts-preserved : goal.posts-preserved
posts-preserved g c =
    let so_far = c.posts.invariant in
    let took = took_first c.take_first.result c.posts.seats c.take_first.new.self c.args.seats
    c.posts.post-index c.take_first.ensures.some c.take_first.ensures.none so_far.0 in (
      took.0,
      seated-by c.args.posts.now c.posts.post-items c.args.seats c.posts.post-index
          c.post-item.result c.take_first.result c.seat_one.new.post
          (omega (arith, c.posts-test.true, c.posts.auto.post-items)) so_far.1 so_far.2 took.1
          c.seat_one.ensures,
      left-by c.args.posts.now c.posts.post-items c.posts.post-index c.seat_one.new.post so_far.2,
    )
