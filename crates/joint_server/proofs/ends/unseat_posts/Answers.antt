use Rattle.std.proofs.Common.{arith}
use Rattle.joint_server.proofs.PostLaws.{unseated-by, left-by}
use Rattle.joint_server.proofs.ends.unseat_posts.Goals as goal

pub posts-preserved : goal.posts-preserved
posts-preserved g c =
    let so_far = c.posts.invariant in (
      unseated-by c.args.posts.now c.posts.post-items c.posts.post-index c.post-item.result
          c.seat_one.new.post (omega (arith, c.posts-test.true, c.posts.auto.post-items)) so_far.0
          so_far.1 c.seat_one.ensures,
      left-by c.args.posts.now c.posts.post-items c.posts.post-index c.seat_one.new.post so_far.1,
    )
