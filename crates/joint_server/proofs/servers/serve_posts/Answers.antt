use Rattle.std.proofs.Common.{slice_index_or}
use Rattle.joint_server.specs.Posts.{seat_of}
use Rattle.joint_server.proofs.PostLaws.{goes_on}
use Rattle.joint_server.proofs.servers.serve_posts.Goals as goal

pub returns-clause-served : goal.returns-clause-served
returns-clause-served g c worker d lt =
    let old = slice_index_or c.args.posts.now worker d in
    let new = slice_index_or c.serve_all.new.posts worker d in (
      goes_on g.L.Link g.E.Entrance.seen g.C.Clock c.args.turns c.args.hall old new (seat_of old)
          (c.serve_all.ensures.served worker d lt),
      c.serve_all.ensures.unserved worker d lt,
    )
