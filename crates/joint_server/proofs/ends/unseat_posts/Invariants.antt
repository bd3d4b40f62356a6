use Rattle.std.proofs.Common.{◌≡◌, ◌≤◌, ◌<◌, ℕ, None, slice_index_or}
use Rattle.joint_server.specs.declared.posts.Post.{Post}
use Rattle.joint_server.specs.Posts.{seated}
use Rattle.joint_server.proofs.ends.unseat_posts.Given as goal

-- The first workers have no seat.
abbrev pub invariant-posts : goal.invariant-posts
invariant-posts g l =
    ((i : ℕ) (d : Post g.row.L.Denot g.row.E.Denot g.row.C.Denot) → i < l.post-index
    → slice_index_or l.post-items i d ≡ seated (slice_index_or l.fn.posts i d) None)
    × ((i : ℕ) (d : Post g.row.L.Denot g.row.E.Denot g.row.C.Denot) → l.post-index ≤ i
    → slice_index_or l.post-items i d ≡ slice_index_or l.fn.posts i d)
