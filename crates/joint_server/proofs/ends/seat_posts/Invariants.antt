use Rattle.std.proofs.Common.{◌≡◌, ◌≤◌, ◌<◌, ℕ, drop, slice_get, slice_index_or}
use Rattle.joint_server.specs.declared.posts.Post.{Post}
use Rattle.joint_server.specs.Posts.{seated}
use Rattle.joint_server.proofs.ends.seat_posts.Given as goal

-- The first workers have their seats, and the others are as they were.
abbrev pub invariant-posts : goal.invariant-posts
invariant-posts g l = (l.seats ≡ drop l.post-index l.fn.seats)
    × ((i : ℕ) (d : Post g.row.L.Denot g.row.E.Denot g.row.C.Denot) → i < l.post-index
    → slice_index_or l.post-items i d
    ≡ seated (slice_index_or l.fn.posts i d) (slice_get l.fn.seats i))
    × ((i : ℕ) (d : Post g.row.L.Denot g.row.E.Denot g.row.C.Denot) → l.post-index ≤ i
    → slice_index_or l.post-items i d ≡ slice_index_or l.fn.posts i d)
