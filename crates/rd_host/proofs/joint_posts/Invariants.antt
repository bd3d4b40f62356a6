use Rattle.std.proofs.Common.{◌≡◌, ◌+◌, ◌≤◌, length, vec_len, vec_capacity}
use Rattle.std.specs.Vec.Iter.{into_iter_items}
use Rattle.rd_host.proofs.joint_posts.Given as goal

-- The ends that are left and the workers that were made are all ends, and there is room for all
-- workers.
abbrev pub invariant-ends : goal.invariant-ends
invariant-ends g l = record {
  all : length (into_iter_items l.end-iterator) + vec_len l.posts ≡ vec_len l.fn.ends;
  room : vec_len l.fn.ends + vec_len l.fn.stands ≤ vec_capacity l.posts;
}

-- The same with the stands.
abbrev pub invariant-stands : goal.invariant-stands
invariant-stands g l = record {
  all : length (into_iter_items l.stand-iterator) + vec_len l.posts
      ≡ vec_len l.fn.ends + vec_len l.fn.stands;
  room : vec_len l.fn.ends + vec_len l.fn.stands ≤ vec_capacity l.posts;
}
