use Rattle.std.proofs.Common.{◌≡◌, ◌≤◌, ◌-◌, length}
use Rattle.std.specs.Prelude.{All, IfOk}
use Rattle.joint_server.specs.Lines.{AreBelow, joined, joined_after}
use Rattle.joint_server.specs.Posts.{IsWithin}
use Rattle.joint_server.proofs.lines.joined.Given as goal

-- The sums so far, and those of what is left, are those of all.
abbrev pub invariant-posts : goal.invariant-posts
invariant-posts g l = (joined l.posts ≡ joined_after l.sums l.left) × (length l.left ≤ 16)
    × All (λ p. IsWithin p) l.left
    × IfOk l.sums (AreBelow (16 - length l.left))

abbrev pub decreases-posts : goal.decreases-posts
decreases-posts g l = length l.left
