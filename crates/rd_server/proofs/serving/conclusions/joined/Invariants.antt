use Rattle.std.proofs.Common.{◌≡◌, ◌≤◌, ◌-◌, ◌*◌, ◌^◌, length, map}
use Rattle.std.specs.Prelude.{All, IfOk}
use Rattle.rd_server.specs.serving.Sums.{IsBelow, worker_most}
use Rattle.rd_server.specs.serving.Endings.{joined, joined_after}
use Rattle.rd_server.proofs.serving.conclusions.joined.Given as goal

abbrev pub invariant-ends : goal.invariant-ends
invariant-ends g l = (joined (map (λ end. end.outcome) l.ends)
    ≡ joined_after l.sums (map (λ end. end.outcome) l.left)) × (length l.left ≤ 16)
    × All (λ end. IfOk end.outcome (IsBelow worker_most)) l.left
    × IfOk l.sums (IsBelow ((16 - length l.left) * 10 ^ 16))

abbrev pub decreases-ends : goal.decreases-ends
decreases-ends g l = length l.left
