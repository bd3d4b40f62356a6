use Rattle.std.proofs.Common.{◌≡◌, ◌+◌, ◌-◌, Result, length, sym, ap, subst, ◌∙◌, arith}
use Rattle.std.specs.Prelude.{IfOk}
use Rattle.rd_server.specs.declared.serving.served.ServeFault.{ServeFault}
use Rattle.rd_server.proofs.service.JoinLaws.{first_of, rest_of}
use Rattle.joint_server.specs.declared.lines.Sums.{Sums}
use Rattle.joint_server.specs.Lines.{AreBelow, join, joined_after, outcome_of}
use Rattle.joint_server.specs.Posts.{IsWithin}
use Rattle.joint_server.proofs.LineLaws.{below_more, join_below}
use Rattle.joint_server.proofs.lines.joined.Goals as goal

pub outcome_of-requires : goal.outcome_of-requires
outcome_of-requires g c =
    first_of (λ p. IsWithin p) c.posts.left.now c.in-Some.rest.now c.in-Some.post.now
    c.in-Some.ensures.cases.0 c.posts.invariant.2

pub join-sums-requires-clause-before : goal.join-sums-requires-clause-before
join-sums-requires-clause-before g c =
    below_more (16 - length c.posts.left.now) 16 c.posts.sums (omega arith)
    c.posts.invariant.3

pub posts-preserved : goal.posts-preserved
posts-preserved g c =
    let so_far = c.posts.invariant in
    let left = c.posts.left.now in
    let rest = c.in-Some.rest.now in
    let post = c.in-Some.post.now in
    let cut = c.in-Some.ensures.cases in
    let sums : c.join-sums.result ≡ join c.posts.sums (outcome_of post) =
    c.join-sums.ensures ∙ ap (join c.posts.sums) c.outcome_of.ensures.value in (
      so_far.0 ∙ (ap (joined_after c.posts.sums) cut.0
          ∙ ap (λ (r : Result Sums ServeFault). joined_after r rest) (sym sums)),
      omega (arith, so_far.1, cut.1),
      rest_of (λ p. IsWithin p) left rest post cut.0 so_far.2,
      subst (λ (r : Result Sums ServeFault). IfOk r (AreBelow (16 - length rest)))
          (sym c.join-sums.ensures)
          (below_more ((16 - length left) + 1) (16 - length rest)
          (join c.posts.sums c.outcome_of.result) (omega (arith, so_far.1, cut.1))
          (join_below (16 - length left) c.posts.sums c.outcome_of.result so_far.3
          c.outcome_of.ensures.few)),
    )
