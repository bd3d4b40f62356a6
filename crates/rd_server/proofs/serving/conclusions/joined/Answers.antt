use Rattle.std.proofs.Common.{◌+◌, ◌-◌, ◌*◌, ◌^◌, List, Result, length, map, sym, ap, subst}
use Rattle.std.proofs.Common.{◌∙◌, arith}
use Rattle.std.specs.Prelude.{IfOk}
use Rattle.rd_server.specs.declared.serving.served.Served.{Served}
use Rattle.rd_server.specs.declared.serving.served.ServeFault.{ServeFault}
use Rattle.rd_server.specs.serving.Sums.{IsBelow, worker_most, server_most}
use Rattle.rd_server.specs.serving.Endings.{join, joined_after}
use Rattle.rd_server.proofs.service.JoinLaws.{below_more, join_below, first_of, rest_of}
use Rattle.rd_server.proofs.serving.conclusions.joined.Goals as goal

pub join-sums-requires-clause-before : goal.join-sums-requires-clause-before
join-sums-requires-clause-before g c =
    below_more ((16 - length c.ends.left.now) * 10 ^ 16) server_most c.ends.sums (omega arith)
    c.ends.invariant.3

pub join-sums-requires-clause-after : goal.join-sums-requires-clause-after
join-sums-requires-clause-after g c =
    first_of (λ end. IfOk end.outcome (IsBelow worker_most)) c.ends.left.now
    c.in-Some.rest.now c.in-Some.end.now c.in-Some.ensures.cases.0 c.ends.invariant.2

pub ends-preserved : goal.ends-preserved
ends-preserved g c =
    let so_far = c.ends.invariant in
    let left = c.ends.left.now in
    let rest = c.in-Some.rest.now in
    let end = c.in-Some.end.now in
    let cut = c.in-Some.ensures.cases in
    let few : IfOk end.outcome (IsBelow worker_most) =
    first_of (λ e. IfOk e.outcome (IsBelow worker_most)) left rest end cut.0 so_far.2 in (
      so_far.0 ∙ (ap (λ (l : List _). joined_after c.ends.sums (map (λ e. e.outcome) l)) cut.0
          ∙ ap (λ (r : Result Served ServeFault). joined_after r (map (λ e. e.outcome) rest))
          (sym c.join-sums.ensures)),
      omega (arith, so_far.1, cut.1),
      rest_of (λ e. IfOk e.outcome (IsBelow worker_most)) left rest end cut.0 so_far.2,
      subst (λ (r : Result Served ServeFault).
          IfOk r (IsBelow ((16 - length rest) * 10 ^ 16))) (sym c.join-sums.ensures)
          (below_more ((16 - length left) * 10 ^ 16 + worker_most) ((16 - length rest) * 10 ^ 16)
          (join c.ends.sums end.outcome) (omega (arith, so_far.1, cut.1))
          (join_below ((16 - length left) * 10 ^ 16) worker_most c.ends.sums end.outcome
          so_far.3 few)),
    )
