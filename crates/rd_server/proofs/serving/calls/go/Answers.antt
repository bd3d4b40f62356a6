use Rattle.std.proofs.Common.{Bool, subst}
use Rattle.rd_desk.specs.calls.Stepping.{is_starved_step}
use Rattle.rd_seat.specs.Jobs.{last_place}
use Rattle.rd_seat.proofs.CallLaws.{go_call, go-IsOfJob}
use Rattle.rd_server.specs.serving.Calls.{Call, one_if}
use Rattle.rd_server.specs.serving.Sums.{CountsSendings}
use Rattle.rd_server.proofs.service.CallLaws.{go-made, one_count}
use Rattle.rd_server.proofs.serving.calls.go.Goals as goal

pub returns-clause-made : goal.returns-clause-made
returns-clause-made g c =
    let sent = c.finish.ensures.sends in
    let seat = c.args.seat.now in
    let made : Call = go_call seat c.now-now.result c.args.job
    (is_starved_step c.go-stepped.result) sent.0 in (
      made,
      go-IsOfJob seat.worker (last_place seat.seen) c.now-now.result c.args.job seat.drawn,
      go-made _ _ c.now-now.result c.args.job (is_starved_step c.go-stepped.result)
          c.go-stepped.new.out sent.0 c.go-stepped.ensures.of_hall c.go-stepped.ensures.met
          c.go-stepped.ensures.made
          sent.1 sent.2 c.now-now.ensures.gives c.now-now.ensures.words_stay,
      one_count made c.args.tally.now.served c.finish.new.served
          (subst (λ (b : Bool). CountsSendings sent.0 (one_if b) c.args.tally.now.served
          c.finish.new.served) c.is_starved.ensures sent.3),
    )
