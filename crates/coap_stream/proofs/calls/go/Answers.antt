use Rattle.rd_desk.specs.calls.Stepping.{is_starved_step}
use Rattle.rd_seat.specs.Jobs.{last_place}
use Rattle.rd_seat.specs.Callers.{caller_seen}
use Rattle.rd_seat.proofs.CallLaws.{go_call, go-made, go-IsOfJob}
use Rattle.coap_stream.specs.Calls.{Call, as_they_came}
use Rattle.coap_stream.proofs.calls.go.Goals as goal

pub returns-clause-made : goal.returns-clause-made
returns-clause-made g c =
    let seat = c.args.seat.now in
    let starved = is_starved_step c.go-stepped.result in
    let out = c.go-stepped.new.out in
    let made : Call = go_call seat c.now-now.result c.args.job starved out in (
      made,
      go-IsOfJob seat.worker (last_place seat.seen) c.now-now.result c.args.job seat.drawn,
      go-made as_they_came (caller_seen g.C.Clock seat c.args.clock.now)
          (caller_seen g.C.Clock c.go-stepped.new.self c.now-now.new.self) c.now-now.result
          c.args.job starved out c.go-stepped.ensures.of_hall
          c.go-stepped.ensures.met c.go-stepped.ensures.made
          c.now-now.ensures.gives c.now-now.ensures.words_stay,
      c.carry_all-tally.ensures,
    )
