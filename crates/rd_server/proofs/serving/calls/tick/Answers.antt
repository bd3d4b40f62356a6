use Rattle.std.proofs.Common.{Bool, refl, subst}
use Rattle.rd_desk.specs.calls.Stepping.{is_starved_step}
use Rattle.rd_seat.specs.Callers.{clock_seen}
use Rattle.rd_seat.proofs.CallLaws.{tick_call}
use Rattle.rd_server.specs.serving.Calls.{Call, one_if}
use Rattle.rd_server.specs.serving.Sums.{CountsSendings}
use Rattle.rd_server.proofs.service.CallLaws.{tick-made, one_count}
use Rattle.rd_server.proofs.serving.calls.tick.Goals as goal

pub returns-clause-made : goal.returns-clause-made
returns-clause-made g c =
    let sent = c.finish.ensures.sends in
    let made : Call = tick_call c.args.seat.now c.now-now.result c.word-word.result
    (is_starved_step c.tick-stepped.result) sent.0 in (
      made,
      refl,
      tick-made _ _ (clock_seen g.C.Clock c.now-now.new.self) c.now-now.result
          c.word-word.result (is_starved_step c.tick-stepped.result) c.tick-stepped.new.out
          sent.0 c.tick-stepped.ensures.of_hall c.tick-stepped.ensures.met
          c.tick-stepped.ensures.made sent.1 sent.2
          (record {
            moment = c.now-now.ensures.gives;
            words_stay = c.now-now.ensures.words_stay;
            word_of = c.word-word.ensures.gives;
            times_stay = c.word-word.ensures.times_stay;
          }),
      one_count made c.args.tally.now.served c.finish.new.served
          (subst (λ (b : Bool). CountsSendings sent.0 (one_if b) c.args.tally.now.served
          c.finish.new.served) c.is_starved.ensures sent.3),
    )
