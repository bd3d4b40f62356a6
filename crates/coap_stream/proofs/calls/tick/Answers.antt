use Rattle.std.proofs.Common.{ℕ, ◌+◌, refl, ap, arith}
use Rattle.rd_desk.specs.calls.Stepping.{is_starved_step}
use Rattle.rd_seat.specs.Callers.{caller_seen, clock_seen}
use Rattle.rd_seat.proofs.CallLaws.{tick_call, tick-made}
use Rattle.coap_stream.specs.Calls.{Call, as_they_came}
use Rattle.coap_stream.proofs.calls.tick.Goals as goal

pub returns-clause-made : goal.returns-clause-made
returns-clause-made g c =
    let starved = is_starved_step c.tick-stepped.result in
    let out = c.tick-stepped.new.out in
    let made : Call = tick_call c.args.seat.now c.now-now.result c.word-word.result starved out in (
      made,
      refl,
      tick-made as_they_came (caller_seen g.C.Clock c.args.seat.now c.args.clock.now)
          (caller_seen g.C.Clock c.tick-stepped.new.self c.word-word.new.self)
          (clock_seen g.C.Clock c.now-now.new.self) c.now-now.result
          c.word-word.result starved out c.tick-stepped.ensures.of_hall
          c.tick-stepped.ensures.met c.tick-stepped.ensures.made
          (record {
            moment = c.now-now.ensures.gives;
            words_stay = c.now-now.ensures.words_stay;
            word_of = c.word-word.ensures.gives;
            times_stay = c.word-word.ensures.times_stay;
          }),
      ap (λ (n : ℕ). c.args.tally.now.dropped + n) c.len.ensures.count,
      omega (arith, c.len.ensures.count, c.len.ensures.few),
    )
