use Rattle.std.proofs.Common.{List, ℕ, ◌+◌, ap, subst, ◌∙◌}
use Rattle.message_model.specs.Spelling.{spelling}
use Rattle.rd_seat.specs.Callers.{caller_seen}
use Rattle.coap_stream.specs.Made.{IsAsked, voice_seen}
use Rattle.coap_stream.proofs.answering.ask_blocks.Goals as goal

pub returns-clause-made : goal.returns-clause-made
returns-clause-made g c =
    let made = c.ask.ensures.made in (
      made.0,
      subst (λ (l : List ℕ). IsAsked c.args.context.now.line (c.args.tally.now.asked + 1)
          c.args.tally.now.most l made.0
          (caller_seen g.C.Clock c.args.seat.now c.args.clock.now)
          (caller_seen g.C.Clock c.ask.new.seat c.ask.new.clock)
          (voice_seen g.K.Sink c.args.out.now c.args.tally.now.still)
          (voice_seen g.K.Sink c.ask.new.out c.ask.new.tally.still))
          (c.in-Ok.ensures.spelled ∙ ap spelling c.begin_sized-writer.ensures.begun) made.1,
      made.2,
      made.3,
    )
