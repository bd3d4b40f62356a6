use Rattle.std.proofs.Common.{◌≡◌, List, ℕ, ◌+◌, ap, subst, ◌∙◌}
use Rattle.message_model.specs.Message.{Message}
use Rattle.message_model.specs.Spelling.{spelling}
use Rattle.message_model.proofs.MessageLaws.{ok_is}
use Rattle.coap_message.specs.Views.{message_in}
use Rattle.stream_reader.specs.Shown.{frame_shown}
use Rattle.rd_seat.specs.Callers.{caller_seen}
use Rattle.coap_stream.specs.Made.{IsAsked, voice_seen}
use Rattle.coap_stream.specs.Requests.{heard_as}
use Rattle.coap_stream.proofs.SignalLaws.{sized_none, sized_some, unblocked}
use Rattle.coap_stream.proofs.answering.ask_sized.Goals as goal

pub ask_blocks-requires-clause-unblocked : goal.ask_blocks-requires-clause-unblocked
ask_blocks-requires-clause-unblocked g c =
    let heard : Message = heard_as c.args.tally.now.asked (frame_shown c.args.frame.now) in
    let same : message_in c.in-Ok.request ≡ heard =
    ok_is (message_in c.in-Ok.request) heard (c.in-Ok.ensures.message ∙ c.requires.read) in
    unblocked c.args.context.now.line.manner c.args.tally.now.most (message_in c.in-Ok.request)
    heard c.block_wanted.result c.in-Some.exponent same c.block_wanted.ensures.value
    c.in-Some.is

pub returns-in-Some-clause-made : goal.returns-in-Some-clause-made
returns-in-Some-clause-made g c =
    let heard : Message = heard_as c.args.tally.now.asked (frame_shown c.args.frame.now) in
    let same : message_in c.in-Ok.request ≡ heard =
    ok_is (message_in c.in-Ok.request) heard (c.in-Ok.ensures.message ∙ c.requires.read) in
    let made = c.ask_blocks.ensures.made in (
      made.0,
      subst (λ (m : Message). IsAsked c.args.context.now.line (c.args.tally.now.asked + 1)
          c.args.tally.now.most (spelling m) made.0
          (caller_seen g.C.Clock c.args.seat.now c.args.clock.now)
          (caller_seen g.C.Clock c.ask_blocks.new.seat c.ask_blocks.new.clock)
          (voice_seen g.K.Sink c.args.out.now c.args.tally.now.still)
          (voice_seen g.K.Sink c.ask_blocks.new.out c.ask_blocks.new.tally.still))
          (sized_some c.args.context.now.line.manner c.args.tally.now.most
          (message_in c.in-Ok.request) heard c.block_wanted.result c.in-Some.exponent same
          c.block_wanted.ensures.value c.in-Some.is) made.1,
      made.2,
      made.3,
    )

pub returns-in-None-clause-made : goal.returns-in-None-clause-made
returns-in-None-clause-made g c =
    let heard : Message = heard_as c.args.tally.now.asked (frame_shown c.args.frame.now) in
    let same : message_in c.in-Ok.request ≡ heard =
    ok_is (message_in c.in-Ok.request) heard (c.in-Ok.ensures.message ∙ c.requires.read) in
    let made = c.ask.ensures.made in (
      made.0,
      subst (λ (l : List ℕ). IsAsked c.args.context.now.line (c.args.tally.now.asked + 1)
          c.args.tally.now.most l made.0
          (caller_seen g.C.Clock c.args.seat.now c.args.clock.now)
          (caller_seen g.C.Clock c.ask.new.seat c.ask.new.clock)
          (voice_seen g.K.Sink c.args.out.now c.args.tally.now.still)
          (voice_seen g.K.Sink c.ask.new.out c.ask.new.tally.still))
          (c.requires.spelled ∙ ap spelling (sized_none c.args.context.now.line.manner
          c.args.tally.now.most (message_in c.in-Ok.request) heard c.block_wanted.result same
          c.block_wanted.ensures.value c.in-None.is)) made.1,
      made.2,
      made.3,
    )
