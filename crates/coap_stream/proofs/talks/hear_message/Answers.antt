use Rattle.std.proofs.Common.{ℕ, sym, ap, ◌∙◌, Option}
use Rattle.std.specs.Option.{option_map}
use Rattle.stream_reader.specs.declared.frames.Frame.{Frame}
use Rattle.stream_reader.specs.Shown.{frame_shown}
use Rattle.rd_seat.specs.Callers.{caller_seen}
use Rattle.coap_stream.specs.Made.{voice_seen}
use Rattle.coap_stream.specs.Manners.{size_after}
use Rattle.coap_stream.proofs.ReaderLaws.{frame_there, frame_fits, frame_request}
use Rattle.coap_stream.proofs.TalkLaws.{heard_few, heard_room}
use Rattle.coap_stream.proofs.talks.hear_message.Goals as goal

pub unreachable-requires : goal.unreachable-requires
unreachable-requires g c =
    frame_there c.args.reader.now c.message.result c.requires.good c.message.ensures.shown
    c.in_default.is

pub answer-requires-clause-token : goal.answer-requires-clause-token
answer-requires-clause-token g c =
    (frame_fits c.args.reader.now c.message.result c.in-Some.frame c.requires.good
    c.message.ensures.shown c.in-Some.is).token

pub answer-requires-clause-request : goal.answer-requires-clause-request
answer-requires-clause-request g c =
    frame_request c.in-Some.frame
    (frame_fits c.args.reader.now c.message.result c.in-Some.frame c.requires.good
    c.message.ensures.shown c.in-Some.is)

pub returns-clause-heard : goal.returns-clause-heard
returns-clause-heard g c = record {
  shown = frame_shown c.in-Some.frame;
  is = sym c.message.ensures.shown
      ∙ ap (λ (o : Option Frame). option_map frame_shown o) c.in-Some.is;
  done = c.answer.ensures.done;
  asked = c.answer.ensures.asked;
  most = c.size_after-tally.ensures ∙ ap (λ (n : ℕ). size_after n (frame_shown c.in-Some.frame))
      c.answer.ensures.most;
  ends = c.end_by.ensures;
}

pub returns-clause-few : goal.returns-clause-few
returns-clause-few g c none =
    heard_few (frame_shown c.in-Some.frame) c.end_by.result c.args.tally.now.asked
    c.answer.new.tally.asked c.answer.ensures.asked c.end_by.ensures c.requires.few none

pub returns-clause-room : goal.returns-clause-room
returns-clause-room g c =
    heard_room c.args.context.now.line (frame_shown c.in-Some.frame)
    (caller_seen g.C.Clock c.args.seat.now c.args.clock.now)
    (caller_seen g.C.Clock c.answer.new.seat c.answer.new.clock)
    (voice_seen g.K.Sink c.args.out.now c.args.tally.now.still)
    (voice_seen g.K.Sink c.answer.new.out c.answer.new.tally.still)
    c.args.tally.now.asked c.answer.new.tally.asked c.args.tally.now.most
    c.args.tally.now.dropped c.answer.new.tally.dropped c.answer.ensures.done c.answer.ensures.asked
    c.requires.room
