use Rattle.std.proofs.Common.{[], refl, sym, ◌∙◌}
use Rattle.stream_reader.specs.Shown.{frame_shown}
use Rattle.coap_stream.specs.declared.purposes.Meant.TheVariants as meant
use Rattle.rd_seat.specs.Callers.{caller_seen}
use Rattle.coap_stream.specs.Made.{voice_seen}
use Rattle.coap_stream.specs.Manners.{pong_by}
use Rattle.coap_stream.proofs.AnsweredLaws.{message_said, message_asked}
use Rattle.coap_stream.proofs.VoiceLaws.{Speaks-none}
use Rattle.coap_stream.proofs.answering.answer.Goals as goal

pub returns-in-Passed-clause-done : goal.returns-in-Passed-clause-done
returns-in-Passed-clause-done g c =
    let voice = voice_seen g.K.Sink c.args.out.now c.args.tally.now.still in
    message_said c.args.context.now.line c.args.tally.now.asked c.args.tally.now.most
    (frame_shown c.args.frame.now)
    meant.Passed [] (caller_seen g.C.Clock c.args.seat.now c.args.clock.now) voice voice
    c.args.tally.now.dropped (sym c.meant_by.ensures ∙ c.in-Passed.is)
    (record { calls = refl; written = refl; dropped = refl }) (Speaks-none voice)

pub returns-in-Ping-clause-done : goal.returns-in-Ping-clause-done
returns-in-Ping-clause-done g c =
    message_said c.args.context.now.line c.args.tally.now.asked c.args.tally.now.most
    (frame_shown c.args.frame.now)
    meant.Ping (pong_by c.args.context.now.line.manner (frame_shown c.args.frame.now))
    (caller_seen g.C.Clock c.args.seat.now c.args.clock.now)
    (voice_seen g.K.Sink c.args.out.now c.args.tally.now.still)
    (voice_seen g.K.Sink c.say_pong-tally.new.out c.say_pong-tally.result)
    c.args.tally.now.dropped (sym c.meant_by.ensures ∙ c.in-Ping.is)
    (record { calls = refl; written = refl; dropped = refl }) c.say_pong-tally.ensures

pub returns-in-Release-clause-done : goal.returns-in-Release-clause-done
returns-in-Release-clause-done g c =
    let voice = voice_seen g.K.Sink c.args.out.now c.args.tally.now.still in
    message_said c.args.context.now.line c.args.tally.now.asked c.args.tally.now.most
    (frame_shown c.args.frame.now)
    meant.Release [] (caller_seen g.C.Clock c.args.seat.now c.args.clock.now) voice voice
    c.args.tally.now.dropped (sym c.meant_by.ensures ∙ c.in-Release.is)
    (record { calls = refl; written = refl; dropped = refl }) (Speaks-none voice)

pub returns-in-Abort-clause-done : goal.returns-in-Abort-clause-done
returns-in-Abort-clause-done g c =
    let voice = voice_seen g.K.Sink c.args.out.now c.args.tally.now.still in
    message_said c.args.context.now.line c.args.tally.now.asked c.args.tally.now.most
    (frame_shown c.args.frame.now)
    meant.Abort [] (caller_seen g.C.Clock c.args.seat.now c.args.clock.now) voice voice
    c.args.tally.now.dropped (sym c.meant_by.ensures ∙ c.in-Abort.is)
    (record { calls = refl; written = refl; dropped = refl }) (Speaks-none voice)

pub returns-in-Request-clause-done : goal.returns-in-Request-clause-done
returns-in-Request-clause-done g c =
    message_asked c.args.context.now.line c.args.tally.now.asked c.args.tally.now.most
    (frame_shown c.args.frame.now)
    _ _ _ _ _ _ (sym c.meant_by.ensures ∙ c.in-Request.is) c.answer_request.ensures.done
