use Rattle.std.proofs.Common.{◌≡◌, Option, Some, None, sym, ap, subst, ◌∙◌, refl}
use Rattle.message_model.specs.Message.{Message}
use Rattle.message_model.proofs.MessageLaws.{ok_is}
use Rattle.coap_message.specs.Views.{message_in}
use Rattle.stream_reader.specs.Shown.{frame_shown}
use Rattle.coap_stream.specs.declared.refusing.Unasked.{Unasked}
use Rattle.coap_stream.specs.Answered.{RequestDone}
use Rattle.rd_seat.specs.Callers.{caller_seen}
use Rattle.coap_stream.specs.Made.{voice_seen}
use Rattle.coap_stream.specs.Requests.{heard_as, unasked_of}
use Rattle.coap_stream.proofs.AnsweredLaws.{Speaks-as, said_done, asked_done}
use Rattle.coap_stream.proofs.answering.answer_heard.Goals as goal

pub returns-in-Some-clause-done : goal.returns-in-Some-clause-done
returns-in-Some-clause-done g c =
    let asked = c.args.tally.now.asked in
    let most = c.args.tally.now.most in
    let message = frame_shown c.args.frame.now in
    let heard : Message = heard_as asked message in
    let same : message_in c.in-Ok.request ≡ heard =
    ok_is (message_in c.in-Ok.request) heard (c.in-Ok.ensures.message ∙ c.requires.read) in
    let why : unasked_of heard ≡ Some c.in-Some.why =
    ap unasked_of (sym same) ∙ sym c.why_unasked.ensures ∙ c.in-Some.is in
    let caller = caller_seen g.C.Clock c.args.seat.now c.args.clock.now in
    let before = voice_seen g.K.Sink c.args.out.now c.args.tally.now.still in
    let after = voice_seen g.K.Sink c.say_plain-tally.new.out c.say_plain-tally.result in
    let dropped = c.args.tally.now.dropped in
    subst (λ (o : Option Unasked).
    RequestDone c.args.context.now.line asked most message o caller caller before after dropped
    dropped)
    (sym why)
    (said_done c.args.context.now.line asked most message c.in-Some.why caller before after dropped
    dropped
    (Speaks-as before after _ _ message.token _ _ c.unasked_code.ensures
    c.unasked_diagnostic-word.ensures.word c.say_plain-tally.ensures) refl)

pub returns-in-None-clause-done : goal.returns-in-None-clause-done
returns-in-None-clause-done g c =
    let asked = c.args.tally.now.asked in
    let most = c.args.tally.now.most in
    let message = frame_shown c.args.frame.now in
    let heard : Message = heard_as asked message in
    let same : message_in c.in-Ok.request ≡ heard =
    ok_is (message_in c.in-Ok.request) heard (c.in-Ok.ensures.message ∙ c.requires.read) in
    let why : unasked_of heard ≡ None =
    ap unasked_of (sym same) ∙ sym c.why_unasked.ensures ∙ c.in-None.is in
    let made = c.ask_sized.ensures.made in
    let caller = caller_seen g.C.Clock c.args.seat.now c.args.clock.now in
    let called = caller_seen g.C.Clock c.ask_sized.new.seat c.ask_sized.new.clock in
    let before = voice_seen g.K.Sink c.args.out.now c.args.tally.now.still in
    let after = voice_seen g.K.Sink c.ask_sized.new.out c.ask_sized.new.tally.still in
    let dropped = c.args.tally.now.dropped in
    subst (λ (o : Option Unasked).
    RequestDone c.args.context.now.line asked most message o caller called before after dropped
    c.ask_sized.new.tally.dropped) (sym why)
    (asked_done c.args.context.now.line asked most message _ made.0 caller called
    before after dropped c.ask_sized.new.tally.dropped refl made.1 made.2 made.3)
