use Rattle.std.proofs.Common.{List, ℕ, [], subst}
use Rattle.stream_reader.specs.Shown.{frame_shown}
use Rattle.coap_stream.specs.Made.{Speaks, voice_seen}
use Rattle.coap_stream.specs.Manners.{custody}
use Rattle.coap_stream.proofs.SignalLaws.{custody_octets, pong_with, pong_without}
use Rattle.coap_stream.proofs.answering.say_full_pong.Goals as goal

pub returns-then-has_custody : goal.returns-then-has_custody
returns-then-has_custody g c =
    subst (λ (l : List ℕ). Speaks (voice_seen g.K.Sink c.args.out.now c.args.still) l
    (voice_seen g.K.Sink c.say_with.new.out c.say_with.result))
    (pong_with (frame_shown c.args.frame.now) c.has_custody.result c.has_custody.ensures
    c.if-has_custody.true)
    (c.say_with.ensures (custody, []) custody_octets)

pub returns : goal.returns
returns g c =
    subst (λ (l : List ℕ). Speaks (voice_seen g.K.Sink c.args.out.now c.args.still) l
    (voice_seen g.K.Sink c.say_plain.new.out c.say_plain.result))
    (pong_without (frame_shown c.args.frame.now) c.has_custody.result c.has_custody.ensures
    c.if-has_custody.false)
    c.say_plain.ensures
