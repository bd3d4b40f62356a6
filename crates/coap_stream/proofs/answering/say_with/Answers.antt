use Rattle.std.proofs.Common.{List, ℕ, subst}
use Rattle.coap_stream.specs.Made.{Speaks, voice_seen}
use Rattle.coap_stream.proofs.SignalLaws.{with_option}
use Rattle.coap_stream.proofs.answering.say_with.Goals as goal

pub returns : goal.returns
returns g c o is =
    subst (λ (l : List ℕ). Speaks (voice_seen g.K.Sink c.args.out.now c.args.still) l
    (voice_seen g.K.Sink c.say.new.out c.say.result))
    (with_option c.args.code c.args.token.now c.args.option.now o is) c.say.ensures
