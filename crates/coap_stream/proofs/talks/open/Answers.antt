use Rattle.std.proofs.Common.{[], sym, subst}
use Rattle.coap_stream.specs.declared.lines.Manner.{Manner}
use Rattle.coap_stream.specs.Made.{Speaks, voice_seen}
use Rattle.coap_stream.specs.Manners.{block_wise_transfer, opening_by}
use Rattle.coap_stream.proofs.SignalLaws.{offered_octets}
use Rattle.coap_stream.proofs.talks.open.Goals as goal

pub returns-in-Full : goal.returns-in-Full
returns-in-Full g c =
    subst (λ (m : Manner). Speaks (voice_seen g.K.Sink c.args.out.now c.args.still)
    (opening_by m) (voice_seen g.K.Sink c.say_with.new.out c.say_with.result))
    (sym c.in-Full.is) (c.say_with.ensures (block_wise_transfer, []) offered_octets)
