use Rattle.coap_stream.specs.Made.{voice_seen}
use Rattle.coap_stream.proofs.VoiceLaws.{Speaks-put}
use Rattle.coap_stream.proofs.carried.carry.Goals as goal

pub returns : goal.returns
returns g c =
    Speaks-put (voice_seen g.K.Sink c.args.out.now c.args.still)
    (voice_seen g.K.Sink c.write_datagram.new.out c.write_datagram.result) _
    c.if-not-still.false c.write_datagram.ensures
