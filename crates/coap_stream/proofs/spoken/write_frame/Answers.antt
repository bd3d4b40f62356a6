use Rattle.coap_stream.proofs.SpokenLaws.{is_put}
use Rattle.coap_stream.proofs.spoken.write_frame.Goals as goal

pub returns : goal.returns
returns g c =
    is_put (g.K.Sink.holds c.args.out.now) (g.K.Sink.holds c.write_all.new.out)
    (g.K.Sink.faults c.args.out.now) (g.K.Sink.faults c.write_all.new.out) _ _
    c.write_all.result c.put_frame-end.ensures.put
    c.write_all.ensures.all c.write_all.ensures.front c.write_all.ensures.cause
