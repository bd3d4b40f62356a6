use Rattle.std.proofs.Common.{◌≡◌, ℕ, List, length, sym, subst, ◌∙◌, arith}
use Rattle.coap_message.specs.Views.{message_in}
use Rattle.coap_stream.specs.Spoken.{IsPut}
use Rattle.coap_stream.specs.Talks.{carried_of}
use Rattle.coap_stream.proofs.SpokenLaws.{is_put}
use Rattle.coap_stream.proofs.VoiceLaws.{beyond_as, carried_of-read, carried_size, within_as}
use Rattle.coap_stream.proofs.carried.write_view.Goals as goal

pub returns-then-is_beyond : goal.returns-then-is_beyond
returns-then-is_beyond g c =
    let m = message_in c.args.view.now in
    let d = c.args.datagram.now in
    let size : c.put_view-end.result ≡ length (carried_of d) =
    carried_size m d c.put_view-end.new.octets c.put_view-end.result c.put_view-end.ensures.put
    (search arith) (sym c.requires.read) c.requires.short in
    subst (λ (l : List ℕ). IsPut (g.K.Sink.holds c.args.out.now)
    (g.K.Sink.holds c.write_frame.new.out) (g.K.Sink.faults c.args.out.now)
    (g.K.Sink.faults c.write_frame.new.out) l c.write_frame.result)
    (c.too_long.ensures.octets
    ∙ beyond_as c.args.most d c.put_view-end.result c.is_beyond.result m size
    c.is_beyond.ensures c.if-is_beyond.true c.requires.read)
    c.write_frame.ensures

pub returns : goal.returns
returns g c =
    let m = message_in c.args.view.now in
    let d = c.args.datagram.now in
    let size : c.put_view-end.result ≡ length (carried_of d) =
    carried_size m d c.put_view-end.new.octets c.put_view-end.result c.put_view-end.ensures.put
    (search arith) (sym c.requires.read) c.requires.short in
    is_put (g.K.Sink.holds c.args.out.now) (g.K.Sink.holds c.write_all.new.out)
    (g.K.Sink.faults c.args.out.now) (g.K.Sink.faults c.write_all.new.out) _ _
    c.write_all.result
    (c.put_view-end.ensures.put
    ∙ carried_of-read d m (sym c.requires.read) c.requires.short
    ∙ within_as c.args.most d c.put_view-end.result c.is_beyond.result size
    c.is_beyond.ensures c.if-is_beyond.false)
    c.write_all.ensures.all c.write_all.ensures.front c.write_all.ensures.cause
