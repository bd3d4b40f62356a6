use Rattle.std.proofs.Common.{◌≡◌, ◌++◌, true, not, ap, ◌∙◌, arith, is_ok}
use Rattle.coap_answers.proofs.OutboxLaws.{pushed}
use Rattle.coap_answers.proofs.outbox.Datagrams.push.Goals as goal

pub returns : goal.returns
returns c =
    let yes : is_ok c.extend_from_slice.result ≡ true =
    c.is_err.ensures.negation ∙ ap not c.if-is_err.false in
    let octets :
    c.extend_from_slice.new.self.items
    ≡ c.self.inside.octets.items ++ c.args.datagram.octets.now =
    rw yes at c.extend_from_slice.ensures.items in
    let ok = c.self.inside.octets.ok.0 in
    let ok_now = c.extend_from_slice.new.self.ok.0 in
    pushed c.self.inside.octets.items c.extend_from_slice.new.self.items c.args.datagram.octets.now
    c.self.inside.spans.items c.push_reserved.new.self.items c.args.peer c.len-start.result
    c.len-end.result c.args.self.now
    octets c.push_reserved.ensures.items c.self.view_is (omega (arith, ok, c.len-start.ensures))
    (omega (arith, ok_now, c.len-end.ensures)) c.self.invariant.within
