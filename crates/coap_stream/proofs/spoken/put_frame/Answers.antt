use Rattle.std.proofs.Common.{◌+◌, length, ap}
use Rattle.coap_stream.proofs.SpokenLaws.{frame_put}
use Rattle.coap_stream.proofs.spoken.put_frame.Goals as goal

pub returns-clause-put : goal.returns-clause-put
returns-clause-put c =
    frame_put c.args.frame.now (length c.args.frame.now.options.now + c.payload_size.result)
    _ _ _ _ _ (ap (λ n. length c.args.frame.now.options.now + n) c.payload_size.ensures.value)
    c.put_lengths-lengths.ensures.put c.put_octets-code.ensures.put
    c.put_octets-token.ensures.put c.put_octets-options.ensures.put c.put_payload.ensures.put
