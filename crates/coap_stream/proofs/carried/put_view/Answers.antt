use Rattle.std.proofs.Common.{ℕ, List, length, ap, arith}
use Rattle.coap_message.specs.Views.{message_in}
use Rattle.coap_stream.proofs.VoiceLaws.{carried_put, carried_fits}
use Rattle.coap_stream.proofs.carried.put_view.Goals as goal

pub behind_header-requires : goal.behind_header-requires
behind_header-requires c =
    (carried_fits (message_in c.args.view.now) c.args.datagram.now c.requires.spelled
    c.requires.short).0

pub returns-clause-put : goal.returns-clause-put
returns-clause-put c =
    carried_put (message_in c.args.view.now) c.args.datagram.now _ _
    c.requires.spelled
    c.behind_header.ensures c.put_body.ensures.put

pub put_body-requires-clause-within : goal.put_body-requires-clause-within
put_body-requires-clause-within c =
    let fits = carried_fits (message_in c.args.view.now) c.args.datagram.now c.requires.spelled
    c.requires.short in
    let behind = ap (λ (l : List ℕ). length l) c.behind_header.ensures in
    omega (arith, fits.1, behind)
