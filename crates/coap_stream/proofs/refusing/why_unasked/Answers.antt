use Rattle.std.proofs.Common.{Option, sym, ap, ◌∙◌}
use Rattle.message_model.specs.declared.requests.Refusal.{Refusal}
use Rattle.coap_message.specs.Views.{message_in}
use Rattle.coap_stream.specs.Requests.{is_simple, is_baseless, unasked_by}
use Rattle.coap_stream.proofs.refusing.why_unasked.Goals as goal

pub returns-in-Ok : goal.returns-in-Ok
returns-in-Ok c =
    let m = message_in c.args.view.now in
    c.unasked_read.ensures m c.in-Ok.ensures.meaning
    ∙ sym (ap (λ (o : Option Refusal). unasked_by o (is_simple m) (is_baseless m))
    c.in-Ok.ensures.accepted)
