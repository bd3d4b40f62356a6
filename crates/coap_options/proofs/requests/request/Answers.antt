use Rattle.std.proofs.Common.{◌∙◌}
use Rattle.coap_message.specs.Views.{message_in}
use Rattle.coap_options.proofs.RefusalLemmas.{refused_later, refused_option, readable_blocks}
use Rattle.coap_options.proofs.requests.request.Goals as goal

pub returns-in-Err-clause-refused : goal.returns-in-Err-clause-refused
returns-in-Err-clause-refused c =
    refused_option (message_in c.args.view.now) c.in-Err.field-0.0 c.in-Err.ensures.bad

pub returns-in-Some-clause-refused : goal.returns-in-Some-clause-refused
returns-in-Some-clause-refused c =
    refused_later (message_in c.args.view.now) c.in-Ok.meant c.refusal_after_options.result
    c.in-Ok.ensures.good c.in-Ok.ensures.meaning c.refusal_after_options.ensures
    ∙ c.in-Some.is

pub returns-in-None-clause-accepted : goal.returns-in-None-clause-accepted
returns-in-None-clause-accepted c =
    refused_later (message_in c.args.view.now) c.in-Ok.meant c.refusal_after_options.result
    c.in-Ok.ensures.good c.in-Ok.ensures.meaning c.refusal_after_options.ensures
    ∙ c.in-None.is

pub returns-in-None-clause-readable : goal.returns-in-None-clause-readable
returns-in-None-clause-readable c =
    readable_blocks c.in-Ok.meant c.refusal_after_options.result c.refusal_after_options.ensures
    c.in-None.is
