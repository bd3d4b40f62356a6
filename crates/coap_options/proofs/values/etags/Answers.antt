use Rattle.std.proofs.Common.{ap, ◌∙◌}
use Rattle.message_model.specs.OptionTable.{etag}
use Rattle.coap_message.specs.Views.{message_in}
use Rattle.coap_options.specs.ValuesLeft.{values_left}
use Rattle.coap_options.proofs.ValuesLemmas.{etags_all}
use Rattle.coap_options.proofs.values.etags.Goals as goal

pub returns : goal.returns
returns c =
    ap (values_left etag) c.options_of.ensures
    ∙ etags_all (message_in c.args.meaning.now.view).options
