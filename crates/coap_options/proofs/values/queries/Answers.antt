use Rattle.std.proofs.Common.{ap, ◌∙◌}
use Rattle.message_model.specs.OptionTable.{uri_query}
use Rattle.coap_message.specs.Views.{message_in}
use Rattle.coap_options.specs.ValuesLeft.{values_left}
use Rattle.coap_options.proofs.ValuesLemmas.{queries_all}
use Rattle.coap_options.proofs.values.queries.Goals as goal

pub returns : goal.returns
returns c =
    ap (values_left uri_query) c.options_of.ensures
    ∙ queries_all (message_in c.args.meaning.now.view).options
