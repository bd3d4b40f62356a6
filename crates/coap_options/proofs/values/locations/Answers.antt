use Rattle.std.proofs.Common.{ap, ◌∙◌}
use Rattle.message_model.specs.OptionTable.{location_path}
use Rattle.coap_message.specs.Views.{message_in}
use Rattle.coap_options.specs.ValuesLeft.{values_left}
use Rattle.coap_options.proofs.ValuesLemmas.{locations_all}
use Rattle.coap_options.proofs.values.locations.Goals as goal

pub returns : goal.returns
returns c =
    ap (values_left location_path) c.options_of.ensures
    ∙ locations_all (message_in c.args.meaning.now.view).options
