use Rattle.std.proofs.Common.{length}
use Rattle.coap_message.specs.OptionsLeft.{options_left}
use Rattle.install_list.proofs.answers.value_of.Given as goal

abbrev pub decreases-options : goal.decreases-options
decreases-options l = length (options_left l.options)
