use Rattle.coap_message.specs.OptionsAt.{options_at}
use Rattle.coap_message.specs.OptionsLeft.{options_left}
use Rattle.coap_options.proofs.OptionWalks.{IsWalked}
use Rattle.coap_options.proofs.option_walks.meaning.Given as goal

-- the options that are left follow those that were walked
abbrev pub invariant-options : goal.invariant-options
invariant-options l =
    IsWalked (options_at 0 l.view.options.now) (options_left l.option-iterator) l.found
