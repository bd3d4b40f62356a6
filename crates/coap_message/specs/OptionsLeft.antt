-- The remaining options of an iterator.
use Rattle.std.specs.Prelude.{ℕ, List, length}
use Rattle.message_model.specs.Message as model
use Rattle.coap_message.specs.declared.options.Opt.{Opt}
use Rattle.coap_message.specs.declared.options.OptionsIter.{OptionsIter}
use Rattle.coap_message.specs.OptionsAt.{options_at}

-- Returns the option that an item is.
abbrev pub option_in : Opt → model.Opt
option_in o = (o.number, o.value.now)

-- Returns the options that the iterator will yield, in order.
abbrev pub options_left : OptionsIter → List model.Opt
options_left it = options_at it.before it.rest.now

-- Returns how many octets the remaining options take.
abbrev pub octets_left : OptionsIter → ℕ
octets_left it = length it.rest.now
