-- The query options are no more than the octets of the options.
use Rattle.std.proofs.Common.{arith}
use Rattle.message_model.specs.OptionTable.{uri_query}
use Rattle.coap_message.specs.OptionsLeft.{options_left}
use Rattle.coap_options.proofs.ValuesLemmas.{values_left-size}
use Rattle.coap_options.proofs.values.QueryIterPieces.next_piece.Goals as goal

pub returns-clause-counted : goal.returns-clause-counted
returns-clause-counted c =
    let fewer = values_left-size uri_query (options_left c.args.self.now.options) in
    let few = c.octets-octets.ensures.few in
    let most = c.octets-octets.ensures.most in
    omega (arith, fewer, few, most)
