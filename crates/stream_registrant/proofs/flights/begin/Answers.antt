use Rattle.std.proofs.Common.{◌∙◌}
use Rattle.stream_registrant.proofs.FlightLaws.{datagram_fits}
use Rattle.stream_registrant.proofs.flights.begin.Goals as goal

pub put_flight-requires-clause-least : goal.put_flight-requires-clause-least
put_flight-requires-clause-least g c =
    (datagram_fits c.args.ask.now c.args.token.now c.bytes.result.now c.told-token c.requires
    (c.bytes.ensures ∙ c.in-Ok.ensures)).0

pub put_flight-requires-clause-most : goal.put_flight-requires-clause-most
put_flight-requires-clause-most g c =
    (datagram_fits c.args.ask.now c.args.token.now c.bytes.result.now c.told-token c.requires
    (c.bytes.ensures ∙ c.in-Ok.ensures)).1
