use Rattle.simple_registration.proofs.AskLaws.{short_path, short_core}
use Rattle.simple_registration.proofs.asks.core_request.Goals as goal

pub put_option-requires-clause-fits : goal.put_option-requires-clause-fits
put_option-requires-clause-fits c =
    rw c.start-request.ensures (short_path c.args.mid c.args.token.octets.now c.args.token.short)

pub put_option-requires-2-clause-fits : goal.put_option-requires-2-clause-fits
put_option-requires-2-clause-fits c =
    rw (c.put_option.ensures, c.start-request.ensures)
    (short_core c.args.mid c.args.token.octets.now c.args.token.short)
