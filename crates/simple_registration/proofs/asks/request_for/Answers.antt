use Rattle.std.proofs.Common.{ℕ, List, take, length, ◌≤◌, arith}
use Rattle.std.proofs.lemmas.List.{length-take}
use Rattle.simple_registration.proofs.AskLaws.{short_block}
use Rattle.simple_registration.proofs.asks.request_for.Goals as goal

-- so many octets are taken at most
few : (n : ℕ) (octets : List ℕ) → n ≤ 3 → length (take n octets) ≤ 3
few n octets short = omega (arith, length-take n octets, short)

pub put_option-requires-clause-fits : goal.put_option-requires-clause-fits
put_option-requires-clause-fits c =
    rw c.core_request-request.ensures (short_block c.args.mid c.args.token.octets.now
    (take c.block_write-size.result c.block_write-size.new.into) c.args.token.short
    (few c.block_write-size.result c.block_write-size.new.into
    c.block_write-size.ensures.few))

pub datagram_of-requires-clause-fits : goal.datagram_of-requires-clause-fits
datagram_of-requires-clause-fits c =
    rw (c.put_option.ensures, c.core_request-request.ensures)
    (short_block c.args.mid c.args.token.octets.now
    (take c.block_write-size.result c.block_write-size.new.into) c.args.token.short
    (few c.block_write-size.result c.block_write-size.new.into
    c.block_write-size.ensures.few))
