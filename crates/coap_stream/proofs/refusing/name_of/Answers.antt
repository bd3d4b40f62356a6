use Rattle.std.proofs.Common.{arith}
use Rattle.coap_stream.proofs.RefusingLaws.{name_here, name_further, name_ends}
use Rattle.coap_stream.proofs.refusing.name_of.Goals as goal

pub returns-then-query-at-eq61 : goal.returns-then-query-at-eq61
returns-then-query-at-eq61 c =
    name_here c.args.query.now c.octets.at _ c.octets-test.true c.if-query-at-eq61.true
    c.octets.invariant.1

pub octets-preserved : goal.octets-preserved
octets-preserved c = (
  omega (arith, c.octets-test.true),
  name_further c.args.query.now c.octets.at _ c.octets-test.true c.if-query-at-eq61.false
      c.octets.invariant.1,
)

pub returns : goal.returns
returns c =
    name_ends c.args.query.now c.octets.at
    (omega (arith, c.octets-test.false, c.octets.invariant.0)) c.octets.invariant.1
