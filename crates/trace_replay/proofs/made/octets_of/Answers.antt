use Rattle.std.proofs.Common.{◌≡◌, ◌+◌, length, sym, ◌∙◌, rules, arith}
use Rattle.trace_replay.proofs.MadeCounts.{octets_next}
use Rattle.trace_replay.proofs.made.octets_of.Goals as goal

pub datagrams-preserved : goal.datagrams-preserved
datagrams-preserved c =
    let added : c.in_ok-octets.octets ≡ c.datagrams.octets + length c.in-Some.datagram.now =
    search rules in (
      omega (arith, c.datagrams-test.true, c.len.ensures),
      octets_next c.datagrams.index c.args.sent.now (c.in-Some.field-0-0, c.in-Some.datagram.now)
          c.datagrams.octets c.in_ok-octets.octets (sym c.in-Some.ensures) added
          ∙ c.datagrams.invariant.1,
    )
