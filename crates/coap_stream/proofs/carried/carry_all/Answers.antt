use Rattle.std.proofs.Common.{sym, arith}
use Rattle.coap_stream.specs.Made.{voice_seen}
use Rattle.coap_stream.proofs.VoiceLaws.{Speaks-none, Speaks-next}
use Rattle.coap_stream.proofs.carried.carry_all.Goals as goal

pub datagrams-init : goal.datagrams-init
datagrams-init g c =
    (omega arith, Speaks-none (voice_seen g.K.Sink c.args.out.now c.args.still))

pub datagrams-preserved : goal.datagrams-preserved
datagrams-preserved g c = (
  omega (arith, c.datagrams-test.true, c.len.ensures.count),
  Speaks-next (voice_seen g.K.Sink c.args.out.now c.args.still)
      (voice_seen g.K.Sink c.datagrams.out c.datagrams.holds)
      (voice_seen g.K.Sink c.carry_for-holds.new.out c.carry_for-holds.result)
      c.args.line.now c.args.most c.args.outbox.now (c.in-Some.to, c.in-Some.datagram.now)
      c.datagrams.index (sym c.in-Some.ensures) c.datagrams.invariant.1
      c.carry_for-holds.ensures,
)
