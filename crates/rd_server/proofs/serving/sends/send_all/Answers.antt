use Rattle.std.proofs.Common.{◌∷◌, ◌+◌, ◌^◌, sym, arith}
use Rattle.coap_answers.specs.Outboxes.{most_datagrams}
use Rattle.rd_server.specs.serving.Sendings.{Sending}
use Rattle.rd_server.proofs.service.SendLaws.{
  IsBelow-more,
  room_left,
  sent_more,
  Sends-more,
  CountsSendings-more,
}
use Rattle.rd_server.proofs.serving.sends.send_all.Goals as goal

pub send_one-requires : goal.send_one-requires
send_one-requires g c =
    let so_far = c.datagrams.invariant in
    IsBelow-more (10 ^ 17 + 1 + c.datagrams.index) (10 ^ 18) c.datagrams.served
    (room_left (10 ^ 17 + 1) c.datagrams.index so_far.1 c.args.out.now
    c.args.served.now c.datagrams.served c.requires so_far.4 so_far.2)
    (omega (arith, so_far.0, c.len.ensures.count, c.len.ensures.few))

pub datagrams-preserved : goal.datagrams-preserved
datagrams-preserved g c =
    let so_far = c.datagrams.invariant in
    let went : Sending = ((c.in-Some.peer, c.in-Some.datagram.now), c.send_one.ensures.0) in (
      omega (arith, c.datagrams-test.true, c.len.ensures.count),
      went ∷ so_far.1,
      sent_more so_far.1 went.0 went.1 c.datagrams.index c.args.out.now so_far.2
          (sym c.in-Some.ensures),
      Sends-more went so_far.1 _ _ _ so_far.3 c.send_one.ensures.1,
      CountsSendings-more went so_far.1 c.args.served.now c.datagrams.served
          c.send_one.new.served so_far.4 c.send_one.ensures.2,
    )

pub returns-clause-grows : goal.returns-clause-grows
returns-clause-grows g c limit below =
    let so_far = c.datagrams.invariant in
    IsBelow-more (limit + c.datagrams.index) (limit + most_datagrams) c.datagrams.served
    (room_left limit c.datagrams.index so_far.1 c.args.out.now c.args.served.now
    c.datagrams.served below so_far.4 so_far.2)
    (omega (arith, so_far.0, c.len.ensures.count, c.len.ensures.few))
