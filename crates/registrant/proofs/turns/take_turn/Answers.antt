use Rattle.std.proofs.Common.{◌∙◌}
use Rattle.client_model.specs.declared.events.Event.TheVariants as event
use Rattle.registrant.specs.Turns.{seen}
use Rattle.registrant.proofs.TurnLaws.{
  told_datagram,
  told_long,
  told_nothing,
  told_failed,
  turned_taken,
  counts_by,
}
use Rattle.registrant.proofs.turns.take_turn.Goals as goal

pub returns-in-Datagram-clause-taken : goal.returns-in-Datagram-clause-taken
returns-in-Datagram-clause-taken g c = λ a octets past stands.
    let coming = g.L.Link.coming in
    let told =
    told_datagram
    c.now-now.result
    c.in-Datagram.peer
    c.in-Datagram.size
    c.recv-came.new.into
    c.received-datagram.result.now
    (coming c.args.link.now)
    (coming c.recv-came.new.self)
    (coming c.hear_turn.new.link)
    c.received-datagram.ensures
    c.in-Datagram.ensures.takes
    c.hear_turn.ensures.coming in
    turned_taken a octets past
    (event.Came c.now-now.result c.in-Datagram.peer c.received-datagram.result.now)
    c.hear_turn.result
    (seen g.L.Link.coming g.L.Link.gone g.L.Link.recv_faults g.L.Link.send_faults g.C.Clock.times
    g.C.Clock.words c.args.link.now c.args.clock.now)
    (seen g.L.Link.coming g.L.Link.gone g.L.Link.recv_faults g.L.Link.send_faults g.C.Clock.times
    g.C.Clock.words c.hear_turn.new.link c.now-now.new.self)
    (g.L.Link.gone c.recv-came.new.self)
    (g.L.Link.send_faults c.recv-came.new.self)
    c.hear_turn.new.talk
    told
    c.now-now.ensures.gives
    c.now-now.ensures.words_stay
    (c.hear_turn.ensures.receives ∙ c.in-Datagram.ensures.cause)
    c.recv-came.ensures.sent_stays
    c.recv-came.ensures.sends_stand
    (c.hear_turn.ensures.turned a octets past stands)

pub returns-in-TooLong-clause-taken : goal.returns-in-TooLong-clause-taken
returns-in-TooLong-clause-taken g c = λ a octets past stands.
    let coming = g.L.Link.coming in
    let told =
    told_long
    c.now-now.result
    c.recv-came.new.into
    (coming c.args.link.now)
    (coming c.recv-came.new.self)
    (coming c.tick_turn.new.link)
    c.in-TooLong.ensures.takes
    c.tick_turn.ensures.coming in
    turned_taken a octets past
    (event.Tick c.now-now.result)
    c.tick_turn.result
    (seen g.L.Link.coming g.L.Link.gone g.L.Link.recv_faults g.L.Link.send_faults g.C.Clock.times
    g.C.Clock.words c.args.link.now c.args.clock.now)
    (seen g.L.Link.coming g.L.Link.gone g.L.Link.recv_faults g.L.Link.send_faults g.C.Clock.times
    g.C.Clock.words c.tick_turn.new.link c.now-now.new.self)
    (g.L.Link.gone c.recv-came.new.self)
    (g.L.Link.send_faults c.recv-came.new.self)
    c.tick_turn.new.talk
    told
    c.now-now.ensures.gives
    c.now-now.ensures.words_stay
    (c.tick_turn.ensures.receives ∙ c.in-TooLong.ensures.cause)
    c.recv-came.ensures.sent_stays
    c.recv-came.ensures.sends_stand
    (c.tick_turn.ensures.turned a octets past stands)

pub returns-in-Nothing-clause-taken : goal.returns-in-Nothing-clause-taken
returns-in-Nothing-clause-taken g c = λ a octets past stands.
    let coming = g.L.Link.coming in
    let told =
    told_nothing
    c.now-now.result
    c.recv-came.new.into
    (coming c.args.link.now)
    (coming c.recv-came.new.self)
    (coming c.tick_turn-in-Nothing.new.link)
    c.in-Nothing.ensures.takes
    c.tick_turn-in-Nothing.ensures.coming in
    turned_taken a octets past
    (event.Tick c.now-now.result)
    c.tick_turn-in-Nothing.result
    (seen g.L.Link.coming g.L.Link.gone g.L.Link.recv_faults g.L.Link.send_faults g.C.Clock.times
    g.C.Clock.words c.args.link.now c.args.clock.now)
    (seen g.L.Link.coming g.L.Link.gone g.L.Link.recv_faults g.L.Link.send_faults g.C.Clock.times
    g.C.Clock.words c.tick_turn-in-Nothing.new.link c.now-now.new.self)
    (g.L.Link.gone c.recv-came.new.self)
    (g.L.Link.send_faults c.recv-came.new.self)
    c.tick_turn-in-Nothing.new.talk
    told
    c.now-now.ensures.gives
    c.now-now.ensures.words_stay
    (c.tick_turn-in-Nothing.ensures.receives ∙ c.in-Nothing.ensures.cause)
    c.recv-came.ensures.sent_stays
    c.recv-came.ensures.sends_stand
    (c.tick_turn-in-Nothing.ensures.turned a octets past stands)

pub returns-in-Failed-clause-taken : goal.returns-in-Failed-clause-taken
returns-in-Failed-clause-taken g c = λ a octets past stands. record {
  coming =
      told_failed
      c.recv-came.new.into
      (g.L.Link.coming c.args.link.now)
      (g.L.Link.coming c.recv-came.new.self)
      c.in-Failed.ensures.takes;
  now = c.now-now.result;
  timed = c.now-now.ensures.gives;
  gone = c.recv-came.ensures.sent_stays;
  sends = c.recv-came.ensures.sends_stand;
  words = c.now-now.ensures.words_stay;
  counted = c.in-Failed.ensures.cause.0;
  rose = c.in-Failed.ensures.cause.1;
}

pub returns-in-Datagram-clause-counts : goal.returns-in-Datagram-clause-counts
returns-in-Datagram-clause-counts g c =
    counts_by
    c.hear_turn.result
    (g.L.Link.recv_faults c.args.link.now)
    (g.L.Link.recv_faults c.hear_turn.new.link)
    c.hear_turn.ensures.no_link
    (c.hear_turn.ensures.receives ∙ c.in-Datagram.ensures.cause)

pub returns-in-TooLong-clause-counts : goal.returns-in-TooLong-clause-counts
returns-in-TooLong-clause-counts g c =
    counts_by
    c.tick_turn.result
    (g.L.Link.recv_faults c.args.link.now)
    (g.L.Link.recv_faults c.tick_turn.new.link)
    c.tick_turn.ensures.no_link
    (c.tick_turn.ensures.receives ∙ c.in-TooLong.ensures.cause)

pub returns-in-Nothing-clause-counts : goal.returns-in-Nothing-clause-counts
returns-in-Nothing-clause-counts g c =
    counts_by
    c.tick_turn-in-Nothing.result
    (g.L.Link.recv_faults c.args.link.now)
    (g.L.Link.recv_faults c.tick_turn-in-Nothing.new.link)
    c.tick_turn-in-Nothing.ensures.no_link
    (c.tick_turn-in-Nothing.ensures.receives ∙ c.in-Nothing.ensures.cause)
