use Rattle.std.proofs.Common.{◌∙◌}
use Rattle.client_model.specs.declared.events.Event.TheVariants as event
use Rattle.registrant.specs.Turns.{seen}
use Rattle.registrant.proofs.TurnLaws.{told_datagram, told_long, told_nothing}
use Rattle.commissioner.proofs.EventLaws.{taken_by, counted}
use Rattle.commissioner.proofs.turns.take_event.Goals as goal

pub returns-in-Datagram-clause-taken : goal.returns-in-Datagram-clause-taken
returns-in-Datagram-clause-taken g c = λ asks past outcomes are begun unsaid.
    let told =
    seen g.L.Link.coming g.L.Link.gone g.L.Link.recv_faults g.L.Link.send_faults
    g.C.Clock.times g.C.Clock.words in
    taken_by c.hand_all.result asks past outcomes c.args.lines.now c.hand_all.new.lines
    (event.Came c.now-now.result c.in-Datagram.peer c.received-datagram.result.now)
    (told c.args.link.now c.args.clock.now)
    (told c.hand_all.new.link c.now-now.new.self)
    (g.L.Link.gone c.recv-came.new.self)
    (g.L.Link.send_faults c.recv-came.new.self)
    are
    begun
    unsaid
    (told_datagram c.now-now.result c.in-Datagram.peer c.in-Datagram.size c.recv-came.new.into
    c.received-datagram.result.now
    (g.L.Link.coming c.args.link.now)
    (g.L.Link.coming c.recv-came.new.self)
    (g.L.Link.coming c.hand_all.new.link)
    c.received-datagram.ensures
    c.in-Datagram.ensures.takes
    c.hand_all.ensures.coming)
    c.now-now.ensures.gives
    c.now-now.ensures.words_stay
    (c.hand_all.ensures.receives ∙ c.in-Datagram.ensures.cause)
    c.recv-came.ensures.sent_stays
    c.recv-came.ensures.sends_stand
    (c.hand_all.ensures.handed asks past outcomes are)

pub returns-in-TooLong-clause-taken : goal.returns-in-TooLong-clause-taken
returns-in-TooLong-clause-taken g c = λ asks past outcomes are begun unsaid.
    let told =
    seen g.L.Link.coming g.L.Link.gone g.L.Link.recv_faults g.L.Link.send_faults
    g.C.Clock.times g.C.Clock.words in
    taken_by c.hand_all-in-TooLong.result asks past outcomes c.args.lines.now
    c.hand_all-in-TooLong.new.lines
    (event.Tick c.now-now.result)
    (told c.args.link.now c.args.clock.now)
    (told c.hand_all-in-TooLong.new.link c.now-now.new.self)
    (g.L.Link.gone c.recv-came.new.self)
    (g.L.Link.send_faults c.recv-came.new.self)
    are
    begun
    unsaid
    (told_long c.now-now.result c.recv-came.new.into
    (g.L.Link.coming c.args.link.now)
    (g.L.Link.coming c.recv-came.new.self)
    (g.L.Link.coming c.hand_all-in-TooLong.new.link)
    c.in-TooLong.ensures.takes
    c.hand_all-in-TooLong.ensures.coming)
    c.now-now.ensures.gives
    c.now-now.ensures.words_stay
    (c.hand_all-in-TooLong.ensures.receives ∙ c.in-TooLong.ensures.cause)
    c.recv-came.ensures.sent_stays
    c.recv-came.ensures.sends_stand
    (c.hand_all-in-TooLong.ensures.handed asks past outcomes are)

pub returns-in-Nothing-clause-taken : goal.returns-in-Nothing-clause-taken
returns-in-Nothing-clause-taken g c = λ asks past outcomes are begun unsaid.
    let told =
    seen g.L.Link.coming g.L.Link.gone g.L.Link.recv_faults g.L.Link.send_faults
    g.C.Clock.times g.C.Clock.words in
    taken_by c.hand_all-in-Nothing.result asks past outcomes c.args.lines.now
    c.hand_all-in-Nothing.new.lines
    (event.Tick c.now-now.result)
    (told c.args.link.now c.args.clock.now)
    (told c.hand_all-in-Nothing.new.link c.now-now.new.self)
    (g.L.Link.gone c.recv-came.new.self)
    (g.L.Link.send_faults c.recv-came.new.self)
    are
    begun
    unsaid
    (told_nothing c.now-now.result c.recv-came.new.into
    (g.L.Link.coming c.args.link.now)
    (g.L.Link.coming c.recv-came.new.self)
    (g.L.Link.coming c.hand_all-in-Nothing.new.link)
    c.in-Nothing.ensures.takes
    c.hand_all-in-Nothing.ensures.coming)
    c.now-now.ensures.gives
    c.now-now.ensures.words_stay
    (c.hand_all-in-Nothing.ensures.receives ∙ c.in-Nothing.ensures.cause)
    c.recv-came.ensures.sent_stays
    c.recv-came.ensures.sends_stand
    (c.hand_all-in-Nothing.ensures.handed asks past outcomes are)

pub returns-in-Datagram-clause-counts : goal.returns-in-Datagram-clause-counts
returns-in-Datagram-clause-counts g c =
    counted c.hand_all.result (g.L.Link.recv_faults c.args.link.now)
    (g.L.Link.recv_faults c.hand_all.new.link)
    c.hand_all.ensures.fault
    (c.hand_all.ensures.receives ∙ c.in-Datagram.ensures.cause)

pub returns-in-TooLong-clause-counts : goal.returns-in-TooLong-clause-counts
returns-in-TooLong-clause-counts g c =
    counted c.hand_all-in-TooLong.result (g.L.Link.recv_faults c.args.link.now)
    (g.L.Link.recv_faults c.hand_all-in-TooLong.new.link)
    c.hand_all-in-TooLong.ensures.fault
    (c.hand_all-in-TooLong.ensures.receives ∙ c.in-TooLong.ensures.cause)

pub returns-in-Nothing-clause-counts : goal.returns-in-Nothing-clause-counts
returns-in-Nothing-clause-counts g c =
    counted c.hand_all-in-Nothing.result (g.L.Link.recv_faults c.args.link.now)
    (g.L.Link.recv_faults c.hand_all-in-Nothing.new.link)
    c.hand_all-in-Nothing.ensures.fault
    (c.hand_all-in-Nothing.ensures.receives ∙ c.in-Nothing.ensures.cause)
