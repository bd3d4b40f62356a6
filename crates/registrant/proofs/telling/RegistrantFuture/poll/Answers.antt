use Rattle.std.proofs.Common.{Option, subst}
use Rattle.registrant.specs.Turns.{seen}
use Rattle.registrant.specs.Telling.{GivesFrom}
use Rattle.registrant.proofs.TurnLaws.{told_now, told_later}
use Rattle.registrant.proofs.telling.RegistrantFuture.poll.Goals as goal

pub returns-in-Going-clause-same : goal.returns-in-Going-clause-same
returns-in-Going-clause-same g c =
    let told =
    seen g.L.Link.coming g.L.Link.gone g.L.Link.recv_faults g.L.Link.send_faults
    g.C.Clock.times g.C.Clock.words in
    let times = g.C.Clock.times c.in-Some.clock in
    let words = g.C.Clock.words c.in-Some.clock in
    rw c.yield_now.ensures.pending
    (λ x given.
    subst
    (λ (ends : Option _).
    GivesFrom g.L.Link.coming g.L.Link.gone g.L.Link.recv_faults g.L.Link.send_faults
    g.C.Clock.times g.C.Clock.words ends c.args.self.now.talk c.args.self.now.is_sent x)
    c.in-Some.ensures.value
    (told_later
    x.outcome
    c.args.self.now.is_sent
    c.args.self.now.talk
    c.take_turn-turn.new.talk
    (told c.in-Some.link c.in-Some.clock)
    (told c.begin.new.link c.in-Some.clock)
    (told c.take_turn-turn.new.link c.take_turn-turn.new.clock)
    (told x.link x.clock)
    (λ a octets past stands. c.begin.ensures.begins a octets past times words stands)
    c.begin.ensures.receives
    c.in-Going.ensures.taken
    c.in-Going.ensures.counts
    given))

pub returns-in-Over-clause-value : goal.returns-in-Over-clause-value
returns-in-Over-clause-value g c =
    let told =
    seen g.L.Link.coming g.L.Link.gone g.L.Link.recv_faults g.L.Link.send_faults
    g.C.Clock.times g.C.Clock.words in
    let times = g.C.Clock.times c.in-Some.clock in
    let words = g.C.Clock.words c.in-Some.clock in
    subst
    (λ (ends : Option _).
    GivesFrom g.L.Link.coming g.L.Link.gone g.L.Link.recv_faults g.L.Link.send_faults
    g.C.Clock.times g.C.Clock.words ends c.args.self.now.talk c.args.self.now.is_sent
    (record {
      outcome = c.in-Over.outcome;
      link = c.take_turn-turn.new.link;
      clock = c.take_turn-turn.new.clock;
    }))
    c.in-Some.ensures.value
    (told_now
    c.in-Over.outcome
    c.args.self.now.is_sent
    c.args.self.now.talk
    c.take_turn-turn.new.talk
    (told c.in-Some.link c.in-Some.clock)
    (told c.begin.new.link c.in-Some.clock)
    (told c.take_turn-turn.new.link c.take_turn-turn.new.clock)
    (λ a octets past stands. c.begin.ensures.begins a octets past times words stands)
    c.begin.ensures.receives
    c.in-Over.ensures.taken
    c.in-Over.ensures.counts)
