use Rattle.std.proofs.Common.{Option, subst}
use Rattle.registrant.specs.Turns.{seen}
use Rattle.commissioner.specs.Commissioning.{GivesFrom}
use Rattle.commissioner.proofs.MadeLaws.{given_later, counts_later}
use Rattle.commissioner.proofs.commissioning.CommissionFuture.poll.Goals as goal

pub returns-in-Going-clause-same : goal.returns-in-Going-clause-same
returns-in-Going-clause-same g c =
    let told =
    seen g.L.Link.coming g.L.Link.gone g.L.Link.recv_faults g.L.Link.send_faults
    g.C.Clock.times g.C.Clock.words in
    rw c.yield_now.ensures.pending
    (λ x given.
    subst
    (λ (going : Option _).
    GivesFrom g.L.Link.coming g.L.Link.gone g.L.Link.recv_faults g.L.Link.send_faults
    g.C.Clock.times g.C.Clock.words going x)
    c.in-Some.ensures.value (
      given_later
          c.in-Some.going.lines.items
          c.poll_once.new.going.lines.items
          c.in-Some.going.outcomes
          c.poll_once.new.going.outcomes
          x.outcomes
          x.fault
          (told c.in-Some.going.link c.in-Some.going.clock)
          (told c.poll_once.new.going.link c.poll_once.new.going.clock)
          (told x.link x.clock)
          c.in-Going.ensures.polled
          given.0,
      counts_later x.fault
          (g.L.Link.recv_faults c.in-Some.going.link)
          (g.L.Link.recv_faults c.poll_once.new.going.link)
          (g.L.Link.recv_faults x.link)
          c.in-Going.ensures.counts
          given.1,
    ))
