use Rattle.std.proofs.Common.{Result, subst}
use Rattle.client_model.specs.declared.outcomes.Outcome.{Outcome}
use Rattle.registrant.specs.declared.turns.TellFault.{TellFault}
use Rattle.registrant.specs.declared.turns.Turn.TheVariants as turn
use Rattle.commissioner.specs.Lines.{event_of}
use Rattle.commissioner.proofs.EventLaws.{
  TurnsSo,
  handed_waiting,
  handed_going,
  handed_over,
  handed_fault,
  no_talk,
}
use Rattle.commissioner.proofs.lines.Line.hand.Goals as goal

pub returns-in_default-clause-handed : goal.returns-in_default-clause-handed
returns-in_default-clause-handed g c = λ ask i past stands.
    handed_waiting past ask i (event_of c.args.taken) c.args.self.now
    (g.L.Link.gone c.args.link.now) (g.L.Link.send_faults c.args.link.now)
    stands
    (no_talk c.args.self.now.talk c.in_default.not-Some)

pub returns-in-Going-clause-handed : goal.returns-in-Going-clause-handed
returns-in-Going-clause-handed g c = λ ask i past stands.
    handed_going past ask i (event_of c.args.taken) c.args.self.now c.in-Some.talk
    c.turn_of.new.talk
    (g.L.Link.gone c.args.link.now) (g.L.Link.gone c.turn_of.new.link)
    (g.L.Link.send_faults c.args.link.now) (g.L.Link.send_faults c.turn_of.new.link)
    stands c.in-Some.is
    c.in-Going.ensures.turned

pub returns-in-Over-Ok-clause-handed : goal.returns-in-Over-Ok-clause-handed
returns-in-Over-Ok-clause-handed g c = λ ask i past stands.
    handed_over past ask i (event_of c.args.taken) c.args.self.now c.in-Some.talk
    c.turn_of.new.talk c.in-Over-Ok.outcome
    (g.L.Link.gone c.args.link.now) (g.L.Link.gone c.turn_of.new.link)
    (g.L.Link.send_faults c.args.link.now) (g.L.Link.send_faults c.turn_of.new.link)
    stands c.in-Some.is
    (subst
    (λ (r : Result Outcome TellFault). TurnsSo c.args.self.now.to (event_of c.args.taken)
    c.in-Some.talk (turn.Over r) c.turn_of.new.talk
    (g.L.Link.gone c.args.link.now) (g.L.Link.send_faults c.args.link.now)
    (g.L.Link.gone c.turn_of.new.link) (g.L.Link.send_faults c.turn_of.new.link))
    c.in-Over-Ok.field-0-is
    c.in-Over-Ok.ensures.turned)

pub returns-in-Over-Err-clause-handed : goal.returns-in-Over-Err-clause-handed
returns-in-Over-Err-clause-handed g c = λ ask i past stands.
    handed_fault past ask i (event_of c.args.taken) c.args.self.now c.args.self.now
    c.in-Some.talk c.turn_of.new.talk c.in-Over-Err.field-0-0
    (g.L.Link.gone c.args.link.now) (g.L.Link.gone c.turn_of.new.link)
    (g.L.Link.send_faults c.args.link.now) (g.L.Link.send_faults c.turn_of.new.link)
    stands c.in-Some.is
    (subst
    (λ (r : Result Outcome TellFault). TurnsSo c.args.self.now.to (event_of c.args.taken)
    c.in-Some.talk (turn.Over r) c.turn_of.new.talk
    (g.L.Link.gone c.args.link.now) (g.L.Link.send_faults c.args.link.now)
    (g.L.Link.gone c.turn_of.new.link) (g.L.Link.send_faults c.turn_of.new.link))
    c.in-Over-Err.field-0-is
    c.in-Over-Err.ensures.turned)
