use Rattle.std.proofs.Common.{sym, subst}
use Rattle.journal_model.specs.UnfinishedRow.{making}
use Rattle.observation.specs.Watching.{WatchingStandsFor}
use Rattle.observation.proofs.JoiningLaws.{room-IfOk, joined-IfOk, joined-AreWatched}
use Rattle.observation.proofs.WatchedLaws.{apart_absent}
use Rattle.observation.proofs.watching.Watching.join.Goals as goal

pub join-requires : goal.join-requires
join-requires c = record {
  new =
      apart_absent c.args.joining.peer c.args.joining.token c.self.inside.observers
      c.self.invariant.apart;
}

pub invariant_of-self : goal.invariant_of-self
invariant_of-self c =
    joined-AreWatched c.args.query.now c.args.joining c.join.result
    (record { watches = c.self.inside.watches; observers = c.self.inside.observers })
    (record { watches = c.join.new.watches; observers = c.join.new.observers })
    (apart_absent c.args.joining.peer c.args.joining.token c.self.inside.observers
    c.self.invariant.apart) c.join.ensures.outcome c.self.invariant

pub returns-clause-room : goal.returns-clause-room
returns-clause-room c rows h =
    room-IfOk rows (record { watches = c.self.inside.watches; observers = c.self.inside.observers })
    c.args.query.now c.args.joining.peer c.args.joining.token c.join.result
    (subst (WatchingStandsFor rows) (sym c.self.view_is) h)
    c.join.ensures.room

pub returns-clause-stands : goal.returns-clause-stands
returns-clause-stands c rows s starved done h =
    joined-IfOk rows s starved done c.args.query.now c.args.joining c.join.result
    (record { watches = c.self.inside.watches; observers = c.self.inside.observers })
    (record { watches = c.join.new.watches; observers = c.join.new.observers })
    (apart_absent c.args.joining.peer c.args.joining.token c.self.inside.observers
    c.self.invariant.apart) c.join.ensures.outcome
    (subst (WatchingStandsFor (making rows s starved done)) (sym c.self.view_is) h)
