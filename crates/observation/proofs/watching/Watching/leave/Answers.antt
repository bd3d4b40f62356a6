use Rattle.std.proofs.Common.{sym, ap₂, subst, ◌∙◌}
use Rattle.journal_model.specs.Effects.{joined, noting}
use Rattle.journal_model.specs.Journal.{events}
use Rattle.journal_model.specs.Lookups.{removal}
use Rattle.journal_model.specs.UnfinishedRow.{making}
use Rattle.event_model.specs.Observers.{observers}
use Rattle.observers.specs.Standing.{is_named}
use Rattle.observation.specs.Watching.{WatchingStandsFor}
use Rattle.observation.proofs.JoiningLaws.{is_observer-StandsFor}
use Rattle.observation.proofs.WatchedLaws.{left-AreWatched, both-AreWatched}
use Rattle.observation.proofs.WatchingNotes.{WatchingStandsFor-left}
use Rattle.observation.proofs.watching.Watching.leave.Goals as goal

pub invariant_of-self : goal.invariant_of-self
invariant_of-self c =
    both-AreWatched (sym c.leave.ensures.watches) (sym c.leave.ensures.observers)
    (left-AreWatched (is_named c.args.peer.now c.args.token.now) c.self.inside.watches
    c.self.inside.observers c.self.invariant)

pub returns-clause-found : goal.returns-clause-found
returns-clause-found c rows h =
    c.leave.ensures.found
    ∙ is_observer-StandsFor rows
    (record { watches = c.self.inside.watches; observers = c.self.inside.observers })
    c.args.peer.now c.args.token.now (subst (WatchingStandsFor rows) (sym c.self.view_is) h)

pub returns-clause-stands : goal.returns-clause-stands
returns-clause-stands c rows s starved done h =
    subst (WatchingStandsFor
    (making rows s starved (joined done (noting (removal (c.args.peer.now, c.args.token.now)
    (observers (events (making rows s starved done))))))))
    (ap₂ (λ t ws. record { watches = t; observers = ws }) (sym c.leave.ensures.watches)
    (sym c.leave.ensures.observers))
    (WatchingStandsFor-left rows s starved done c.args.peer.now c.args.token.now
    (record { watches = c.self.inside.watches; observers = c.self.inside.observers })
    (subst (WatchingStandsFor (making rows s starved done)) (sym c.self.view_is) h))
