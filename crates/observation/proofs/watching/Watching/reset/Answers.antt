use Rattle.std.proofs.Common.{map, sym, ap₂, subst, ◌∙◌}
use Rattle.event_model.specs.declared.notes.Note.TheVariants as note
use Rattle.event_model.specs.declared.notes.Observer.{Observer}
use Rattle.journal_model.specs.Effects.{joined, noting}
use Rattle.journal_model.specs.EmptyMessages.{waited_for}
use Rattle.journal_model.specs.Journal.{events}
use Rattle.journal_model.specs.UnfinishedRow.{making}
use Rattle.observers.specs.Standing.{has_notification}
use Rattle.observation.specs.Watching.{WatchingStandsFor}
use Rattle.observation.proofs.JoiningLaws.{is_waited-StandsFor}
use Rattle.observation.proofs.WatchedLaws.{left-AreWatched, both-AreWatched}
use Rattle.observation.proofs.WatchingNotes.{WatchingStandsFor-reset}
use Rattle.observation.proofs.watching.Watching.reset.Goals as goal

pub invariant_of-self : goal.invariant_of-self
invariant_of-self c =
    both-AreWatched (sym c.reset.ensures.watches) (sym c.reset.ensures.observers)
    (left-AreWatched (has_notification c.args.peer.now c.args.mid) c.self.inside.watches
    c.self.inside.observers c.self.invariant)

pub returns-clause-found : goal.returns-clause-found
returns-clause-found c rows h =
    c.reset.ensures.found
    ∙ is_waited-StandsFor rows
    (record { watches = c.self.inside.watches; observers = c.self.inside.observers })
    c.args.peer.now c.args.mid (subst (WatchingStandsFor rows) (sym c.self.view_is) h)

pub returns-clause-stands : goal.returns-clause-stands
returns-clause-stands c rows s starved done h =
    subst (WatchingStandsFor (making rows s starved
    (joined done (noting (map (λ (o : Observer). note.Unwatched o.peer o.token)
    (waited_for c.args.peer.now c.args.mid
    (events (making rows s starved done))))))))
    (ap₂ (λ t ws. record { watches = t; observers = ws }) (sym c.reset.ensures.watches)
    (sym c.reset.ensures.observers))
    (WatchingStandsFor-reset rows s starved done c.args.peer.now c.args.mid
    (record { watches = c.self.inside.watches; observers = c.self.inside.observers })
    (subst (WatchingStandsFor (making rows s starved done)) (sym c.self.view_is) h))
