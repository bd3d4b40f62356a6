use Rattle.std.proofs.Common.{map, refl, sym, subst, ◌∙◌}
use Rattle.event_model.specs.declared.notes.Note.TheVariants as note
use Rattle.event_model.specs.declared.notes.Observer.{Observer}
use Rattle.journal_model.specs.Effects.{joined, noting}
use Rattle.journal_model.specs.EmptyMessages.{waited_for}
use Rattle.journal_model.specs.Journal.{events}
use Rattle.journal_model.specs.UnfinishedRow.{making}
use Rattle.observers.specs.Standing.{has_notification, landed}
use Rattle.observation.specs.Watching.{AreWatched, WatchingStandsFor}
use Rattle.observation.proofs.JoiningLaws.{any_waited-StandsFor}
use Rattle.observation.proofs.WatchedLaws.{changed_first-AreWatched}
use Rattle.observation.proofs.WatchingNotes.{WatchingStandsFor-acked}
use Rattle.observation.proofs.watching.Watching.acked.Goals as goal

pub invariant_of-self : goal.invariant_of-self
invariant_of-self c =
    subst (AreWatched c.self.inside.watches) (sym c.acked.ensures.landed)
    (changed_first-AreWatched (has_notification c.args.peer.now c.args.mid) landed (λ w. refl)
    c.self.inside.watches c.self.inside.observers c.self.invariant)

pub returns-clause-found : goal.returns-clause-found
returns-clause-found c rows h =
    c.acked.ensures.found
    ∙ any_waited-StandsFor rows
    (record { watches = c.self.inside.watches; observers = c.self.inside.observers })
    c.args.peer.now c.args.mid (subst (WatchingStandsFor rows) (sym c.self.view_is) h)

pub returns-clause-stands : goal.returns-clause-stands
returns-clause-stands c rows s starved done h =
    subst (λ ws.
    WatchingStandsFor (making rows s starved (joined done
    (noting (map (λ (o : Observer). note.Landed c.args.peer.now c.args.mid)
    (waited_for c.args.peer.now c.args.mid
    (events (making rows s starved done)))))))
    (record { watches = c.self.inside.watches; observers = ws }))
    (sym c.acked.ensures.landed)
    (WatchingStandsFor-acked rows s starved done c.args.peer.now c.args.mid
    (record { watches = c.self.inside.watches; observers = c.self.inside.observers })
    (subst (WatchingStandsFor (making rows s starved done)) (sym c.self.view_is) h))
