use Rattle.std.proofs.Common.{length, slice_get, refl, sym, ap, subst, ◌∙◌}
use Rattle.journal_model.specs.Effects.{joined}
use Rattle.journal_model.specs.UnfinishedRow.{making}
use Rattle.observers.specs.Standing.{due_of, timed}
use Rattle.observation.specs.Notifications.{sending_again}
use Rattle.observation.specs.Watching.{Watching, AreWatched, WatchingStandsFor}
use Rattle.observation.proofs.FoundObservers.{length-changed_at}
use Rattle.observation.proofs.WatchedLaws.{changed_at-AreWatched}
use Rattle.observation.proofs.WatchingNotes.{WatchingStandsFor-again}
use Rattle.observation.proofs.watching.Watching.timeout.Goals as goal

pub invariant_of-self : goal.invariant_of-self
invariant_of-self c =
    subst (AreWatched c.self.inside.watches) (sym c.timeout.ensures.kept)
    (changed_at-AreWatched (timed c.args.now.0) (λ w. refl) c.args.index c.self.inside.watches
    c.self.inside.observers c.self.invariant)

pub returns-clause-stands : goal.returns-clause-stands
returns-clause-stands c rows s starved done x sent sends there flies at h =
    let here = ap (λ (w : Watching). slice_get w.observers c.args.index) c.self.view_is ∙ there in
    subst (λ ws.
    WatchingStandsFor (making rows s starved (joined done (sending_again x sent)))
    (record { watches = c.self.inside.watches; observers = ws }))
    (sym c.timeout.ensures.kept)
    (WatchingStandsFor-again rows s starved done c.args.now.0 c.args.index x sent
    (record { watches = c.self.inside.watches; observers = c.self.inside.observers }) here flies
    (ap (due_of c.args.now.0) (sym flies) ∙ (sym (c.timeout.ensures.due x here) ∙ sends)) at
    (subst (WatchingStandsFor (making rows s starved done)) (sym c.self.view_is) h))

pub returns-clause-len : goal.returns-clause-len
returns-clause-len c =
    ap length c.timeout.ensures.kept
    ∙ (length-changed_at (timed c.args.now.0) c.args.index c.self.inside.observers
    ∙ ap (λ (w : Watching). length w.observers) c.self.view_is)
