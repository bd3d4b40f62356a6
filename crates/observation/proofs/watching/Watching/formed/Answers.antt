use Rattle.std.proofs.Common.{length, slice_get, refl, sym, ap, subst, ◌∙◌}
use Rattle.std.specs.Arc.{arc_value}
use Rattle.journal_model.specs.Effects.{joined}
use Rattle.journal_model.specs.UnfinishedRow.{making}
use Rattle.observers.specs.Standing.{is_awaited, notified}
use Rattle.observation.specs.Notifications.{forming}
use Rattle.observation.specs.Watching.{Watching, AreWatched, WatchingStandsFor}
use Rattle.observation.proofs.FoundObservers.{length-changed_at}
use Rattle.observation.proofs.WatchedLaws.{changed_at-AreWatched}
use Rattle.observation.proofs.WatchingNotes.{WatchingStandsFor-formed}
use Rattle.observation.proofs.watching.Watching.formed.Goals as goal

pub invariant_of-self : goal.invariant_of-self
invariant_of-self c =
    subst (AreWatched c.self.inside.watches) (sym c.formed.ensures.formed)
    (changed_at-AreWatched (notified c.args.flight (arc_value c.args.body)) (λ w. refl) c.args.index
    c.self.inside.watches c.self.inside.observers c.self.invariant)

pub returns-clause-stands : goal.returns-clause-stands
returns-clause-stands c rows s starved done x there unsent fits resends h =
    let shown = ap (λ (w : Watching). w.observers) c.self.view_is in
    let here = ap (λ ws. slice_get ws c.args.index) shown ∙ there in
    subst (λ ws.
    WatchingStandsFor (making rows s starved
    (joined done (forming x (arc_value c.args.body) c.args.flight)))
    (record { watches = c.self.inside.watches; observers = ws }))
    (sym c.formed.ensures.formed)
    (WatchingStandsFor-formed rows s starved done c.args.index x (arc_value c.args.body)
    c.args.flight
    (record { watches = c.self.inside.watches; observers = c.self.inside.observers }) here
    (ap (λ ws. is_awaited x.peer ws) shown ∙ c.requires.free x there) unsent fits resends
    (subst (WatchingStandsFor (making rows s starved done)) (sym c.self.view_is) h))

pub returns-clause-len : goal.returns-clause-len
returns-clause-len c =
    ap length c.formed.ensures.formed
    ∙ (length-changed_at (notified c.args.flight (arc_value c.args.body)) c.args.index
    c.self.inside.observers
    ∙ ap (λ (w : Watching). length w.observers) c.self.view_is)
