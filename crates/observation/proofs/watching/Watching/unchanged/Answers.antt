use Rattle.std.proofs.Common.{[], ◌∷◌, length, slice_get, refl, sym, ap, subst, ◌∙◌}
use Rattle.event_model.specs.declared.notes.Note.TheVariants as note
use Rattle.journal_model.specs.Effects.{joined, noting}
use Rattle.journal_model.specs.UnfinishedRow.{making}
use Rattle.observers.specs.Standing.{seen}
use Rattle.observation.specs.Watching.{Watching, AreWatched, WatchingStandsFor}
use Rattle.observation.proofs.FoundObservers.{length-changed_at}
use Rattle.observation.proofs.WatchedLaws.{changed_at-AreWatched}
use Rattle.observation.proofs.WatchingNotes.{WatchingStandsFor-unchanged}
use Rattle.observation.proofs.watching.Watching.unchanged.Goals as goal

pub invariant_of-self : goal.invariant_of-self
invariant_of-self c =
    subst (AreWatched c.self.inside.watches) (sym c.unchanged.ensures.seen)
    (changed_at-AreWatched seen (λ w. refl) c.args.index c.self.inside.watches
    c.self.inside.observers c.self.invariant)

pub returns-clause-stands : goal.returns-clause-stands
returns-clause-stands c rows s starved done x there h =
    let here = ap (λ (w : Watching). slice_get w.observers c.args.index) c.self.view_is ∙ there in
    subst (λ ws.
    WatchingStandsFor
    (making rows s starved (joined done (noting (note.Unchanged x.peer x.token ∷ []))))
    (record { watches = c.self.inside.watches; observers = ws }))
    (sym c.unchanged.ensures.seen)
    (WatchingStandsFor-unchanged rows s starved done c.args.index x
    (record { watches = c.self.inside.watches; observers = c.self.inside.observers }) here
    (subst (WatchingStandsFor (making rows s starved done)) (sym c.self.view_is) h))

pub returns-clause-len : goal.returns-clause-len
returns-clause-len c =
    ap length c.unchanged.ensures.seen
    ∙ (length-changed_at seen c.args.index c.self.inside.observers
    ∙ ap (λ (w : Watching). length w.observers) c.self.view_is)
