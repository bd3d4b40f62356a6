use Rattle.std.proofs.Common.{[], ◌∷◌, length, slice_get, remove, sym, ap, ap₂, subst, ◌∙◌, arith}
use Rattle.event_model.specs.declared.notes.Note.TheVariants as note
use Rattle.journal_model.specs.Effects.{joined, noting}
use Rattle.journal_model.specs.UnfinishedRow.{making}
use Rattle.observation.specs.Watching.{Watching, WatchingStandsFor}
use Rattle.observation.proofs.FoundObservers.{cut_at}
use Rattle.observation.proofs.TickLaws.{got_inside}
use Rattle.observation.proofs.WatchedLaws.{both-AreWatched, cut-AreWatched}
use Rattle.observation.proofs.WatchingNotes.{WatchingStandsFor-timed_out}
use Rattle.observation.proofs.watching.Watching.timed_out.Goals as goal

pub invariant_of-self : goal.invariant_of-self
invariant_of-self c =
    let shown = ap (λ (w : Watching). length w.observers) c.self.view_is in
    let within = c.requires in
    let found = got_inside c.self.inside.observers c.args.index (omega (arith, shown, within)) in
    both-AreWatched (sym (c.take_out.ensures.watches found.0 found.1))
    (sym c.take_out.ensures.observers)
    (cut-AreWatched c.self.inside.watches c.self.inside.observers
    (remove c.self.inside.observers c.args.index) found.0
    (cut_at c.self.inside.observers c.args.index found.0 found.1) c.self.invariant)

pub returns-clause-stands : goal.returns-clause-stands
returns-clause-stands c rows s starved done x there h =
    let here = ap (λ (w : Watching). slice_get w.observers c.args.index) c.self.view_is ∙ there in
    subst (WatchingStandsFor
    (making rows s starved (joined done (noting (note.Unwatched x.peer x.token ∷ [])))))
    (ap₂ (λ t ws. record { watches = t; observers = ws }) (sym (c.take_out.ensures.watches x here))
    (sym c.take_out.ensures.observers))
    (WatchingStandsFor-timed_out rows s starved done c.args.index x
    (record { watches = c.self.inside.watches; observers = c.self.inside.observers }) here
    (subst (WatchingStandsFor (making rows s starved done)) (sym c.self.view_is) h))
