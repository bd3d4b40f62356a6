use Rattle.std.proofs.Common.{[], ◌∷◌, sym, ap, ap₂, subst, ◌∙◌}
use Rattle.std.specs.Option.{option_copied}
use Rattle.event_model.specs.declared.notes.Note.TheVariants as note
use Rattle.journal_model.specs.Effects.{joined, noting}
use Rattle.journal_model.specs.UnfinishedRow.{making}
use Rattle.observation.specs.Watching.{AreWatched, WatchingStandsFor}
use Rattle.observation.proofs.WatchedLaws.{both-AreWatched, touched-AreWatched, handed-AreWatched}
use Rattle.observation.proofs.WatchingLaws.{WatchingStandsFor-entered, WatchingStandsFor-stayed}
use Rattle.observation.proofs.WatchingParts.{handed_on}
use Rattle.observation.proofs.watching.Watching.enter.Goals as goal

pub invariant_of-self : goal.invariant_of-self
invariant_of-self c =
    both-AreWatched (sym c.hand_on.ensures.cleared) (sym c.hand_on.ensures.due)
    (handed-AreWatched c.touched.new.self c.self.inside.observers
    (subst (λ t. AreWatched t c.self.inside.observers) (sym c.touched.ensures.touched)
    (touched-AreWatched (option_copied c.args.old) (option_copied c.args.new)
    c.self.inside.watches c.self.inside.observers c.self.invariant)))

pub returns-then-stays_as_shown : goal.returns-then-stays_as_shown
returns-then-stays_as_shown c rows s starved done entry journal desk none kind into h =
    WatchingStandsFor-stayed rows s starved done entry (option_copied c.args.old)
    (option_copied c.args.new) c.args.self.now journal desk none
    (sym kind ∙ c.stays_as_shown.ensures.update c.if-stays_as_shown.true)
    (c.stays_as_shown.ensures.stays c.if-stays_as_shown.true) into h

pub returns : goal.returns
returns c rows s starved done entry journal desk none kind into h =
    subst
    (WatchingStandsFor (making rows s starved (joined done (noting (note.Entered entry ∷ [])))))
    (ap (λ t. handed_on t c.self.inside.observers) (sym c.touched.ensures.touched)
    ∙ ap₂ (λ t ws. record { watches = t; observers = ws }) (sym c.hand_on.ensures.cleared)
    (sym c.hand_on.ensures.due))
    (WatchingStandsFor-entered rows s starved done entry (option_copied c.args.old)
    (option_copied c.args.new)
    (record { watches = c.self.inside.watches; observers = c.self.inside.observers }) journal
    desk none into
    (subst (WatchingStandsFor (making rows s starved done)) (sym c.self.view_is) h))
