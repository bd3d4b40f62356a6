use Rattle.std.proofs.Common.{sym, ap₂, subst, ◌∙◌}
use Rattle.journal_model.specs.Effects.{nothing}
use Rattle.journal_model.specs.Journal.{entries}
use Rattle.journal_model.specs.UnfinishedRow.{making}
use Rattle.observation.specs.Watching.{WatchingStandsFor}
use Rattle.observation.proofs.WatchedLaws.{both-AreWatched, handed-AreWatched}
use Rattle.observation.proofs.WatchingLaws.{WatchingStandsFor-passed, WatchingStandsFor-untouched}
use Rattle.observation.proofs.watching.Watching.pass.Goals as goal

pub invariant_of-self : goal.invariant_of-self
invariant_of-self c =
    both-AreWatched (sym c.hand_on.ensures.cleared) (sym c.hand_on.ensures.due)
    (handed-AreWatched c.touch_lapsing.new.watches c.self.inside.observers
    (c.touch_lapsing.ensures.watched c.self.inside.observers c.self.invariant))

pub returns-then-touch_lapsing : goal.returns-then-touch_lapsing
returns-then-touch_lapsing c rows s starved journal desk first last directory h =
    subst (WatchingStandsFor (making rows s starved nothing))
    (ap₂ (λ t ws. record { watches = t; observers = ws }) (sym c.hand_on.ensures.cleared)
    (sym c.hand_on.ensures.due))
    (WatchingStandsFor-passed rows s starved c.args.from.0 c.args.to.0 c.touch_lapsing.new.watches
    (record { watches = c.self.inside.watches; observers = c.self.inside.observers }) journal
    desk first last
    (c.touch_lapsing.ensures.touched 0 (entries rows) directory.history)
    (subst (WatchingStandsFor rows) (sym c.self.view_is) h))

pub returns-else-touch_lapsing : goal.returns-else-touch_lapsing
returns-else-touch_lapsing c rows s starved journal desk first last directory h =
    subst (λ t.
    WatchingStandsFor (making rows s starved nothing)
    (record { watches = t; observers = c.self.inside.observers }))
    (sym (c.touch_lapsing.ensures.none c.if-touch_lapsing.false))
    (WatchingStandsFor-untouched rows s starved c.args.from.0 c.args.to.0
    (record { watches = c.self.inside.watches; observers = c.self.inside.observers }) journal
    desk first last
    (sym (c.touch_lapsing.ensures.none c.if-touch_lapsing.false)
    ∙ c.touch_lapsing.ensures.touched 0 (entries rows) directory.history)
    (subst (WatchingStandsFor rows) (sym c.self.view_is) h))
