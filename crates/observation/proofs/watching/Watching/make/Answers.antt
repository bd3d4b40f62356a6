use Rattle.std.proofs.Common.{[], sym, subst}
use Rattle.observation.specs.Watching.{AreWatched, WatchingStandsFor}
use Rattle.observation.proofs.WatchedLaws.{empty-AreWatched}
use Rattle.observation.proofs.WatchingLaws.{WatchingStandsFor-empty}
use Rattle.observation.proofs.watching.Watching.make.Goals as goal

pub invariant_of-result : goal.invariant_of-result
invariant_of-result c =
    subst (λ t. AreWatched t c.in_ok-observers.observers) (sym c.in_ok-watches.ensures.empty)
    (subst (λ ws. AreWatched [] ws) (sym c.in_ok-observers.ensures.empty) empty-AreWatched)

pub returns : goal.returns
returns c =
    subst (λ t.
    WatchingStandsFor [] (record { watches = t; observers = c.in_ok-observers.observers }))
    (sym c.in_ok-watches.ensures.empty)
    (subst (λ ws. WatchingStandsFor [] (record { watches = []; observers = ws }))
    (sym c.in_ok-observers.ensures.empty) WatchingStandsFor-empty)
