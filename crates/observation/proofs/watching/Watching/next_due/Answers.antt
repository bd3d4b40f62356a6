use Rattle.std.proofs.Common.{sym, subst, ◌∙◌}
use Rattle.observation.specs.Watching.{WatchingStandsFor}
use Rattle.observation.proofs.TickLaws.{next-StandsFor}
use Rattle.observation.proofs.watching.Watching.next_due.Goals as goal

pub returns-clause-next : goal.returns-clause-next
returns-clause-next c rows h =
    c.next_due.ensures.next
    ∙ next-StandsFor rows
    (record { watches = c.self.inside.watches; observers = c.self.inside.observers })
    c.args.from (subst (WatchingStandsFor rows) (sym c.self.view_is) h)
