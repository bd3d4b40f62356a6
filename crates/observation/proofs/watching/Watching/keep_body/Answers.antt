use Rattle.std.proofs.Common.{length, sym, ap, subst, ◌∙◌, arith}
use Rattle.std.specs.Arc.{arc_value}
use Rattle.watch_table.specs.WatchedQueries.{with_body}
use Rattle.observation.specs.Watching.{Watching, AreWatched, WatchingStandsFor}
use Rattle.observation.proofs.TickLaws.{got_inside, kept_body-StandsFor, kept_body-AreWatched}
use Rattle.observation.proofs.watching.Watching.keep_body.Goals as goal

pub invariant_of-self : goal.invariant_of-self
invariant_of-self c =
    subst (λ t. AreWatched t c.self.inside.observers) (sym c.set_body.ensures.set)
    (kept_body-AreWatched c.slot_at-slot.result (arc_value c.args.body) c.self.inside.watches
    c.self.inside.observers c.self.invariant)

pub returns-clause-stands : goal.returns-clause-stands
returns-clause-stands c rows o is at h =
    let shown = ap (λ (w : Watching). length w.observers) c.self.view_is in
    let within = c.requires in
    let found = got_inside c.self.inside.observers c.args.index (omega (arith, shown, within)) in
    subst
    (λ t. WatchingStandsFor rows (record { watches = t; observers = c.self.inside.observers }))
    (sym (c.set_body.ensures.set
    ∙ ap (λ slot. with_body slot (arc_value c.args.body) c.self.inside.watches)
    (c.slot_at-slot.ensures found.0 found.1)))
    (kept_body-StandsFor rows
    (record { watches = c.self.inside.watches; observers = c.self.inside.observers })
    c.args.index o found.0 (arc_value c.args.body) is at found.1
    (subst (WatchingStandsFor rows) (sym c.self.view_is) h))
