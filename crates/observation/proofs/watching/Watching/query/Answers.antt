use Rattle.std.proofs.Common.{length, IsSome, sym, ap, subst, ◌∙◌, arith}
use Rattle.watch_table.specs.WatchedQueries.{watched_at, query_at}
use Rattle.observation.specs.Watching.{Watching, WatchingStandsFor}
use Rattle.observation.proofs.TickLaws.{got_inside, watched_here, query-StandsFor}
use Rattle.observation.proofs.watching.Watching.query.Goals as goal

pub query-requires : goal.query-requires
query-requires c =
    let shown = ap (λ (w : Watching). length w.observers) c.self.view_is in
    let within = c.requires in
    let found = got_inside c.self.inside.observers c.args.index (omega (arith, shown, within)) in
    subst (λ slot. IsSome (watched_at slot c.self.inside.watches))
    (sym (c.slot_at.ensures found.0 found.1))
    (watched_here c.self.inside.watches c.self.inside.observers c.args.index found.0
    c.self.invariant found.1)

pub returns : goal.returns
returns c rows o h at =
    let shown = ap (λ (w : Watching). length w.observers) c.self.view_is in
    let within = c.requires in
    let found = got_inside c.self.inside.observers c.args.index (omega (arith, shown, within)) in
    query-StandsFor rows
    (record { watches = c.self.inside.watches; observers = c.self.inside.observers })
    c.args.index o found.0 c.query.result.now
    (subst (WatchingStandsFor rows) (sym c.self.view_is) h) at found.1
    (c.query.ensures
    ∙ ap (λ slot. query_at slot c.self.inside.watches) (c.slot_at.ensures found.0 found.1))
