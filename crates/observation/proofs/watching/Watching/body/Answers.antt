use Rattle.std.proofs.Common.{◌≡◌, List, ℕ, length, sym, ap, subst, ◌∙◌, arith}
use Rattle.std.specs.Arc.{arc_value}
use Rattle.history_model.specs.Listing.{listing}
use Rattle.journal_model.specs.Journal.{entries, now}
use Rattle.watch_table.specs.WatchedQueries.{body_at}
use Rattle.observation.specs.Watching.{Watching, WatchingStandsFor}
use Rattle.observation.proofs.TickLaws.{got_inside, if_some, body-StandsFor}
use Rattle.observation.proofs.watching.Watching.body.Goals as goal

pub returns : goal.returns
returns c rows o h at =
    let shown = ap (λ (w : Watching). length w.observers) c.self.view_is in
    let within = c.requires in
    let found = got_inside c.self.inside.observers c.args.index (omega (arith, shown, within)) in
    if_some (λ body. arc_value body.now)
    (λ (text : List ℕ). text ≡ listing o.query (entries rows) (now rows)) c.body.result
    (body_at c.slot_at.result c.self.inside.watches) c.body.ensures
    (λ text is.
    body-StandsFor rows
    (record { watches = c.self.inside.watches; observers = c.self.inside.observers })
    c.args.index o found.0 text (subst (WatchingStandsFor rows) (sym c.self.view_is) h) at
    found.1
    (ap (λ slot. body_at slot c.self.inside.watches) (sym (c.slot_at.ensures found.0 found.1))
    ∙ is))
