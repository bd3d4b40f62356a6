use Rattle.std.proofs.Common.{length, sym, ap, subst, ◌∙◌, arith}
use Rattle.history_model.specs.Versions.{Version, VersionStandsFor}
use Rattle.event_model.specs.Observers.{observers}
use Rattle.journal_model.specs.Journal.{events, entries}
use Rattle.observation.proofs.TickLaws.{got_inside, length-StandsFor}
use Rattle.rd_desk.specs.calls.Desks.{Seen, StandsFor}
use Rattle.rd_desk.proofs.ticking.EndLaws.{watched-StandsFor}
use Rattle.rd_desk.proofs.tables.Tables.body_for.Goals as goal

pub returns-clause-stands : goal.returns-clause-stands
returns-clause-stands c rows h =
    let own = subst (StandsFor rows) (sym c.self.view_is) h in
    let within = c.requires in
    let shown = ap (λ (d : Seen). length d.watching.observers) c.self.view_is in
    let size = length-StandsFor rows c.self.inside.watching own.watching in
    let found =
    got_inside (observers (events rows)) c.args.index (omega (arith, within, shown, size)) in
    watched-StandsFor rows _ c.args.self.now c.keep_body.new.self c.self.view_is
    (λ stands. c.keep_body.ensures.stands rows found.0
    (c.in_ok-kept.ensures
    ∙ c.in_ok-body.ensures rows found.0 own.moment stands
    (subst (λ (v : Version). VersionStandsFor 0 (entries rows) v) (sym c.deref.ensures)
    own.directory.history) found.1) found.1 stands) h
