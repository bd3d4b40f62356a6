use Rattle.std.proofs.Common.{sym, subst, ◌∙◌}
use Rattle.rd_desk.specs.calls.Desks.{Seen, StandsFor}
use Rattle.rd_desk.proofs.parts.ShownLaws.{shown_count}
use Rattle.rd_desk.proofs.tables.Tables.watchers.Goals as goal

pub returns-clause-observers : goal.returns-clause-observers
returns-clause-observers c rows stands =
    let here = subst (λ (d : Seen). StandsFor rows d) (sym c.self.view_is) stands in
    c.len.ensures ∙ shown_count rows _ here.watching
