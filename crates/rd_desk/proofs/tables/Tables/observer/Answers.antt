use Rattle.std.proofs.Common.{option_map, sym, subst, ap, ◌∙◌}
use Rattle.rd_desk.specs.calls.Desks.{Seen, StandsFor}
use Rattle.rd_desk.proofs.parts.ShownLaws.{shown-IsObserverAfter}
use Rattle.rd_desk.proofs.tables.Tables.observer.Goals as goal

pub returns-in-Some-clause-observer : goal.returns-in-Some-clause-observer
returns-in-Some-clause-observer c rows o stands at =
    let here = subst (λ (d : Seen). StandsFor rows d) (sym c.self.view_is) stands in
    let there = sym c.at.ensures ∙ ap (option_map (λ x. x.now)) c.in-Some.is in
    shown-IsObserverAfter rows _ c.args.index o _ c.shown.result here.watching at there
    c.shown.ensures
