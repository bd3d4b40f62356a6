use Rattle.std.proofs.Common.{sym, ap, ◌∙◌}
use Rattle.directory_core.specs.LiveCounts.{without_lapse, without_lapses}
use Rattle.directory_core.proofs.CountLaws.{lapses_first, lapses_end}
use Rattle.directory_core.proofs.counts.counts_after.Goals as goal

pub lapsed-preserved : goal.lapsed-preserved
lapsed-preserved g c =
    let from = c.args.from.0 in
    let records = c.args.records.now in
    ap (λ counts. without_lapses from records counts c.step.new.self)
    (c.counts_without-counts.ensures ∙ ap (without_lapse from c.lapsed.counts) c.get.ensures)
    ∙ sym (lapses_first from records c.lapsed.counts c.in-Some.number c.step.new.self)
    ∙ ap (without_lapses from records c.lapsed.counts) (sym c.in-Some.ensures.next)
    ∙ c.lapsed.invariant

pub returns : goal.returns
returns g c =
    let from = c.args.from.0 in
    let records = c.args.records.now in
    sym (lapses_end from records c.lapsed.counts)
    ∙ ap (without_lapses from records c.lapsed.counts) (sym c.in_default.ensures.end.0)
    ∙ c.lapsed.invariant
