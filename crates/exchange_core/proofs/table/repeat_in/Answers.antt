use Rattle.std.proofs.Common.{Some, sym, ap, ◌∙◌}
use Rattle.exchange_core.proofs.RowLaws.{
  repeat_among-young_at,
  repeat_among-old_at,
  repeat_among-nowhere,
}
use Rattle.exchange_core.proofs.table.repeat_in.Goals as goal

pub returns-in_default : goal.returns-in_default
returns-in_default c =
    repeat_among-nowhere c.args.now.0 c.args.peer c.args.mid c.args.queue.now c.in_default.ensures

pub returns-then-not-is_young : goal.returns-then-not-is_young
returns-then-not-is_young c =
    repeat_among-old_at c.args.now.0 c.args.peer c.args.mid c.args.queue.now c.in-Some.index
    c.at-last.result.now c.in-Some.ensures c.at-last.ensures
    (sym c.is_young.ensures ∙ c.if-not-is_young.true)

pub returns : goal.returns
returns c =
    ap (λ answer. Some answer) c.repeated.ensures
    ∙ repeat_among-young_at c.args.now.0 c.args.peer c.args.mid c.args.queue.now c.in-Some.index
    c.at-last.result.now c.in-Some.ensures c.at-last.ensures
    (sym c.is_young.ensures ∙ c.if-not-is_young.false)
