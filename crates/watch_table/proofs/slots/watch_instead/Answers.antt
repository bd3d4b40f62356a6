use Rattle.std.proofs.Common.{sym, ap, subst, ◌∙◌}
use Rattle.watch_table.specs.WatchedQueries.{without}
use Rattle.watch_table.specs.Slots.{CanCount}
use Rattle.watch_table.proofs.EntryLaws.{can_count, can_count-without}
use Rattle.watch_table.proofs.OutcomeLaws.{watches-instead}
use Rattle.watch_table.proofs.slots.watch_instead.Goals as goal

pub watch_given-requires-clause-counts : goal.watch_given-requires-clause-counts
watch_given-requires-clause-counts c =
    subst CanCount (sym c.leave_before.ensures.left) (can_count-without c.args.instead_of _
    (can_count _ (sym c.is_counted_out.ensures ∙ c.if-is_counted_out.false)))

pub returns-clause-outcome : goal.returns-clause-outcome
returns-clause-outcome c =
    watches-instead c.args.query.now c.args.watches.now.entries
    (without c.args.instead_of c.args.watches.now.entries) c.leave_before.new.watches.entries
    c.watch_given.new.watches.entries c.watch_given.result
    c.watch_given.ensures.outcome (c.leave_before.ensures.left
    ∙ ap (without c.args.instead_of) c.in_ok-reserve.ensures.entries)
    c.watch_given.ensures.given
