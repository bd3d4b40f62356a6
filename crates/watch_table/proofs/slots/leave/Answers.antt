use Rattle.std.proofs.Common.{nat_eq, sym, ap, ◌∙◌}
use Rattle.std.specs.Map.{set_value}
use Rattle.watch_table.proofs.EntryLaws.{fewer-last, fewer-counted, fewer-none}
use Rattle.watch_table.proofs.slots.leave.Goals as goal

pub returns-then-is_last-clause-left : goal.returns-then-is_last-clause-left
returns-then-is_last-clause-left c =
    c.shift_remove.ensures.entries
    ∙ fewer-last c.args.slot c.args.watches.now.entries (sym c.is_last.ensures
    ∙ c.if-is_last.true)

pub returns-in-Some-clause-left : goal.returns-in-Some-clause-left
returns-in-Some-clause-left c =
    (c.get_mut.follows.holds c.count_down.new.self).0
    ∙ (ap (set_value (nat_eq c.args.slot) c.args.watches.now.entries) c.count_down.ensures
    ∙ fewer-counted c.args.slot c.args.watches.now.entries c.in-Some.watch.now
    (sym c.in-Some.ensures.value) (sym c.is_last.ensures ∙ c.if-is_last.false))

pub returns-in_default-clause-left : goal.returns-in_default-clause-left
returns-in_default-clause-left c =
    ap (λ m. m.entries) c.get_mut.follows.holds-at-none
    ∙ fewer-none c.args.slot c.args.watches.now.entries (sym c.in_default.ensures.value)
