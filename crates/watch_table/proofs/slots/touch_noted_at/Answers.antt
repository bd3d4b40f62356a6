use Rattle.std.proofs.Common.{sym, ◌∙◌}
use Rattle.std.specs.Option.{option_copied}
use Rattle.watch_table.proofs.MissLaws.{unchanged_at}
use Rattle.watch_table.proofs.slots.touch_noted_at.Goals as goal

pub returns-else-may_match_at-clause-touched : goal.returns-else-may_match_at-clause-touched
returns-else-may_match_at-clause-touched c =
    unchanged_at c.args.notes.now (option_copied c.args.old) (option_copied c.args.new)
    c.args.index c.args.watches.now.entries c.requires
    (sym c.may_match_at.ensures ∙ c.if-may_match_at.false)
