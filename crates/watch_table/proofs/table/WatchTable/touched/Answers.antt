use Rattle.std.proofs.Common.{arith, sym, ap, subst, ◌∙◌}
use Rattle.std.specs.Option.{option_copied}
use Rattle.watch_table.specs.WatchedQueries.{touched, all_touched}
use Rattle.watch_table.specs.ObserverCounts.{WatchesStandFor}
use Rattle.watch_table.specs.Slots.{changed_at}
use Rattle.watch_table.proofs.SlotLaws.{changed-more, changed-all}
use Rattle.watch_table.proofs.TouchedLaws.{touched-StandsFor}
use Rattle.watch_table.proofs.table.WatchTable.touched.Goals as goal

pub watches-preserved : goal.watches-preserved
watches-preserved c = record {
  changed =
      c.touch_noted_at.ensures.touched
      ∙ (ap (changed_at (touched (option_copied c.args.old) (option_copied c.args.new))
      c.watches.index) c.watches.invariant.changed
      ∙ changed-more (touched (option_copied c.args.old) (option_copied c.args.new))
      c.self.inside.watches.entries c.watches.index);
  len = c.touch_noted_at.ensures.len ∙ c.watches.invariant.len;
}

pub returns-clause-stands : goal.returns-clause-stands
returns-clause-stands c standing h =
    let end = c.len-index-end.ensures.len in
    let past = c.watches-test.false in
    subst (WatchesStandFor standing)
    (sym (c.watches.invariant.changed
    ∙ (changed-all (touched (option_copied c.args.old) (option_copied c.args.new))
    c.self.inside.watches.entries c.watches.index (omega (arith, end, past))
    ∙ ap (all_touched (option_copied c.args.old) (option_copied c.args.new)) c.self.view_is)))
    (touched-StandsFor (option_copied c.args.old) (option_copied c.args.new) standing
    c.args.self.now h)
