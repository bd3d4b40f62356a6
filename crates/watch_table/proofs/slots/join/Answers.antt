use Rattle.std.proofs.Common.{◌-◌, ◌^◌, ◌<◌, nat_eq, sym, ap, ◌∙◌}
use Rattle.std.specs.Map.{set_value}
use Rattle.watch_table.proofs.EntryLaws.{each_found, more-counted}
use Rattle.watch_table.proofs.slots.join.Goals as goal

pub returns-in-Some-clause-joined : goal.returns-in-Some-clause-joined
returns-in-Some-clause-joined c query =
    let at = sym c.in-Some.ensures.value in
    let counts =
    each_found (λ w. w.observers < 2 ^ 64 - 1) (nat_eq c.args.slot) c.args.watches.now.entries
    c.in-Some.watch.now c.requires.counts at in
    (c.get_mut.follows.holds c.count_up.new.self).0
    ∙ (ap (set_value (nat_eq c.args.slot) c.args.watches.now.entries) (c.count_up.ensures counts)
    ∙ more-counted c.args.slot query c.args.watches.now.entries c.in-Some.watch.now at)
