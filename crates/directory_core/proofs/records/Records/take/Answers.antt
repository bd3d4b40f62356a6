use Rattle.std.proofs.Common.{not, filter, sym, ap, ◌∙◌, subst}
use Rattle.std.specs.Ordering.{nat_cmp}
use Rattle.std.specs.Map.{values_of}
use Rattle.std.specs.BTreeMap.{is_at}
use Rattle.history_model.specs.Replay.{is_numbered}
use Rattle.directory_core.specs.NumberOrder.{AreUnderNumbers}
use Rattle.directory_core.proofs.RecordMapLaws.{values-remove, under-remove, rising-ascending}
use Rattle.directory_core.proofs.records.Records.take.Goals as goal

pub invariant_of-result : goal.invariant_of-result
invariant_of-result c =
    let under : AreUnderNumbers c.in_ok-take.field-0 =
    subst AreUnderNumbers (sym c.in_ok-take.ensures.pairs)
    (under-remove (is_at (nat_cmp c.args.number)) c.self.inside.pairs c.self.invariant.0) in
    (under, rising-ascending c.in_ok-take.field-0 under c.in_ok-take.ensures.ascends)

pub returns-clause-records : goal.returns-clause-records
returns-clause-records c =
    ap values_of c.in_ok-take.ensures.pairs
    ∙ values-remove c.args.number c.self.inside.pairs c.self.invariant.0 c.self.invariant.1
    ∙ ap (filter (λ r. not (is_numbered c.args.number r))) c.self.view_is

pub returns-clause-rising : goal.returns-clause-rising
returns-clause-rising c =
    let under : AreUnderNumbers c.in_ok-take.field-0 =
    subst AreUnderNumbers (sym c.in_ok-take.ensures.pairs)
    (under-remove (is_at (nat_cmp c.args.number)) c.self.inside.pairs c.self.invariant.0) in
    rising-ascending c.in_ok-take.field-0 under c.in_ok-take.ensures.ascends
