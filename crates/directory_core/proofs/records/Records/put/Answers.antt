use Rattle.std.proofs.Common.{sym, ap, ◌∙◌, subst}
use Rattle.std.specs.Ordering.{nat_cmp}
use Rattle.std.specs.Map.{values_of}
use Rattle.std.specs.BTreeMap.{insert_entry}
use Rattle.rd_base.specs.declared.records.Record.{Record}
use Rattle.directory_core.specs.NumberOrder.{AreUnderNumbers, with_record}
use Rattle.directory_core.proofs.RecordMapLaws.{values-insert, under-insert, rising-ascending}
use Rattle.directory_core.proofs.records.Records.put.Goals as goal

pub invariant_of-result : goal.invariant_of-result
invariant_of-result c =
    let under : AreUnderNumbers c.in_ok-put.field-0 =
    subst AreUnderNumbers (sym (c.in_ok-put.ensures.pairs
    ∙ ap (λ n. insert_entry nat_cmp c.self.inside.pairs n c.args.kept)
    (ap (λ (r : Record). r.number) c.as_record.ensures)))
    (under-insert c.args.kept c.self.inside.pairs c.self.invariant.0) in
    (under, rising-ascending c.in_ok-put.field-0 under c.in_ok-put.ensures.ascends)

pub returns-clause-records : goal.returns-clause-records
returns-clause-records c =
    ap values_of (c.in_ok-put.ensures.pairs
    ∙ ap (λ n. insert_entry nat_cmp c.self.inside.pairs n c.args.kept)
    (ap (λ (r : Record). r.number) c.as_record.ensures))
    ∙ values-insert c.args.kept c.self.inside.pairs c.self.invariant.0
    ∙ ap (with_record c.args.kept) c.self.view_is

pub returns-clause-rising : goal.returns-clause-rising
returns-clause-rising c =
    let under : AreUnderNumbers c.in_ok-put.field-0 =
    subst AreUnderNumbers (sym (c.in_ok-put.ensures.pairs
    ∙ ap (λ n. insert_entry nat_cmp c.self.inside.pairs n c.args.kept)
    (ap (λ (r : Record). r.number) c.as_record.ensures)))
    (under-insert c.args.kept c.self.inside.pairs c.self.invariant.0) in
    rising-ascending c.in_ok-put.field-0 under c.in_ok-put.ensures.ascends
