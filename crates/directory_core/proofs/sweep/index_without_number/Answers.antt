use Rattle.std.proofs.Common.{sym, subst}
use Rattle.directory_core.specs.Bounds.{AreEntriesOf}
use Rattle.directory_core.proofs.IndexLaws.{ok_without}
use Rattle.directory_core.proofs.SweptLaws.{without_none}
use Rattle.directory_core.proofs.sweep.index_without_number.Goals as goal

pub without_record-requires : goal.without_record-requires
without_record-requires c = c.requires.entries.once

pub returns-in-Some : goal.returns-in-Some
returns-in-Some c =
    ok_without c.without_record.result c.args.records.now c.args.number c.in-Some.kept.now
    c.as_record.result.now c.args.index c.requires.rising (sym c.in-Some.ensures)
    c.as_record.ensures c.requires.entries c.without_record.ensures.entries
    c.without_record.ensures.ascends

pub returns-in-None : goal.returns-in-None
returns-in-None c =
    subst (λ records. AreEntriesOf records c.args.index)
    (sym (without_none c.args.records.now c.args.number (sym c.in-None.ensures)))
    c.requires.entries
