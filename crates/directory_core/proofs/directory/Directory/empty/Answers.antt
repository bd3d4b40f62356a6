use Rattle.std.proofs.Common.{ℕ, List, [], sym, ap, subst}
use Rattle.history_model.specs.Versions.{Version, VersionStandsFor}
use Rattle.history_model.proofs.VersionLaws.{empty-VersionStandsFor}
use Rattle.rd_base.specs.declared.records.Record.{Record}
use Rattle.directory_core.proofs.EmptyLaws.{kept_empty}
use Rattle.directory_core.proofs.IndexLaws.{no_entries}
use Rattle.directory_core.proofs.directory.Directory.empty.Goals as goal

abbrev with_records : ℕ → List Record → Version
with_records first records = record {
  records = records;
  entries = first;
  at = 0;
  last_number = 0;
  swept_live = 0;
  swept = 0;
}

pub invariant_of-result : goal.invariant_of-result
invariant_of-result c = (
  kept_empty c.args.first c.in_ok-empty.field-0 c.in_ok-empty-2.field-0 c.in_ok-empty-3.field-0
      c.requires c.in_ok-empty.ensures c.in_ok-empty-2.ensures c.in_ok-empty-3.ensures,
  no_entries
      c.in_ok-empty.field-0 c.in_ok-empty-4.field-0 c.in_ok-empty.ensures c.in_ok-empty-4.ensures,
)

pub returns-clause-stands : goal.returns-clause-stands
returns-clause-stands c =
    subst (VersionStandsFor c.args.first [])
    (ap (with_records c.args.first) (sym c.in_ok-empty.ensures))
    (empty-VersionStandsFor c.args.first)
