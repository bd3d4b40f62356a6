use Rattle.std.proofs.Common.{rules, ◌≡◌, ap, sym, ◌∙◌}
use Rattle.std.specs.BTreeMap.Range.{entries_from}
use Rattle.attribute_index.specs.Entries.{carriers_of}
use Rattle.attribute_index.specs.Rows.{first_row, row_cmp}
use Rattle.attribute_index.proofs.RowLaws.{carried_rows}
use Rattle.attribute_index.proofs.WantedLaws.{wanted_first, wanted_from}
use Rattle.attribute_index.proofs.index.AttributeIndex.carriers.Goals as goal

pub over-requires : goal.over-requires
over-requires c =
    let name_is : c.in_ok-name.name ≡ c.args.name.now = search rules in
    let pattern_is : c.in_ok-pattern.pattern ≡ c.args.pattern.now = search rules in
    let from_is : c.in_ok-from.from ≡ first_row c.args.name.now c.args.pattern.now =
    search rules in
    let rows = c.self.inside.rows in
    let rows_is : c.range-rows.result
    ≡ entries_from (row_cmp (first_row c.args.name.now c.args.pattern.now)) rows =
    c.range-rows.ensures ∙ ap (λ from. entries_from (row_cmp from) rows) from_is in
    rw (name_is, pattern_is, rows_is)
    (wanted_first c.args.name.now c.args.pattern.now rows c.self.invariant)

pub returns : goal.returns
returns c =
    let name = c.args.name.now in
    let pattern = c.args.pattern.now in
    let name_is : c.in_ok-name.name ≡ name = search rules in
    let pattern_is : c.in_ok-pattern.pattern ≡ pattern = search rules in
    let from_is : c.in_ok-from.from ≡ first_row name pattern = search rules in
    let rows = c.self.inside.rows in
    let rows_is : c.range-rows.result ≡ entries_from (row_cmp (first_row name pattern)) rows =
    c.range-rows.ensures ∙ ap (λ from. entries_from (row_cmp from) rows) from_is in
    c.over.ensures ∙ (rw (name_is, pattern_is, rows_is) (wanted_from name pattern rows))
    ∙ sym (carried_rows name pattern rows)
    ∙ ap (λ index. carriers_of name pattern index) c.self.view_is
