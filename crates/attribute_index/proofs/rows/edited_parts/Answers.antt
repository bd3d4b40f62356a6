use Rattle.std.proofs.Common.{rules, ◌≡◌, false, [], ◌∷◌, ap, sym, ◌∙◌}
use Rattle.record_model.specs.Matching.{parts_of}
use Rattle.attribute_index.specs.Entries.{has_entry, is_same}
use Rattle.attribute_index.specs.Rows.{entries_of_rows, entries_under_name, is_after}
use Rattle.attribute_index.proofs.RowLaws.{edited_first, edited_none, entry_at}
use Rattle.attribute_index.proofs.rows.edited_parts.Goals as goal

pub parts-preserved : goal.parts-preserved
parts-preserved c =
    let split : parts_of c.parts.rest.now ≡ c.in-Some.part.now ∷ parts_of c.in-Some.more.now =
    search rules in
    record {
      text = search rules;
      entries = λ e.
          edited_first c.args.edit (has_entry (entries_of_rows c.parts.after) e)
          (has_entry (entries_of_rows c.in_ok-after.after) e)
          (is_same e (entry_at (c.args.name.now, c.in-Some.part.now) c.args.number))
          (has_entry (entries_under_name c.args.name.now (parts_of c.in-Some.more.now)
          c.args.number) e) (has_entry
          (entries_under_name c.args.name.now (parts_of c.parts.rest.now) c.args.number) e)
          (c.in_ok-after.ensures.entries e
          ∙ ap (λ v. is_after c.args.edit (has_entry (entries_of_rows c.parts.after) e)
          (is_same e (entry_at v c.args.number))) c.in_ok-carried.ensures)
          (ap (λ ps. has_entry (entries_under_name c.args.name.now ps c.args.number) e) split)
          ∙ c.parts.invariant.entries e;
      ascends = c.in_ok-after.ensures.ascends;
    }

pub returns-clause-entries : goal.returns-clause-entries
returns-clause-entries c e =
    let none : parts_of c.parts.rest.now ≡ [] = search rules in
    let left : has_entry
    (entries_under_name c.args.name.now (parts_of c.parts.rest.now) c.args.number) e ≡ false =
    ap (λ ps. has_entry (entries_under_name c.args.name.now ps c.args.number) e) none in
    sym (edited_none c.args.edit (has_entry (entries_of_rows c.parts.after) e)
    (has_entry (entries_under_name c.args.name.now (parts_of c.parts.rest.now) c.args.number)
    e) left) ∙ c.parts.invariant.entries e
