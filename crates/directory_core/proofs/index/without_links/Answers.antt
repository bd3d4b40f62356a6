use Rattle.std.proofs.Common.{◌≡◌, ◌&&◌, not, [], ◌∷◌, sym, ap, ◌∙◌}
use Rattle.attribute_index.specs.Entries.{has_entry, entries_of_all}
use Rattle.attribute_index.proofs.EntryLaws.{has_entry-all_append}
use Rattle.directory_core.specs.IndexedPairs.{item_pairs}
use Rattle.directory_core.proofs.IndexLaws.{no_pairs, without_step, and_nothing}
use Rattle.directory_core.proofs.index.without_links.Goals as goal

pub links-preserved : goal.links-preserved
links-preserved c =
    let number = c.args.number in
    let item = c.in-Some.link in
    let more = c.next.new.self in
    let split : c.links.left ≡ item ∷ more = c.in-Some.ensures.steps in
    record {
      entries = λ e.
          without_step (has_entry c.links.after e) (has_entry c.in_ok-after.after e)
          (has_entry (entries_of_all item.pairs number) e)
          (has_entry (entries_of_all (item_pairs more) number) e)
          (has_entry (entries_of_all (item_pairs c.links.left) number) e)
          (c.in_ok-after.ensures.entries e
          ∙ ap (λ ps. has_entry c.links.after e
          && not (has_entry (entries_of_all ps number) e)) c.pairs.ensures)
          (ap (λ is. has_entry (entries_of_all (item_pairs is) number) e) split
          ∙ has_entry-all_append item.pairs (item_pairs more) number e)
          ∙ c.links.invariant.entries e;
      ascends = c.in_ok-after.ensures.ascends;
    }

pub returns-clause-entries : goal.returns-clause-entries
returns-clause-entries c e =
    let number = c.args.number in
    let none : c.links.left ≡ [] = c.in_default.ensures.steps.0 in
    sym (and_nothing (has_entry c.links.after e)
    (has_entry (entries_of_all (item_pairs c.links.left) number) e)
    (ap (λ is. has_entry (entries_of_all (item_pairs is) number) e) none ∙ no_pairs number e))
    ∙ c.links.invariant.entries e
