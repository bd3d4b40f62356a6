use Rattle.std.proofs.Common.{◌≡◌, [], ◌∷◌, sym, ap, ◌∙◌}
use Rattle.rd_base.specs.PairRefs.{pair_seen}
use Rattle.attribute_index.specs.Entries.{has_entry, entries_of, entries_of_all}
use Rattle.attribute_index.proofs.EntryLaws.{has_entry-all}
use Rattle.directory_core.proofs.IndexLaws.{no_pairs, without_step, and_nothing}
use Rattle.directory_core.proofs.index.without_link_pairs.Goals as goal

pub pairs-preserved : goal.pairs-preserved
pairs-preserved c =
    let number = c.args.number in
    let pair = pair_seen c.in-Some.pair in
    let more = c.next.new.self in
    let split : c.pairs.left ≡ pair ∷ more = c.in-Some.ensures.steps in
    record {
      entries = λ e.
          without_step (has_entry c.pairs.after e) (has_entry c.in_ok-after.after e)
          (has_entry (entries_of pair number) e) (has_entry (entries_of_all more number) e)
          (has_entry (entries_of_all c.pairs.left number) e)
          (c.in_ok-after.ensures.entries e)
          (ap (λ ps. has_entry (entries_of_all ps number) e) split
          ∙ has_entry-all pair more number e) ∙ c.pairs.invariant.entries e;
      ascends = c.in_ok-after.ensures.ascends;
    }

pub returns-clause-entries : goal.returns-clause-entries
returns-clause-entries c e =
    let number = c.args.number in
    let none : c.pairs.left ≡ [] = c.in_default.ensures.steps.0 in
    sym (and_nothing (has_entry c.pairs.after e) (has_entry (entries_of_all c.pairs.left number) e)
    (ap (λ ps. has_entry (entries_of_all ps number) e) none ∙ no_pairs number e))
    ∙ c.pairs.invariant.entries e
