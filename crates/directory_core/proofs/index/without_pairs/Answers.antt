use Rattle.std.proofs.Common.{◌≡◌, ◌&&◌, not, [], ◌∷◌, sym, ap, ◌∙◌, rules}
use Rattle.std.proofs.lemmas.List.{nil_from_length}
use Rattle.attribute_index.specs.Entries.{has_entry, entries_of, entries_of_all}
use Rattle.attribute_index.proofs.EntryLaws.{has_entry-all}
use Rattle.directory_core.proofs.IndexLaws.{no_pairs, without_step, and_nothing}
use Rattle.directory_core.proofs.index.without_pairs.Goals as goal

pub pairs-preserved : goal.pairs-preserved
pairs-preserved c =
    let number = c.args.number in
    let pair = c.in-Some.pair.now in
    let more = c.in-Some.more.now in
    let split : c.pairs.left.now ≡ pair ∷ more = search rules in
    record {
      entries = λ e.
          without_step (has_entry c.pairs.after e) (has_entry c.in_ok-after.after e)
          (has_entry (entries_of pair number) e) (has_entry (entries_of_all more number) e)
          (has_entry (entries_of_all c.pairs.left.now number) e)
          (c.in_ok-after.ensures.entries e
          ∙ ap (λ p. has_entry c.pairs.after e && not (has_entry (entries_of p number) e))
          c.borrowed.ensures) (ap (λ ps. has_entry (entries_of_all ps number) e) split
          ∙ has_entry-all pair more number e) ∙ c.pairs.invariant.entries e;
      ascends = c.in_ok-after.ensures.ascends;
    }

pub returns-clause-entries : goal.returns-clause-entries
returns-clause-entries c e =
    let number = c.args.number in
    let none : c.pairs.left.now ≡ [] = nil_from_length _ c.in_default.ensures.cases in
    sym (and_nothing (has_entry c.pairs.after e)
    (has_entry (entries_of_all c.pairs.left.now number) e)
    (ap (λ ps. has_entry (entries_of_all ps number) e) none ∙ no_pairs number e))
    ∙ c.pairs.invariant.entries e
