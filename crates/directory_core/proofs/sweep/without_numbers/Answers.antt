use Rattle.std.proofs.Common.{◌≡◌, [], ◌∷◌, sym, ap, ◌∙◌, subst, rules}
use Rattle.std.proofs.lemmas.List.{nil_from_length}
use Rattle.directory_core.specs.Bounds.{AreEntriesOf}
use Rattle.directory_core.specs.NameSlots.{slots_of}
use Rattle.directory_core.specs.Swept.{without_all}
use Rattle.directory_core.proofs.SweptLaws.{all_first, all_end}
use Rattle.directory_core.proofs.sweep.without_numbers.Goals as goal

pub numbers-preserved : goal.numbers-preserved
numbers-preserved c =
    let split : c.numbers.left.now ≡ c.in-Some.number.now ∷ c.in-Some.more.now = search rules in
    record {
      left =
          ap (without_all c.in-Some.more.now) c.in_ok-records-2.ensures.records
          ∙ sym (all_first c.in-Some.number.now c.in-Some.more.now c.numbers.records)
          ∙ ap (λ ns. without_all ns c.numbers.records) (sym split) ∙ c.numbers.invariant.left;
      rising = c.in_ok-records-2.ensures.rising;
      named = c.in_ok-names-2.ensures ∙ ap slots_of (sym c.in_ok-records-2.ensures.records);
      entries =
          subst (λ rs. AreEntriesOf rs c.in_ok-index-2.index)
          (sym c.in_ok-records-2.ensures.records) c.in_ok-index-2.ensures;
    }

pub returns-clause-records : goal.returns-clause-records
returns-clause-records c =
    let none : c.numbers.left.now ≡ [] = nil_from_length _ c.in_default.ensures.cases in
    sym (all_end c.numbers.records) ∙ ap (λ ns. without_all ns c.numbers.records) (sym none)
    ∙ c.numbers.invariant.left
