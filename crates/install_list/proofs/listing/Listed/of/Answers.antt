use Rattle.std.proofs.Common.{◌∷◌, ◌++◌, [], ℕ, List, ap, sym, subst, ◌∙◌, append_assoc}
use Rattle.std.specs.List.{All}
use Rattle.std.proofs.lemmas.List.Elements.{All-tail}
use Rattle.install_list.specs.declared.entries.Entry.{Entry}
use Rattle.install_list.specs.Lists.{CanEntry}
use Rattle.install_list.specs.Endings.{numbered}
use Rattle.install_list.proofs.listing.Listed.of.Goals as goal

pub entries-preserved : goal.entries-preserved
entries-preserved c =
    let entry = c.in-Some.entry in
    let more = c.take_first.new.self in
    let numbers = c.entries.listed.numbers.items in
    let split = c.in-Some.ensures.some in
    record {
      sent =
          All-tail CanEntry entry more
          (subst (λ (l : List Entry). All CanEntry l) split c.entries.invariant.sent);
      numbers =
          c.entries.invariant.numbers
          ∙ ap (λ (l : List Entry). numbers ++ numbered l) split
          ∙ sym (append_assoc numbers (entry.number ∷ []) (numbered more))
          ∙ ap (λ (l : List ℕ). l ++ numbered more) (sym c.in-Ok.ensures);
    }
