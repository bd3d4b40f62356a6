use Rattle.std.proofs.Common.{◌≡◌, nat_lt, true, false, ◌∷◌, sym, ap, ◌∙◌, rules}
use Rattle.history_model.specs.Leases.{lapse}
use Rattle.directory_core.specs.Lapsing.{lapsing_left}
use Rattle.directory_core.proofs.LapsingLaws.{lapsing_none, lapses_here, lapses_not, lapses_none}
use Rattle.directory_core.proofs.lapsing_iter.next_lapsing.Goals as goal

pub returns-then-is_live_at-clause-next : goal.returns-then-is_live_at-clause-next
returns-then-is_live_at-clause-next g c =
    let from = c.args.from.0 in
    let records = c.args.records.now in
    let later : nat_lt from (lapse c.in-Some-get.kept.now) ≡ true = search rules in
    sym c.numbers.invariant ∙ ap (lapsing_left from records) c.in-Some.ensures.next
    ∙ lapses_here from records c.in-Some.number c.step.new.self c.in-Some-get.kept.now
    (sym c.in-Some-get.ensures) later
    ∙ ap (λ r. r ∷ lapsing_left from records c.step.new.self) (sym c.as_record.ensures)

pub numbers-preserved-else-is_live_at : goal.numbers-preserved-else-is_live_at
numbers-preserved-else-is_live_at g c =
    let from = c.args.from.0 in
    let records = c.args.records.now in
    let not_later : nat_lt from (lapse c.in-Some-get.kept.now) ≡ false = search rules in
    sym (lapses_not from records c.in-Some.number c.step.new.self c.in-Some-get.kept.now
    (sym c.in-Some-get.ensures) not_later)
    ∙ ap (lapsing_left from records) (sym c.in-Some.ensures.next) ∙ c.numbers.invariant

pub numbers-preserved : goal.numbers-preserved
numbers-preserved g c =
    let from = c.args.from.0 in
    let records = c.args.records.now in
    sym (lapses_none from records c.in-Some.number c.step.new.self (sym c.in_default-get.ensures))
    ∙ ap (lapsing_left from records) (sym c.in-Some.ensures.next) ∙ c.numbers.invariant

pub returns-clause-end : goal.returns-clause-end
returns-clause-end g c =
    let from = c.args.from.0 in
    let records = c.args.records.now in
    let none = lapsing_none from records in (
      sym c.numbers.invariant
          ∙ ap (lapsing_left from records) c.in_default.ensures.end.0
          ∙ none,
      ap (lapsing_left from records) c.in_default.ensures.end.1
          ∙ none,
    )
