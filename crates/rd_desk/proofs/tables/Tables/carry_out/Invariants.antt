use Rattle.std.proofs.Common.{ℕ, Bool, List}
use Rattle.event_model.specs.KeptAnswers.{KeptAnswer}
use Rattle.journal_model.specs.declared.steps.Step.{Step}
use Rattle.journal_model.specs.declared.rows.Row.{Row}
use Rattle.journal_model.specs.Effects.{Effects}
use Rattle.rd_desk.specs.parts.Planning.{CarryingOut}
use Rattle.rd_desk.proofs.tables.Tables.carry_out.Given as goal

-- what is planned for the observers before the index is done
abbrev pub invariant-items : goal.invariant-items
invariant-items l =
    (rows : List Row) (s : Step) (starved : Bool) (current : List ℕ) (whole : Effects)
    (ready : List KeptAnswer)
    → CarryingOut rows s starved current whole ready l.initial.self l.initial.out l.initial.mids 0
    l.initial.item-iterator.rest.items
    → CarryingOut rows s starved current whole ready l.self l.out l.mids l.from
    l.item-iterator.rest.items
