use Rattle.std.proofs.Common.{ap, ◌∙◌}
use Rattle.observers.specs.Standing.{next_ready}
use Rattle.observers.proofs.WalkLaws.{next-within, next-free}
use Rattle.observers.proofs.table.Observers.next_due.Goals as goal

pub returns-clause-within : goal.returns-clause-within
returns-clause-within c =
    next-within c.args.from c.args.self.now c.next_in.result
    (c.next_in.ensures
    ∙ ap (next_ready c.args.from) (c.as_slice.ensures.value ∙ c.self.view_is))

pub returns-clause-free : goal.returns-clause-free
returns-clause-free c w =
    next-free c.args.from c.args.self.now c.next_in.result w
    (c.next_in.ensures
    ∙ ap (next_ready c.args.from) (c.as_slice.ensures.value ∙ c.self.view_is))
