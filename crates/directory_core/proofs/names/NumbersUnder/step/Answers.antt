use Rattle.std.proofs.Common.{◌≡◌, false, true, sym, ap, ◌∙◌, rules}
use Rattle.std.specs.Prelude.{◌==◌}
use Rattle.std.specs.Map.{keys_of}
use Rattle.lease_queue.proofs.QueueLaws.{none_holds}
use Rattle.directory_core.specs.NameSlots.{numbers_under}
use Rattle.directory_core.proofs.SlotLaws.{under_first, under_other, under_none}
use Rattle.directory_core.proofs.names.NumbersUnder.step.Goals as goal

pub returns-in_err-slot-clause-end : goal.returns-in_err-slot-clause-end
returns-in_err-slot-clause-end g c =
    let hash = c.self.inside.hash in
    none_holds c.from_residual.result (sym c.self.view_is
    ∙ ap (λ left. numbers_under hash (keys_of left)) c.in_err-slot.ensures.end.0
    ∙ under_none hash)

pub returns-then-slot-self-clause-end : goal.returns-then-slot-self-clause-end
returns-then-slot-self-clause-end g c =
    let hash = c.self.inside.hash in
    let other : (c.in_ok-slot.slot.now.hash == hash) ≡ false = search rules in
    sym c.self.view_is
    ∙ ap (λ left. numbers_under hash (keys_of left)) c.in_ok-slot.ensures.next
    ∙ under_other hash c.in_ok-slot.slot.now (keys_of c.step.new.self) other

pub returns-clause-next : goal.returns-clause-next
returns-clause-next g c =
    let hash = c.self.inside.hash in
    let same : (c.in_ok-slot.slot.now.hash == hash) ≡ true = search rules in
    sym c.self.view_is
    ∙ ap (λ left. numbers_under hash (keys_of left)) c.in_ok-slot.ensures.next
    ∙ under_first hash c.in_ok-slot.slot.now (keys_of c.step.new.self) same
