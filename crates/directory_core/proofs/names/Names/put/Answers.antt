use Rattle.std.proofs.Common.{ap, ◌≡◌, ◌∙◌, subst}
use Rattle.std.specs.Prelude.{IfOk}
use Rattle.std.specs.Map.{keys_of}
use Rattle.directory_core.specs.declared.names.NameSlot.{NameSlot}
use Rattle.directory_core.specs.NameSlots.{with_slot}
use Rattle.directory_core.proofs.SlotLaws.{keys-insert}
use Rattle.directory_core.proofs.names.Names.put.Goals as goal

pub returns : goal.returns
returns c =
    let slot : NameSlot = record { hash = c.hash_of.result; number = c.args.number } in
    subst (λ slots. IfOk c.of.result (λ names. names ≡ slots))
    (ap keys_of c.in_ok-slots.ensures.pairs
    ∙ keys-insert tt slot c.slots.result.now
    ∙ ap (with_slot slot) c.slots.ensures
    ∙ ap (λ hash. with_slot (record { hash = hash; number = c.args.number }) c.args.self.now)
    c.hash_of.ensures) c.of.ensures
