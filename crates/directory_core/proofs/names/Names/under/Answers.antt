use Rattle.std.proofs.Common.{ap, ◌∙◌}
use Rattle.std.specs.Prelude.{nat_le, filter}
use Rattle.std.specs.Map.{keys_of}
use Rattle.directory_core.specs.NameSlots.{numbers_under, numbers_of_hash}
use Rattle.directory_core.proofs.SlotLaws.{keys-from}
use Rattle.directory_core.proofs.names.Names.under.Goals as goal

pub returns : goal.returns
unfolding numbers_of_hash
returns c =
    let hash = c.hash_of-hash.result in
    ap (λ left. numbers_under hash (keys_of left)) c.range.ensures
    ∙ ap (numbers_under hash) (keys-from hash c.slots.result.now)
    ∙ ap (λ slots. numbers_under hash (filter (λ s. nat_le hash s.hash) slots)) c.slots.ensures
    ∙ ap (λ h. numbers_of_hash h c.args.self.now) c.hash_of-hash.ensures
