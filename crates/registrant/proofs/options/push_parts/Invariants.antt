use Rattle.std.proofs.Common.{option_map}
use Rattle.client_model.specs.Asks.{is_part, decoded_parts, parts_at}
use Rattle.registrant.specs.Parts.{parts_left}
use Rattle.registrant.proofs.OptionLaws.{IsAdding, size_left}
use Rattle.registrant.proofs.options.push_parts.Given as goal

-- the parts that were added, and those that are left
abbrev pub invariant-parts : goal.invariant-parts
invariant-parts l =
    IsAdding is_part l.number l.initial.options l.options
    (decoded_parts (parts_at l.mark l.text))
    (decoded_parts (parts_left l.mark (option_map (λ t. t.now) l.left)))

abbrev pub decreases-parts : goal.decreases-parts
decreases-parts l = size_left (option_map (λ t. t.now) l.left)
