use Rattle.std.proofs.Common.{◌≡◌, ℕ, ◌/◌, ◌%◌, List, Some, refl, arith}
use Rattle.std.specs.Prelude.{◌==◌}
use Rattle.std.proofs.lemmas.Bool.{ne_eqb}
use Rattle.message_model.specs.Numbers.{uint_of}
use Rattle.message_model.specs.Blocks.{block_read}
use Rattle.message_model.proofs.ByteLemmas.{AreBytes-from_Fits}
use Rattle.message_model.proofs.BlockLaws.{block_found}
use Rattle.block_wise.proofs.values.block_read.Goals as goal

-- bits that are read as a block
is_read : (value : List ℕ) (n : ℕ)
    → n ≡ uint_of value
    → (n % 8 ≡ 7 → ⊥)
    → block_read value ≡ Some (record { num = n / 16; more = n / 8 % 2 == 1; szx = n % 8 })
unfolding block_read
is_read value n e free = rw (← e, ne_eqb (n % 8) 7 free) refl

pub returns-clause-spelled : goal.returns-clause-spelled
returns-clause-spelled c =
    let free : c.uint_of-bits.result % 8 ≡ 7 → ⊥ = λ e. omega (arith, e) in
    let found =
    block_found c.args.value.now _ (AreBytes-from_Fits c.args.value.now c.type_inv.value)
    c.requires
    (is_read c.args.value.now c.uint_of-bits.result c.uint_of-bits.ensures.value free) in
    found.1
