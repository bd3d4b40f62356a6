-- Values of Block options, and blocks of a body.
use Rattle.std.specs.Prelude.{◌≡◌, ℕ, Bool, true, false, [], Some, None, codes, refl, replicate}
use Rattle.message_model.specs.declared.blocks.Block.{Block}
use Rattle.message_model.specs.Blocks.{block_read, block_value, block_of}
use Rattle.message_model.proofs.Notation.{hex}
use Rattle.message_model.proofs.OnLiterals.{messages_on_literals}

abbrev block : ℕ → Bool → ℕ → Block
block num more szx = record { num = num; more = more; szx = szx }

-- block 0 of 1,024 bytes with more to follow, block 2 of as many, and block 3
first_is_read : block_read (hex (codes "0e")) ≡ Some (block 0 true 6)
unfolding messages_on_literals
first_is_read = refl

third_is_read : block_read (hex (codes "26")) ≡ Some (block 2 false 6)
unfolding messages_on_literals
third_is_read = refl

fourth_is_read : block_read (hex (codes "36")) ≡ Some (block 3 false 6)
unfolding messages_on_literals
fourth_is_read = refl

-- the reserved exponent
reserved_is_none : block_read (hex (codes "07")) ≡ None
unfolding messages_on_literals
reserved_is_none = refl

-- block 0 of 16 bytes with more to follow, and block 8 of 1,024
small_is_read : block_read (hex (codes "08")) ≡ Some (block 0 true 0)
unfolding messages_on_literals
small_is_read = refl

ninth_is_read : block_read (hex (codes "86")) ≡ Some (block 8 false 6)
unfolding messages_on_literals
ninth_is_read = refl

-- the empty value, and leading zero bytes
empty_is_read : block_read [] ≡ Some (block 0 false 0)
unfolding messages_on_literals
empty_is_read = refl

zeros_are_read : block_read (hex (codes "00000e")) ≡ Some (block 0 true 6)
unfolding messages_on_literals
zeros_are_read = refl

-- the last block of 20 bits
last_is_read : block_read (hex (codes "fffffe")) ≡ Some (block 1048575 true 6)
unfolding messages_on_literals
last_is_read = refl

-- written, without leading zero bytes
none_is_written : block_value (block 0 false 0) ≡ []
unfolding messages_on_literals
none_is_written = refl

third_is_written : block_value (block 2 false 6) ≡ hex (codes "26")
unfolding messages_on_literals
third_is_written = refl

sixteenth_is_written : block_value (block 16 true 6) ≡ hex (codes "010e")
unfolding messages_on_literals
sixteenth_is_written = refl

last_is_written : block_value (block 1048575 true 6) ≡ hex (codes "fffffe")
unfolding messages_on_literals
last_is_written = refl

-- blocks of a body of 18 bytes: 16, then 2, then none
first_of_two : block_of (replicate 18 120) 0 0 ≡ Some (replicate 16 120, true)
unfolding messages_on_literals
first_of_two = refl

second_of_two : block_of (replicate 18 120) 1 0 ≡ Some (replicate 2 120, false)
unfolding messages_on_literals
second_of_two = refl

third_of_two : block_of (replicate 18 120) 2 0 ≡ None
unfolding messages_on_literals
third_of_two = refl

-- a body of one whole block has no second one, and an empty body has an empty first block
whole_block : block_of (replicate 16 120) 0 0 ≡ Some (replicate 16 120, false)
unfolding messages_on_literals
whole_block = refl

after_whole_block : block_of (replicate 16 120) 1 0 ≡ None
unfolding messages_on_literals
after_whole_block = refl

empty_body : block_of [] 0 6 ≡ Some ([], false)
unfolding messages_on_literals
empty_body = refl
