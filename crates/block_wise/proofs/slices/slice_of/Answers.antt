use Rattle.std.proofs.Common.{◌≡◌, ℕ, Bool, List, Option, Some, None, sym}
use Rattle.std.specs.Prelude.{IfSome}
use Rattle.std.specs.Option.{option_map}
use Rattle.message_model.specs.Blocks.{block_size, block_of, IsPiece}
use Rattle.message_model.proofs.BlockLaws.{block_of_piece}
use Rattle.block_wise.proofs.slices.slice_of.Goals as goal

-- a block that was found is a piece of the body
is_piece : {A : Type 0} (view : A → List ℕ × Bool) (found : Option A) (body : List ℕ) (num szx : ℕ)
    → option_map view found ≡ block_of body num szx
    → IfSome found (λ x. IsPiece body num (block_size szx) (view x).0 (view x).1)
is_piece view None body num szx e = tt
is_piece view (Some x) body num szx e = block_of_piece body num szx (view x) (sym e)

pub returns-clause-piece : goal.returns-clause-piece
returns-clause-piece c =
    is_piece (λ x. (x.0.now, x.1)) c.block_of.result c.args.body.now c.args.num c.args.szx
    c.block_of.ensures
