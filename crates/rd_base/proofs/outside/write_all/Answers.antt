use Rattle.std.proofs.Common.{◌∙◌, arith}
use Rattle.rd_base.proofs.WrittenPieces.{more_written}
use Rattle.rd_base.proofs.outside.write_all.Goals as goal

pub pieces-preserved : goal.pieces-preserved
pieces-preserved g c = (
  omega (arith, c.in-Took.ensures.within),
  more_written _ _ _ c.pieces.at c.in-Took.n
      c.args.octets.now c.pieces.invariant.1 c.in-Took.ensures.bytes,
  c.in-Took.ensures.cause
      ∙ c.pieces.invariant.2,
)
