use Rattle.std.proofs.Common.{refl, arith}
use Rattle.message_model.proofs.BlockLaws.{block_size-most}
use Rattle.coap_answers.proofs.bodies.body_reply.Goals as goal

pub returns-clause-reply : goal.returns-clause-reply
returns-clause-reply c = record {
  class = refl;
  filled = omega arith;
  observe = c.requires.observe;
  block2 = c.answered_block.ensures.block;
  block1 = λ b e. cc;
  payload =
      let short = block_size-most c.szx_of.result c.szx_of.ensures.short in
      let most = c.in-Some.ensures.piece.most in omega (arith, short, most);
}
