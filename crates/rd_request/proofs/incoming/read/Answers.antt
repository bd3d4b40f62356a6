use Rattle.std.proofs.Common.{sym, ◌∙◌}
use Rattle.rd_request.specs.Accepted.{message_of}
use Rattle.rd_request.proofs.IncomingLaws.{further_looks_not, first_looks}
use Rattle.rd_request.proofs.incoming.read.Goals as goal

pub returns-then-is_later_block : goal.returns-then-is_later_block
returns-then-is_later_block c datagram is = (
  is,
  further_looks_not (message_of c.args.request) c.requires
      (sym c.is_later_block.ensures ∙ c.if-is_later_block.true),
  c.requires,
)

pub returns : goal.returns
returns c datagram is = (
  is,
  first_looks (message_of c.args.request) c.requires
      (sym c.is_later_block.ensures ∙ c.if-is_later_block.false),
)
