use Rattle.std.proofs.Common.{sym, ◌∙◌}
use Rattle.rd_request.proofs.IncomingLaws.{looks_is}
use Rattle.rd_request.proofs.incoming.is_look.Goals as goal

pub returns : goal.returns
returns c =
    c.looks.ensures
    ∙ sym (looks_is c.args.datagram.now c.read_datagram.result c.read_datagram.ensures)
