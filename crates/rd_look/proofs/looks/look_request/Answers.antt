use Rattle.std.proofs.Common.{sym, ◌∙◌}
use Rattle.rd_request.proofs.IncomingLaws.{looks_is, only_looks_left}
use Rattle.rd_look.proofs.looks.look_request.Goals as goal

pub unreachable-requires : goal.unreachable-requires
unreachable-requires c =
    only_looks_left c.read_datagram.result
    (sym (looks_is c.args.datagram.now c.read_datagram.result c.read_datagram.ensures)
    ∙ c.requires) c.in_default.not-Look

pub returns-clause-spelled : goal.returns-clause-spelled
returns-clause-spelled c = c.in-Look.ensures.0.spelled
