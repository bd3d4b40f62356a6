use Rattle.install_list.proofs.EndLaws.{unread_some}
use Rattle.install_list.proofs.installing.install_said.Goals as goal

pub returns-in-Err-clause-written : goal.returns-in-Err-clause-written
returns-in-Err-clause-written g c =
    unread_some (g.S.Source.left c.args.source.now) c.args.order c.in-Err.fault
    c.list_status.result (g.K.Sink.holds c.args.out.now) c.list_status.ensures
    c.in-Err.ensures.read
