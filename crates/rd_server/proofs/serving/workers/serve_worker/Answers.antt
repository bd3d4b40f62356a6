use Rattle.rd_server.proofs.service.TurnLaws.{Serves-none}
use Rattle.rd_server.proofs.service.ToldLaws.{serves-told}
use Rattle.rd_server.proofs.serving.workers.serve_worker.Goals as goal

pub returns-in_default-clause-serves : goal.returns-in_default-clause-serves
returns-in_default-clause-serves g c = Serves-none c.args.turns _

pub returns-clause-told : goal.returns-clause-told
returns-clause-told g c = serves-told c.args.turns _ _ c.run.result c.run.ensures.serves
