use Rattle.install_list.proofs.EndLaws.{writes_starved}
use Rattle.install_list.proofs.installing.make_listed.Goals as goal

pub returns-in_default-clause-written : goal.returns-in_default-clause-written
returns-in_default-clause-written g c =
    writes_starved c.args.verb c.args.listed.numbers.items (g.K.Sink.holds c.args.out.now)
