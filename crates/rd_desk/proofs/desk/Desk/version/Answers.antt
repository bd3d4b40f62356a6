use Rattle.rd_desk.proofs.parts.LookRows.{StandsFor-looked}
use Rattle.rd_desk.proofs.desk.Desk.version.Goals as goal

pub returns-clause-looked : goal.returns-clause-looked
returns-clause-looked g c rows r looks none stands =
    StandsFor-looked rows r c.args.self.now.tables looks none stands
