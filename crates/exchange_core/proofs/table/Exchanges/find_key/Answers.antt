use Rattle.exchange_core.proofs.KeyedLaws.{keyed-IsFoundAt}
use Rattle.exchange_core.proofs.table.Exchanges.find_key.Goals as goal

pub returns-in-Some : goal.returns-in-Some
returns-in-Some c =
    keyed-IsFoundAt c.args.now.0 c.args.peer c.args.mid c.args.self.now c.unadmitted.new.self
    c.in-Some.keyed c.in-Some.ensures.some.0 c.in-Some.ensures.some.1

pub returns-in-None : goal.returns-in-None
returns-in-None c = c.in-None.ensures.none.found
