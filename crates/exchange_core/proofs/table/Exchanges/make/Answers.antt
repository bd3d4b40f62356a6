use Rattle.exchange_core.proofs.TableLaws.{ExchangesStandFor-none}
use Rattle.exchange_core.proofs.table.Exchanges.make.Goals as goal

pub returns-clause-stands : goal.returns-clause-stands
returns-clause-stands c =
    ExchangesStandFor-none 0 (record { moment = 0; exchanges = c.in_ok-queue.queue })
    c.in_ok-queue.ensures
