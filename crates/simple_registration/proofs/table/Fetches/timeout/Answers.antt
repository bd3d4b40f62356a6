use Rattle.std.proofs.Common.{◌<◌, subst, sym, ap, ◌∙◌, length}
use Rattle.exchange_core.specs.declared.resends.Again.{Again}
use Rattle.simple_registration.specs.Running.{after_due}
use Rattle.simple_registration.specs.Table.{Table}
use Rattle.simple_registration.specs.FetchEvents.{FetchesStandFor}
use Rattle.simple_registration.proofs.CallLaws.{due, resent}
use Rattle.simple_registration.proofs.table.Fetches.timeout.Goals as goal

pub returns-clause-answer : goal.returns-clause-answer
returns-clause-answer c octets events peer e stands at last =
    c.timeout.ensures.due
    ∙ due octets events c.self.inside.rows.items c.self.inside.started peer c.args.now.0
    c.args.index c.index_mut.result.now e
    (subst (FetchesStandFor octets events) (sym c.self.view_is) stands) at
    (subst (λ (t : Table). c.args.index < length t.fetches) (sym c.self.view_is) c.requires)
    c.index_mut.ensures.value last

pub returns-clause-resent : goal.returns-clause-resent
returns-clause-resent c octets events peer e stands at sent is moment =
    resent octets events c.self.inside.rows.items c.self.inside.started peer c.args.now.0
    c.args.index c.index_mut.result.now c.timeout.new.self e
    (subst (FetchesStandFor octets events) (sym c.self.view_is) stands) at
    (subst (λ (t : Table). c.args.index < length t.fetches) (sym c.self.view_is) c.requires)
    c.index_mut.ensures.value
    (c.timeout.ensures.after
    ∙ ap (λ (d : Again). after_due d c.args.now.0 c.index_mut.result.now)
    (sym c.timeout.ensures.due ∙ sent)) is moment
