use Rattle.std.proofs.Common.{subst, sym, ap, ◌∙◌}
use Rattle.coap_message.specs.Views.{message_in}
use Rattle.simple_registration.specs.Running.{is_answered_by}
use Rattle.simple_registration.specs.Table.{some_passes}
use Rattle.simple_registration.specs.FetchEvents.{FetchesStandFor}
use Rattle.simple_registration.proofs.CallLaws.{belongs}
use Rattle.simple_registration.proofs.table.Fetches.belongs.Goals as goal

pub returns-in-Some-clause-events : goal.returns-in-Some-clause-events
returns-in-Some-clause-events c octets events stands =
    c.is_answered_by.ensures
    ∙ (ap (some_passes (is_answered_by (message_in c.args.view.now))) c.in-Some.ensures
    ∙ belongs octets events c.self.inside.rows.items c.self.inside.started c.args.peer.now
    (message_in c.args.view.now)
    (subst (FetchesStandFor octets events) (sym c.self.view_is) stands))

pub returns-in-None-clause-events : goal.returns-in-None-clause-events
returns-in-None-clause-events c octets events stands =
    ap (some_passes (is_answered_by (message_in c.args.view.now))) c.in-None.ensures
    ∙ belongs octets events c.self.inside.rows.items c.self.inside.started c.args.peer.now
    (message_in c.args.view.now)
    (subst (FetchesStandFor octets events) (sym c.self.view_is) stands)
