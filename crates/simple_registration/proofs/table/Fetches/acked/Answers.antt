use Rattle.std.proofs.Common.{subst, sym, ap, ◌∙◌}
use Rattle.simple_registration.specs.FetchEvents.{FetchesStandFor}
use Rattle.simple_registration.proofs.CallLaws.{last_request_is, waits}
use Rattle.simple_registration.proofs.table.Fetches.acked.Goals as goal

pub returns-in_default-clause-answer : goal.returns-in_default-clause-answer
returns-in_default-clause-answer c octets events stands =
    c.in_default.ensures.answer
    ∙ last_request_is octets events c.self.inside.rows.items c.self.inside.started c.args.peer.now
    c.args.mid (subst (FetchesStandFor octets events) (sym c.self.view_is) stands)

pub returns-clause-answer : goal.returns-clause-answer
returns-clause-answer c octets events stands =
    c.in-Some.ensures.answer
    ∙ last_request_is octets events c.self.inside.rows.items c.self.inside.started c.args.peer.now
    c.args.mid (subst (FetchesStandFor octets events) (sym c.self.view_is) stands)

pub returns-clause-waiting : goal.returns-clause-waiting
returns-clause-waiting c octets events e stands sure is =
    waits octets events c.self.inside.rows.items c.self.inside.started c.args.peer.now e
    c.in-Some.index c.index_mut.result.now c.await_response.new.self c.in-Some.ensures.index
    c.index_mut.ensures.value c.await_response.ensures is
    (subst (FetchesStandFor octets events) (sym c.self.view_is) stands)
