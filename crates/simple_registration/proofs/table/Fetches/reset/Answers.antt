use Rattle.std.proofs.Common.{subst, sym, ◌∙◌}
use Rattle.simple_registration.specs.Table.{is_of}
use Rattle.simple_registration.specs.FetchEvents.{FetchesStandFor}
use Rattle.rd_base.proofs.lemmas.Firsts.{without_first-at}
use Rattle.simple_registration.proofs.CallLaws.{last_request_is, ends}
use Rattle.simple_registration.proofs.table.Fetches.reset.Goals as goal

pub returns-in_default-clause-answer : goal.returns-in_default-clause-answer
returns-in_default-clause-answer c octets events stands =
    c.in_default.ensures.answer
    ∙ last_request_is octets events c.self.inside.rows.items c.self.inside.started c.args.peer.now
    c.args.mid (subst (FetchesStandFor octets events) (sym c.self.view_is) stands)

pub returns-clause-answer : goal.returns-clause-answer
returns-clause-answer c octets events stands =
    c.in-Some.ensures.answer
    ∙ last_request_is octets events c.self.inside.rows.items c.self.inside.started c.args.peer.now
    c.args.mid (subst (FetchesStandFor octets events) (sym c.self.view_is) stands)

pub returns-clause-ended : goal.returns-clause-ended
returns-clause-ended c octets events e stands sure is =
    ends octets events c.self.inside.rows.items c.remove.new.self.items c.self.inside.started
    c.args.peer.now e
    (c.remove.ensures.items
    ∙ without_first-at (is_of c.args.peer.now) c.self.inside.rows.items c.in-Some.index
    c.in-Some.ensures.index) is
    (subst (FetchesStandFor octets events) (sym c.self.view_is) stands)
