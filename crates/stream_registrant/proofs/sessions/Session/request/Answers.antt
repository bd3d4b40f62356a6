use Rattle.std.proofs.Common.{Err, true, ◌++◌, subst}
use Rattle.client_model.specs.Requests.{Request}
use Rattle.stream_registrant.specs.Answers.{request_over}
use Rattle.stream_registrant.specs.Courses.{IsTold, Ends, SessionSeen, seen}
use Rattle.stream_registrant.specs.Saying.{opening, request_octets, voice_seen}
use Rattle.stream_registrant.proofs.CourseLaws.{begins, told_sent, told_unsent}
use Rattle.stream_registrant.proofs.DecidedLaws.{decided}
use Rattle.stream_registrant.proofs.sessions.Session.request.Goals as goal

pub returns-in-Err-clause-course : goal.returns-in-Err-clause-course
returns-in-Err-clause-course g c =
    let r = request_over c.args.ask.now c.args.token in
    let request = request_octets c.args.ask.now c.args.token in
    let now : SessionSeen = record {
      held = c.self.inside.reader;
      rest = c.self.inside.piece;
      is_open = c.self.inside.is_open;
    } in
    subst (λ (s : SessionSeen). IsTold r (opening s.is_open) request
    (seen g.S.Source g.K.Sink s c.args.source.now c.args.out.now)
    (seen g.S.Source g.K.Sink s c.args.source.now c.begin.new.out) (Err c.in-Err.why))
    c.self.view_is
    (told_unsent r (opening c.self.inside.is_open) request
    (seen g.S.Source g.K.Sink now c.args.source.now c.args.out.now)
    (voice_seen g.K.Sink c.begin.new.out) c.in-Err.why c.in-Err.ensures)

pub returns-clause-course : goal.returns-clause-course
returns-clause-course g c =
    let r = request_over c.args.ask.now c.args.token in
    let request = request_octets c.args.ask.now c.args.token in
    let now : SessionSeen = record {
      held = c.self.inside.reader;
      rest = c.self.inside.piece;
      is_open = c.self.inside.is_open;
    } in
    let before = seen g.S.Source g.K.Sink now c.args.source.now c.args.out.now in
    let after = seen g.S.Source g.K.Sink c.hear_all.new.self c.hear_all.new.source
    c.hear_all.new.out in
    let first = opening c.self.inside.is_open ++ request in
    subst (λ (s : SessionSeen). IsTold r (opening s.is_open) request
    (seen g.S.Source g.K.Sink s c.args.source.now c.args.out.now) after c.hear_all.result)
    c.self.view_is
    (told_sent r (opening c.self.inside.is_open) request before after c.hear_all.result
    c.in_default.ensures.1
    (subst (λ (q : Request). Ends q first before after c.hear_all.result) c.request_of.ensures
    (c.hear_all.ensures first before
    (begins _ first before true (voice_seen g.K.Sink c.begin.new.out) c.in_default.ensures.0))))

pub returns-in-Err-clause-told : goal.returns-in-Err-clause-told
returns-in-Err-clause-told g c =
    decided (request_over c.args.ask.now c.args.token) (opening c.args.self.now.is_open)
    (request_octets c.args.ask.now c.args.token)
    (seen g.S.Source g.K.Sink c.args.self.now c.args.source.now c.args.out.now) _
    (Err c.in-Err.why) (returns-in-Err-clause-course g c)

pub returns-clause-told : goal.returns-clause-told
returns-clause-told g c =
    decided (request_over c.args.ask.now c.args.token) (opening c.args.self.now.is_open)
    (request_octets c.args.ask.now c.args.token)
    (seen g.S.Source g.K.Sink c.args.self.now c.args.source.now c.args.out.now) _
    c.hear_all.result (returns-clause-course g c)
