use Rattle.std.proofs.Common.{List, ℕ, sym, subst}
use Rattle.stream_reader.specs.declared.feeding.Fed.TheVariants as fed
use Rattle.stream_reader.specs.Reading.{GoesOn, IsFed}
use Rattle.stream_registrant.specs.Answers.{request_in}
use Rattle.stream_registrant.specs.Courses.{IsStepped, SessionSeen, Waits, seen}
use Rattle.stream_registrant.specs.Saying.{voice_seen}
use Rattle.stream_registrant.proofs.CourseLaws.{steps_bad, steps_read, steps_whole}
use Rattle.stream_registrant.proofs.sessions.Session.step.Goals as goal

pub returns-in-More-clause-stepped : goal.returns-in-More-clause-stepped
returns-in-More-clause-stepped g c first before waits =
    let r = request_in c.args.pending.now in
    let now : SessionSeen = record {
      held = c.self.inside.reader;
      rest = c.self.inside.piece;
      is_open = c.self.inside.is_open;
    } in
    let waits_here : Waits r first before
    (seen g.S.Source g.K.Sink now c.args.source.now c.args.out.now) =
    subst (λ (s : SessionSeen). Waits r first before
    (seen g.S.Source g.K.Sink s c.args.source.now c.args.out.now)) (sym c.self.view_is) waits in
    subst (λ (s : SessionSeen). IsStepped r first before
    (seen g.S.Source g.K.Sink s c.read.new.source c.args.out.now) c.read.result)
    (sym c.read.ensures.kept)
    (steps_read r first before
    (seen g.S.Source g.K.Sink now c.args.source.now c.args.out.now) c.feed.new.self
    (g.S.Source.left c.read.new.source) (g.S.Source.faults c.read.new.source)
    c.read.new.self.rest c.read.result waits_here
    (λ further. subst (λ (l : List ℕ).
    GoesOn c.self.inside.reader l further fed.More c.feed.new.self) c.octets.ensures
    (c.in-More.ensures.stream further))
    c.read.ensures.read)

pub returns-in-Whole-clause-stepped : goal.returns-in-Whole-clause-stepped
returns-in-Whole-clause-stepped g c first before waits =
    let r = request_in c.args.pending.now in
    let now : SessionSeen = record {
      held = c.self.inside.reader;
      rest = c.self.inside.piece;
      is_open = c.self.inside.is_open;
    } in
    let waits_here : Waits r first before
    (seen g.S.Source g.K.Sink now c.args.source.now c.args.out.now) =
    subst (λ (s : SessionSeen). Waits r first before
    (seen g.S.Source g.K.Sink s c.args.source.now c.args.out.now)) (sym c.self.view_is) waits in
    subst (λ (l : List ℕ). IsStepped r first before
    (seen g.S.Source g.K.Sink (record {
      held = c.feed.new.self;
      rest = l;
      is_open = c.self.inside.is_open;
    }) c.args.source.now c.hear.new.out) c.hear.result)
    (sym c.spend.ensures)
    (steps_whole r first before
    (seen g.S.Source g.K.Sink now c.args.source.now c.args.out.now) c.feed.new.self
    c.in-Whole.count (voice_seen g.K.Sink c.hear.new.out) c.hear.result waits_here
    (subst (λ (l : List ℕ).
    IsFed c.self.inside.reader l (fed.Whole c.in-Whole.count) c.feed.new.self) c.octets.ensures
    c.in-Whole.ensures.taken)
    (λ further. subst (λ (l : List ℕ).
    GoesOn c.self.inside.reader l further (fed.Whole c.in-Whole.count) c.feed.new.self)
    c.octets.ensures (c.in-Whole.ensures.stream further))
    c.hear.ensures)

pub returns-in-Bad-clause-stepped : goal.returns-in-Bad-clause-stepped
returns-in-Bad-clause-stepped g c first before waits =
    let r = request_in c.args.pending.now in
    let now : SessionSeen = record {
      held = c.self.inside.reader;
      rest = c.self.inside.piece;
      is_open = c.self.inside.is_open;
    } in
    let waits_here : Waits r first before
    (seen g.S.Source g.K.Sink now c.args.source.now c.args.out.now) =
    subst (λ (s : SessionSeen). Waits r first before
    (seen g.S.Source g.K.Sink s c.args.source.now c.args.out.now)) (sym c.self.view_is) waits in
    subst (λ (l : List ℕ). IsStepped r first before
    (seen g.S.Source g.K.Sink (record {
      held = c.feed.new.self;
      rest = l;
      is_open = c.self.inside.is_open;
    }) c.args.source.now c.refuse.new.out) c.refuse.result)
    (sym c.spend-in-Bad.ensures)
    (steps_bad r first before
    (seen g.S.Source g.K.Sink now c.args.source.now c.args.out.now) c.feed.new.self
    c.in-Bad.count c.in-Bad.why (voice_seen g.K.Sink c.refuse.new.out) c.refuse.result waits_here
    (subst (λ (l : List ℕ).
    IsFed c.self.inside.reader l (fed.Bad c.in-Bad.count c.in-Bad.why) c.feed.new.self)
    c.octets.ensures c.in-Bad.ensures.taken)
    (λ further. subst (λ (l : List ℕ).
    GoesOn c.self.inside.reader l further (fed.Bad c.in-Bad.count c.in-Bad.why) c.feed.new.self)
    c.octets.ensures (c.in-Bad.ensures.stream further))
    c.refuse.ensures)
