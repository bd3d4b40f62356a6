use Rattle.std.proofs.Common.{List, ℕ}
use Rattle.stream_registrant.specs.Answers.{request_in}
use Rattle.stream_registrant.specs.Courses.{Seen, Waits, seen, source_turns}
use Rattle.stream_registrant.proofs.sessions.Session.hear_all.Given as goal

-- The request still waits.
abbrev pub invariant-steps : goal.invariant-steps
invariant-steps g l = (first : List ℕ) (before : Seen)
    → Waits (request_in l.pending) first before
    (seen g.S.Source g.K.Sink l.initial.self l.initial.source l.initial.out)
    → Waits (request_in l.pending) first before
    (seen g.S.Source g.K.Sink l.self l.source l.out)

abbrev pub decreases-steps : goal.decreases-steps
decreases-steps g l = source_turns g.S.Source l.source l.self
