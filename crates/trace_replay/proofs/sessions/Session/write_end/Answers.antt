use Rattle.std.proofs.Common.{ℕ, List, take, subst, ◌∙◌}
use Rattle.std.specs.Io.KnownBytes.{Appends}
use Rattle.trace_replay.proofs.sessions.Session.write_end.Goals as goal

pub returns-then-not-write_all-clause-written : goal.returns-then-not-write_all-clause-written
returns-then-not-write_all-clause-written g c = λ workers rows at.
    subst (λ (l : List ℕ).
    (n : ℕ)
    × Appends (g.K.Sink.holds c.args.out.now) (g.K.Sink.holds c.write_all.new.out)
    (take n l)) (c.as_slice.ensures.value ∙ c.in-Ok.ensures workers rows at)
    c.if-not-write_all.ensures.front
