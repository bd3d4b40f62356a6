use Rattle.trace_replay.proofs.LastLines.{finished}
use Rattle.trace_replay.proofs.sessions.Session.finish.Goals as goal

pub returns-clause-finished : goal.returns-clause-finished
returns-clause-finished g c workers point at =
    finished workers point c.last_line.new.self _ _ _ _ (c.in_default.ensures.done workers point at)
    (c.write_end.ensures.written workers)
