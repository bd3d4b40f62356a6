use Rattle.trace_replay.proofs.ReplayLaws.{stopped, failed, done, unfinished}
use Rattle.trace_replay.specs.Sessions.{start}
use Rattle.trace_replay.proofs.replays.run_in.Goals as goal

pub returns-in-Failed-clause-written : goal.returns-in-Failed-clause-written
returns-in-Failed-clause-written g c workers at =
    let r = c.in-Failed.ensures.read workers start at in
    failed workers _ _ r.0 c.read_all.new.session _ _ r.1 r.2

pub returns-in-Stopped-clause-written : goal.returns-in-Stopped-clause-written
returns-in-Stopped-clause-written g c workers at =
    let r = c.in-Stopped.ensures.read workers start at in
    rw c.status_of.ensures
    (stopped workers _ _ r.0 c.read_all.new.session _ _ c.in-Stopped.stop r.1 r.2)

pub returns-in-None-clause-written : goal.returns-in-None-clause-written
returns-in-None-clause-written g c workers at =
    let r = c.in-End.ensures.read workers start at in
    done workers _ _ r.0 c.read_all.new.session _ _ _ r.1 r.2.1 r.2.0
    (c.in-None.ensures.finished workers r.2.0.next r.2.0.at)

pub returns-in-None-clause-all_read : goal.returns-in-None-clause-all_read
returns-in-None-clause-all_read g c =
    λ done. (c.in-End.ensures.read c.requires.0 start c.requires.1).2.1

pub returns-in-Some-clause-written : goal.returns-in-Some-clause-written
returns-in-Some-clause-written g c workers at =
    let r = c.in-End.ensures.read workers start at in
    rw c.status_of-in-Some.ensures
    (unfinished workers _ _ r.0 c.read_all.new.session _ _ _ c.in-Some.stop r.1 r.2.1 r.2.0
    (c.in-Some.ensures.finished workers r.2.0.next r.2.0.at))

pub finish-requires : goal.finish-requires
finish-requires g c =
    let r = c.in-End.ensures.read c.requires.0 start c.requires.1 in
    (c.requires.0, r.2.0.next, r.2.0.at)
