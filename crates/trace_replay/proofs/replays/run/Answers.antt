use Rattle.trace_replay.proofs.replays.run.Goals as goal

pub returns-clause-written : goal.returns-clause-written
returns-clause-written g c = c.run_in.ensures.written c.args.workers c.in-Ok.ensures
