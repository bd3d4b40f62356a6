use Rattle.stream_reader.proofs.frames.frame_behind.Goals as goal

pub returns-clause-options : goal.returns-clause-options
returns-clause-options c = c.in_ok-options.ensures.alone
