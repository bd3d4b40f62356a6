use Rattle.recording.proofs.runs.do_task.Given as goal

-- each piece lowers the turns of the source
abbrev pub decreases-pieces : goal.decreases-pieces
decreases-pieces g l = g.S.Source.turns l.source
