use Rattle.std.proofs.Common.{rules, ◌∙◌}
use Rattle.trace_replay.proofs.WordLaws.{found-asked}
use Rattle.trace_replay.proofs.words.asked_read.Goals as goal

pub returns : goal.returns
returns c = c.words_in.ensures ∙ found-asked c.args.asked c.in-Ok.matches c.requires
    (c.in-Ok.ensures c.args.asked (search rules))
