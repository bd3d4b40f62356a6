use Rattle.std.proofs.Common.{ℕ, List, length}
use Rattle.journal_model.specs.declared.rows.Row.{Row}
use Rattle.trace_replay.specs.MadeRuns.{IsCountedAt}
use Rattle.trace_replay.proofs.MadeCounts.{Led}
use Rattle.trace_replay.proofs.made.Count.do_lines.Given as goal

-- the lines so far were done and counted
abbrev pub invariant-lines : goal.invariant-lines
invariant-lines l =
    (workers : ℕ) (rows : List Row) (lines : ℕ)
    → IsCountedAt workers rows lines l.fn.self
    → Led workers rows lines l.trace l.rest l.self

abbrev pub decreases-lines : goal.decreases-lines
decreases-lines l = length l.rest
