use Rattle.version_board.specs.Samples.{sample_entry}
use Rattle.version_board.proofs.Sampled.{sample_registers}
use Rattle.rd_bench.proofs.sample_boards.registered.Goals as goal

pub returns-clause-stands : goal.returns-clause-stands
returns-clause-stands c history stands =
    c.in-Ok.ensures.stands 0 history (sample_entry c.args.now.0) stands
    (sample_registers c.args.now c.in_ok-draft.draft c.in_ok-draft.ensures.made)
