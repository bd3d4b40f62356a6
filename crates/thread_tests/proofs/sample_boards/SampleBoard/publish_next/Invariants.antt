use Rattle.version_board.specs.Samples.{sample_entry}
use Rattle.thread_tests.proofs.sample_boards.SampleBoard.publish_next.Given as goal

abbrev pub ghosts-publish_at : goal.ghosts-publish_at
ghosts-publish_at g a = record { entered = sample_entry a.now.0 }
