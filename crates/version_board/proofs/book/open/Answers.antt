use Rattle.std.proofs.Common.{rules}
use Rattle.history_model.specs.Replay.{counted}
use Rattle.version_board.proofs.book.open.Goals as goal

pub open-front-requires : goal.open-front-requires
unfolding counted
open-front-requires c = search rules
