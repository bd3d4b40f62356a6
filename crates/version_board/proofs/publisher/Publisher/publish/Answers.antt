use Rattle.std.proofs.Common.{rules}
use Rattle.history_model.proofs.ReplayLaws.{counted_push}
use Rattle.version_board.proofs.publisher.Publisher.publish.Goals as goal

pub enter-requires-clause-new : goal.enter-requires-clause-new
enter-requires-clause-new g c =
    search (rules, counted_push 0 c.args.self.now.told g.E.Entering.entered)
