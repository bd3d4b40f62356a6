use Rattle.std.proofs.Common.{sym, ap, ◌∙◌}
use Rattle.version_board.specs.Names.{name_of}
use Rattle.version_board.proofs.writers.show.Goals as goal

pub show_pending-requires-clause-pending : goal.show_pending-requires-clause-pending
show_pending-requires-clause-pending g c = (
  c.args.next,
  c.append.ensures.pending,
  c.requires.same
      ∙ ap (λ desk. name_of desk.shown.value.front.book) (sym c.append.ensures.desk),
)
