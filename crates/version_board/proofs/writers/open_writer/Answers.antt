use Rattle.std.proofs.Common.{◌∷◌, ◌++◌, [], sym, ap, ◌∙◌}
use Rattle.version_board.specs.Contents.{content_of}
use Rattle.version_board.proofs.Contents.{content_same}
use Rattle.version_board.proofs.Tries.{at_ok}
use Rattle.version_board.proofs.writers.open_writer.Goals as goal

pub show_first-requires : goal.show_first-requires
show_first-requires g c =
    let next = c.in_ok-next.next in
    let copied = c.in_ok-next.ensures in
    let appended =
    at_ok c.append.result _ _ c.append.ensures.pending c.if-is_err.ensures.negation in
    let shown = ap (λ desk. desk.shown.value) c.append.ensures.desk ∙ c.in_ok-writer.ensures.0 in
    record {
      pending = (
        next,
        appended ∙ ap (λ xs. xs ++ next ∷ []) c.in_ok-writer.ensures.1,
        content_same next c.args.first copied.version copied.front ∙ ap content_of (sym shown),
      );
    }
