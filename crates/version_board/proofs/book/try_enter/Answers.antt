use Rattle.std.proofs.Common.{sym, ◌∙◌, ap}
use Rattle.version_board.proofs.Steps.{enters_moves}
use Rattle.version_board.proofs.book.try_enter.Goals as goal

pub compare_exchange-requires : goal.compare_exchange-requires
compare_exchange-requires g c =
    let head = c.requires.head in
    let offer = c.plain-offer.ensures in
    let pen = c.no_pen-pen.ensures in (
      ap (λ w. w.tracked) head,
      sym (ap (λ w. w.book) head),
      pen.0 ∙ sym (ap (λ w. w.book) head),
      offer.0,
      rw (ap (λ w. w.key) head, pen.1, offer.1, offer.3)
          (enters_moves c.args.front.now.log g.E.Entering.entered c.args.old c.args.new
          (sym c.requires.old) c.requires.new),
    )
