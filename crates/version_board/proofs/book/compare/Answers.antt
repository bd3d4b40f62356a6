use Rattle.std.proofs.Common.{List, ap, subst}
use mathlib.Core.List.{IsPrefix}
use Rattle.history_model.specs.declared.entries.Entry.{Entry}
use Rattle.version_board.proofs.Fronts.{two_beginnings}
use Rattle.version_board.proofs.book.compare.Goals as goal

pub returns : goal.returns
returns c =
    let both = c.learn.new.self.log in
    let one : IsPrefix c.args.one.now.log both =
    subst (λ (log : List Entry). IsPrefix log both)
    (ap (λ front. front.log) c.again-both.ensures) c.learn.ensures.2 in
    two_beginnings c.args.one.now.log c.args.other.now.log both one c.learn.ensures.3
