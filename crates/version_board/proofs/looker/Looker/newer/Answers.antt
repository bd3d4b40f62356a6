use Rattle.std.proofs.Common.{◌≤◌, List, ap, subst, rules}
use Rattle.history_model.specs.declared.entries.Entry.{Entry}
use Rattle.history_model.specs.Replay.{counted}
use Rattle.version_board.specs.Books.{InOrder}
use Rattle.version_board.proofs.Fronts.{shorter_first}
use Rattle.version_board.proofs.looker.Looker.newer.Goals as goal

-- what is shown has as many entries at least, and is in order with what was seen
pub returns-clause-seen : goal.returns-clause-seen
returns-clause-seen c =
    let seen = c.args.self.now.seen in
    let shown = c.in-Some-2.shown.front.log in
    let order : InOrder seen shown = subst (λ (one : List Entry). InOrder one shown)
    (ap (λ l. l.seen) c.self.view_is) c.compare.ensures in
    let le : counted 0 seen ≤ counted 0 shown = search (
      rules,
      c.entries-entries.ensures,
      c.deref.ensures,
      c.in-Some-2.shown.stands.entries,
      c.if-entries-self.false,
      c.self.invariant.2,
    ) in
    shorter_first seen shown order le
