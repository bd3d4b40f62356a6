use Rattle.std.proofs.Common.{◌≡◌, false, sym, ◌∙◌, rules}
use Rattle.observation.proofs.MarkLaws.{none_marked, unmarked_same, unmarked_handed}
use Rattle.observation.proofs.marks.hand_on.Goals as goal

pub returns-then-not-any_marked-clause-due : goal.returns-then-not-any_marked-clause-due
returns-then-not-any_marked-clause-due c =
    let none : c.any_marked.result ≡ false = search rules in
    sym (unmarked_handed c.args.watches.now c.args.observers.now
    (none_marked c.args.watches.now (sym c.any_marked.ensures ∙ none)))

pub returns-then-not-any_marked-clause-cleared : goal.returns-then-not-any_marked-clause-cleared
returns-then-not-any_marked-clause-cleared c =
    let none : c.any_marked.result ≡ false = search rules in
    sym (unmarked_same c.args.watches.now
    (none_marked c.args.watches.now (sym c.any_marked.ensures ∙ none)))
