use Rattle.std.proofs.Common.{◌≡◌, ℕ, ◌<◌, ◌≤◌, List, ap, subst, rules, arith}
use mathlib.Core.List.{IsPrefix}
use Rattle.history_model.specs.Replay.{counted}
use Rattle.history_model.specs.declared.entries.Entry.{Entry}
use Rattle.version_board.specs.Books.{InOrder}
use Rattle.version_board.proofs.Fronts.{beginning_in_order, shorter_first, swapped}
use Rattle.version_board.proofs.looker.Looker.meet.Goals as goal

pub returns-else-self-entries-clause-order : goal.returns-else-self-entries-clause-order
returns-else-self-entries-clause-order c entries p =
    let seen = c.args.self.now.seen in
    let told = c.args.publisher.now.told in
    let order : InOrder seen told =
    subst (λ (one : List Entry). InOrder one told) (ap (λ l. l.seen) c.self.view_is)
    (subst (λ (other : List Entry). InOrder c.self.inside.front.log other)
    c.front-entries.ensures.told c.compare.ensures) in
    beginning_in_order entries seen told p order

-- what is told and what was seen are in order
in_order : (front seen told log : List Entry)
    → front ≡ seen
    → log ≡ told
    → InOrder front log
    → InOrder seen told
in_order front seen told log a b order =
    subst (λ (one : List Entry). InOrder one told) a
    (subst (λ (other : List Entry). InOrder front other) b order)

pub returns-then-self-entries-clause-seen : goal.returns-then-self-entries-clause-seen
returns-then-self-entries-clause-seen c =
    let seen = c.args.self.now.seen in
    let told = c.args.publisher.now.told in
    let view : c.self.inside.front.log ≡ seen = ap (λ l. l.seen) c.self.view_is in
    let le : counted 0 seen ≤ counted 0 told =
    fewer c.self.inside.entries c.front-entries.result.1 c.self.inside.front.log seen told
    c.self.invariant.2 view c.front-entries.ensures.count c.if-self-entries.true in
    let it : IsPrefix seen told =
    shorter_first seen told
    (in_order c.self.inside.front.log seen told c.front-entries.result.0.now.log view
    c.front-entries.ensures.told c.compare.ensures) le in
    search (rules, it)
  where
    fewer : (mine theirs : ℕ) (front seen told : List Entry)
        → mine ≡ counted 0 front
        → front ≡ seen
        → theirs ≡ counted 0 told
        → mine < theirs
        → counted 0 seen ≤ counted 0 told
    fewer mine theirs front seen told a b d less =
        let same : counted 0 front ≡ counted 0 seen = ap (counted 0) b in
        omega (arith, a, same, d, less)

pub returns-then-self-entries-clause-order : goal.returns-then-self-entries-clause-order
returns-then-self-entries-clause-order c entries p =
    let seen = c.args.self.now.seen in
    let told = c.args.publisher.now.told in
    let view : c.self.inside.front.log ≡ seen = ap (λ l. l.seen) c.self.view_is in
    beginning_in_order entries seen told p
    (in_order c.self.inside.front.log seen told c.front-entries.result.0.now.log view
    c.front-entries.ensures.told c.compare.ensures)

pub returns-else-self-entries-clause-met : goal.returns-else-self-entries-clause-met
returns-else-self-entries-clause-met c =
    let seen = c.args.self.now.seen in
    let told = c.args.publisher.now.told in
    let view : c.self.inside.front.log ≡ seen = ap (λ l. l.seen) c.self.view_is in
    let same : counted 0 c.self.inside.front.log ≡ counted 0 seen = ap (counted 0) view in
    let le : counted 0 told ≤ counted 0 seen =
    search (
      rules,
      c.self.invariant.2,
      c.front-entries.ensures.count,
      c.if-self-entries.false,
      same,
    ) in
    let it : IsPrefix told seen =
    shorter_first told seen
    (swapped seen told
    (in_order c.self.inside.front.log seen told c.front-entries.result.0.now.log view
    c.front-entries.ensures.told c.compare.ensures)) le in
    search (rules, it)
