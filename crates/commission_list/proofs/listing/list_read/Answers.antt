use Rattle.std.proofs.Common.{
  ◌≡◌,
  ◌++◌,
  ◌∷◌,
  [],
  ℕ,
  sym,
  ap,
  subst,
  ◌∙◌,
  arith,
}
use Rattle.std.specs.List.{All}
use Rattle.std.proofs.lemmas.List.Elements.{All-push}
use Rattle.line_model.specs.Texts.{lines_of}
use Rattle.client_model.specs.Requests.{CanBeSent}
use Rattle.commission_list.specs.Lists.{asks_from, listed}
use Rattle.commission_list.proofs.ListLaws.{
  in_front,
  judged_next,
  judged_all,
  was_pushed,
  one_more,
  none_left,
}
use Rattle.commission_list.proofs.listing.list_read.Goals as goal

pub lines-preserved : goal.lines-preserved
lines-preserved c =
    let after = c.push.new.self in
    let added =
    was_pushed (after ≡ c.lines.asks ++ c.in-Ok.ask ∷ []) c.push.result c.push.ensures.ok
    (sym c.if-is_err.ensures.value) in
    let longer = one_more c.lines.asks after c.in-Ok.ask added in
    let next = c.in-Some.ensures.1 in
    let counted = c.lines.invariant.counted in
    let few = c.in-Ok.ensures.few in
    record {
      judged =
          judged_next c.lines.asks after c.lines.number c.first_line.result.0.now
          (lines_of c.lines.left.now) (lines_of c.first_line.result.1.now) c.in-Ok.ask
          (listed c.args.text.now)
          c.first_line.ensures.lines
          c.in-Ok.ensures.exact
          added
          c.lines.invariant.judged
          ∙ ap (λ (n : ℕ). in_front after
          (asks_from n (lines_of c.first_line.result.1.now))) (sym next);
      sent =
          subst (All CanBeSent) (sym added)
          (All-push CanBeSent c.lines.asks c.in-Ok.ask c.lines.invariant.sent
          c.in-Ok.ensures.sent);
      counted = omega (arith, longer, next, counted);
      few = omega (arith, longer, counted, few);
    }

pub returns-clause-exact : goal.returns-clause-exact
returns-clause-exact c =
    judged_all c.lines.asks c.lines.number c.lines.left.now (listed c.args.text.now)
    (none_left c.lines.left.now c.lines-test.ensures)
    c.lines.invariant.judged
