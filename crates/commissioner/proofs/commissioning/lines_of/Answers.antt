use Rattle.std.proofs.Common.{
  ◌≡◌,
  ◌+◌,
  ◌∷◌,
  ◌++◌,
  [],
  List,
  length,
  sym,
  ap,
  subst,
  ◌∙◌,
  arith,
  append_assoc,
  length-append,
  ℕ,
}
use Rattle.std.specs.List.{All}
use Rattle.std.proofs.lemmas.List.Elements.{All-head, All-tail}
use Rattle.std.specs.Vec.Iter.{into_iter_items}
use Rattle.client_model.specs.declared.asks.Ask.{Ask}
use Rattle.client_model.specs.Requests.{CanBeSent}
use Rattle.commissioner.proofs.MadeLaws.{lines_next}
use Rattle.commissioner.proofs.commissioning.lines_of.Goals as goal

longer_by : {A : Type 0} (xs : List A) (x : A) → length (xs ++ x ∷ []) ≡ length xs + 1
longer_by xs x = length-append xs (x ∷ [])

pub asks-init : goal.asks-init
asks-init c =
    let all =
    c.into_iter-ask-iterator.ensures.into_iter_gives.0 ∙ c.into_vec-ask-items.ensures in
    let value = c.len.ensures.value in
    let value_too = c.len-2.ensures.value in
    let exact = c.in-Ok.ensures.exact in
    let exact_too = c.in-Ok-with_capacity.ensures.exact in
    record {
      begun = [];
      all = all;
      sent = subst (λ (asks : List Ask). All CanBeSent asks) (sym all) c.requires.sent;
      kept = (c.in-Ok.ensures.items, c.in-Ok-with_capacity.ensures.items);
      counted = ap length c.in-Ok.ensures.items;
      counted_too = ap length c.in-Ok-with_capacity.ensures.items;
      room = omega (arith, value, exact);
      room_too = omega (arith, value_too, exact_too);
    }

pub asks-preserved : goal.asks-preserved
asks-preserved c =
    let before = c.asks.invariant in
    let ask = c.in-Some.ask in
    let rest = into_iter_items c.next.new.self in
    let step : into_iter_items c.asks.ask-iterator ≡ ask ∷ rest = c.in-Some.ensures.steps.0 in
    let sent : All CanBeSent (ask ∷ rest) =
    subst (λ (asks : List Ask). All CanBeSent asks) step before.sent in
    let counted = before.counted in
    let counted_too = before.counted_too in
    let whole = c.asks.lines.ok.0 in
    let number = c.len-in-asks.ensures in
    let items = ap length c.push_reserved.ensures.items in
    let items_too = ap length c.push_reserved-in-asks.ensures.items in
    let longer : length (before.begun ++ ask ∷ []) ≡ length before.begun + 1 =
    length-append before.begun (ask ∷ []) in
    let longer_lines = length-append c.asks.lines.items (c.of.result ∷ []) in
    let room = before.room in
    let room_too = before.room_too in
    let capacity = c.push_reserved.ensures.capacity in
    let capacity_too = c.push_reserved-in-asks.ensures.capacity in
    record {
      begun = before.begun ++ ask ∷ [];
      all =
          append_assoc before.begun (ask ∷ []) rest
          ∙ (ap (λ (asks : List Ask). before.begun ++ asks) (sym step) ∙ before.all);
      sent = All-tail CanBeSent ask rest sent;
      kept =
          lines_next before.begun ask c.len-in-asks.result c.of.result c.asks.lines.items
          c.push_reserved.new.self.items c.asks.outcomes.items
          c.push_reserved-in-asks.new.self.items
          before.kept
          (All-head CanBeSent ask rest sent)
          (omega (arith, number, whole, counted))
          c.of.ensures
          c.push_reserved.ensures.items
          c.push_reserved-in-asks.ensures.items;
      counted = omega (arith, items, longer, longer_lines, counted);
      counted_too =
          items_too ∙ (longer_by c.asks.outcomes.items _ ∙ (ap (λ (n : ℕ). n + 1) counted_too
          ∙ sym longer));
      room = omega (arith, room, capacity);
      room_too = omega (arith, room_too, capacity_too);
    }
