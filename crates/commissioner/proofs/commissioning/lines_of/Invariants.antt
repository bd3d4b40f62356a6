use Rattle.std.proofs.Common.{◌≡◌, ◌≤◌, ◌++◌, List, [], length, vec_capacity}
use Rattle.std.specs.List.{All}
use Rattle.std.specs.Vec.Iter.{into_iter_items}
use Rattle.client_model.specs.declared.asks.Ask.{Ask}
use Rattle.client_model.specs.Requests.{CanBeSent}
use Rattle.commissioner.specs.Happening.{AreOpen}
use Rattle.commissioner.proofs.commissioning.lines_of.Given as goal

abbrev pub invariant-asks : goal.invariant-asks
invariant-asks l = record {
  begun : List Ask;
  all : begun ++ into_iter_items l.ask-iterator ≡ l.fn.asks;
  sent : All CanBeSent (into_iter_items l.ask-iterator);
  kept : AreOpen [] begun 0 l.lines.items l.outcomes.items;
  counted : length l.lines.items ≡ length begun;
  counted_too : length l.outcomes.items ≡ length begun;
  room : length l.fn.asks ≤ vec_capacity l.lines;
  room_too : length l.fn.asks ≤ vec_capacity l.outcomes;
}
