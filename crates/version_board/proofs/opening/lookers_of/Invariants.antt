use Rattle.std.proofs.Common.{◌≡◌, drop, replicate}
use Rattle.left_right.specs.Sides.{view}
use Rattle.version_board.specs.Names.{name_of}
use Rattle.version_board.specs.Ends.{new_looker}
use Rattle.version_board.proofs.opening.lookers_of.Given as goal

abbrev pub invariant-lookers : goal.invariant-lookers
invariant-lookers l = record {
  view : view l.writer.desk.place ≡ view l.fn.writer.desk.place;
  shown : l.writer.desk.shown ≡ l.fn.writer.desk.shown;
  pending : drop l.writer.behind l.writer.log.items ≡ drop l.fn.writer.behind l.fn.writer.log.items;
  made : l.made.items ≡ replicate l.counter (new_looker (name_of l.front.book));
}
