use Rattle.std.proofs.Common.{◌≡◌, length}
use denote.Text.{Utf8}
use denote.Shadow.{shadow}
use Rattle.record_model.specs.Matching as model
use Rattle.watch_table.specs.Prints.{texts_noted}
use Rattle.watch_table.proofs.notes.note_parts.Given as goal

abbrev pub invariant-parts : goal.invariant-parts
invariant-parts l = record {
  text : shadow (Utf8 l.rest);
  noted :
      texts_noted l.notes (model.parts_of l.rest)
      ≡ texts_noted l.initial.notes (model.parts_of l.value);
}

abbrev pub decreases-parts : goal.decreases-parts
decreases-parts l = length l.rest
