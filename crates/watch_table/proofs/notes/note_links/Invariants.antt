use Rattle.std.proofs.Common.{◌≡◌, flat_map, length}
use Rattle.watch_table.specs.Prints.{link_texts, texts_noted}
use Rattle.watch_table.proofs.notes.note_links.Given as goal

abbrev pub invariant-links : goal.invariant-links
invariant-links l =
    texts_noted l.notes (flat_map link_texts l.left)
    ≡ texts_noted l.initial.notes (flat_map link_texts l.fn.links)

abbrev pub decreases-links : goal.decreases-links
decreases-links l = length l.left
