use Rattle.std.proofs.Common.{◌≡◌, length}
use Rattle.watch_table.specs.Prints.{pairs_texts, texts_noted}
use Rattle.watch_table.proofs.notes.note_link_pairs.Given as goal

abbrev pub invariant-pairs : goal.invariant-pairs
invariant-pairs l =
    texts_noted l.notes (pairs_texts l.left)
    ≡ texts_noted l.initial.notes (pairs_texts l.fn.pairs)

abbrev pub decreases-pairs : goal.decreases-pairs
decreases-pairs l = length l.left
