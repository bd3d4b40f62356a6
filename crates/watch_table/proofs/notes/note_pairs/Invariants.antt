use Rattle.std.proofs.Common.{◌≡◌, drop}
use Rattle.watch_table.specs.Prints.{pairs_texts, texts_noted}
use Rattle.watch_table.proofs.notes.note_pairs.Given as goal

abbrev pub invariant-pairs : goal.invariant-pairs
invariant-pairs l =
    texts_noted l.notes (pairs_texts (drop l.pair-index l.pairs))
    ≡ texts_noted l.initial.notes (pairs_texts l.pairs)
