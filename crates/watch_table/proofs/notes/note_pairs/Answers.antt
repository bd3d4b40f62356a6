use Rattle.std.proofs.Common.{ap₂, ◌∙◌, arith}
use Rattle.watch_table.specs.Prints.{texts_noted, value_texts}
use Rattle.watch_table.proofs.NoteLaws.{pairs_next}
use Rattle.watch_table.proofs.notes.note_pairs.Goals as goal

pub pairs-preserved : goal.pairs-preserved
pairs-preserved c =
    let end = c.pairs.auto.pair-index-end in
    let inside = c.pairs-test.true in
    pairs_next c.args.pairs.now c.pairs.pair-index c.pair-item.result c.pairs.notes
    c.note_value.new.notes (omega (arith, end, inside)) c.pair-item.is
    (c.note_value.ensures
    ∙ ap₂ (λ name value. texts_noted c.pairs.notes (value_texts name value)) c.as_str.ensures
    c.as_str-in-pairs.ensures)
    ∙ c.pairs.invariant
