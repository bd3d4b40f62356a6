use Rattle.std.proofs.Common.{◌≡◌, sym, ◌∙◌}
use Rattle.std.proofs.lemmas.Bool.{true≢false}
use Rattle.std.proofs.lemmas.Slice.Eq.{bytes_eq-Decides}
use Rattle.directory_core.proofs.IndexLaws.{entries_alike, pairs_decided}
use Rattle.directory_core.proofs.index.is_indexed_alike.Goals as goal
use Rattle.directory_core.proofs.index.is_indexed_alike.Goals.{then-eq, else-eq}

pub returns-then-eq-2 : goal.returns-then-eq-2
returns-then-eq-2 c same =
    let old = c.args.old.now in
    let new = c.args.new.now in
    elim c.if-eq.branch [
      | then-eq w ↦
          let base : old.base ≡ new.base =
          (bytes_eq-Decides old.base new.base).0 (sym c.eq.ensures ∙ w.if-eq.true) in
          let attrs : old.attrs ≡ new.attrs =
          (pairs_decided old.attrs new.attrs w.eq-then-eq.result w.eq-then-eq.ensures).0
          (sym w.value-is ∙ c.if-eq-2.true) in
          entries_alike old new c.requires.numbered c.requires.named base attrs
          (c.links_carry_alike.ensures.0 same)
      | else-eq w ↦ absurd (true≢false (sym c.if-eq-2.true ∙ w.value-is ∙ w.if-eq.false))
    ]
