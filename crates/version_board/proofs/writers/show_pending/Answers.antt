use Rattle.std.proofs.Common.{◌≡◌, ◌≢◌, false, sym, refl, ap, ◌∙◌, ⊎_elim}
use Rattle.std.specs.Prelude.{is_ok}
use Rattle.std.specs.List.{fold}
use mathlib.Core.Option.{some}
use lib.ListN.{get_elem?}
use Rattle.atomic_table.proofs.Lists.{at_set}
use Rattle.left_right.specs.Sides.{view}
use Rattle.version_board.specs.Contents.{content_of}
use Rattle.version_board.specs.Names.{name_of, knowing}
use Rattle.version_board.specs.declared.published.Published.{Published}
use Rattle.version_board.specs.declared.published.Content.{Content}
use Rattle.version_board.proofs.Tries.{at_err}
use Rattle.version_board.proofs.writers.show_pending.Goals as goal

pub publish_as-next-requires : goal.publish_as-next-requires
publish_as-next-requires g c next e views h at =
    let w = c.tries.writer in
    let inv = c.tries.invariant in
    let pending = c.requires.pending in
    let me = view w.desk.place in
    let content : content_of next ≡ content_of pending.0 =
    e
    ∙ ap (fold (λ (x : Content) (o : Published). content_of o) (content_of w.desk.shown.value))
    (inv.4 ∙ pending.1) in
    let now : me ≡ knowing (name_of next.front.book) =
    inv.2
    ∙ (c.requires.name ∙ ap knowing (sym pending.2 ∙ sym (ap (λ (x : Content). x.name)
    content))) in (
      me,
      (λ j u q k. ⊎_elim
          (λ (t : (j ≡ w.desk.place.id) × (me ≡ u)). sym t.1 ∙ now)
          (λ (t : (j ≢ w.desk.place.id) × (get_elem? views j ≡ some u)). h j u t.1 k
          ∙ (ap (λ (x : Published). knowing (name_of x.front.book)) inv.3
          ∙ (sym c.requires.name ∙ (sym inv.2 ∙ now))))
          (at_set views w.desk.place.id j me u q)),
      refl,
    )

pub tries-preserved : goal.tries-preserved
tries-preserved g c =
    let inv = c.tries.invariant in
    let err : is_ok c.publish_as-next.result.1 ≡ false =
    sym c.is_ok.ensures.value ∙ c.if-is_ok.false in
    let kept = at_err c.publish_as-next.result.1 _ _ c.publish_as-next.ensures.values err in
    let same = at_err c.publish_as-next.result.1 _ _ c.publish_as-next.ensures.rule err in
    (tt, tt, same ∙ inv.2, kept.0 ∙ inv.3, kept.1 ∙ inv.4)
