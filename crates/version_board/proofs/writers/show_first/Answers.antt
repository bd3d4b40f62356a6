use Rattle.std.proofs.Common.{◌≡◌, ◌≢◌, false, sym, refl, ap, ◌∙◌, ⊎_elim}
use Rattle.std.specs.Prelude.{is_ok}
use Rattle.std.specs.List.{fold}
use mathlib.Core.Option.{some}
use lib.ListN.{get_elem?}
use Rattle.atomic_table.proofs.Lists.{at_set}
use Rattle.version_board.specs.Contents.{content_of}
use Rattle.version_board.specs.Names.{name_of, knowing}
use Rattle.version_board.specs.declared.published.Published.{Published}
use Rattle.version_board.specs.declared.published.Content.{Content}
use Rattle.version_board.proofs.Tries.{at_err}
use Rattle.version_board.proofs.writers.show_first.Goals as goal

pub publish_as-next-requires : goal.publish_as-next-requires
publish_as-next-requires g c next e views h at =
    let w = c.tries.writer in
    let inv = c.tries.invariant in
    let pending = c.requires.pending in
    let me = knowing (name_of next.front.book) in
    let content : content_of next ≡ content_of pending.0 =
    e
    ∙ ap (fold (λ (x : Content) (o : Published). content_of o) (content_of w.desk.shown.value))
    (inv.3 ∙ pending.1) in
    let shown : knowing (name_of w.desk.shown.value.front.book) ≡ me =
    ap (λ (x : Published). knowing (name_of x.front.book)) inv.2
    ∙ ap (λ (x : Content). knowing x.name) (sym pending.2 ∙ sym content) in (
      me,
      (λ j u q k. ⊎_elim
          (λ (t : (j ≡ w.desk.place.id) × (me ≡ u)). sym t.1)
          (λ (t : (j ≢ w.desk.place.id) × (get_elem? views j ≡ some u)). h j u t.1 k ∙ shown)
          (at_set views w.desk.place.id j me u q)),
      refl,
    )

pub tries-preserved : goal.tries-preserved
tries-preserved g c =
    let inv = c.tries.invariant in
    let err : is_ok c.publish_as-next.result.1 ≡ false =
    sym c.is_ok.ensures.value ∙ c.if-is_ok.false in
    let kept = at_err c.publish_as-next.result.1 _ _ c.publish_as-next.ensures.values err in
    (tt, tt, kept.0 ∙ inv.2, kept.1 ∙ inv.3)
