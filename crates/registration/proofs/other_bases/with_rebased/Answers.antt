use Rattle.std.proofs.Common.{ℕ, List, option_map, ap, ◌∙◌}
use Rattle.rd_base.specs.PairRefs.{text_seen}
use Rattle.registration.proofs.ReferenceLaws.{adds_rebased}
use Rattle.registration.proofs.other_bases.with_rebased.Goals as goal

pub returns : goal.returns
returns c =
    adds_rebased c.args.base.now c.args.link.now c.args.builder c.in_ok-with_pairs_of.field-0 _ _ _
    _ _ _ c.requires.waits c.in_ok-with_pairs_of.ensures c.target_ref-target_ref.ensures
    c.anchor_ref-anchor_ref.ensures
    (rw c.as_str-target.ensures.value c.in_ok-refer_again.ensures)
    c.in_ok-refer_where_present.ensures (c.written-anchor.ensures
    ∙ ap (λ (w : List ℕ).
    option_map (λ (_ : List ℕ). w) (text_seen c.anchor_ref-anchor_ref.result))
    c.as_str.ensures.value) c.in_ok-builder.ensures
