-- One dot segment less, and the path that begins with none.
use Rattle.std.proofs.Common.{sym, ap, ◌∙◌, refl, rules}
use Rattle.link_model.specs.Characters.{slash}
use Rattle.reference_model.specs.References.{before, begins_with}
use Rattle.reference_model.specs.Resolution.{is_dot_segment}
use Rattle.ref_resolve.proofs.Segments.{leading_more, leading_last, not_leading}
use Rattle.ref_resolve.proofs.dot_segments.without_leading_dots.Goals as goal

pub returns-then-not-is_dot_segment-clause-same : goal.returns-then-not-is_dot_segment-clause-same
returns-then-not-is_dot_segment-clause-same c =
    let none =
    ap is_dot_segment (sym c.split_from.ensures.before)
    ∙ sym c.is_dot_segment.ensures
    ∙ c.if-not-is_dot_segment.true in
    c.segments.invariant.same ∙ not_leading c.segments.rest.now none

pub segments-preserved : goal.segments-preserved
segments-preserved c =
    let dot =
    ap is_dot_segment (sym c.split_from.ensures.before)
    ∙ sym c.is_dot_segment.ensures
    ∙ c.if-not-is_dot_segment.false in
    record {
      utf8 = search rules;
      same =
          c.segments.invariant.same
          ∙ leading_more c.segments.rest.now c.in-Some.next.now dot
          (sym c.split_from.ensures.from ∙ c.in-Some.ensures);
    }

pub returns-in-None-clause-same : goal.returns-in-None-clause-same
returns-in-None-clause-same c =
    let dot =
    ap is_dot_segment (sym c.split_from.ensures.before)
    ∙ sym c.is_dot_segment.ensures
    ∙ c.if-not-is_dot_segment.false in
    c.segments.invariant.same
    ∙ leading_last c.segments.rest.now dot
    (ap (begins_with slash) (sym c.split_from.ensures.from) ∙ c.in-None.ensures)

pub returns-in-None-clause-first : goal.returns-in-None-clause-first
unfolding before
returns-in-None-clause-first c = refl
