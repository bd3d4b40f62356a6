use Rattle.std.proofs.Common.{◌≡◌, length, ap, sym, ◌∙◌, subst}
use Rattle.std.specs.Arc.{arc_value, arc_with_value}
use Rattle.chunk_map.specs.Changes.{IsCounted}
use Rattle.chunk_map.specs.Outcomes.{standing}
use Rattle.chunk_map.proofs.ChangeLaws.{changed_alike}
use Rattle.chunk_map.proofs.part.ArcPart.change.Goals as goal

pub returns-in-Some-clause-pairs : goal.returns-in-Some-clause-pairs
returns-in-Some-clause-pairs g c =
    let pairs = g.P.Part.pairs in
    let old : pairs c.in-Some.part.now ≡ pairs (arc_value c.args.self.now) =
    ap pairs c.in-Some.ensures.value in
    let new = arc_with_value c.args.self.now c.change.new.self in
    changed_alike g.K.Ord.cmp (g.C.Change.gives c.args.change) c.args.key.now old
    (sym (c.in_ok-outcome-2.ensures.pairs new)) c.in_ok-outcome.ensures.pairs

pub returns-in-Some-clause-counted : goal.returns-in-Some-clause-counted
returns-in-Some-clause-counted g c =
    let pairs = g.P.Part.pairs in
    let old : pairs c.in-Some.part.now ≡ pairs (arc_value c.args.self.now) =
    ap pairs c.in-Some.ensures.value in
    let new = arc_with_value c.args.self.now c.change.new.self in
    let tally = c.in_ok-outcome.tally in
    subst (λ es.
    IsCounted tally (length es)
    (length (standing (λ b. pairs (arc_value b)) new c.in_ok-outcome-2.outcome))) old
    (subst (λ es. IsCounted tally (length (pairs c.in-Some.part.now)) (length es))
    (sym (c.in_ok-outcome-2.ensures.pairs new)) c.in_ok-outcome.ensures.counted)

pub returns-in-Some-clause-whole : goal.returns-in-Some-clause-whole
returns-in-Some-clause-whole g c =
    c.in_ok-outcome-2.ensures.whole (arc_with_value c.args.self.now c.change.new.self)
    c.in_ok-outcome.ensures.whole

pub returns-clause-whole : goal.returns-clause-whole
returns-clause-whole g c =
    c.in_ok-outcome-4.ensures.whole c.in_ok-self.field-0
    (rw c.in_ok-self.ensures.ok c.in_ok-outcome-3.ensures.whole)
