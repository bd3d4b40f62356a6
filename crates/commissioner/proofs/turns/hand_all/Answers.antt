use Rattle.std.proofs.Common.{◌≡◌, ◌<◌, length, Result, slice_index_or, slice_set, refl, ◌∙◌, arith}
use Rattle.std.proofs.lemmas.Option.{slice_get-get_or}
use Rattle.registrant.specs.declared.turns.TellFault.{TellFault}
use Rattle.registrant.proofs.TurnLaws.{stays_same, told_stays}
use Rattle.commissioner.specs.Lines.{event_of}
use Rattle.commissioner.specs.Happening.{AreHanded}
use Rattle.commissioner.proofs.EventLaws.{
  handing_first,
  handing_set,
  handing_last,
  handing_fault,
  fault_at,
}
use Rattle.commissioner.proofs.turns.hand_all.Goals as goal

pub lines-init : goal.lines-init
lines-init g c = record {
  handed = λ asks past outcomes are.
      handing_first (event_of c.args.taken) past asks c.args.lines.now outcomes
      (g.L.Link.gone c.args.link.now) (g.L.Link.send_faults c.args.link.now) are;
  coming = stays_same (g.L.Link.coming c.args.link.now);
  receives = refl;
}

pub returns-in_err-hand-clause-handed : goal.returns-in_err-hand-clause-handed
returns-in_err-hand-clause-handed g c = λ asks past outcomes are.
    let line = slice_index_or c.lines.lines c.lines.line-index c.line-item.result in
    let within : c.lines.line-index < length c.lines.lines = omega arith in
    let there = slice_get-get_or c.lines.lines c.lines.line-index c.line-item.result within in
    fault_at c.in_err-hand.field-0.0
    (λ (r : Result Unit TellFault). AreHanded asks past outcomes (event_of c.args.taken) r
    (slice_set c.lines.lines c.lines.line-index c.hand.new.self)
    (g.L.Link.gone c.args.link.now) (g.L.Link.send_faults c.args.link.now)
    (g.L.Link.gone c.hand.new.link) (g.L.Link.send_faults c.hand.new.link))
    c.from_residual.result
    (handing_fault (event_of c.args.taken) past asks c.lines.line-index c.lines.lines
    (slice_set c.lines.lines c.lines.line-index c.hand.new.self) outcomes line c.hand.new.self
    c.in_err-hand.field-0.0
    (g.L.Link.gone c.args.link.now) (g.L.Link.gone c.lines.link) (g.L.Link.gone c.hand.new.link)
    (g.L.Link.send_faults c.args.link.now) (g.L.Link.send_faults c.lines.link)
    (g.L.Link.send_faults c.hand.new.link)
    (c.lines.invariant.handed asks past outcomes are)
    there
    (λ ask j stands. c.in_err-hand.ensures.handed ask j past stands))
    c.from_residual.ensures.1

pub lines-preserved : goal.lines-preserved
lines-preserved g c =
    let line = slice_index_or c.lines.lines c.lines.line-index c.line-item.result in
    let within : c.lines.line-index < length c.lines.lines = omega arith in
    let there = slice_get-get_or c.lines.lines c.lines.line-index c.line-item.result within in
    record {
      handed = λ asks past outcomes are.
          handing_set (event_of c.args.taken) past asks c.lines.line-index _ c.lines.lines outcomes
          line c.hand.new.self
          (g.L.Link.gone c.args.link.now) (g.L.Link.gone c.lines.link)
          (g.L.Link.gone c.hand.new.link)
          (g.L.Link.send_faults c.args.link.now) (g.L.Link.send_faults c.lines.link)
          (g.L.Link.send_faults c.hand.new.link)
          refl
          (c.lines.invariant.handed asks past outcomes are)
          there
          (λ ask j stands. c.in_ok-hand.ensures.handed ask j past stands);
      coming =
          told_stays (λ old new. new ≡ old)
          (g.L.Link.coming c.args.link.now) (g.L.Link.coming c.lines.link)
          (g.L.Link.coming c.hand.new.link)
          c.lines.invariant.coming
          c.hand.ensures.coming;
      receives = c.hand.ensures.receives ∙ c.lines.invariant.receives;
    }

pub returns-clause-handed : goal.returns-clause-handed
returns-clause-handed g c = λ asks past outcomes are.
    handing_last (event_of c.args.taken) past asks c.lines.line-index c.lines.lines outcomes
    (g.L.Link.gone c.args.link.now) (g.L.Link.gone c.lines.link)
    (g.L.Link.send_faults c.args.link.now) (g.L.Link.send_faults c.lines.link)
    (c.lines.invariant.handed asks past outcomes are)
    (omega arith)
