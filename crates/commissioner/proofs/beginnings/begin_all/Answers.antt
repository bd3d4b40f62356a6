use Rattle.std.proofs.Common.{
  ◌<◌,
  length,
  Result,
  slice_index_or,
  slice_set,
  refl,
  sym,
  ap,
  ◌∙◌,
  arith,
}
use Rattle.std.proofs.lemmas.Option.{slice_get-get_or}
use Rattle.rd_base.specs.declared.out_of_memory.Starved.{Starved}
use Rattle.registrant.specs.Turns.{seen}
use Rattle.commissioner.specs.Happening.{AreBegun}
use Rattle.commissioner.proofs.BeginLaws.{
  begins_can,
  begins_set,
  begins_not,
  begins_lost,
  starved_at,
  there_some,
}
use Rattle.commissioner.proofs.beginnings.begin_all.Goals.{then-is_due+in_ok-begin, else-is_due}
use Rattle.commissioner.proofs.beginnings.begin_all.Goals as goal

pub begin-requires : goal.begin-requires
begin-requires g c =
    let told =
    seen g.L.Link.coming g.L.Link.gone g.L.Link.recv_faults g.L.Link.send_faults
    g.C.Clock.times g.C.Clock.words in
    let line = slice_index_or c.lines.lines c.lines.at c.index-lines-at.result in
    let within : c.lines.at < length c.lines.lines = omega arith in
    let there = slice_get-get_or c.lines.lines c.lines.at c.index-lines-at.result within in
    begins_can c.requires.0 c.requires.1 c.requires.2 c.lines.at c.lines.lines line
    (told c.args.link.now c.args.clock.now) (told c.lines.link c.lines.clock)
    (c.lines.invariant.begun c.requires.0 c.requires.1 c.requires.2 c.requires.3)
    there
    (sym (c.is_due.ensures line there) ∙ c.if-is_due.true)

pub returns-in_err-begin-clause-begun : goal.returns-in_err-begin-clause-begun
returns-in_err-begin-clause-begun g c = λ asks past outcomes are.
    let told =
    seen g.L.Link.coming g.L.Link.gone g.L.Link.recv_faults g.L.Link.send_faults
    g.C.Clock.times g.C.Clock.words in
    starved_at c.in_err-begin.field-0.0
    (λ (r : Result Unit Starved). AreBegun asks past outcomes r
    (slice_set c.lines.lines c.lines.at c.begin.new.self)
    (told c.args.link.now c.args.clock.now)
    (told c.begin.new.link c.begin.new.clock))
    c.from_residual.result
    (λ f. begins_lost asks past outcomes c.lines.at c.lines.lines
    (slice_set c.lines.lines c.lines.at c.begin.new.self) f
    (told c.args.link.now c.args.clock.now)
    (told c.lines.link c.lines.clock)
    (told c.begin.new.link c.begin.new.clock)
    (c.lines.invariant.begun asks past outcomes are)
    c.in_err-begin.ensures.err)
    c.from_residual.ensures.1

pub lines-preserved : goal.lines-preserved
lines-preserved g c =
    let told =
    seen g.L.Link.coming g.L.Link.gone g.L.Link.recv_faults g.L.Link.send_faults
    g.C.Clock.times g.C.Clock.words in
    elim c.if-is_due.branch [
      | then-is_due+in_ok-begin w ↦ record {
        begun = λ asks past outcomes are.
            let line = slice_index_or c.lines.lines c.lines.at w.index-lines-at.result in
            let within : c.lines.at < length c.lines.lines = omega arith in
            let there =
            slice_get-get_or c.lines.lines c.lines.at w.index-lines-at.result within in
            begins_set asks past outcomes c.lines.at _ c.lines.lines c.if-is_due.lines line
            w.begin.new.self
            (told c.args.link.now c.args.clock.now)
            (told c.lines.link c.lines.clock)
            (told w.begin.new.link w.begin.new.clock)
            (told c.if-is_due.link c.if-is_due.clock)
            refl
            w.lines-is
            (rw (w.link-is, w.clock-is) refl)
            (c.lines.invariant.begun asks past outcomes are)
            there
            (sym (c.is_due.ensures line there) ∙ w.if-is_due.true)
            w.in_ok-begin.ensures.ok;
        receives =
            ap g.L.Link.recv_faults w.link-is
            ∙ (w.begin.ensures.receives ∙ c.lines.invariant.receives);
      }
      | else-is_due w ↦ record {
        begun = λ asks past outcomes are.
            let within : c.lines.at < length c.lines.lines = omega arith in
            let t = there_some c.lines.lines c.lines.at within in
            begins_not asks past outcomes c.lines.at _ c.lines.lines c.if-is_due.lines t.0
            (told c.args.link.now c.args.clock.now)
            (told c.lines.link c.lines.clock)
            (told c.if-is_due.link c.if-is_due.clock)
            refl
            w.lines-is
            (rw (w.link-is, w.clock-is) refl)
            (c.lines.invariant.begun asks past outcomes are)
            t.1
            (sym (c.is_due.ensures t.0 t.1) ∙ w.if-is_due.false);
        receives = ap g.L.Link.recv_faults w.link-is ∙ c.lines.invariant.receives;
      }
    ]
