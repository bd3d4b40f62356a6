use Rattle.std.proofs.Common.{ℕ, ◌+◌, List, take, refl, subst, ◌∙◌}
use Rattle.std.specs.Io.KnownBytes.{Appends}
use Rattle.commission_list.specs.declared.making.PrintFault.TheVariants as unprinted
use Rattle.commission_list.proofs.MakingLaws.{
  outcome_end,
  outcome_here,
  fronted_next,
  fronted_cut,
  fronted_starved,
  fronted_last,
}
use Rattle.commission_list.proofs.making.print_front.Goals as goal

pub returns-in_default-line_of-clause-written : goal.returns-in_default-line_of-clause-written
returns-in_default-line_of-clause-written g c = λ text printed.
    fronted_starved (Unit {0}) unprinted.Starved c.args.outcomes.now text c.outcomes.printed
    (g.K.Sink.holds c.args.out.now) (g.K.Sink.holds c.outcomes.out)
    (c.outcomes.invariant.written text printed)

pub returns-then-not-write_all-clause-written : goal.returns-then-not-write_all-clause-written
returns-then-not-write_all-clause-written g c = λ text printed.
    fronted_cut c.args.outcomes.now text c.outcomes.printed (c.outcomes.printed + 1)
    c.in-Ok.line c.in-Some.outcome.now
    (g.K.Sink.holds c.args.out.now) (g.K.Sink.holds c.outcomes.out)
    (g.K.Sink.holds c.write_all.new.out)
    (c.outcomes.invariant.written text printed)
    (outcome_here c.args.outcomes.now c.outcomes.printed c.outcome_at.result c.in-Some.outcome
    c.outcome_at.ensures c.in-Some.is)
    c.in-Ok.ensures
    refl
    (Unit {0})
    unprinted.Unwritten
    (subst (λ (bytes : List ℕ). (n : ℕ) × Appends (g.K.Sink.holds c.outcomes.out)
    (g.K.Sink.holds c.write_all.new.out) (take n bytes))
    c.as_slice.ensures.value
    c.write_all.ensures.front)

pub outcomes-preserved : goal.outcomes-preserved
outcomes-preserved g c = record {
  written = λ text printed.
      fronted_next c.args.outcomes.now text c.outcomes.printed (c.outcomes.printed + 1)
      c.in-Ok.line c.in-Some.outcome.now
      (g.K.Sink.holds c.args.out.now) (g.K.Sink.holds c.outcomes.out)
      (g.K.Sink.holds c.write_all.new.out)
      (c.outcomes.invariant.written text printed)
      (outcome_here c.args.outcomes.now c.outcomes.printed c.outcome_at.result
      c.in-Some.outcome c.outcome_at.ensures c.in-Some.is)
      c.in-Ok.ensures
      refl
      (c.outcomes.printed + 1)
      refl
      (subst (λ (bytes : List ℕ). Appends (g.K.Sink.holds c.outcomes.out)
      (g.K.Sink.holds c.write_all.new.out) bytes)
      c.as_slice.ensures.value
      (c.if-not-write_all.ensures.all refl));
  counts = c.if-not-write_all.ensures.cause ∙ c.outcomes.invariant.counts;
}

pub returns-clause-written : goal.returns-clause-written
returns-clause-written g c = λ text printed.
    fronted_last (Unit {0}) tt c.args.outcomes.now text c.outcomes.printed
    (g.K.Sink.holds c.args.out.now) (g.K.Sink.holds c.outcomes.out)
    (c.outcomes.invariant.written text printed)
    (outcome_end c.args.outcomes.now c.outcomes.printed c.outcome_at.result
    c.outcome_at.ensures c.in_default.is)
