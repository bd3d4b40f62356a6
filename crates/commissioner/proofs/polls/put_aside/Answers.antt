use Rattle.std.proofs.Common.{◌<◌, ◌+◌, is_some, length, refl, ap, ◌∙◌, arith}
use Rattle.commissioner.specs.declared.lines.Line.{Line}
use Rattle.commissioner.proofs.AsideLaws.{
  one_there,
  none_next,
  none_here,
  none_kept,
  there_at,
  number_below,
  aside_put,
  aside_keeps,
  keeps_same,
  all_open,
}
use Rattle.commissioner.proofs.polls.put_aside.Goals as goal

pub lines-init : goal.lines-init
lines-init c = record {
  none = tt;
  kept = λ asks past are. are;
  keeps = keeps_same c.args.outcomes.now;
}

pub lines-preserved-then-is_none : goal.lines-preserved-then-is_none
lines-preserved-then-is_none c =
    let fits = c.lines.lines.ok.0 in
    let size = c.len.ensures in
    let test = c.lines-test.true in
    let inside : c.lines.at < length c.lines.lines.items = omega (arith, fits, size, test) in
    record {
      none =
          none_next c.lines.lines.items c.lines.at (c.lines.at + 1) c.index.result.now refl
          (there_at c.lines.lines.items c.lines.at c.index.result.now inside c.index.ensures)
          (none_here c.index.result.now.outcome c.if-is_none.ensures)
          c.lines.invariant.none;
      kept = c.lines.invariant.kept;
      keeps = c.lines.invariant.keeps;
    }

pub settle-requires : goal.settle-requires
settle-requires c =
    let fits = c.lines.lines.ok.0 in
    let size = c.len.ensures in
    let test = c.lines-test.true in
    let inside : c.lines.at < length c.lines.lines.items = omega (arith, fits, size, test) in
    let there =
    there_at c.lines.lines.items c.lines.at c.remove-line.result inside
    c.remove-line.ensures.value in
    number_below c.requires.0 0 c.requires.1 c.lines.lines.items c.lines.outcomes c.lines.at
    c.remove-line.result.number c.remove-line.result
    (c.lines.invariant.kept c.requires.0 c.requires.1 c.requires.2)
    there
    (omega arith)

pub lines-preserved-else-is_none : goal.lines-preserved-else-is_none
lines-preserved-else-is_none c =
    let fits = c.lines.lines.ok.0 in
    let size = c.len.ensures in
    let test = c.lines-test.true in
    let inside : c.lines.at < length c.lines.lines.items = omega (arith, fits, size, test) in
    let there =
    there_at c.lines.lines.items c.lines.at c.remove-line.result inside
    c.remove-line.ensures.value in
    record {
      none =
          none_kept c.lines.lines.items c.remove-line.new.self.items c.lines.at inside
          c.remove-line.ensures.items c.lines.invariant.none;
      kept = λ asks past are.
          aside_put asks past c.lines.lines.items c.remove-line.new.self.items c.lines.outcomes
          c.settle.new.self c.lines.at c.remove-line.result
          (c.lines.invariant.kept asks past are)
          there
          (ap (λ (line : Line). is_some line.outcome)
          (one_there c.lines.lines.items c.lines.at c.remove-line.result c.index.result.now there
          (there_at c.lines.lines.items c.lines.at c.index.result.now inside c.index.ensures))
          ∙ c.if-is_none.ensures)
          c.remove-line.ensures.items
          c.settle.ensures;
      keeps =
          aside_keeps c.args.outcomes.now c.requires.0 c.requires.1 c.lines.lines.items
          c.lines.outcomes c.settle.new.self c.lines.at c.remove-line.result
          c.lines.invariant.keeps
          (c.lines.invariant.kept c.requires.0 c.requires.1 c.requires.2)
          there
          c.settle.ensures;
    }

pub lines-preserved : goal.lines-preserved
lines-preserved c =
    let fits = c.lines.lines.ok.0 in
    let size = c.len.ensures in
    let test = c.lines-test.true in
    let inside : c.lines.at < length c.lines.lines.items = omega (arith, fits, size, test) in
    let there =
    there_at c.lines.lines.items c.lines.at c.remove-line.result inside
    c.remove-line.ensures.value in
    record {
      none =
          none_kept c.lines.lines.items c.remove-line.new.self.items c.lines.at inside
          c.remove-line.ensures.items c.lines.invariant.none;
      kept = λ asks past are.
          aside_put asks past c.lines.lines.items c.remove-line.new.self.items c.lines.outcomes
          c.settle.new.self c.lines.at c.remove-line.result
          (c.lines.invariant.kept asks past are)
          there
          (ap (λ (line : Line). is_some line.outcome)
          (one_there c.lines.lines.items c.lines.at c.remove-line.result c.index.result.now there
          (there_at c.lines.lines.items c.lines.at c.index.result.now inside c.index.ensures))
          ∙ c.if-is_none.ensures)
          c.remove-line.ensures.items
          c.settle.ensures;
      keeps =
          aside_keeps c.args.outcomes.now c.requires.0 c.requires.1 c.lines.lines.items
          c.lines.outcomes c.settle.new.self c.lines.at c.remove-line.result
          c.lines.invariant.keeps
          (c.lines.invariant.kept c.requires.0 c.requires.1 c.requires.2)
          there
          c.settle.ensures;
    }

pub returns-clause-aside : goal.returns-clause-aside
returns-clause-aside c = λ asks past are.
    let fits = c.lines.lines.ok.0 in
    let size = c.len.ensures in
    let test = c.lines-test.false in
    all_open asks 0 past c.lines.lines.items c.lines.outcomes c.lines.at
    (c.lines.invariant.kept asks past are)
    (omega (arith, fits, size, test))
    c.lines.invariant.none
