use Rattle.std.proofs.Common.{length, sym, ap, ◌∙◌, arith}
use Rattle.std.specs.Vec.Iter.{into_iter_items}
use Rattle.transfers.specs.Keeping.{used, kept_each, values}
use Rattle.transfers.proofs.KeptLists.{kept_each-next, none_left}
use Rattle.transfers.proofs.caching.keep_each.Goals as goal

pub answers-preserved : goal.answers-preserved
answers-preserved c =
    let before = c.answers.invariant in
    let counted = before.counted in
    let left = ap length c.in-Some.ensures.steps.0 in
    record {
      answers =
          ap (kept_each c.args.now.0 (into_iter_items c.next.new.self))
          (c.in_ok-keep.ensures.answers
          ∙ ap (λ x. used x (values c.answers.cache.entries)) c.in_ok-kept.ensures)
          ∙ (sym (kept_each-next c.args.now.0 c.in-Some.answer (into_iter_items c.next.new.self)
          (values c.answers.cache.entries))
          ∙ (ap (λ more. kept_each c.args.now.0 more (values c.answers.cache.entries))
          (sym c.in-Some.ensures.steps.0)
          ∙ before.answers));
      numbers = c.in_ok-keep.ensures.numbers;
      counted = omega (arith, counted, left);
      room = c.in_ok-keep.ensures.room ∙ before.room;
    }

pub returns-clause-answers : goal.returns-clause-answers
returns-clause-answers c =
    let none = c.in-None.ensures.steps.0 in
    let ok = c.answers.answer-iterator.rest.ok.0 in
    none_left c.args.now.0 (into_iter_items c.answers.answer-iterator)
    (values c.answers.cache.entries) (omega (arith, none, ok))
    ∙ c.answers.invariant.answers
