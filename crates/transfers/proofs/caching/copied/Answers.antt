use Rattle.std.proofs.Common.{ℕ, ◌+◌, ◌<◌, ◌++◌, ◌∷◌, length, sym, ap, subst, ◌∙◌, arith}
use Rattle.lru.specs.LruCache.{LruCache}
use Rattle.event_model.specs.KeptAnswers.{KeptAnswer}
use Rattle.transfers.specs.Keeping.{values, AreBelow}
use Rattle.transfers.proofs.NumberLaws.{put-new, moved-last, length-last, below-later}
use Rattle.transfers.proofs.caching.copied.Goals as goal

pub last-preserved : goal.last-preserved
last-preserved c =
    let before = c.last.invariant in
    let counted = before.counted in
    let few = before.few in
    let left =
    length-last c.last.left c.next_back.new.self (c.in-Some.field-0-0.now, c.in-Some.kept.now)
    c.in-Some.ensures.steps in
    let room : length c.last.copy.entries < 64 = omega (arith, counted, few, left) in
    let new =
    ap (λ (s : LruCache ℕ KeptAnswer). s.entries) c.in_ok-put.ensures.entries
    ∙ put-new c.last.copy c.last.number c.in_ok-share.field-0 before.numbers before.room room in
    let size = ap length new in
    record {
      answers =
          before.answers
          ∙ (moved-last c.last.left c.next_back.new.self c.last.copy.entries
          (c.in-Some.field-0-0.now, c.in-Some.kept.now) c.in-Some.ensures.steps
          ∙ (ap
          (λ (x : KeptAnswer). values c.next_back.new.self ++ (x ∷ values c.last.copy.entries))
          (sym c.in_ok-share.ensures)
          ∙ ap (λ es. values c.next_back.new.self ++ values es) (sym new)));
      numbers =
          subst (AreBelow (c.last.number + 1)) (sym new) (
            omega arith,
            below-later c.last.number (c.last.number + 1) c.last.copy.entries
                (omega arith) before.numbers,
          );
      counted = omega (arith, size, counted);
      few = omega (arith, few, left);
      room = ap (λ (s : LruCache ℕ KeptAnswer). s.cap) c.in_ok-put.ensures.entries ∙ before.room;
    }

pub returns-clause-numbers : goal.returns-clause-numbers
returns-clause-numbers c =
    let few = c.last.invariant.few in
    below-later c.last.number 64 c.last.copy.entries (omega (arith, few)) c.last.invariant.numbers
