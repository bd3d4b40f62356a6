use Rattle.distinct_criteria.proofs.DistinctLaws.{
  after_new,
  after_seen,
  all_kept,
  seen_again,
  seen_new,
}
use Rattle.distinct_criteria.proofs.distinct.firsts.Goals as goal

pub criteria-preserved-then-not-branch : goal.criteria-preserved-then-not-branch
criteria-preserved-then-not-branch c = record {
  kept =
      after_seen c.criteria.rest.now c.in-Some.more.now _ c.criteria.seen.keys
      c.criteria.kept.items c.in-Some.criterion c.in_ok-insert.field-0
      c.in-Some.ensures.cases.0 c.criteria.invariant.seen c.in_ok-insert.ensures.added
      c.if-not-branch.true c.criteria.invariant.kept;
  seen =
      seen_again c.criteria.seen.keys c.insert.new.self.keys c.criteria.kept.items
      c.in_ok-insert.field-0 c.if-not-branch.true c.in_ok-insert.ensures.unchanged
      c.criteria.invariant.seen;
}

pub criteria-preserved : goal.criteria-preserved
criteria-preserved c = record {
  kept =
      after_new c.criteria.rest.now c.in-Some.more.now _ c.criteria.seen.keys
      c.criteria.kept.items c.push.new.self.items c.in-Some.criterion
      c.in_ok-insert.field-0 c.in-Some.ensures.cases.0 c.criteria.invariant.seen
      c.in_ok-insert.ensures.added c.if-not-branch.false c.in_ok-push.ensures.items
      c.criteria.invariant.kept;
  seen =
      seen_new c.criteria.seen.keys c.insert.new.self.keys c.criteria.kept.items
      c.push.new.self.items c.in-Some.criterion (λ q. c.in_ok-insert.ensures.updates.0 q)
      c.in_ok-push.ensures.items c.criteria.invariant.seen;
}

pub returns : goal.returns
returns c = all_kept _ c.criteria.rest.now _ c.in_default.ensures.cases c.criteria.invariant.kept
