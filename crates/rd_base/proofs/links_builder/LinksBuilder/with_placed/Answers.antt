-- An attribute more waits.
use Rattle.rd_base.proofs.LinkTextLemmas.{pair-holds, pair-view, pair-waiting, pair-within}
use Rattle.rd_base.proofs.links_builder.LinksBuilder.with_placed.Goals as goal

pub invariant_of-result : goal.invariant_of-result
invariant_of-result c = record {
  links =
      rw c.in_ok-push.ensures.items (pair-holds _ _ _ _ _ _ _ _ _ _ _ _ _
      (record { name = c.in_ok-name.name; value = c.in_ok-value.value })
      c.self.invariant.links c.self.invariant.waiting c.self.invariant.within
      c.in_ok-name.ensures.apart c.in_ok-value.ensures.apart
      (rw c.as_str-written.ensures.value at c.in_ok-name.ensures.at)
      (rw c.as_str-written.ensures.value at c.in_ok-value.ensures.at));
  waiting =
      rw c.in_ok-push.ensures.items (pair-waiting _ _ _ _ _ _ _ _ _ _ _ _ _
      (record { name = c.in_ok-name.name; value = c.in_ok-value.value })
      c.self.invariant.links c.self.invariant.waiting c.self.invariant.within
      c.in_ok-name.ensures.apart c.in_ok-value.ensures.apart
      (rw c.as_str-written.ensures.value at c.in_ok-name.ensures.at)
      (rw c.as_str-written.ensures.value at c.in_ok-value.ensures.at));
  within =
      rw c.in_ok-push.ensures.items (pair-within _ _ _ _ _ _ _ _ _ _ _ _ _
      (record { name = c.in_ok-name.name; value = c.in_ok-value.value })
      c.self.invariant.links c.self.invariant.waiting c.self.invariant.within
      c.in_ok-name.ensures.apart c.in_ok-value.ensures.apart
      (rw c.as_str-written.ensures.value at c.in_ok-name.ensures.at)
      (rw c.as_str-written.ensures.value at c.in_ok-value.ensures.at));
}

pub returns : goal.returns
returns c = rw (c.in_ok-push.ensures.items, ← c.self.view_is)
    (pair-view _ _ _ _ _ _ _ _ _ _ _ _ _
    (record { name = c.in_ok-name.name; value = c.in_ok-value.value }) c.self.invariant.links
    c.self.invariant.waiting c.self.invariant.within c.in_ok-name.ensures.apart
    c.in_ok-value.ensures.apart
    (rw c.as_str-written.ensures.value at c.in_ok-name.ensures.at)
    (rw c.as_str-written.ensures.value at c.in_ok-value.ensures.at))
