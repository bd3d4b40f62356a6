-- A link more stands in both texts.
use Rattle.std.proofs.Common.{rules, refl}
use Rattle.rd_base.proofs.LinkTextLemmas.{with-holds, with-view, with-waiting}
use Rattle.rd_base.proofs.links_builder.LinksBuilder.with_link.Goals as goal

pub invariant_of-result : goal.invariant_of-result
invariant_of-result c = record {
  links =
      rw c.in_ok-push.ensures.items
      (with-holds _ _ _ _ _ _ _ _ _ _ _ _ _ c.in_ok-end.end _ _ _ _ _ _
      (record {
        submitted = c.in_ok-submitted.submitted;
        listed = c.in_ok-shown.shown;
        pairs =
            record { from = c.self.inside.taken; upto = c.in_ok-end.end };
      })
      (search rules) c.self.invariant.links c.self.invariant.waiting c.self.invariant.within
      c.in_ok-separate.ensures (rw c.as_str-written.ensures.value at c.in_ok-submitted.ensures.text)
      c.in_ok-separate-2.ensures
      (rw c.as_str-written.ensures.value at c.in_ok-shown.ensures.text)
      c.in_ok-submitted.ensures.apart c.in_ok-shown.ensures.apart
      (rw c.as_str-written.ensures.value at c.in_ok-submitted.ensures.at)
      (rw c.as_str-written.ensures.value at c.in_ok-shown.ensures.at) refl);
  waiting =
      rw c.clear.ensures.bytes (with-waiting _ _ _ _ _ _ _ _ _ _ _ _ _ c.in_ok-end.end _ _ _ _ _ _
      (record {
        submitted = c.in_ok-submitted.submitted;
        listed = c.in_ok-shown.shown;
        pairs =
            record { from = c.self.inside.taken; upto = c.in_ok-end.end };
      })
      (search rules) c.self.invariant.links c.self.invariant.waiting c.self.invariant.within
      c.in_ok-separate.ensures (rw c.as_str-written.ensures.value at c.in_ok-submitted.ensures.text)
      c.in_ok-separate-2.ensures
      (rw c.as_str-written.ensures.value at c.in_ok-shown.ensures.text)
      c.in_ok-submitted.ensures.apart c.in_ok-shown.ensures.apart
      (rw c.as_str-written.ensures.value at c.in_ok-submitted.ensures.at)
      (rw c.as_str-written.ensures.value at c.in_ok-shown.ensures.at) refl);
  within = search rules;
}

pub returns : goal.returns
returns c =
    rw (c.in_ok-push.ensures.items, c.clear.ensures.bytes, ← c.self.view_is)
    (with-view _ _ _ _ _ _ _ _ _ _ _ _ _ c.in_ok-end.end _ _ _ _ _ _
    (record {
      submitted = c.in_ok-submitted.submitted;
      listed = c.in_ok-shown.shown;
      pairs =
          record { from = c.self.inside.taken; upto = c.in_ok-end.end };
    })
    (search rules) c.self.invariant.links c.self.invariant.waiting c.self.invariant.within
    c.in_ok-separate.ensures (rw c.as_str-written.ensures.value at c.in_ok-submitted.ensures.text)
    c.in_ok-separate-2.ensures (rw c.as_str-written.ensures.value at c.in_ok-shown.ensures.text)
    c.in_ok-submitted.ensures.apart c.in_ok-shown.ensures.apart
    (rw c.as_str-written.ensures.value at c.in_ok-submitted.ensures.at)
    (rw c.as_str-written.ensures.value at c.in_ok-shown.ensures.at) refl)
