use Rattle.std.proofs.Common.{◌≡◌, ◌∙◌, ◌+◌, ◌-◌, ℕ, List, length, ap, sym, true, arith}
use Rattle.listing.specs.LinkFilters.{sifts}
use Rattle.listing.proofs.StepLaws.{
  counts_link,
  front_stays,
  lines_more,
  none_left,
  none_more,
  shown_after,
  skips_link,
  where_ok,
  writes_link,
}
use Rattle.listing.proofs.parts.append_each.Goals as goal

pub returns-then-to_write-eq0-clause-text : goal.returns-then-to_write-eq0-clause-text
returns-then-to_write-eq0-clause-text c =
    none_more _ _ c.links.to_skip c.links.to_write _ c.if-to_write-eq0.true c.links.invariant.text

pub links-preserved-then-to_skip-gt0 : goal.links-preserved-then-to_skip-gt0
links-preserved-then-to_skip-gt0 c =
    let listed : sifts c.args.link_filter.now c.in-Some.link ≡ true =
    sym c.lists.ensures ∙ c.if-not-lists.false in
    let some : c.links.to_skip ≡ c.links.to_skip - 1 + 1 = omega arith in
    let more =
    lines_more (sifts c.args.link_filter.now) c.in-Some.link c.next.new.self c.links.left
    c.in-Some.ensures.steps listed in
    let shown =
    ap (λ (ls : List (List ℕ)). length ls)
    (shown_after (sifts c.args.link_filter.now) c.in-Some.link c.next.new.self c.links.left
    c.links.to_skip c.links.to_write (c.links.to_skip - 1) c.in-Some.ensures.steps
    listed some) in
    record {
      text =
          skips_link (sifts c.args.link_filter.now) c.in-Some.link c.next.new.self c.links.left
          c.links.into _ c.links.to_skip c.links.to_write (c.links.to_skip - 1)
          c.in-Some.ensures.steps listed some c.links.invariant.text;
      front = c.links.invariant.front;
      few_skipped = omega arith;
      few_written = omega arith;
      skipped = omega arith;
      written = omega arith;
    }

pub links-preserved : goal.links-preserved
links-preserved c =
    let listed : sifts c.args.link_filter.now c.in-Some.link ≡ true =
    sym c.lists.ensures ∙ c.if-not-lists.false in
    let some : c.links.to_write ≡ c.links.to_write - 1 + 1 = omega arith in
    let none : c.links.to_skip ≡ 0 = omega arith in
    let new =
    where_ok c.append_link.result (sym c.is_err.ensures.value ∙ c.if-is_err.false)
    c.append_link.ensures.ok in
    let counted =
    counts_link (sifts c.args.link_filter.now) c.in-Some.link c.next.new.self c.links.left
    c.links.to_skip c.links.to_write (c.links.to_write - 1) c.in-Some.ensures.steps listed
    none some in
    record {
      text =
          writes_link (sifts c.args.link_filter.now) c.in-Some.link c.next.new.self c.links.left
          c.links.into c.append_link.new.into _ c.links.to_skip c.links.to_write
          (c.links.to_write - 1) c.in-Some.ensures.steps listed none some new
          c.links.invariant.text;
      front = front_stays _ c.links.into c.append_link.new.into _ c.links.invariant.front new;
      few_skipped = omega arith;
      few_written = omega arith;
      skipped = omega arith;
      written = omega arith;
    }

pub returns-clause-text : goal.returns-clause-text
returns-clause-text c =
    none_left (sifts c.args.link_filter.now) c.links.left _ _ c.links.to_skip c.links.to_write
    c.in_default.ensures.steps.0 c.links.invariant.text
