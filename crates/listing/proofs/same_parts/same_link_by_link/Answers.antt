-- Links that are alike are left out; the first that is listed of each decides, or both are left
-- out.
use Rattle.std.proofs.Common.{◌∙◌}
use Rattle.record_model.specs.ListingLines.{same_lines, link_line}
use Rattle.listing.specs.ListedLinks.{lines_by}
use Rattle.listing.specs.LinkFilters.{sifts}
use Rattle.listing.proofs.AlikeLaws.{lines_end, line_missing, line_differs, line_same}
use Rattle.listing.proofs.same_parts.same_link_by_link.Goals as goal

pub returns-in-None : goal.returns-in-None
returns-in-None c =
    let whole =
    c.after_alike-old_left.ensures.same (sifts c.args.old.now) (sifts c.args.new.now)
    c.requires.together
    ∙ c.links.invariant in
    lines_end (sifts c.args.new.now) c.after_alike-old_left.result.1 c.first_listed-new_first.result
    (lines_by (sifts c.args.old.now) c.after_alike-old_left.result.0) c.is_none.result
    (same_lines (lines_by (sifts c.args.old.now) c.args.old_items.now)
    (lines_by (sifts c.args.new.now) c.args.new_items.now)) c.in-None.ensures
    c.first_listed-new_first.ensures c.is_none.ensures whole

pub returns-in-None-new_first : goal.returns-in-None-new_first
returns-in-None-new_first c =
    let whole =
    c.after_alike-old_left.ensures.same (sifts c.args.old.now) (sifts c.args.new.now)
    c.requires.together
    ∙ c.links.invariant in
    line_missing (lines_by (sifts c.args.old.now) c.after_alike-old_left.result.0)
    (lines_by (sifts c.args.new.now) c.after_alike-old_left.result.1)
    (lines_by (sifts c.args.old.now) c.in-Some.old_more)
    (link_line c.in-Some.old_link)
    (same_lines (lines_by (sifts c.args.old.now) c.args.old_items.now)
    (lines_by (sifts c.args.new.now) c.args.new_items.now)) c.in-Some.ensures.0
    c.in-None-new_first.ensures whole

pub returns-then-not-same_line : goal.returns-then-not-same_line
returns-then-not-same_line c =
    let whole =
    c.after_alike-old_left.ensures.same (sifts c.args.old.now) (sifts c.args.new.now)
    c.requires.together
    ∙ c.links.invariant in
    line_differs (lines_by (sifts c.args.old.now) c.after_alike-old_left.result.0)
    (lines_by (sifts c.args.new.now) c.after_alike-old_left.result.1)
    (lines_by (sifts c.args.old.now) c.in-Some.old_more)
    (lines_by (sifts c.args.new.now) c.in-Some-new_first.new_more) (link_line c.in-Some.old_link)
    (link_line c.in-Some-new_first.new_link) c.same_line.result
    (same_lines (lines_by (sifts c.args.old.now) c.args.old_items.now)
    (lines_by (sifts c.args.new.now) c.args.new_items.now))
    c.in-Some.ensures.0 c.in-Some-new_first.ensures.0 c.same_line.ensures c.if-not-same_line.true
    whole

pub links-preserved : goal.links-preserved
links-preserved c =
    let whole =
    c.after_alike-old_left.ensures.same (sifts c.args.old.now) (sifts c.args.new.now)
    c.requires.together
    ∙ c.links.invariant in
    line_same (lines_by (sifts c.args.old.now) c.after_alike-old_left.result.0)
    (lines_by (sifts c.args.new.now) c.after_alike-old_left.result.1)
    (lines_by (sifts c.args.old.now) c.in-Some.old_more)
    (lines_by (sifts c.args.new.now) c.in-Some-new_first.new_more) (link_line c.in-Some.old_link)
    (link_line c.in-Some-new_first.new_link) c.same_line.result
    (same_lines (lines_by (sifts c.args.old.now) c.args.old_items.now)
    (lines_by (sifts c.args.new.now) c.args.new_items.now))
    c.in-Some.ensures.0 c.in-Some-new_first.ensures.0 c.same_line.ensures c.if-not-same_line.false
    whole
