-- By the name of the criterion.
use Rattle.std.proofs.Common.{◌∙◌, sym}
use Rattle.listing.proofs.SoughtLaws.{anchor_sought, part_sought, target_sought, value_sought}
use Rattle.listing.proofs.sought.Sought.of.Goals as goal

pub returns-then-is_href : goal.returns-then-is_href
returns-then-is_href c item =
    target_sought c.args.criterion.now c.as_str-name.result.now c.as_str.result.now
    c.of-pattern.result item c.as_str-name.ensures c.as_str.ensures
    (sym c.is_href.ensures ∙ c.if-is_href.true) c.of-pattern.ensures

pub returns-then-is_anchor : goal.returns-then-is_anchor
returns-then-is_anchor c item =
    anchor_sought c.args.criterion.now c.as_str-name.result.now c.as_str.result.now
    c.of-pattern.result item c.as_str-name.ensures c.as_str.ensures
    (sym c.is_href.ensures ∙ c.if-is_href.false)
    (sym c.is_anchor.ensures ∙ c.if-is_anchor.true) c.of-pattern.ensures

pub returns-then-is_list_name : goal.returns-then-is_list_name
returns-then-is_list_name c item =
    part_sought c.args.criterion.now c.as_str-name.result.now c.as_str.result.now
    c.of-pattern.result item c.as_str-name.ensures c.as_str.ensures
    (sym c.is_href.ensures ∙ c.if-is_href.false)
    (sym c.is_anchor.ensures ∙ c.if-is_anchor.false)
    (sym c.is_list_name.ensures ∙ c.if-is_list_name.true) c.of-pattern.ensures

pub returns : goal.returns
returns c item =
    value_sought c.args.criterion.now c.as_str-name.result.now c.as_str.result.now
    c.of-pattern.result item c.as_str-name.ensures c.as_str.ensures
    (sym c.is_href.ensures ∙ c.if-is_href.false)
    (sym c.is_anchor.ensures ∙ c.if-is_anchor.false)
    (sym c.is_list_name.ensures ∙ c.if-is_list_name.false) c.of-pattern.ensures
