-- Where all links are listed and no page cuts, the text of all lines is what is shown.
use Rattle.std.proofs.Common.{◌∙◌}
use Rattle.listing.specs.LinkFilters.{sifts}
use Rattle.listing.proofs.StepLaws.{appended_whole, counted_whole}
use Rattle.listing.proofs.parts.append_sifted.Goals as goal

pub returns-clause-text : goal.returns-clause-text
returns-clause-text c =
    let whole = c.is_whole.ensures c.if-not-is_whole.false in
    appended_whole (sifts c.args.link_filter.now) c.args.items.now c.args.into.now
    c.append_all_links.new.into c.args.skip c.args.most
    (c.lists_all.ensures c.if-not-lists_all.false) whole.0 whole.1
    c.in_ok-append_all_links.ensures.ok

pub returns-clause-written : goal.returns-clause-written
returns-clause-written c =
    let whole = c.is_whole.ensures c.if-not-is_whole.false in
    c.len.ensures.value
    ∙ counted_whole (sifts c.args.link_filter.now) c.args.items.now c.args.skip c.args.most
    (c.lists_all.ensures c.if-not-lists_all.false) whole.0 whole.1
