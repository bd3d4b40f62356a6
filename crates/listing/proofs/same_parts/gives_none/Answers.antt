-- No link passes through the link_filter.
use Rattle.std.proofs.Common.{List, ℕ, [], ◌∙◌, ap, sym}
use Rattle.rd_base.specs.declared.queries.Kind.{Kind}
use Rattle.record_model.specs.ListingLines.{link_listed, part, part_of_kind, same_lines}
use Rattle.listing.specs.ListedLinks.{lines_by}
use Rattle.listing.specs.LinkFilters.{sifts}
use Rattle.listing.proofs.AlikeLaws.{lines_none, lines-same}
use Rattle.listing.proofs.same_parts.gives_none.Goals as goal

pub returns-in-Resource : goal.returns-in-Resource
unfolding part
returns-in-Resource c =
    let link_filter = sifts c.of-link_filter.result in
    let listed = link_listed c.args.query.now c.args.record_of.now in
    lines_none link_filter c.links.result c.first_listed.result c.is_none.result
    c.first_listed.ensures
    c.is_none.ensures
    ∙ ap (λ (ls : List (List ℕ)). same_lines ls [])
    (lines-same link_filter listed c.of-link_filter.ensures.lists c.links.result
    ∙ ap (lines_by listed) c.links.ensures
    ∙ sym (ap (λ (kind : Kind). part_of_kind kind c.args.query.now c.args.record_of.now)
    c.in-Resource.is))
