use Rattle.listing.proofs.OwnLaws.{shown_own}
use Rattle.listing.proofs.own_links.append_own_links.Goals as goal

pub returns : goal.returns
returns c =
    shown_own c.args.query.now c.args.items.now c.append_links.new.into c.args.into.now _ _
    c.requires.few c.requires.own c.requires.empty c.page_bounds-skip.ensures
    c.in_ok-append_links.ensures.text
