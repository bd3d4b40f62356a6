use Rattle.std.proofs.Common.{sym, ◌∙◌}
use Rattle.coap_message.specs.Views.{message_in}
use Rattle.history_model.specs.Listing.{listing, tag}
use Rattle.rd_look.proofs.LookLaws.{found_valid, found_whole}
use Rattle.rd_look.proofs.looks.find_listing.Goals as goal

pub returns-then-names_tag : goal.returns-then-names_tag
returns-then-names_tag c history stands =
    found_valid (message_in c.args.request.now.meaning.view) c.tag-tag.result.0
    (tag history c.args.now.0) (listing c.args.query.now history c.args.now.0)
    (c.tag-tag.ensures 0 history stands)
    (sym c.names_tag.ensures ∙ c.if-names_tag.true)

pub returns : goal.returns
returns c history stands =
    found_whole (message_in c.args.request.now.meaning.view) c.tag-tag.result.0
    (tag history c.args.now.0) c.in_ok-octets.octets
    (listing c.args.query.now history c.args.now.0) (c.tag-tag.ensures 0 history stands)
    (c.in_ok-octets.ensures history stands) (sym c.names_tag.ensures ∙ c.if-names_tag.false)
