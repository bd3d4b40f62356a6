use Rattle.std.proofs.Common.{Some, refl, sym, ap, ◌∙◌}
use Rattle.coap_message.specs.Views.{message_in}
use Rattle.history_model.specs.Listing.{tag}
use Rattle.journal_model.specs.Looks.{found_or_not}
use Rattle.rd_look.proofs.LookLaws.{found_valid, found_whole}
use Rattle.rd_look.proofs.looks.find_source.Goals as goal

pub returns-in_default : goal.returns-in_default
returns-in_default c history stands =
    ap (found_or_not (Some (tag history c.args.now.0))
    (message_in c.args.request.now.meaning.view))
    (sym (c.in_ok-octets.ensures 0 history stands) ∙ c.in_default.is)

pub returns-then-names_tag : goal.returns-then-names_tag
returns-then-names_tag c history stands =
    let m = message_in c.args.request.now.meaning.view in
    ap (found_or_not (Some (tag history c.args.now.0)) m)
    (sym (c.in_ok-octets.ensures 0 history stands) ∙ c.in-Some.is)
    ∙ found_valid m c.tag-current.result.0 (tag history c.args.now.0) c.in-Some.octets
    (c.tag-current.ensures 0 history stands)
    (sym c.names_tag.ensures ∙ c.if-names_tag.true)

pub returns : goal.returns
returns c history stands =
    let m = message_in c.args.request.now.meaning.view in
    ap (found_or_not (Some (tag history c.args.now.0)) m)
    (sym (c.in_ok-octets.ensures 0 history stands) ∙ c.in-Some.is)
    ∙ found_whole m c.tag-current.result.0 (tag history c.args.now.0) c.in-Some.octets
    c.in-Some.octets (c.tag-current.ensures 0 history stands) refl
    (sym c.names_tag.ensures ∙ c.if-names_tag.false)
