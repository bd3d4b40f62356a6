use Rattle.std.specs.Arc.{arc_value}
use Rattle.coap_message.specs.Views.{message_in}
use Rattle.rd_desk.proofs.parts.LookupLaws.{found_here, found_nowhere}
use Rattle.rd_desk.proofs.lookup.listings.found_at.Goals as goal

pub returns-in_default : goal.returns-in_default
returns-in_default c history stands =
    found_nowhere (message_in c.args.request.now.meaning.view) history c.args.now.0
    c.in_ok-octets.field-0 c.in_default.is (c.in_ok-octets.ensures history stands)

pub returns : goal.returns
returns c history stands =
    found_here (message_in c.args.request.now.meaning.view) history c.args.now.0
    c.in_ok-octets.field-0 c.in-Some.octets (arc_value c.in_ok-body.body) c.tag-current.result.0
    c.in-Some.is c.in_ok-body.ensures.ok (c.tag-current.ensures 0 history stands)
    (c.in_ok-octets.ensures history stands)
