use Rattle.ref_resolve.specs.ComponentsOfParts.{components_of}
use Rattle.registrant.proofs.UriLaws.{registers_read, registers_unread}
use Rattle.registrant.proofs.registering.register_ask.Goals as goal

pub returns-in-Ok-clause-exact : goal.returns-in-Ok-clause-exact
returns-in-Ok-clause-exact c =
    registers_read
    c.args.uri.now
    c.args.links.now
    (components_of c.in-Ok.uri)
    c.register_by.result
    c.in-Ok.ensures.found
    c.register_by.ensures.exact

pub returns-in-Err-clause-exact : goal.returns-in-Err-clause-exact
returns-in-Err-clause-exact c =
    registers_unread c.args.uri.now c.args.links.now _ c.in-Err.ensures.offset
