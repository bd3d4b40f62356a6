-- What is read of a reference without query and fragment.
use Rattle.ref_resolve.specs.ComponentsOfParts.{components_of}
use Rattle.ref_resolve.proofs.KnownReferences.{whole_text, no_query, no_fragment, read_known}
use Rattle.ref_resolve.proofs.references.parts_without_query.Goals as goal

pub apart_without_query-requires-clause-hierarchy :
    goal.apart_without_query-requires-clause-hierarchy
apart_without_query-requires-clause-hierarchy c = whole_text c.args.text.now c.requires

pub apart_without_query-requires-clause-query : goal.apart_without_query-requires-clause-query
apart_without_query-requires-clause-query c = no_query c.args.text.now c.requires

pub apart_without_query-requires-clause-fragment : goal.apart_without_query-requires-clause-fragment
apart_without_query-requires-clause-fragment c = no_fragment c.args.text.now c.requires

pub returns : goal.returns
returns c =
    read_known c.args.text.now (components_of c.apart_without_query.result)
    c.apart_without_query.ensures c.requires
