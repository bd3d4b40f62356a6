use Rattle.listing.proofs.PieceLaws.{own_with_sector, own_without_sector}
use Rattle.listing.proofs.pieces.endpoint_pieces.Goals as goal

pub returns-in-Some : goal.returns-in-Some
returns-in-Some c =
    own_with_sector c.args.record_of.now c.args.location.now c.as_bytes.result.now
    c.as_bytes-2.result.now c.as_bytes-in-Some.result.now c.in-Some.text c.as_bytes.ensures
    c.as_bytes-2.ensures
    c.as_bytes-in-Some.ensures c.in-Some.is c.requires

pub returns : goal.returns
returns c =
    own_without_sector c.args.record_of.now c.args.location.now c.as_bytes.result.now
    c.as_bytes-2.result.now c.as_bytes.ensures c.as_bytes-2.ensures c.in_default.is c.requires
