-- With an endpoint the criteria that it meets are passed over.
use Rattle.std.proofs.Common.{ap}
use Rattle.std.specs.Option.{option_copied}
use Rattle.listing.proofs.LinkFilterLaws.{sieve_of_none, sieve_of_registration}
use Rattle.listing.proofs.link_filters.LinkFilter.of.Goals as goal

pub returns-in_default : goal.returns-in_default
returns-in_default c =
    let told =
    sieve_of_none c.args.query.now (option_copied c.args.owner) c.as_slice-criteria.result.now
    c.args.judged.now (ap option_copied c.in_default.is) c.as_slice-criteria.ensures in
    record { judged = told.0; lists = told.1 }

pub returns : goal.returns
returns c =
    let told =
    sieve_of_registration c.args.query.now (option_copied c.args.owner) c.in-Some.field-0.now
    c.as_slice-criteria.result.now c.sift.result.1.now c.args.judged.now c.sift.result.2.now
    c.sift.result.0 (ap option_copied c.in-Some.is)
    c.as_slice-criteria.ensures c.sift.ensures c.requires in
    record { judged = told.0; lists = told.1 }
