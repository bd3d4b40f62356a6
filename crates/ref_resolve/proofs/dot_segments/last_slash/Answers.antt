-- The last octet is a slash, or is left behind.
use Rattle.std.proofs.Common.{◌∷◌}
use Rattle.ref_resolve.proofs.LastSlash.{moved, last_found, last_farther, last_nowhere}
use Rattle.ref_resolve.proofs.dot_segments.last_slash.Goals as goal

pub returns-then-octet-eq47-clause-before : goal.returns-then-octet-eq47-clause-before
returns-then-octet-eq47-clause-before c =
    last_found c.args.text.now c.octets.rest.now c.in-Some.front.now (c.octets.invariant.joined.0)
    c.in-Some.octet.now (c.octets.invariant.joined.1) (c.in-Some.ensures.cases.0)
    c.if-octet-eq47.true c.octets.invariant.before

pub octets-preserved : goal.octets-preserved
octets-preserved c = record {
  joined = (
    c.in-Some.octet.now
        ∷ c.octets.invariant.joined.0,
    moved c.args.text.now c.octets.rest.now c.in-Some.front.now
        (c.octets.invariant.joined.0) c.in-Some.octet.now (c.octets.invariant.joined.1)
        (c.in-Some.ensures.cases.0),
  );
  before =
      last_farther c.args.text.now c.octets.rest.now c.in-Some.front.now c.in-Some.octet.now
      (c.in-Some.ensures.cases.0) c.if-octet-eq47.false c.octets.invariant.before;
}

pub returns-clause-before : goal.returns-clause-before
returns-clause-before c =
    last_nowhere c.args.text.now c.octets.rest.now c.in_default.ensures.cases
    c.octets.invariant.before
