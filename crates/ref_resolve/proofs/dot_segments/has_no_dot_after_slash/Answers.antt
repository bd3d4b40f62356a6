-- A full stop after a slash, an octet more, and none.
use Rattle.std.proofs.Common.{sym, ◌∙◌}
use Rattle.ref_resolve.proofs.PlainPaths.{dot_found, no_dot_yet, no_full_stop, none_left}
use Rattle.ref_resolve.proofs.dot_segments.has_no_dot_after_slash.Goals as goal

pub returns-then-not-contains : goal.returns-then-not-contains
returns-then-not-contains c =
    sym (no_full_stop c.args.path.now (sym c.contains.ensures.value ∙ c.if-not-contains.true))

pub returns-then-is_slash_before_dot : goal.returns-then-is_slash_before_dot
returns-then-is_slash_before_dot c =
    dot_found c.args.path.now c.octets.rest.now c.in-Some.more.now c.in-Some.octet.now
    (c.in-Some.ensures.cases.0)
    (sym c.is_slash_before_dot.ensures ∙ c.if-is_slash_before_dot.true) c.octets.invariant.same

pub octets-preserved : goal.octets-preserved
octets-preserved c = record {
  same =
      no_dot_yet c.args.path.now c.octets.rest.now c.in-Some.more.now c.in-Some.octet.now
      (c.in-Some.ensures.cases.0)
      (sym c.is_slash_before_dot.ensures ∙ c.if-is_slash_before_dot.false)
      c.octets.invariant.same;
}

pub returns : goal.returns
returns c =
    none_left c.args.path.now c.octets.rest.now c.in_default.ensures.cases c.octets.invariant.same
