-- Where the walk stops is the end of the longest prefix that begins a document.
use Rattle.std.proofs.Common.{sym, ap, ◌∙◌, subst}
use Rattle.link_format.specs.Points.{point_in}
use Rattle.link_format.proofs.WalkLemmas.{
  Walked,
  walked_start,
  walked_step,
  walked_over,
  walked_no_point,
  walked_no_tails,
  walked_whole,
  walked_end,
  walked_short,
}
use Rattle.link_format.proofs.reach.walk.Goals as goal

pub octets-init : goal.octets-init
octets-init c = walked_start c.args.body.now

pub octets-preserved : goal.octets-preserved
octets-preserved c =
    walked_step c.args.body.now c.octets.rest.now _ _ c.octets.tails.now
    c.in-Some-tails_after.next_tails.now c.in-Some.octet.now c.in-Some.more.now
    c.octets.invariant c.in-Some.ensures.cases.0
    (sym c.in-Some-point_after.ensures) (sym c.in-Some-tails_after.ensures)

pub octets-preserved-then-is_ascii_where_none_due :
    goal.octets-preserved-then-is_ascii_where_none_due
octets-preserved-then-is_ascii_where_none_due c =
    let none = c.is_ascii_where_none_due.ensures.none c.if-is_ascii_where_none_due.true in
    let stepped =
    walked_step c.args.body.now c.octets.rest.now _ _ c.octets.tails.now c.octets.tails.now
    c.in-Some.octet.now c.in-Some.more.now c.octets.invariant c.in-Some.ensures.cases.0
    (sym c.in-Some-point_after.ensures)
    (c.is_ascii_where_none_due.ensures.tails c.if-is_ascii_where_none_due.true) in
    let point = point_in c.in-Some-point_after.next_point in
    subst (Walked c.args.body.now c.after_staying-rest.result.now point) (sym none)
    (walked_over c.args.body.now c.in-Some.more.now c.after_staying-rest.result.now point
    c.after_staying-rest.ensures
    (subst (Walked c.args.body.now c.in-Some.more.now point) none stepped))

pub returns-in_default-point_after-clause-good_prefix :
    goal.returns-in_default-point_after-clause-good_prefix
returns-in_default-point_after-clause-good_prefix c =
    let stops =
    walked_no_point c.args.body.now c.octets.rest.now _ c.octets.tails.now c.in-Some.octet.now
    c.in-Some.more.now c.octets.invariant c.in-Some.ensures.cases.0
    (sym c.in_default-point_after.ensures) in
    ap (λ r. r.good_prefix) c.stopped.ensures ∙ stops.0

pub returns-in_default-point_after-clause-document :
    goal.returns-in_default-point_after-clause-document
returns-in_default-point_after-clause-document c =
    let stops =
    walked_no_point c.args.body.now c.octets.rest.now _ c.octets.tails.now c.in-Some.octet.now
    c.in-Some.more.now c.octets.invariant c.in-Some.ensures.cases.0
    (sym c.in_default-point_after.ensures) in
    ap (λ r. r.is_document) c.stopped.ensures ∙ stops.1

pub returns-in_default-tails_after-clause-good_prefix :
    goal.returns-in_default-tails_after-clause-good_prefix
returns-in_default-tails_after-clause-good_prefix c =
    let stops =
    walked_no_tails c.args.body.now c.octets.rest.now _ c.octets.tails.now c.in-Some.octet.now
    c.in-Some.more.now c.octets.invariant c.in-Some.ensures.cases.0
    (sym c.in_default-tails_after.ensures) in
    ap (λ r. r.good_prefix) c.stopped-in_default-tails_after.ensures ∙ stops.0

pub returns-in_default-tails_after-clause-document :
    goal.returns-in_default-tails_after-clause-document
returns-in_default-tails_after-clause-document c =
    let stops =
    walked_no_tails c.args.body.now c.octets.rest.now _ c.octets.tails.now c.in-Some.octet.now
    c.in-Some.more.now c.octets.invariant c.in-Some.ensures.cases.0
    (sym c.in_default-tails_after.ensures) in
    ap (λ r. r.is_document) c.stopped-in_default-tails_after.ensures ∙ stops.1

pub returns-then-is_empty-clause-good_prefix : goal.returns-then-is_empty-clause-good_prefix
returns-then-is_empty-clause-good_prefix c =
    walked_whole c.args.body.now c.octets.rest.now _ c.octets.tails.now c.octets.invariant
    c.in_default.ensures.cases

pub returns-then-is_empty-clause-document : goal.returns-then-is_empty-clause-document
returns-then-is_empty-clause-document c =
    c.may_end.ensures
    ∙ walked_end c.args.body.now c.octets.rest.now _ c.octets.tails.now c.octets.invariant
    c.in_default.ensures.cases (sym c.is_empty.ensures ∙ c.if-is_empty.true)

pub returns-else-is_empty-clause-good_prefix : goal.returns-else-is_empty-clause-good_prefix
returns-else-is_empty-clause-good_prefix c =
    walked_whole c.args.body.now c.octets.rest.now _ c.octets.tails.now c.octets.invariant
    c.in_default.ensures.cases

pub returns-else-is_empty-clause-document : goal.returns-else-is_empty-clause-document
returns-else-is_empty-clause-document c =
    c.if-is_empty.false
    ∙ walked_short c.args.body.now c.octets.rest.now _ c.octets.tails.now c.octets.invariant
    c.in_default.ensures.cases (sym c.is_empty.ensures ∙ c.if-is_empty.false)
