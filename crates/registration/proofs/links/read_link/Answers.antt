use Rattle.std.proofs.Common.{refl}
use Rattle.link_format.specs.Views.{link_seen}
use Rattle.registration.specs.Links.{LinkReads}
use Rattle.registration.proofs.LinkLaws.{err_at, anchor_refused, link_read}
use Rattle.registration.proofs.links.read_link.Goals as goal

pub returns-in_err-anchor : goal.returns-in_err-anchor
returns-in_err-anchor c =
    let target = rw c.in-Some.is at c.in_ok-has_scheme.ensures in
    let seen = link_seen c.args.link.now in
    err_at c.in_err-anchor.field-0.0
    (LinkReads c.args.base.now c.args.start seen c.args.builder.links)
    c.from_residual-in_err-anchor.result
    (anchor_refused c.args.base.now c.args.start seen c.args.builder.links c.in_ok-gathered.gathered
    c.in_ok-gathered.ensures target.reference _ c.in_err-anchor.field-0.0
    c.in_err-anchor.ensures) c.from_residual-in_err-anchor.ensures.1

pub returns : goal.returns
returns c =
    let target = rw c.in-Some.is at c.in_ok-has_scheme.ensures in
    link_read c.args.base.now c.args.start (link_seen c.args.link.now) c.args.builder.links
    c.in_ok-gathered.gathered c.in_ok-gathered.ensures target.reference c.in-Some.has_scheme
    c.in_ok-anchor.anchor
    (record { target = c.refer.new.referred; anchor = c.refer_anchor.new.referred }) _ target
    c.in_ok-anchor.ensures
    c.in_ok-builder.ensures c.is_limited-is_limited.ensures refl
