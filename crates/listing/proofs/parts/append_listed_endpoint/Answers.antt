use Rattle.std.proofs.Common.{◌∙◌, sym, arith}
use Rattle.listing.proofs.StepLaws.{endpoint_cut, endpoint_none, endpoint_skipped, endpoint_written}
use Rattle.listing.proofs.parts.append_listed_endpoint.Goals as goal

pub returns-then-not-endpoint_listed-clause-text :
    goal.returns-then-not-endpoint_listed-clause-text
returns-then-not-endpoint_listed-clause-text c =
    endpoint_none _ _ _ c.args.skip c.args.most
    (sym c.endpoint_listed.ensures ∙ c.if-not-endpoint_listed.true)

pub returns-then-skip-gt0-clause-text : goal.returns-then-skip-gt0-clause-text
returns-then-skip-gt0-clause-text c =
    endpoint_skipped _ _ _ c.args.skip c.args.most
    (sym c.endpoint_listed.ensures ∙ c.if-not-endpoint_listed.false) c.if-skip-gt0.true

pub returns-then-most-eq0-clause-text : goal.returns-then-most-eq0-clause-text
returns-then-most-eq0-clause-text c = endpoint_cut _ _ _ c.args.skip c.args.most c.if-most-eq0.true

pub returns-clause-text : goal.returns-clause-text
returns-clause-text c =
    endpoint_written _ _ _ _ c.args.skip c.args.most
    (sym c.endpoint_listed.ensures ∙ c.if-not-endpoint_listed.false) (omega arith) (omega arith)
    c.in_ok-append_endpoint.ensures.ok
