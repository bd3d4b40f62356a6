use Rattle.std.proofs.Common.{◌∙◌, sym, true, refl}
use Rattle.listing.proofs.EndpointLaws.{endpoint_by_texts}
use Rattle.listing.proofs.criteria.endpoint_matches.Goals as goal

pub returns-then-matches_own : goal.returns-then-matches_own
returns-then-matches_own c =
    endpoint_by_texts c.args.criterion.now c.args.record_of.now true _ c.as_str-name.result.now
    c.as_str-pattern.result.now c.args.record_of.now.attrs c.as_str-name.ensures
    c.as_str-pattern.ensures refl
    (sym c.is_href.ensures ∙ c.if-is_href.false) (sym c.if-matches_own.true ∙ c.matches_own.ensures)
    refl

pub returns : goal.returns
returns c =
    endpoint_by_texts c.args.criterion.now c.args.record_of.now _ c.matches_pairs.result
    c.as_str-name.result.now c.as_str-pattern.result.now c.as_slice.result.now
    c.as_str-name.ensures c.as_str-pattern.ensures c.as_slice.ensures
    (sym c.is_href.ensures ∙ c.if-is_href.false)
    (sym c.if-matches_own.false ∙ c.matches_own.ensures) c.matches_pairs.ensures
