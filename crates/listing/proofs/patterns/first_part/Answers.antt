-- The part ends at the first space, or with the value.
use Rattle.std.proofs.Common.{rules, ◌≢◌, [], ◌∷◌, Some, None, length, ap, ◌∙◌, arith}
use Rattle.std.proofs.lemmas.List.{length-append}
use Rattle.std.proofs.lemmas.Str.Pattern.{split_parts}
use Rattle.record_model.specs.Matching.{space}
use Rattle.listing.proofs.PartCuts.{one_part, part_before}
use Rattle.listing.proofs.patterns.first_part.Goals as goal

pub returns-then-not-is_empty : goal.returns-then-not-is_empty
returns-then-not-is_empty c =
    let rest = c.parts.rest.now in
    let part = c.in-Some.part.now in
    let more = c.in-Some.more.now in
    let parts =
    split_parts space rest (Some (c.in-Some.part, c.in-Some.more)) c.in-Some.ensures.cases
    (search rules) in
    let some : part ≢ [] = search rules in (
      c.parts.invariant.same
          ∙ part_before rest part more parts.0 parts.1 some,
      omega
          (arith, ap length parts.0, length-append part (space ∷ more), c.parts.invariant.few),
    )

pub returns : goal.returns
returns c =
    let rest = c.parts.rest.now in
    let nowhere = split_parts space rest None c.in_default.ensures.cases (search rules) in
    let some : rest ≢ [] = search rules in
    (c.parts.invariant.same ∙ one_part rest nowhere some, search rules)
