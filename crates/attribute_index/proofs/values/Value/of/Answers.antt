use Rattle.std.proofs.Common.{rules, ◌≡◌, true, ℕ, List, [], drop, sym, subst}
use Rattle.attribute_index.specs.Abbreviations.{IsAbbreviation, symbols_of, told_by}
use Rattle.attribute_index.proofs.AbbreviationLaws.{told_whole}
use Rattle.attribute_index.proofs.values.Value.of.Goals as goal

pub invariant_of-result : goal.invariant_of-result
invariant_of-result c =
    let value : List ℕ × List ℕ = (c.args.name.now, c.args.value.now) in
    let whole : c.is_whole.result ≡ true = search rules in
    let short = c.is_whole.ensures value c.of-abbreviation.ensures whole in
    let told : told_by c.of-abbreviation.result ≡ value =
    told_whole c.of-abbreviation.result value c.of-abbreviation.ensures short in (
      subst (IsAbbreviation c.of-abbreviation.result) (sym told) c.of-abbreviation.ensures,
      subst (λ (v : List ℕ × List ℕ). drop 23 (symbols_of v) ≡ []) (sym told) short,
    )

pub returns-then-is_whole : goal.returns-then-is_whole
returns-then-is_whole c =
    let value : List ℕ × List ℕ = (c.args.name.now, c.args.value.now) in
    let whole : c.is_whole.result ≡ true = search rules in
    told_whole c.of-abbreviation.result value c.of-abbreviation.ensures
    (c.is_whole.ensures value c.of-abbreviation.ensures whole)
