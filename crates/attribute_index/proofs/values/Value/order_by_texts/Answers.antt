use Rattle.std.proofs.Common.{rules, ◌≡◌, [], drop, Equal, ◌∙◌}
use Rattle.attribute_index.specs.Abbreviations.{abbreviation_cmp, symbols_of}
use Rattle.attribute_index.proofs.AbbreviationLaws.{
  by_abbreviations_apart,
  by_abbreviations_first,
  by_abbreviations_second,
}
use Rattle.attribute_index.proofs.values.Value.order_by_texts.Goals as goal

pub returns-in_default-texts : goal.returns-in_default-texts
returns-in_default-texts c =
    let is : Equal ≡ abbreviation_cmp c.abbreviation.result.now c.abbreviation-2.result.now =
    search rules in
    let none : drop 23 (symbols_of c.args.self.now) ≡ [] = search rules in
    is ∙ by_abbreviations_first c.abbreviation.result.now c.abbreviation-2.result.now
    c.args.self.now c.args.other.now c.abbreviation.ensures c.abbreviation-2.ensures none

pub returns-in_default-texts-2 : goal.returns-in_default-texts-2
returns-in_default-texts-2 c =
    let is : Equal ≡ abbreviation_cmp c.abbreviation.result.now c.abbreviation-2.result.now =
    search rules in
    let none : drop 23 (symbols_of c.args.other.now) ≡ [] = search rules in
    is ∙ by_abbreviations_second c.abbreviation.result.now c.abbreviation-2.result.now
    c.args.self.now c.args.other.now c.abbreviation.ensures c.abbreviation-2.ensures none

pub returns-in_default : goal.returns-in_default
returns-in_default c =
    by_abbreviations_apart c.abbreviation.result.now c.abbreviation-2.result.now c.args.self.now
    c.args.other.now c.abbreviation.ensures c.abbreviation-2.ensures c.cmp.result c.cmp.ensures
    c.in_default.not-Equal
