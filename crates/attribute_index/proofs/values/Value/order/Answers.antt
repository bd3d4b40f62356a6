use Rattle.std.proofs.Common.{rules, ◌≡◌, [], drop, ◌∙◌}
use Rattle.attribute_index.specs.Abbreviations.{symbols_of}
use Rattle.attribute_index.proofs.AbbreviationLaws.{by_abbreviations_first}
use Rattle.attribute_index.proofs.values.Value.order.Goals as goal

pub returns : goal.returns
returns c =
    let none : drop 23 (symbols_of c.args.self.now) ≡ [] = search rules in
    c.cmp.ensures
    ∙ by_abbreviations_first c.abbreviation.result.now c.abbreviation-2.result.now
    c.args.self.now c.args.other.now c.abbreviation.ensures c.abbreviation-2.ensures none
