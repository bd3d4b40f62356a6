use Rattle.std.proofs.Common.{rules, ◌≡◌, [], drop, ◌∙◌}
use Rattle.attribute_index.specs.Abbreviations.{symbols_of}
use Rattle.attribute_index.proofs.BoundsLaws.{wanted_within}
use Rattle.attribute_index.proofs.carriers.is_wanted.Goals as goal

pub returns-in-None : goal.returns-in-None
returns-in-None c =
    let none : drop 23 (symbols_of c.args.value.now) ≡ [] = search rules in
    c.has.ensures
    ∙ wanted_within c.args.bounds.now c.args.name.now c.args.pattern.now c.abbreviation.result.now
    c.args.value.now c.requires c.abbreviation.ensures none
