use Rattle.std.proofs.lemmas.Bool.{eqb-true}
use Rattle.std.proofs.Common.{◌%◌}
use Rattle.attribute_index.proofs.AbbreviationLaws.{whole_abbreviation}
use Rattle.attribute_index.proofs.abbreviations.Abbreviation.is_whole.Goals as goal

pub returns : goal.returns
returns c value is zero =
    whole_abbreviation c.args.self.now value is (eqb-true (c.args.self.now.third % 256) 0 zero)
