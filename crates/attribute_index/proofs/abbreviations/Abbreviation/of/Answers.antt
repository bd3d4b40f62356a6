use Rattle.std.proofs.Common.{rules, ◌≡◌, ℕ, List, subst}
use Rattle.attribute_index.specs.Abbreviations.{Spells, symbols_of}
use Rattle.attribute_index.proofs.OctetLaws.{text_octets}
use Rattle.attribute_index.proofs.abbreviations.Abbreviation.of.Goals as goal

pub numbers_of-requires-clause-name : goal.numbers_of-requires-clause-name
numbers_of-requires-clause-name c = text_octets c.as_bytes.result.now c.as_bytes.ensures.utf8

pub numbers_of-requires-clause-value : goal.numbers_of-requires-clause-value
numbers_of-requires-clause-value c =
    text_octets c.as_bytes-2.result.now c.as_bytes-2.ensures.utf8

pub returns : goal.returns
returns c =
    let name_is : c.as_bytes.result.now ≡ c.args.name.now = search rules in
    let value_is : c.as_bytes-2.result.now ≡ c.args.value.now = search rules in
    record {
      spells =
          subst (λ (name : List ℕ). Spells c.numbers_of.result
          (symbols_of (name, c.args.value.now))) name_is
          (subst (λ (value : List ℕ). Spells c.numbers_of.result
          (symbols_of (c.as_bytes.result.now, value))) value_is c.numbers_of.ensures);
      name_octets = text_octets c.args.name.now c.utf8.name;
      value_octets = text_octets c.args.value.now c.utf8.value;
    }
