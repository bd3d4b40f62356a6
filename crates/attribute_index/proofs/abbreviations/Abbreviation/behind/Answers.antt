use Rattle.attribute_index.proofs.OctetLaws.{text_octets}
use Rattle.attribute_index.proofs.abbreviations.Abbreviation.behind.Goals as goal

pub numbers_of-requires-clause-name : goal.numbers_of-requires-clause-name
numbers_of-requires-clause-name c = text_octets c.as_bytes.result.now c.as_bytes.ensures.utf8

pub numbers_of-requires-clause-value : goal.numbers_of-requires-clause-value
numbers_of-requires-clause-value c =
    text_octets c.as_bytes-2.result.now c.as_bytes-2.ensures.utf8
