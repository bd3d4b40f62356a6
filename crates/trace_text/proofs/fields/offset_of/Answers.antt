use Rattle.memchr.specs.Find.{is_byte}
use Rattle.trace_text.proofs.FirstBytes.{first_place, inside}
use Rattle.trace_text.proofs.fields.offset_of.Goals as goal

pub returns-clause-value : goal.returns-clause-value
returns-clause-value c =
    first_place (is_byte c.args.octet) c.args.text.now c.memchr.result c.memchr.ensures

pub returns-clause-within : goal.returns-clause-within
returns-clause-within c =
    inside (is_byte c.args.octet) c.args.text.now c.memchr.result c.memchr.ensures
