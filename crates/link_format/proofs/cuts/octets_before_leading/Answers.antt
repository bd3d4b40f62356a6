-- Those are counted that stand behind the first octet.
use Rattle.link_format.proofs.CutLemmas.{leading}
use Rattle.link_format.proofs.cuts.octets_before_leading.Goals as goal

pub returns-clause-value : goal.returns-clause-value
returns-clause-value c =
    leading c.args.separator c.octets_before_outside.result c.args.text.now c.after_octet.result.now
    c.after_octet.ensures c.octets_before_outside.ensures.value
