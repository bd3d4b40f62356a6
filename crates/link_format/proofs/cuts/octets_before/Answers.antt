-- The octets before a separator, by how the text begins.
use Rattle.std.proofs.Common.{ap, ◌∙◌, sym}
use Rattle.link_format.specs.Cuts.{octets_before}
use Rattle.link_format.proofs.CutLemmas.{escaped}
use Rattle.link_format.proofs.cuts.octets_before.Goals as goal

pub returns-in-Leading-clause-value : goal.returns-in-Leading-clause-value
returns-in-Leading-clause-value c =
    c.octets_before_leading.ensures.value
    ∙ ap (λ q. octets_before c.args.separator q c.args.text.now) (sym c.in-Leading.is)

pub returns-in-Escaped-clause-value : goal.returns-in-Escaped-clause-value
returns-in-Escaped-clause-value c =
    escaped c.args.separator c.octets_before_outside-in-Escaped.result c.args.text.now
    c.after_octet.result.now c.after_quotes-in-Escaped.result.now c.after_octet.ensures
    c.after_quotes-in-Escaped.ensures.within
    (c.after_quotes-in-Escaped.ensures.counted c.args.separator)
    c.octets_before_outside-in-Escaped.ensures.value
    ∙ ap (λ q. octets_before c.args.separator q c.args.text.now) (sym c.in-Escaped.is)
