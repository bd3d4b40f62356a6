-- A text split before its first separator: both sides are text, and are what the definition gives.
use Rattle.std.proofs.Common.{sym, ◌∙◌}
use Rattle.link_format.proofs.CutLemmas.{boundary, cut_counted, rest_at}
use Rattle.link_format.proofs.cuts.split.Goals as goal

pub split_at-requires : goal.split_at-requires
split_at-requires c =
    boundary c.args.separator c.octets_before-at.result c.args.text.now _
    (cut_counted c.args.separator c.args.quotes c.as_bytes.result.now c.args.text.now
    c.octets_before-at.result c.octets_before-at.ensures.value c.as_bytes.ensures.value)
    c.requires

pub returns-clause-before : goal.returns-clause-before
returns-clause-before c =
    c.split_at.ensures.front
    ∙ sym ((cut_counted c.args.separator c.args.quotes c.as_bytes.result.now c.args.text.now
    c.octets_before-at.result c.octets_before-at.ensures.value
    c.as_bytes.ensures.value).before)

pub returns-clause-rest : goal.returns-clause-rest
returns-clause-rest c =
    c.split_at.ensures.back
    ∙ rest_at c.args.separator c.octets_before-at.result c.args.text.now _
    (cut_counted c.args.separator c.args.quotes c.as_bytes.result.now c.args.text.now
    c.octets_before-at.result c.octets_before-at.ensures.value c.as_bytes.ensures.value)
