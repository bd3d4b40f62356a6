use Rattle.std.proofs.Common.{List, ◌++◌, sym, ap, ◌∙◌}
use Rattle.std.specs.String.{string_bytes}
use Rattle.rd_base.proofs.EscapeLemmas.{nothing_escaped}
use Rattle.rd_base.proofs.spans.append_escaped.Goals as goal

pub returns-clause-text : goal.returns-clause-text
returns-clause-text c =
    c.in_ok-append-2.ensures.text
    ∙ ap (λ (t : List _). string_bytes c.args.text.now ++ t)
    (sym (nothing_escaped c.args.more.now (sym c.has_escaped.ensures ∙ c.if-has_escaped.false)))
