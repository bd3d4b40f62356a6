use Rattle.std.proofs.Common.{List, ◌++◌, sym, ap, ◌∙◌}
use Rattle.std.specs.String.{string_bytes}
use Rattle.rd_base.proofs.EscapeLemmas.{spelled_plain}
use Rattle.rd_base.proofs.spans.push_escaped.Goals as goal

pub returns : goal.returns
returns c =
    c.in_ok-push-3.ensures.bytes
    ∙ ap (λ (t : List _). string_bytes c.args.text.now ++ t)
    (sym (spelled_plain c.args.character c.if-character-eq34.false c.if-character-eq92.false))
