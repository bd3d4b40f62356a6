-- A character is written as the definition escapes it.
use Rattle.std.proofs.Common.{List, ◌++◌, sym, ap, ◌∙◌}
use Rattle.std.specs.String.{string_bytes}
use Rattle.link_format.proofs.ValueLemmas.{spelled_other}
use Rattle.link_format.proofs.values.push_escaped.Goals as goal

pub returns : goal.returns
returns c =
    c.in_ok-push-3.ensures.bytes
    ∙ ap (λ (t : List _). string_bytes c.args.text.now ++ t)
    (spelled_other c.args.character (sym c.is_mark.ensures ∙ c.if-is_mark.false))
