-- What stands before a closing quote has no other quote and no backslash.
use Rattle.std.proofs.Common.{Some, false, sym, ◌∙◌, ap, rules}
use Rattle.std.specs.Prelude.{◌==◌}
use Rattle.std.specs.List.{list_any}
use Rattle.std.proofs.lemmas.Str.Pattern.{strip_suffix_char}
use Rattle.link_model.specs.Characters.{quote_mark, backslash}
use Rattle.link_model.specs.Quoting.{content_up_to_quote}
use Rattle.link_format.proofs.ValueLemmas.{content_closed}
use Rattle.link_format.proofs.values.content_as_written.Goals as goal

pub returns : goal.returns
returns c =
    let closed =
    strip_suffix_char quote_mark c.args.inner.now (Some c.in_ok-front.front)
    c.in_ok-front.ensures.cases (search rules) in
    content_closed c.in_ok-front.front.now
    (ap (list_any (λ b. b == quote_mark)) (sym c.as_bytes-octets.ensures.value)
    ∙ sym c.contains.ensures.value
    ∙ c.if-contains.false)
    (ap (list_any (λ b. b == backslash)) (sym c.as_bytes-octets.ensures.value)
    ∙ sym c.contains-2.ensures.value
    ∙ c.if-contains-2.false)
    ∙ ap (content_up_to_quote false) (sym closed)
