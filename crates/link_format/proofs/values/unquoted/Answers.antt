-- What a value says, by its first character.
use Rattle.std.proofs.Common.{◌≡◌, ℕ, List, IfOk, sym, ap, ◌∙◌, subst}
use Rattle.std.specs.Str.Iter.{chars_rest}
use Rattle.link_format.proofs.ValueLemmas.{unquoted_empty, unquoted_first, unquoted_opened}
use Rattle.link_model.specs.Quoting.{content_up_to_quote}
use Rattle.link_format.specs.Views.{value_seen}
use Rattle.link_format.proofs.values.unquoted.Goals as goal
use Rattle.std.specs.Prelude.{false, length}

pub returns-in_default : goal.returns-in_default
returns-in_default c =
    sym (unquoted_empty c.args.value.now
    (ap length (sym c.chars-characters.ensures.rest) ∙ c.in_default.ensures.steps.0.0))

pub returns-then-first-ne34 : goal.returns-then-first-ne34
returns-then-first-ne34 c =
    unquoted_first c.args.value.now (chars_rest c.next.new.self) c.in-Some.first
    (sym c.chars-characters.ensures.rest ∙ c.in-Some.ensures.steps.0) c.if-first-ne34.true

pub returns : goal.returns
returns c =
    subst (λ (v : List ℕ). IfOk c.content.result (λ said. value_seen said ≡ v))
    (ap (content_up_to_quote false) c.as_str.ensures
    ∙ unquoted_opened c.args.value.now (chars_rest c.next.new.self) c.in-Some.first
    (sym c.chars-characters.ensures.rest ∙ c.in-Some.ensures.steps.0) c.if-first-ne34.false)
    c.content.ensures
