use Rattle.std.proofs.Common.{◌≡◌, ◌+◌, drop, sym, ap, ◌∙◌, subst, arith}
use Rattle.attribute_index.specs.Abbreviations.{digit_of, symbols_to}
use Rattle.attribute_index.proofs.AbbreviationLaws.{digit_last, digit_other}
use Rattle.attribute_index.proofs.abbreviations.digit_to.Goals as goal

pub returns-then-at-name-clause-digit : goal.returns-then-at-name-clause-digit
returns-then-at-name-clause-digit c =
    subst (λ last. c.digit_at-digit.result + 1
    ≡ digit_of (drop c.args.at (symbols_to last (c.args.name.now, c.args.value.now))))
    (sym c.in-Raised.is)
    (ap (λ d. d + 1) c.digit_at-digit.ensures.digit
    ∙ sym (digit_last c.args.at c.args.name.now c.args.value.now (omega arith)))

pub returns-else-at-name-clause-digit : goal.returns-else-at-name-clause-digit
returns-else-at-name-clause-digit c =
    subst (λ last. c.digit_at-digit.result
    ≡ digit_of (drop c.args.at (symbols_to last (c.args.name.now, c.args.value.now))))
    (sym c.in-Raised.is)
    (c.digit_at-digit.ensures.digit
    ∙ sym (digit_other c.args.at c.args.name.now c.args.value.now (λ e. omega arith)))
