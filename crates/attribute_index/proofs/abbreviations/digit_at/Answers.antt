use Rattle.std.proofs.Common.{rules, ◌≡◌, ◌+◌, ◌-◌, length, get_or, sym, ap, ◌∙◌, arith}
use Rattle.attribute_index.proofs.AbbreviationLaws.{name_digit, value_digit}
use Rattle.attribute_index.proofs.abbreviations.digit_at.Goals as goal

pub returns-then-at-name-clause-digit : goal.returns-then-at-name-clause-digit
returns-then-at-name-clause-digit c =
    let is : c.from.result ≡ get_or c.args.name.now c.args.at 0 = search rules in
    ap (λ octet. octet + 2) is
    ∙ sym (name_digit c.args.at c.args.name.now c.args.value.now (omega arith))

pub returns-then-behind-value-clause-digit : goal.returns-then-behind-value-clause-digit
returns-then-behind-value-clause-digit c =
    let k = c.args.at - length c.args.name.now - 1 in
    let is : c.from-then-behind-value.result ≡ get_or c.args.value.now k 0 = search rules in
    ap (λ octet. octet + 2) is
    ∙ sym (value_digit c.args.at k c.args.name.now c.args.value.now (omega arith)
    (omega arith))
