use Rattle.std.proofs.Common.{◌≡◌, ℕ, List, [], ◌∷◌, Option, map, sym, ap}
use Rattle.std.proofs.Common.{◌∙◌, rules}
use Rattle.std.specs.String.{string_bytes}
use Rattle.std.proofs.lemmas.List.{nil_from_length}
use Rattle.hosting.specs.Words.{before, option_of, options_of}
use Rattle.hosting.proofs.OptionSteps.{lone_name, name_and_value, other_word}
use Rattle.hosting.proofs.options.first_option.Goals as goal

pub returns-in_default-joined-clause-begins : goal.returns-in_default-joined-clause-begins
returns-in_default-joined-clause-begins c =
    let rest : List (List ℕ) = map string_bytes c.args.rest.now in
    other_word c.args.word.now rest (sym c.in_default.ensures)
    ∙ ap (λ (o : Option _). before o (options_of rest)) (sym c.in_default-joined.ensures.value)

pub returns-in_default-clause-begins : goal.returns-in_default-clause-begins
returns-in_default-clause-begins c =
    let rest : List (List ℕ) = map string_bytes c.args.rest.now in
    other_word c.args.word.now rest (sym c.in_default.ensures)
    ∙ ap (λ (o : Option _). before o (options_of rest)) (sym c.in-Some-joined.ensures.value)

pub returns-in_default-split_first-clause-begins :
    goal.returns-in_default-split_first-clause-begins
returns-in_default-split_first-clause-begins c =
    let none : c.args.rest.now ≡ [] = nil_from_length _ c.in_default-split_first.ensures.cases in
    rw none (lone_name c.args.word.now c.in-Some.name (sym c.in-Some.ensures))

pub returns-in_default-option_of-clause-begins : goal.returns-in_default-option_of-clause-begins
returns-in_default-option_of-clause-begins c =
    let next = c.in-Some-split_first in
    let split : c.args.rest.now ≡ next.value.now ∷ next.behind.now = search rules in
    let value : List ℕ = string_bytes next.value.now in
    let words : List (List ℕ) = map string_bytes next.behind.now in
    let bytes : c.as_bytes.result.now ≡ value = search rules in
    let name = c.in-Some.name in
    rw split (name_and_value c.args.word.now value words name (sym c.in-Some.ensures)
    ∙ ap (λ (o : Option _). before o (options_of words))
    (ap (λ (t : List ℕ). option_of name t) (sym bytes)
    ∙ sym c.in_default-option_of.ensures.value))

pub returns-clause-begins : goal.returns-clause-begins
returns-clause-begins c =
    let next = c.in-Some-split_first in
    let split : c.args.rest.now ≡ next.value.now ∷ next.behind.now = search rules in
    let value : List ℕ = string_bytes next.value.now in
    let words : List (List ℕ) = map string_bytes next.behind.now in
    let bytes : c.as_bytes.result.now ≡ value = search rules in
    let name = c.in-Some.name in
    rw split (name_and_value c.args.word.now value words name (sym c.in-Some.ensures)
    ∙ ap (λ (o : Option _). before o (options_of words))
    (ap (λ (t : List ℕ). option_of name t) (sym bytes)
    ∙ sym c.in-Some-option_of.ensures.value))
