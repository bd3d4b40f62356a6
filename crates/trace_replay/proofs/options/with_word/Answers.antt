use Rattle.std.proofs.Common.{◌≡◌, ℕ, List, [], ◌∷◌, true, false, Option, map}
use Rattle.std.proofs.Common.{sym, ap, ◌∙◌, rules}
use Rattle.std.specs.String.{string_bytes}
use Rattle.std.proofs.lemmas.List.{nil_from_length}
use Rattle.trace_replay.specs.Options.{words_after}
use Rattle.trace_replay.proofs.OptionSteps.{joined_on, lone_name, named_on, refused}
use Rattle.trace_replay.proofs.options.with_word.Goals as goal

pub returns-in_default-clause-goes : goal.returns-in_default-clause-goes
returns-in_default-clause-goes g c =
    let it = g.A.Asked in
    let word = c.args.word.now in
    let rest : List (List ℕ) = map string_bytes c.args.rest.now in
    let other : it.is_option word ≡ false = sym c.names.ensures ∙ c.if-not-names.true in
    joined_on it.is_option it.given c.args.asked word rest other
    ∙ (ap (λ (o : Option _). words_after it.is_option it.given o rest) (sym c.in_default.ensures)
    ∙ refused it.is_option it.given rest)

pub returns-then-not-names-clause-goes : goal.returns-then-not-names-clause-goes
returns-then-not-names-clause-goes g c =
    let it = g.A.Asked in
    let word = c.args.word.now in
    let rest : List (List ℕ) = map string_bytes c.args.rest.now in
    let other : it.is_option word ≡ false = sym c.names.ensures ∙ c.if-not-names.true in
    joined_on it.is_option it.given c.args.asked word rest other
    ∙ ap (λ (o : Option _). words_after it.is_option it.given o rest) (sym c.in-Some.ensures)

pub returns-in_default-split_first-clause-goes : goal.returns-in_default-split_first-clause-goes
returns-in_default-split_first-clause-goes g c =
    let it = g.A.Asked in
    let none : c.args.rest.now ≡ [] = nil_from_length _ c.in_default-split_first.ensures.cases in
    let name : it.is_option c.args.word.now ≡ true =
    sym c.names.ensures ∙ c.if-not-names.false in
    rw none (lone_name it.is_option it.given c.args.asked c.args.word.now name)

pub returns-in_default-with-clause-goes : goal.returns-in_default-with-clause-goes
returns-in_default-with-clause-goes g c =
    let it = g.A.Asked in
    let word = c.args.word.now in
    let next = c.in-Some-split_first in
    let split : c.args.rest.now ≡ next.value.now ∷ next.rest.now = search rules in
    let value : List ℕ = string_bytes next.value.now in
    let rest : List (List ℕ) = map string_bytes next.rest.now in
    let bytes : c.as_bytes.result.now ≡ value = search rules in
    let name : it.is_option word ≡ true = sym c.names.ensures ∙ c.if-not-names.false in
    rw split (named_on it.is_option it.given c.args.asked word value rest name
    ∙ (ap (λ (o : Option _). words_after it.is_option it.given o rest)
    (ap (λ (t : List ℕ). it.given word t c.args.asked) (sym bytes)
    ∙ sym c.in_default-with.ensures) ∙ refused it.is_option it.given rest))

pub returns-clause-goes : goal.returns-clause-goes
returns-clause-goes g c =
    let it = g.A.Asked in
    let word = c.args.word.now in
    let next = c.in-Some-split_first in
    let split : c.args.rest.now ≡ next.value.now ∷ next.rest.now = search rules in
    let value : List ℕ = string_bytes next.value.now in
    let rest : List (List ℕ) = map string_bytes next.rest.now in
    let bytes : c.as_bytes.result.now ≡ value = search rules in
    let name : it.is_option word ≡ true = sym c.names.ensures ∙ c.if-not-names.false in
    rw split (named_on it.is_option it.given c.args.asked word value rest name
    ∙ ap (λ (o : Option _). words_after it.is_option it.given o rest)
    (ap (λ (t : List ℕ). it.given word t c.args.asked) (sym bytes)
    ∙ sym c.in-Some-with.ensures))
