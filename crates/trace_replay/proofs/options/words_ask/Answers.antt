use Rattle.std.proofs.Common.{◌≡◌, ℕ, List, [], ◌∷◌, Global, String, Some, map, sym, ap}
use Rattle.std.proofs.Common.{◌∙◌, rules}
use Rattle.std.specs.String.{string_bytes}
use Rattle.std.proofs.lemmas.List.{nil_from_length}
use Rattle.trace_replay.specs.Options.{words_after}
use Rattle.trace_replay.proofs.OptionSteps.{no_more}
use Rattle.trace_replay.proofs.options.words_ask.Goals as goal

left_is : (left : List (String Global)) (word : String Global) (rest : List (String Global))
    → left ≡ word ∷ rest → (bytes : List ℕ) → bytes ≡ string_bytes word
    → map string_bytes left ≡ bytes ∷ map string_bytes rest
left_is left word rest e bytes b =
    ap (map string_bytes) e ∙ ap (λ (t : List ℕ). t ∷ map string_bytes rest) (sym b)

pub returns-in_default-with_word : goal.returns-in_default-with_word
returns-in_default-with_word g c =
    let it = g.A.Asked in
    let split = left_is c.words.left.now c.in-Some.word.now c.in-Some.rest.now (search rules)
    c.as_bytes.result.now (search rules) in
    sym (c.words.invariant ∙ (ap (words_after it.is_option it.given (Some c.words.asked)) split
    ∙ c.in_default-with_word.ensures.goes))

pub words-preserved : goal.words-preserved
words-preserved g c =
    let it = g.A.Asked in
    let split = left_is c.words.left.now c.in-Some.word.now c.in-Some.rest.now (search rules)
    c.as_bytes.result.now (search rules) in
    c.words.invariant ∙ (ap (words_after it.is_option it.given (Some c.words.asked)) split
    ∙ c.in-Some-with_word.ensures.goes)

pub returns : goal.returns
returns g c =
    let it = g.A.Asked in
    let none : c.words.left.now ≡ [] = nil_from_length _ c.in_default.ensures.cases in
    sym (c.words.invariant
    ∙ (ap (λ (ws : List _). words_after it.is_option it.given (Some c.words.asked)
    (map string_bytes ws)) none ∙ no_more it.is_option it.given (Some c.words.asked)))
