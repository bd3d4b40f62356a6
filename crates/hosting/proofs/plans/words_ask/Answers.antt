use Rattle.std.proofs.Common.{◌≡◌, ℕ, List, [], ◌∷◌, Global, String, Option, Some}
use Rattle.std.proofs.Common.{Err, map, sym, ap, ◌∙◌, rules, subst}
use Rattle.std.specs.String.{string_bytes}
use Rattle.std.proofs.lemmas.List.{nil_from_length}
use Rattle.hosting.specs.declared.plans.HostAsked.{HostAsked}
use Rattle.hosting.specs.Words.{IsRead, asked_by, before, options_of}
use Rattle.hosting.proofs.OptionSteps.{failed, goes_on, no_more}
use Rattle.hosting.proofs.plans.words_ask.Goals as goal

left_is : (left : List (String Global)) (word : String Global) (rest : List (String Global))
    → left ≡ word ∷ rest → (bytes : List ℕ) → bytes ≡ string_bytes word
    → bytes ∷ map string_bytes rest ≡ map string_bytes left
left_is left word rest e bytes b =
    ap (λ (t : List ℕ). t ∷ map string_bytes rest) b ∙ ap (map string_bytes) (sym e)

pub words-preserved : goal.words-preserved
words-preserved c =
    let left : List (List ℕ) = map string_bytes c.words.left.now in
    let behind : List (List ℕ) = map string_bytes c.in-Some-first_option.behind.now in
    let split = left_is c.words.left.now c.in-Some.word.now c.in-Some.rest.now (search rules)
    c.as_bytes.result.now (search rules) in
    let option = c.in-Some-first_option.option in
    let begins : options_of left ≡ before (Some option) (options_of behind) =
    sym (ap options_of split) ∙ c.in-Some-first_option.ensures.begins in
    record {
      rest = c.words.invariant.rest
          ∙ goes_on c.words.asked left behind option c.in-Ok.more begins c.in-Ok.ensures.read;
      within = c.in-Ok.ensures.within;
    }

pub returns-in-Err-clause-read : goal.returns-in-Err-clause-read
returns-in-Err-clause-read c =
    let left : List (List ℕ) = map string_bytes c.words.left.now in
    let behind : List (List ℕ) = map string_bytes c.in-Some-first_option.behind.now in
    let split = left_is c.words.left.now c.in-Some.word.now c.in-Some.rest.now (search rules)
    c.as_bytes.result.now (search rules) in
    let option = c.in-Some-first_option.option in
    let begins : options_of left ≡ before (Some option) (options_of behind) =
    sym (ap options_of split) ∙ c.in-Some-first_option.ensures.begins in
    let why = c.in-Err.fault in
    subst (λ (said : Option HostAsked). IsRead said (Err why)) (sym c.words.invariant.rest)
    (failed c.words.asked left behind option why begins c.in-Err.ensures.read)

pub returns-clause-read : goal.returns-clause-read
returns-clause-read c =
    let none : c.words.left.now ≡ [] = nil_from_length _ c.in_default.ensures.cases in
    c.words.invariant.rest
    ∙ (ap (λ (ws : List _). asked_by c.words.asked (map string_bytes ws)) none
    ∙ no_more c.words.asked)
