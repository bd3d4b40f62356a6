-- The values of options: numbers from 1 to a limit, as they are written and read.
use Rattle.std.proofs.Common.{◌≡◌, ℕ, ◌<◌, ◌≤◌, ◌^◌, List, Option, Some, None, refl, ap, ◌∙◌, subst}
use Rattle.std.proofs.Common.{arith, decimal}
use Rattle.std.specs.Prelude.{option_and_then, option_map, nat_le, unwrap_or}
use Rattle.std.proofs.lemmas.Bool.{leb-true}
use Rattle.std.proofs.lemmas.Bool.Decides.{nat_tests}
use Rattle.clap.specs.Words.{first_value, found_of}
use Rattle.clap.specs.declared.parser.matches.ArgMatches.{ArgMatches}
use Rattle.rd_base.proofs.lemmas.Choices.{let_through}
use Rattle.line_model.specs.Numbers.{number_of}
use Rattle.line_model.proofs.Numbers.{number_of-found, number_of-decimal}
use Rattle.trace_replay.specs.Words.{IsWithin, count_of, from_one, number_found, once}

-- a number that a text prints is within the limit
counts_within : (limit : ℕ) (text : List ℕ) → IsWithin limit (count_of limit text)
counts_within limit text = by (number_of limit text) refl
  where
    at : (n m : ℕ) → n ≤ limit → from_one n ≡ Some m → (1 ≤ m) × (m ≤ limit)
    at n m most e =
        let through = let_through (nat_le 1 n) n m e in (
          subst (λ (k : ℕ). 1 ≤ k) through.1 (leb-true 1 n through.0),
          subst (λ (k : ℕ). k ≤ limit) through.1 most,
        )

    one : (n : ℕ) → n ≤ limit → (o : Option ℕ) → from_one n ≡ o → IsWithin limit o
    one n most None e = tt
    one n most (Some m) e = at n m most e

    by : (o : Option ℕ) → number_of limit text ≡ o → IsWithin limit (option_and_then from_one o)
    by None e = tt
    by (Some n) e = one n (number_of-found limit text n e).within (from_one n) refl

pub once_within : (limit : ℕ) (before : Option ℕ) (text : List ℕ)
    → IsWithin limit (once before (count_of limit text))
once_within limit None text = counts_within limit text
once_within limit (Some n) text = tt

pub default_within : (limit otherwise : ℕ) (o : Option ℕ) → 1 ≤ otherwise → otherwise ≤ limit
    → IsWithin limit o → (1 ≤ unwrap_or o otherwise) × (unwrap_or o otherwise ≤ limit)
default_within limit otherwise None some most h = (some, most)
default_within limit otherwise (Some n) some most h = h

-- a number that is printed is read
counted : (limit n : ℕ) → 1 ≤ n → n ≤ limit → limit < 2 ^ 64
    → count_of limit (decimal n) ≡ Some n
counted limit n some most small =
    ap (option_and_then from_one) (number_of-decimal limit n most small) ∙ positive
  where
    positive : from_one n ≡ Some n
    positive = grind (arith, nat_tests)

pub found : (limit : ℕ) (name : List ℕ) (matches : ArgMatches) (o : Option ℕ) → limit < 2 ^ 64
    → IsWithin limit o → first_value (found_of matches) name ≡ option_map decimal o
    → number_found limit name matches ≡ o
found limit name matches None small within e = ap (option_and_then (count_of limit)) e
found limit name matches (Some n) small within e =
    ap (option_and_then (count_of limit)) e ∙ counted limit n within.0 within.1 small
