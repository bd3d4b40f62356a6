-- The words of a command line one after the other: what a word leads to.
use Rattle.std.proofs.Common.{◌≡◌, ℕ, List, [], ◌∷◌, Option, Some, None, Err, ap}
use Rattle.std.proofs.Common.{refl}
use Rattle.std.specs.Prelude.{option_and_then}
use Rattle.hosting.specs.declared.options.HostOption.{HostOption}
use Rattle.hosting.specs.declared.options.OptionName.{OptionName}
use Rattle.hosting.specs.declared.plans.HostAsked.{HostAsked}
use Rattle.hosting.specs.declared.wanted.HostFault.{HostFault}
use Rattle.hosting.specs.declared.wanted.HostFault.TheVariants as fault
use Rattle.hosting.specs.Words.{IsRead, asked_by, asked_from, asked_with, before, joined}
use Rattle.hosting.specs.Words.{name_of, option_of, options_of}

-- a word that names no option
pub other_word : (word : List ℕ) (rest : List (List ℕ)) → name_of word ≡ None
    → options_of (word ∷ rest) ≡ before (joined word) (options_of rest)
unfolding options_of
other_word word [] e = rw e refl
other_word word (value ∷ words) e = rw e refl

-- a name, and the word after it
pub name_and_value : (word value : List ℕ) (words : List (List ℕ)) (name : OptionName)
    → name_of word ≡ Some name
    → options_of (word ∷ value ∷ words) ≡ before (option_of name value) (options_of words)
unfolding options_of
name_and_value word value words name e = rw e refl

-- a name with no word after it
pub lone_name : (word : List ℕ) (name : OptionName) → name_of word ≡ Some name
    → options_of (word ∷ []) ≡ None
unfolding options_of
lone_name word name e = rw e refl

-- ---- what is asked for

-- words that begin with an option ask for what the others do after it
pub goes_on : (asked : HostAsked) (words rest : List (List ℕ)) (option : HostOption)
    (more : HostAsked) → options_of words ≡ before (Some option) (options_of rest)
    → asked_with asked option ≡ Some more → asked_by asked words ≡ asked_by more rest
unfolding asked_from
goes_on asked words rest option more begins with = rw begins (by (options_of rest))
  where
    by : (os : Option (List HostOption))
        → option_and_then (asked_from (Some asked)) (before (Some option) os)
        ≡ option_and_then (asked_from (Some more)) os
    by None = refl
    by (Some os) = ap (λ (o : Option HostAsked). asked_from o os) with

-- an option that may not come again
pub stops : (asked : HostAsked) (words rest : List (List ℕ)) (option : HostOption)
    → options_of words ≡ before (Some option) (options_of rest)
    → asked_with asked option ≡ None → asked_by asked words ≡ None
unfolding asked_from
stops asked words rest option begins with = rw begins (by (options_of rest))
  where
    by : (os : Option (List HostOption))
        → option_and_then (asked_from (Some asked)) (before (Some option) os) ≡ None
    by None = refl
    by (Some os) = ap (λ (o : Option HostAsked). asked_from o os) with

-- why it was not read is why all words are not read
pub failed : (asked : HostAsked) (words rest : List (List ℕ)) (option : HostOption)
    (why : HostFault) → options_of words ≡ before (Some option) (options_of rest)
    → IsRead (asked_with asked option) (Err why) → IsRead (asked_by asked words) (Err why)
failed asked words rest option fault.Usage begins with =
    stops asked words rest option begins with
failed asked words rest option fault.Starved begins with = tt

-- words that are none of the program
pub refused : (asked : HostAsked) (words : List (List ℕ)) → options_of words ≡ None
    → asked_by asked words ≡ None
refused asked words e = rw e refl

-- no words more
pub no_more : (asked : HostAsked) → asked_by asked [] ≡ Some asked
unfolding asked_from options_of
no_more asked = refl
