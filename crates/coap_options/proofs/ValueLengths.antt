-- The values that give numbers are short.
use Rattle.std.proofs.Common.{◌≡◌, ℕ, ◌≤◌, List, length, false, Option, Some, refl, ap, Bor}
use Rattle.std.specs.Prelude.{option_map}
use Rattle.message_model.specs.Message.{Opt}
use Rattle.message_model.specs.OptionTable as table
use Rattle.message_model.specs.OptionTable.{Definition, definition_of, values, first_of}
use Rattle.coap_options.proofs.OptionWalks.{value_short}

abbrev up_to : ℕ → Definition
up_to most = record { least = 0; most = most; repeatable = false }

observe_is : definition_of table.observe ≡ Some (up_to 3)
unfolding definition_of
observe_is = refl

accept_is : definition_of table.accept ≡ Some (up_to 2)
unfolding definition_of
accept_is = refl

format_is : definition_of table.content_format ≡ Some (up_to 2)
unfolding definition_of
format_is = refl

block1_is : definition_of table.block1 ≡ Some (up_to 3)
unfolding definition_of
block1_is = refl

block2_is : definition_of table.block2 ≡ Some (up_to 3)
unfolding definition_of
block2_is = refl

echo_is : definition_of table.echo ≡ Some (record { least = 1; most = 40; repeatable = false })
unfolding definition_of
echo_is = refl

found_short : (number most : ℕ) (options : List Opt) (found : Option (Bor (List ℕ)))
    → definition_of number ≡ Some (up_to most)
    → option_map (λ v. v.now) found ≡ first_of (values number options)
    → (x : Bor (List ℕ))
    → found ≡ Some x
    → length x.now ≤ most
found_short number most options found is e x some =
    value_short number (up_to most) options (option_map (λ (v : Bor (List ℕ)). v.now) found) is e
    x.now (ap (option_map (λ (v : Bor (List ℕ)). v.now)) some)

pub observe_short : (options : List Opt) (found : Option (Bor (List ℕ)))
    → option_map (λ v. v.now) found ≡ first_of (values table.observe options)
    → (x : Bor (List ℕ))
    → found ≡ Some x
    → length x.now ≤ 3
observe_short options found = found_short table.observe 3 options found observe_is

pub accept_short : (options : List Opt) (found : Option (Bor (List ℕ)))
    → option_map (λ v. v.now) found ≡ first_of (values table.accept options)
    → (x : Bor (List ℕ))
    → found ≡ Some x
    → length x.now ≤ 2
accept_short options found = found_short table.accept 2 options found accept_is

pub format_short : (options : List Opt) (found : Option (Bor (List ℕ)))
    → option_map (λ v. v.now) found ≡ first_of (values table.content_format options)
    → (x : Bor (List ℕ))
    → found ≡ Some x
    → length x.now ≤ 2
format_short options found = found_short table.content_format 2 options found format_is

pub block1_short : (options : List Opt) (found : Option (Bor (List ℕ)))
    → option_map (λ v. v.now) found ≡ first_of (values table.block1 options)
    → (x : Bor (List ℕ))
    → found ≡ Some x
    → length x.now ≤ 3
block1_short options found = found_short table.block1 3 options found block1_is

pub block2_short : (options : List Opt) (found : Option (Bor (List ℕ)))
    → option_map (λ v. v.now) found ≡ first_of (values table.block2 options)
    → (x : Bor (List ℕ))
    → found ≡ Some x
    → length x.now ≤ 3
block2_short options found = found_short table.block2 3 options found block2_is

pub echo_short : (options : List Opt) (found : Option (Bor (List ℕ)))
    → option_map (λ v. v.now) found ≡ first_of (values table.echo options)
    → (x : Bor (List ℕ))
    → found ≡ Some x
    → length x.now ≤ 40
echo_short options found e x some =
    value_short table.echo (record { least = 1; most = 40; repeatable = false }) options
    (option_map (λ (v : Bor (List ℕ)). v.now) found) echo_is e
    x.now (ap (option_map (λ (v : Bor (List ℕ)). v.now)) some)
