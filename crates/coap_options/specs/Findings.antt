-- What the code stores of the options up to one of them.
use Rattle.std.specs.Prelude.{
  ◌≡◌,
  ℕ,
  Bool,
  false,
  ◌||◌,
  ◌==◌,
  List,
  [],
  ◌∷◌,
  ◌++◌,
  Option,
  Some,
  None,
  if◌then◌else◌,
}
use Rattle.std.specs.Option.{option_map, option_or}
use Rattle.message_model.specs.Message.{Opt, end_number}
use Rattle.message_model.specs.OptionTable as table
use Rattle.message_model.specs.OptionTable.{
  stands_in,
  recognized_options,
  first_bad_option,
  values,
  first_of,
}
use Rattle.coap_options.specs.declared.findings.Found.{Found}
use Rattle.coap_options.specs.Segments.{AreSegments}

-- Returns the number of the last option.
abbrev pub last_number : List Opt → Option ℕ
last_number [] = None
last_number (option ∷ options) = Some (end_number option.0 options)

-- Returns whether a number is that of the last option.
abbrev pub is_last : Option ℕ → ℕ → Bool
is_last None number = false
is_last (Some last) number = last == number

-- What is found in these options, each critical one of which is recognized (RFC 7252 section
-- 5.4.1).
pub record IsFound (options : List Opt) (found : Found) : Type 0 where
  pub last : found.last ≡ last_number options
  pub good : first_bad_option options ≡ None
  pub segments : AreSegments found.segments (values table.uri_path options)
  pub observe : option_map (λ v. v.now) found.observe ≡ first_of (values table.observe options)
  pub accept : option_map (λ v. v.now) found.accept ≡ first_of (values table.accept options)
  pub format : option_map (λ v. v.now) found.format ≡ first_of (values table.content_format options)
  pub block1 : option_map (λ v. v.now) found.block1 ≡ first_of (values table.block1 options)
  pub block2 : option_map (λ v. v.now) found.block2 ≡ first_of (values table.block2 options)
  pub echo : option_map (λ v. v.now) found.echo ≡ first_of (values table.echo options)
  pub proxy :
      found.proxy
      ≡ (stands_in table.proxy_uri (recognized_options options)
      || stands_in table.proxy_scheme (recognized_options options))

-- Returns the value that was found, or else that of this option, if it has the number.
abbrev pub or_value : Option (List ℕ) → ℕ → Opt → Option (List ℕ)
or_value found number option = option_or found (if option.0 == number then Some option.1 else None)

-- What is found with one more recognized option.
pub record IsFoundWith (found : Found) (option : Opt) (more : Found) : Type 0 where
  pub last : more.last ≡ Some option.0
  pub segments : (segments : List (List ℕ))
      → AreSegments found.segments segments
      → AreSegments more.segments
      (segments ++ (if option.0 == table.uri_path then option.1 ∷ [] else []))
  pub observe :
      option_map (λ v. v.now) more.observe
      ≡ or_value (option_map (λ v. v.now) found.observe) table.observe option
  pub accept :
      option_map (λ v. v.now) more.accept
      ≡ or_value (option_map (λ v. v.now) found.accept) table.accept option
  pub format :
      option_map (λ v. v.now) more.format
      ≡ or_value (option_map (λ v. v.now) found.format) table.content_format option
  pub block1 :
      option_map (λ v. v.now) more.block1
      ≡ or_value (option_map (λ v. v.now) found.block1) table.block1 option
  pub block2 :
      option_map (λ v. v.now) more.block2
      ≡ or_value (option_map (λ v. v.now) found.block2) table.block2 option
  pub echo :
      option_map (λ v. v.now) more.echo
      ≡ or_value (option_map (λ v. v.now) found.echo) table.echo option
  pub proxy :
      more.proxy ≡ (found.proxy || (option.0 == table.proxy_uri || option.0 == table.proxy_scheme))
