-- How long messages are that are written option by option.
use Rattle.std.proofs.Common.{
  ◌≡◌,
  ℕ,
  ◌+◌,
  ◌-◌,
  ◌/◌,
  ◌%◌,
  ◌≤◌,
  Bool,
  true,
  false,
  List,
  [],
  ◌∷◌,
  ◌++◌,
  length,
  ap,
  ◌∙◌,
  arith,
  append-nil,
  if◌then◌else◌,
  nat_lt,
}
use Rattle.std.proofs.lemmas.List.{length-append}
use Rattle.message_model.specs.Message.{Message, Opt, end_number}
use Rattle.message_model.specs.declared.messages.Kind4.{Kind4}
use Rattle.message_model.specs.Spelling.{
  first_extended,
  first_long,
  extension_of,
  header_spelling,
  option_spelling,
  options_spelling,
  payload_spelling,
  spelling,
}
use Rattle.coap_message.specs.PartialMessages.{with_last_option, with_payload, bare_message}
use Rattle.coap_message.proofs.WriterLemmas.{spelled_option, spelled_payload}

-- at most two octets extend a nibble
pub extension_short : (n : ℕ) → length (extension_of n) ≤ 2
unfolding extension_of
extension_short n = by_range (nat_lt n first_extended) (nat_lt n first_long) where
  by_range : (small long : Bool)
      → length (if small
      then []
      else if long
      then (n - first_extended) ∷ []
      else ((n - first_long) / 256) ∷ ((n - first_long) % 256) ∷ [])
      ≤ 2
  by_range true long = omega arith
  by_range false true = omega arith
  by_range false false = omega arith

-- an option takes at most five octets beside its value
pub option_short : (before : ℕ) (option : Opt)
    → length (option_spelling before option) ≤ 5 + length option.1
unfolding option_spelling
option_short before option =
    let delta = extension_short (option.0 - before) in
    let size = extension_short (length option.1) in
    let whole =
    length-append (extension_of (option.0 - before))
    (extension_of (length option.1) ++ option.1) in
    let rest = length-append (extension_of (length option.1)) option.1 in
    omega (arith, delta, size, whole, rest)

-- a message with one option more
pub with_option_size : (m : Message) (option : Opt)
    → m.payload ≡ []
    → length (spelling (with_last_option m option)) ≤ length (spelling m) + (5 + length option.1)
with_option_size m option none =
    let whole =
    ap length (spelled_option m option none)
    ∙ length-append (spelling m) (option_spelling (end_number 0 m.options) option) in
    let short = option_short (end_number 0 m.options) option in
    omega (arith, whole, short)

-- a payload takes at most one octet beside its own
pub payload_short : (payload : List ℕ) → length (payload_spelling payload) ≤ 1 + length payload
unfolding payload_spelling
payload_short [] = omega arith
payload_short (b ∷ bytes) = omega arith

-- a message with its payload
pub with_payload_size : (m : Message) (payload : List ℕ)
    → m.payload ≡ []
    → length (spelling (with_payload m payload)) ≤ length (spelling m) + (1 + length payload)
with_payload_size m payload none =
    let whole =
    ap length (spelled_payload m payload none)
    ∙ length-append (spelling m) (payload_spelling payload) in
    let short = payload_short payload in
    omega (arith, whole, short)

-- a message that begins
pub begun_size : (kind : Kind4) (code mid : ℕ) (token : List ℕ)
    → length (spelling (bare_message kind code mid token)) ≡ 4 + length token
unfolding spelling header_spelling options_spelling payload_spelling
begun_size kind code mid token =
    let e : length (token ++ []) ≡ length token =
    ap (λ (xs : List ℕ). length xs) (append-nil token) in
    omega (arith, e)
