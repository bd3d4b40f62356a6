-- A message is spelled by as many octets as its size says; a message of which a part is written is
-- no longer than the whole.
-- `options_size-append` and `message_size-begun` are end theorems, for what writes messages:
-- nothing here cites them.
use Rattle.std.proofs.Common.{
  ◌≡◌,
  ℕ,
  ◌+◌,
  ◌-◌,
  ◌≤◌,
  Bool,
  true,
  false,
  cond,
  nat_lt,
  List,
  [],
  ◌∷◌,
  ◌++◌,
  length,
  refl,
  ap,
  ◌∙◌,
  arith,
  length-append,
}
use Rattle.message_model.specs.declared.messages.Kind4.{Kind4}
use Rattle.message_model.specs.Message.{Message, Opt, end_number}
use Rattle.message_model.specs.Spelling.{
  first_extended,
  first_long,
  header_spelling,
  extension_of,
  option_spelling,
  options_spelling,
  payload_spelling,
  spelling,
}
use Rattle.journal_model.specs.MessageSizes.{
  extension_size,
  option_size,
  options_size,
  payload_size,
  message_size,
}

-- ---- what is spelled

extension_size-of : (n : ℕ) → length (extension_of n) ≡ extension_size n
unfolding extension_of extension_size
extension_size-of n = by (nat_lt n first_extended) (nat_lt n first_long) _ _ _
  where
    by : (a b : Bool) (x y z : ℕ)
        → length (cond a [] (cond b (x ∷ []) (y ∷ z ∷ []))) ≡ cond a 0 (cond b 1 2)
    by true b x y z = refl
    by false true x y z = refl
    by false false x y z = refl

option_size-spelling : (before : ℕ) (option : Opt)
    → length (option_spelling before option) ≡ option_size before option
unfolding option_spelling
option_size-spelling before option =
    let delta : ℕ = option.0 - before in
    let size : ℕ = length option.1 in
    let whole = length-append (extension_of delta) (extension_of size ++ option.1) in
    let rest = length-append (extension_of size) option.1 in
    let first = extension_size-of delta in
    let second = extension_size-of size in
    omega (arith, whole, rest, first, second)

options_size-spelling : (before : ℕ) (options : List Opt)
    → length (options_spelling before options) ≡ options_size before options
unfolding options_spelling
options_size-spelling before [] = refl
options_size-spelling before (option ∷ options) =
    length-append (option_spelling before option) (options_spelling option.0 options)
    ∙ (ap (λ n. n + length (options_spelling option.0 options)) (option_size-spelling before option)
    ∙ ap (λ n. option_size before option + n) (options_size-spelling option.0 options))

payload_size-spelling : (payload : List ℕ)
    → length (payload_spelling payload) ≡ payload_size payload
unfolding payload_spelling
payload_size-spelling [] = refl
payload_size-spelling (b ∷ bytes) = omega arith

-- a message is spelled by as many octets as its size says
pub message_size-spelling : (m : Message) → length (spelling m) ≡ message_size m
unfolding spelling header_spelling
message_size-spelling m =
    let body = length-append m.token (options_spelling 0 m.options ++ payload_spelling m.payload) in
    let rest = length-append (options_spelling 0 m.options) (payload_spelling m.payload) in
    let options = options_size-spelling 0 m.options in
    let payload = payload_size-spelling m.payload in
    omega (arith, body, rest, options, payload)

-- ---- the most

-- what extends a nibble has at most two octets
extension_size-most : (n : ℕ) → extension_size n ≤ 2
unfolding extension_size
extension_size-most n = by (nat_lt n first_extended) (nat_lt n first_long)
  where
    by : (a b : Bool) → cond a 0 (cond b 1 2) ≤ 2
    by true b = omega arith
    by false true = omega arith
    by false false = omega arith

-- an option has at most five octets beside its value
abbrev pub room_for : List Opt → ℕ
room_for [] = 0
room_for (option ∷ options) = 5 + length option.1 + room_for options

pub options_size-most : (before : ℕ) (options : List Opt)
    → options_size before options ≤ room_for options
options_size-most before [] = omega arith
options_size-most before (option ∷ options) =
    let first = extension_size-most (option.0 - before) in
    let second = extension_size-most (length option.1) in
    let more = options_size-most option.0 options in
    omega (arith, first, second, more)

-- a payload has at most one octet more with its marker
payload_size-most : (payload : List ℕ) → payload_size payload ≤ 1 + length payload
payload_size-most [] = omega arith
payload_size-most (b ∷ bytes) = omega arith

-- so it is of a message
pub spelling-most : (m : Message)
    → length (spelling m) ≤ 5 + length m.token + room_for m.options + length m.payload
spelling-most m =
    let size = message_size-spelling m in
    let options = options_size-most 0 m.options in
    let payload = payload_size-most m.payload in
    omega (arith, size, options, payload)

-- ---- what is written so far

-- options one after the other
pub options_size-append : (before : ℕ) (options more : List Opt)
    → options_size before (options ++ more)
    ≡ options_size before options + options_size (end_number before options) more
options_size-append before [] more = omega arith
options_size-append before (option ∷ options) more =
    let rest = options_size-append option.0 options more in omega (arith, rest)

-- A message whose first options alone are written is no longer than the whole: where that fits a
-- datagram, each option and the payload can be written.
pub message_size-begun : (kind : Kind4) (code mid : ℕ) (token : List ℕ) (options more : List Opt)
    (payload : List ℕ)
    → length (spelling (record {
      kind = kind;
      code = code;
      mid = mid;
      token = token;
      options = options;
      payload =
          [];
    }))
    ≤ length
    (spelling (record {
      kind = kind;
      code = code;
      mid = mid;
      token = token;
      options = options
          ++ more;
      payload = payload;
    }))
message_size-begun kind code mid token options more payload =
    let one =
    message_size-spelling
    (record {
      kind = kind;
      code = code;
      mid = mid;
      token = token;
      options = options;
      payload
          = [];
    }) in
    let two =
    message_size-spelling
    (record {
      kind = kind;
      code = code;
      mid = mid;
      token = token;
      options = options ++ more;
      payload = payload;
    }) in
    let sum = options_size-append 0 options more in
    omega (arith, one, two, sum)
