-- The requests of a generated trace: how long their parts are, and that what spells them are bytes.
use Rattle.std.proofs.Common.{
  ◌≡◌,
  ℕ,
  lit<,
  lit≤,
  ◌-◌,
  ◌*◌,
  ◌%◌,
  ◌<◌,
  ◌≤◌,
  ◌^◌,
  true,
  List,
  [],
  ◌∷◌,
  ◌++◌,
  length,
  codes,
  decimal,
  nat_lt,
  refl,
  arith,
}
use Rattle.std.proofs.lemmas.Bool.{lt-ltb, ltb-true, and_parts}
use Rattle.std.proofs.lemmas.Fmt.{length-decimal-le, decimal_is_IsNumeral}
use Rattle.std.proofs.lemmas.List.{length-append}
use Rattle.std.proofs.lemmas.List.Elements.{All-from_get_or, recursion_from_All}
use Rattle.std.proofs.lemmas.Str.Parse.{digit_at}
use Rattle.std.specs.List.{list_all}
use Rattle.message_model.specs.Message.{Message, Opt}
use Rattle.message_model.specs.Numbers.{IsByte, AreBytes}
use Rattle.message_model.specs.Spelling.{
  nibble_of,
  extension_of,
  header_spelling,
  option_spelling,
  options_spelling,
  payload_spelling,
  spelling,
}
use Rattle.message_model.proofs.ByteLemmas.{AreBytes-append}
use Rattle.coap_message.proofs.MessageSizes.{option_short, payload_short}
use Rattle.line_model.specs.Generator.{
  lifetime,
  kind_text,
  device_links,
  device_registration,
  observation,
}

-- ---- how long the query options of a device and its links are

pub name_short : (i : ℕ) → i < 2 ^ 16 → length (codes "ep=dev" ++ decimal i) ≤ 12
name_short i small =
    omega (
      arith,
      length-append (codes "ep=dev") (decimal i),
      length-decimal-le 5 i (omega arith)
          (omega (arith, small)) (omega (arith, small)),
    )

pub lifetime_short : (i : ℕ) → length (codes "lt=" ++ decimal (lifetime i)) ≤ 12
lifetime_short i =
    omega (
      arith,
      length-append (codes "lt=") (decimal (lifetime i)),
      length-decimal-le 4 (lifetime i)
          (omega arith) (omega arith) (omega arith),
    )

digit_short : (n : ℕ) → n < 10 → length (decimal n) ≤ 1
digit_short n small =
    length-decimal-le 1 n (omega arith) (omega (arith, small)) (omega (arith, small))

kind_text_short : (i : ℕ) → length (kind_text i) ≤ 5
kind_text_short i =
    omega (arith, length-append (codes "kind") (decimal (i % 7)), digit_short (i % 7) (omega arith))

pub kind_short : (i : ℕ) → length (codes "rt=" ++ kind_text i) ≤ 12
kind_short i = omega (arith, length-append (codes "rt=") (kind_text i), kind_text_short i)

pub links_short : (i : ℕ) → length (device_links i) ≤ 100
links_short i =
    let path = decimal (i % 10) in
    let kind = kind_text i in
    let last = codes ">;rt=\"" ++ (kind ++ codes "\"") in
    omega (
      arith,
      length-append (codes "</t>;rt=\"temp\",</s") (path ++ last),
      length-append path last,
      length-append (codes ">;rt=\"") (kind ++ codes "\""),
      length-append kind (codes "\""),
      digit_short (i % 10) (omega arith),
      kind_text_short i,
    )

-- ---- bytes

-- a literal text is bytes, by computing
literal_bytes : (text : List ℕ) → list_all (λ b. nat_lt b 256) text ≡ true → AreBytes text
literal_bytes [] e = tt
literal_bytes (b ∷ text) e =
    let parts = and_parts (nat_lt b 256) (list_all (λ c. nat_lt c 256) text) e in
    (ltb-true b 256 parts.0, literal_bytes text parts.1)

-- a number in decimal
decimal_bytes : (n : ℕ) → n < 2 ^ 64 → AreBytes (decimal n)
decimal_bytes n small =
    recursion_from_All IsByte (decimal n) (All-from_get_or IsByte (decimal n) 0 λ i h.
    let range = digit_at (decimal n) i (decimal_is_IsNumeral n small).0.1 h in
    omega (arith, range))

kind_text_bytes : (i : ℕ) → AreBytes (kind_text i)
kind_text_bytes i =
    AreBytes-append (codes "kind") (decimal (i % 7)) (literal_bytes (codes "kind") refl)
    (decimal_bytes (i % 7) (omega arith))

links_bytes : (i : ℕ) → AreBytes (device_links i)
links_bytes i =
    let last = codes ">;rt=\"" ++ (kind_text i ++ codes "\"") in
    AreBytes-append (codes "</t>;rt=\"temp\",</s") (decimal (i % 10) ++ last)
    (literal_bytes (codes "</t>;rt=\"temp\",</s") refl)
    (AreBytes-append (decimal (i % 10)) last (decimal_bytes (i % 10) (omega arith))
    (AreBytes-append (codes ">;rt=\"") (kind_text i ++ codes "\"")
    (literal_bytes (codes ">;rt=\"") refl)
    (AreBytes-append (kind_text i) (codes "\"") (kind_text_bytes i)
    (literal_bytes (codes "\"") refl))))

-- ---- options

-- an option that no byte extends: its number is less than 13 past the one before, and its value has
-- at most 12 bytes
record IsSmall (before : ℕ) (option : Opt) : Type 0 where
  delta : option.0 - before < 13
  size : length option.1 ≤ 12
  value : AreBytes option.1

abbrev AreSmall : ℕ → List Opt → Type 0
AreSmall before [] = Unit {0}
AreSmall before (option ∷ options) = IsSmall before option × AreSmall option.0 options

small_bytes : (before : ℕ) (option : Opt)
    → IsSmall before option
    → AreBytes (option_spelling before option)
unfolding option_spelling nibble_of extension_of
small_bytes before option small =
    let delta : nat_lt (option.0 - before) 13 ≡ true = lt-ltb (option.0 - before) 13 small.delta in
    let fits = small.size in
    let size : nat_lt (length option.1) 13 ≡ true =
    lt-ltb (length option.1) 13 (omega (arith, fits)) in
    let step = small.delta in
    rw (delta, size) (omega (arith, fits, step), small.value)

-- what such options are spelled by
options_bytes : (before : ℕ) (options : List Opt)
    → AreSmall before options
    → AreBytes (options_spelling before options)
unfolding options_spelling
options_bytes before [] small = tt
options_bytes before (option ∷ options) small =
    AreBytes-append (option_spelling before option) (options_spelling option.0 options)
    (small_bytes before option small.0) (options_bytes option.0 options small.1)

options_short : (before : ℕ) (options : List Opt)
    → AreSmall before options
    → length (options_spelling before options) ≤ 17 * length options
unfolding options_spelling
options_short before [] small = lit≤ tt
options_short before (option ∷ options) small =
    let fits = small.0.size in
    omega (
      arith,
      length-append (option_spelling before option) (options_spelling option.0 options),
      option_short before option,
      options_short option.0 options small.1,
      fits,
    )

-- ---- requests

payload_bytes : (payload : List ℕ) → AreBytes payload → AreBytes (payload_spelling payload)
unfolding payload_spelling
payload_bytes [] h = tt
payload_bytes (b ∷ payload) h = (lit< tt, h)

-- a request whose parts are small
pub record IsShort (m : Message) : Type 0 where
  pub bytes : AreBytes (spelling m)
  pub short : length (spelling m) ≤ 256

spelled_short : (m : Message)
    → AreBytes (header_spelling m)
    → AreBytes m.token
    → AreSmall 0 m.options
    → AreBytes m.payload
    → length m.token ≤ 8 → length m.options ≤ 4 → length m.payload ≤ 100 → IsShort m
unfolding spelling header_spelling
spelled_short m header token small payload few_token few_options few_payload =
    let options = options_spelling 0 m.options in
    let end = payload_spelling m.payload in
    record {
      bytes = AreBytes-append (header_spelling m) (m.token ++ (options ++ end)) header
          (AreBytes-append m.token (options ++ end) token
          (AreBytes-append options end (options_bytes 0 m.options small)
          (payload_bytes m.payload payload)));
      short = omega (
        arith,
        length-append m.token (options ++ end),
        length-append options end,
        options_short 0 m.options small,
        payload_short m.payload,
        few_token,
        few_options,
        few_payload,
      );
    }

pub registration_short : (i : ℕ) → i ≤ 4_000 → IsShort (device_registration i)
unfolding header_spelling
registration_short i few =
    let name = codes "ep=dev" ++ decimal i in
    let seconds = codes "lt=" ++ decimal (lifetime i) in
    let name_bytes : AreBytes name =
    AreBytes-append (codes "ep=dev") (decimal i) (literal_bytes (codes "ep=dev") refl)
    (decimal_bytes i (omega (arith, few))) in
    let seconds_bytes : AreBytes seconds =
    AreBytes-append (codes "lt=") (decimal (lifetime i)) (literal_bytes (codes "lt=") refl)
    (decimal_bytes (lifetime i) (omega arith)) in
    spelled_short (device_registration i)
    (lit< tt, (lit< tt, (omega (arith, few), (omega arith, tt))))
    (omega arith, tt) (
      record { delta = lit< tt; size = lit≤ tt; value = literal_bytes (codes "rd") refl },
      (
        record { delta = lit< tt; size = name_short i (omega (arith, few)); value = name_bytes },
        (record { delta = lit< tt; size = lifetime_short i; value = seconds_bytes }, tt),
      ),
    )
    (links_bytes i) (lit≤ tt) (lit≤ tt) (links_short i)

pub observation_short : (i : ℕ) → i ≤ 4_000 → IsShort (observation i)
unfolding header_spelling
observation_short i few =
    let kind = codes "rt=" ++ kind_text i in
    let kind_bytes : AreBytes kind =
    AreBytes-append (codes "rt=") (kind_text i) (literal_bytes (codes "rt=") refl)
    (kind_text_bytes i) in
    spelled_short (observation i)
    (lit< tt, (lit< tt, (omega (arith, few), (omega arith, tt))))
    (omega arith, (omega arith, tt)) (
      record { delta = lit< tt; size = lit≤ tt; value = tt },
      (
        record { delta = lit< tt; size = lit≤ tt; value = literal_bytes (codes "rd-lookup") refl },
        (
          record { delta = lit< tt; size = lit≤ tt; value = literal_bytes (codes "res") refl },
          (record { delta = lit< tt; size = kind_short i; value = kind_bytes }, tt),
        ),
      ),
    )
    tt (lit≤ tt) (lit≤ tt) (lit≤ tt)
