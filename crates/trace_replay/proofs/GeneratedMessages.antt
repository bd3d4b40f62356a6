-- The messages of a generated trace: they are messages, and the lines that bring them are lines.
use Rattle.std.proofs.Common.{
  ◌≡◌,
  ℕ,
  zero,
  suc,
  lit<,
  ◌-◌,
  ◌/◌,
  ◌%◌,
  ◌<◌,
  ◌≤◌,
  ◌^◌,
  ◌&&◌,
  Bool,
  true,
  false,
  cond,
  List,
  [],
  ◌∷◌,
  ◌++◌,
  length,
  codes,
  decimal,
  refl,
  arith,
}
use Rattle.std.specs.Prelude.{nat_lt}
use Rattle.std.specs.List.{list_all}
use Rattle.std.proofs.lemmas.Bool.{false≢true, cond_both}
use Rattle.std.proofs.lemmas.Fmt.{decimal_is_IsNumeral, length-decimal-le}
use Rattle.std.proofs.lemmas.List.Elements.{All-from_get_or, recursion_from_All}
use Rattle.std.proofs.lemmas.List.{length-append}
use Rattle.std.proofs.lemmas.Str.Parse.{digit_at}
use Rattle.rd_base.proofs.lemmas.Each.{each_append}
use Rattle.message_model.specs.Message.{
  Message,
  Opt,
  IsMessage,
  AreOptionsAfter,
  longest_value,
  last_number,
}
use Rattle.message_model.specs.Numbers.{IsByte, AreBytes}
use Rattle.message_model.specs.Spelling.{
  nibble_of,
  extension_of,
  option_spelling,
  options_spelling,
  payload_spelling,
  header_spelling,
  kind_number,
  spelling,
}
use Rattle.message_model.specs.declared.messages.Kind4.{Kind4}
use Rattle.message_model.specs.declared.messages.Kind4.TheVariants.{Con, Non, Ack, Rst}
use Rattle.journal_model.proofs.MessageSizeLaws.{spelling-most}
use Rattle.hex.specs.Hex.{IsBytes}
use Rattle.rd_base.specs.declared.peers.Host.TheVariants as host
use Rattle.line_model.specs.declared.lines.Line.TheVariants as line
use Rattle.line_model.specs.Generator.{
  lifetime,
  kind_text,
  device_links,
  device_registration,
  observation,
}
use Rattle.line_model.specs.Lines.{IsLine, come}

-- ---- the octets of messages

-- texts that are written out
and_both : (a b : Bool) → (a && b) ≡ true → (a ≡ true) × (b ≡ true)
and_both true b e = (refl, e)
and_both false b e = absurd (false≢true e)

small_bytes : (xs : List ℕ) → list_all (λ b. nat_lt b 256) xs ≡ true → AreBytes xs
small_bytes [] e = tt
small_bytes (b ∷ bs) e =
    let both = and_both (nat_lt b 256) (list_all (λ x. nat_lt x 256) bs) e in
    let first = both.0 in (grind (arith, first), small_bytes bs both.1)

decimal_bytes : (n : ℕ) → n < 2 ^ 64 → AreBytes (decimal n)
decimal_bytes n small =
    recursion_from_All IsByte (decimal n) (All-from_get_or IsByte (decimal n) 0 λ i h.
    let range = digit_at (decimal n) i (decimal_is_IsNumeral n small).0.1 h in
    omega (arith, range))

-- the octets of an option
nibble-most : (n : ℕ) → nibble_of n ≤ 14
unfolding nibble_of
nibble-most n =
    cond_both (nat_lt n 13) n (cond (nat_lt n 269) 13 14) (λ x. x ≤ 14) (λ e. grind (arith, e))
    (λ _. cond_both (nat_lt n 269) 13 14 (λ x. x ≤ 14) (λ _. omega arith) (λ _. omega arith))

extension_bytes : (n : ℕ) → n ≤ longest_value → AreBytes (extension_of n)
unfolding extension_of
extension_bytes n low =
    cond_both (nat_lt n 13) []
    (cond (nat_lt n 269) ((n - 13) ∷ []) (((n - 269) / 256) ∷ ((n - 269) % 256) ∷ [])) AreBytes
    (λ _. tt)
    (λ _. cond_both (nat_lt n 269) ((n - 13) ∷ []) (((n - 269) / 256) ∷ ((n - 269) % 256) ∷ [])
    AreBytes (λ e. (grind (arith, e), tt)) (λ _. (omega (arith, low), (omega arith, tt))))

option_bytes : (before : ℕ) (option : Opt)
    → option.0 ≤ last_number
    → length option.1 ≤ longest_value
    → AreBytes option.1
    → AreBytes (option_spelling before option)
unfolding option_spelling
option_bytes before option number size value =
    let first = nibble-most (option.0 - before) in
    let second = nibble-most (length option.1) in (
      omega (arith, first, second),
      each_append IsByte (extension_of (option.0 - before))
          (extension_of (length option.1) ++ option.1)
          (extension_bytes (option.0 - before) (omega (arith, number)))
          (each_append IsByte (extension_of (length option.1)) option.1
          (extension_bytes (length option.1) size) value),
    )

options_bytes : (before : ℕ) (options : List Opt)
    → AreOptionsAfter before options
    → AreBytes (options_spelling before options)
unfolding options_spelling
options_bytes before [] h = tt
options_bytes before (option ∷ options) h =
    each_append IsByte (option_spelling before option) (options_spelling option.0 options)
    (option_bytes before option h.1 h.2 h.3) (options_bytes option.0 options h.4)

payload_bytes : (payload : List ℕ) → AreBytes payload → AreBytes (payload_spelling payload)
unfolding payload_spelling
payload_bytes [] h = tt
payload_bytes (b ∷ bytes) h = (lit< tt, h)

kind-most : (kind : Kind4) → kind_number kind ≤ 3
kind-most Con = omega arith
kind-most Non = omega arith
kind-most Ack = omega arith
kind-most Rst = omega arith

-- what spells a message are octets
pub spelling_bytes : (m : Message) → IsMessage m → AreBytes (spelling m)
unfolding spelling header_spelling
spelling_bytes m fits =
    let kind = kind-most m.kind in
    let token = fits.token_length in
    let mid = fits.mid in (
      omega (arith, kind, token),
      (
        fits.code,
        (
          omega (arith, mid),
          (
            omega arith,
            each_append IsByte m.token (options_spelling 0 m.options ++ payload_spelling m.payload)
                fits.token
                (each_append IsByte (options_spelling 0 m.options) (payload_spelling m.payload)
                (options_bytes 0 m.options fits.options)
                (payload_bytes m.payload fits.payload)),
          ),
        ),
      ),
    )

-- ---- the messages of a generated trace

labelled : (label : List ℕ) (n : ℕ)
    → list_all (λ b. nat_lt b 256) label ≡ true
    → n < 2 ^ 64
    → AreBytes (label ++ decimal n)
labelled label n e small =
    each_append IsByte label (decimal n) (small_bytes label e) (decimal_bytes n small)

labelled-short : (label : List ℕ) (n : ℕ)
    → n < 10 ^ 5
    → length label ≤ 10
    → length (label ++ decimal n) ≤ 15
labelled-short label n small few =
    omega (
      arith,
      few,
      length-append label (decimal n),
      length-decimal-le 5 n (omega arith)
          (omega (arith, small)) (omega (arith, small)),
    )

kind_bytes : (i : ℕ) → AreBytes (codes "rt=" ++ kind_text i)
kind_bytes i =
    each_append IsByte (codes "rt=") (kind_text i) (small_bytes (codes "rt=") refl)
    (labelled (codes "kind") (i % 7) refl (omega arith))

kind-short : (i : ℕ) → length (codes "rt=" ++ kind_text i) ≤ 20
kind-short i =
    omega (
      arith,
      length-append (codes "rt=") (kind_text i),
      labelled-short (codes "kind") (i % 7)
          (omega arith) (omega arith),
    )

links_bytes : (i : ℕ) → AreBytes (device_links i)
links_bytes i =
    each_append IsByte (codes "</t>;rt=\"temp\",</s")
    (decimal (i % 10) ++ (codes ">;rt=\"" ++ (kind_text i ++ codes "\"")))
    (small_bytes (codes "</t>;rt=\"temp\",</s") refl)
    (each_append IsByte (decimal (i % 10)) (codes ">;rt=\"" ++ (kind_text i ++ codes "\""))
    (decimal_bytes (i % 10) (omega arith))
    (each_append IsByte (codes ">;rt=\"") (kind_text i ++ codes "\"")
    (small_bytes (codes ">;rt=\"") refl)
    (each_append IsByte (kind_text i) (codes "\"")
    (labelled (codes "kind") (i % 7) refl (omega arith)) (small_bytes (codes "\"") refl))))

links-short : (i : ℕ) → length (device_links i) ≤ 100
links-short i =
    let path = decimal (i % 10) in
    let kind = kind_text i in
    let last = codes ">;rt=\"" ++ (kind ++ codes "\"") in
    omega (
      arith,
      length-append (codes "</t>;rt=\"temp\",</s") (path ++ last),
      length-append path last,
      length-append (codes ">;rt=\"") (kind ++ codes "\""),
      length-append kind (codes "\""),
      length-decimal-le 1 (i % 10) (omega arith) (omega arith) (omega arith),
      labelled-short (codes "kind") (i % 7) (omega arith) (omega arith),
    )

pub registration-IsMessage : (i : ℕ) → i ≤ 4_000 → IsMessage (device_registration i)
registration-IsMessage i low = record {
  code = lit< tt;
  class = refl;
  mid = omega (arith, low);
  token_length = omega arith;
  token = (omega arith, tt);
  options = (
    omega arith,
    omega arith,
    omega arith,
    small_bytes (codes "rd") refl,
    (
      omega arith,
      omega arith,
      (let short = labelled-short (codes "ep=dev") i (omega (arith, low)) (omega arith) in omega
          (arith, short)),
      labelled (codes "ep=dev") i refl (omega (arith, low)),
      (
        omega arith,
        omega arith,
        (let short = labelled-short (codes "lt=") (lifetime i) (omega arith) (omega arith) in omega
            (arith, short)),
        labelled (codes "lt=") (lifetime i) refl (omega arith),
        tt,
      ),
    ),
  );
  payload = links_bytes i;
  empty = λ e. absurd (let no : 2 ≡ 0 = e in omega (arith, no));
}

pub observation-IsMessage : (i : ℕ) → i ≤ 4_000 → IsMessage (observation i)
observation-IsMessage i low = record {
  code = lit< tt;
  class = refl;
  mid = omega (arith, low);
  token_length = omega arith;
  token = (omega arith, (omega arith, tt));
  options = (
    omega arith,
    omega arith,
    omega arith,
    tt,
    (
      omega arith,
      omega arith,
      omega arith,
      small_bytes (codes "rd-lookup") refl,
      (
        omega arith,
        omega arith,
        omega arith,
        small_bytes (codes "res") refl,
        (
          omega arith,
          omega arith,
          (let short = kind-short i in omega (arith, short)),
          kind_bytes i,
          tt,
        ),
      ),
    ),
  );
  payload = tt;
  empty = λ e. absurd (let no : 1 ≡ 0 = e in omega (arith, no));
}

pub registration-short : (i : ℕ) → i ≤ 4_000 → length (spelling (device_registration i)) ≤ 4_096
registration-short i low =
    let most = spelling-most (device_registration i) in
    let name = labelled-short (codes "ep=dev") i (omega (arith, low)) (omega arith) in
    let seconds = labelled-short (codes "lt=") (lifetime i) (omega arith) (omega arith) in
    let links = links-short i in
    omega (arith, most, name, seconds, links)

pub observation-short : (i : ℕ) → length (spelling (observation i)) ≤ 4_096
observation-short i =
    let most = spelling-most (observation i) in
    let kind = kind-short i in
    omega (arith, most, kind)

-- ---- the lines

-- octets by their index
byte_at_index : (xs : List ℕ) → AreBytes xs → IsBytes xs
byte_at_index [] h k = lit< tt
byte_at_index (x ∷ xs) h zero = h.0
byte_at_index (x ∷ xs) h (suc k) = byte_at_index xs h.1 k

-- a line that comes from a peer with an IPv4 address
pub come-IsLine : (worker at : ℕ) (octets : List ℕ) (port : ℕ) (datagram : List ℕ)
    → worker ≤ 255
    → at ≤ 999_999
    → length octets ≡ 4
    → AreBytes octets
    → 1 ≤ port
    → port < 2 ^ 16
    → length datagram ≤ 4_096
    → AreBytes datagram
    → IsLine (line.Come worker (record { 0 = at }) (record { host = host.V4 octets; port = port })
    datagram 0)
come-IsLine worker at octets port datagram hw hm four fits low high short bytes =
    come hw (omega (arith, hm))
    (record { host = (four, byte_at_index octets fits); port_low = low; port_high = high })
    short (byte_at_index datagram bytes) (omega arith)
