-- Lists of devices at their edges, computed: what a body writes, what a line asks for or why it is
-- bad, and what a whole list comes to.
use Rattle.std.proofs.Common.{◌≡◌, ◌∷◌, ◌++◌, ℕ, List, [], length, codes}
use Rattle.std.proofs.Common.{replicate, Some, None, Ok, Err, refl}
use Rattle.std.specs.Str.{is_utf8, chars}
use lib.Utf8.{encode}
use Rattle.hex.proofs.OnLiterals.{hex_on_literals}
use Rattle.percent_encoding.proofs.OnLiterals.{percent_encoding_on_literals}
use Rattle.rd_base.specs.declared.peers.Host.TheVariants as host
use Rattle.message_model.proofs.OnLiterals.{messages_on_literals}
use Rattle.line_model.specs.Lines.{fields}
use Rattle.line_model.specs.Texts.{lines_of}
use Rattle.reference_model.proofs.OnLiterals.{reference_on_literals}
use Rattle.client_model.specs.declared.asks.Ask.{Ask}
use Rattle.client_model.proofs.OnLiterals.{asks_on_literals}
use Rattle.commission_list.specs.declared.judging.AskLine.TheVariants as bad
use Rattle.commission_list.specs.Lists.{
  two_of,
  body_of,
  asked,
  asked_of,
  judged,
  asks_from,
  listed,
}

-- ---- a body

-- a dash is the empty body, and no digits are none
dash : body_of (codes "-") ≡ Some []
unfolding body_of
dash = refl

no_digits : body_of [] ≡ None
unfolding body_of
no_digits = refl

-- digits of either case, also in one octet
lower_digits : body_of (codes "3c2f") ≡ Some (0x3c ∷ 0x2f ∷ [])
unfolding body_of hex_on_literals
lower_digits = refl

upper_digits : body_of (codes "3C2F") ≡ Some (0x3c ∷ 0x2f ∷ [])
unfolding body_of hex_on_literals
upper_digits = refl

both_cases : body_of (codes "aBFf") ≡ Some (0xab ∷ 0xff ∷ [])
unfolding body_of hex_on_literals
both_cases = refl

-- an odd number of digits
one_digit : body_of (codes "3") ≡ None
unfolding body_of hex_on_literals
one_digit = refl

three_digits : body_of (codes "3c2") ≡ None
unfolding body_of hex_on_literals
three_digits = refl

-- what is no digit, a second dash too
no_digit : body_of (codes "3g") ≡ None
unfolding body_of hex_on_literals
no_digit = refl

two_dashes : body_of (codes "--") ≡ None
unfolding body_of hex_on_literals
two_dashes = refl

-- ---- a line that is good

abbrev good : List ℕ
good = codes "coap://192.0.2.1/rd?ep=n&base=coap://192.0.2.9 3C2f613e"

-- what it asks for
abbrev good_ask : Ask
good_ask = record {
  to = record { host = host.V4 (192 ∷ 0 ∷ 2 ∷ 1 ∷ []); port = 5683 };
  code = 2;
  options =
      (11, codes "rd")
      ∷ (12, 40 ∷ [])
      ∷ (15, codes "ep=n")
      ∷ (15, codes "base=coap://192.0.2.9")
      ∷ [];
  payload = codes "</a>";
}

first_line : judged 1 good ≡ Ok good_ask
unfolding judged body_of asked asks_on_literals reference_on_literals messages_on_literals
    percent_encoding_on_literals hex_on_literals is_utf8 chars encode
first_line = refl

-- the base is empty, its name is escaped, and there is no body
empty_base :
    judged 1 (codes "coap://192.0.2.1/rd?%62ase= -")
    ≡ Ok (record {
      to = record { host = host.V4 (192 ∷ 0 ∷ 2 ∷ 1 ∷ []); port = 5683 };
      code = 2;
      options = (11, codes "rd") ∷ (12, 40 ∷ []) ∷ (15, codes "base=") ∷ [];
      payload = [];
    })
unfolding judged body_of asked asks_on_literals reference_on_literals messages_on_literals
    percent_encoding_on_literals is_utf8 chars encode
empty_base = refl

-- ---- too many lines

-- line 1,024 is judged as any
last_line : judged 1_024 good ≡ Ok good_ask
unfolding judged body_of asked asks_on_literals reference_on_literals messages_on_literals
    percent_encoding_on_literals hex_on_literals is_utf8 chars encode
last_line = refl

-- line 1,025 is one too many, whatever it is
one_too_many : (line : List ℕ) → judged 1_025 line ≡ Err bad.Many
unfolding judged
one_too_many line = refl

-- ---- the form

-- a line of 20,000 octets is judged by its fields
not_too_long : (line : List ℕ) → length line ≡ 20_000
    → judged 1 line ≡ asked_of (two_of (fields line))
unfolding judged
not_too_long line e = rw e refl

-- one of 20,001 is too long, whatever it is
too_long : (line : List ℕ) → length line ≡ 20_001 → judged 1 line ≡ Err bad.Form
unfolding judged
too_long line e = rw e refl

-- the same computed: an octet more, and the reason is another
long_line : judged 1 (codes "/rd " ++ replicate 19_996 48) ≡ Err bad.Ask
unfolding judged body_of asked asks_on_literals reference_on_literals hex_on_literals is_utf8 chars
    encode
long_line = refl

longer_line : judged 1 (codes "/rds " ++ replicate 19_996 48) ≡ Err bad.Form
unfolding judged
longer_line = refl

-- no field, one, and three
no_field : judged 1 [] ≡ Err bad.Form
unfolding judged
no_field = refl

one_field : judged 1 (codes "coap://192.0.2.1/rd?base=coap://192.0.2.9") ≡ Err bad.Form
unfolding judged
one_field = refl

three_fields : judged 1 (codes "coap://192.0.2.1/rd?base=coap://192.0.2.9 - -") ≡ Err bad.Form
unfolding judged
three_fields = refl

-- a second space parts an empty field off, wherever it stands
two_spaces : judged 1 (codes "coap://192.0.2.1/rd?base=coap://192.0.2.9  -") ≡ Err bad.Form
unfolding judged
two_spaces = refl

space_behind : judged 1 (codes "coap://192.0.2.1/rd?base=coap://192.0.2.9 - ") ≡ Err bad.Form
unfolding judged
space_behind = refl

-- an empty body, an odd number of digits, and a carriage return
empty_body : judged 1 (codes "coap://192.0.2.1/rd?base=coap://192.0.2.9 ") ≡ Err bad.Form
unfolding judged body_of
empty_body = refl

odd_body : judged 1 (codes "coap://192.0.2.1/rd?base=coap://192.0.2.9 3c2") ≡ Err bad.Form
unfolding judged body_of hex_on_literals
odd_body = refl

carriage_return :
    judged 1 (codes "coap://192.0.2.1/rd?base=coap://192.0.2.9 -" ++ 13 ∷ []) ≡ Err bad.Form
unfolding judged body_of hex_on_literals
carriage_return = refl

-- the form comes before the ask: neither is one
form_first : judged 1 (codes "/rd 3") ≡ Err bad.Form
unfolding judged body_of hex_on_literals
form_first = refl

-- ---- no ask

-- no URI, a URI that is empty, and one that is no text
relative : judged 1 (codes "/rd?base=coap://192.0.2.9 -") ≡ Err bad.Ask
unfolding judged body_of asked asks_on_literals reference_on_literals is_utf8 chars encode
relative = refl

empty_uri : judged 1 (codes " -") ≡ Err bad.Ask
unfolding judged body_of asked asks_on_literals reference_on_literals is_utf8 chars encode
empty_uri = refl

no_text : judged 1 (255 ∷ codes " -") ≡ Err bad.Ask
unfolding judged body_of asked is_utf8 chars encode
no_text = refl

-- another scheme, and a name in place of an address
other_scheme : judged 1 (codes "http://192.0.2.1/rd?base=coap://192.0.2.9 -") ≡ Err bad.Ask
unfolding judged body_of asked asks_on_literals reference_on_literals is_utf8 chars encode
other_scheme = refl

host_name : judged 1 (codes "coap://host/rd?base=coap://192.0.2.9 -") ≡ Err bad.Ask
unfolding judged body_of asked asks_on_literals reference_on_literals is_utf8 chars encode
host_name = refl

-- the ask comes before the base
ask_first : judged 1 (codes "coap://host/rd?ep=n -") ≡ Err bad.Ask
unfolding judged body_of asked asks_on_literals reference_on_literals is_utf8 chars encode
ask_first = refl

-- ---- no base

-- without a query, and without such a part
no_query : judged 1 (codes "coap://192.0.2.1/rd -") ≡ Err bad.Base
unfolding judged body_of asked asks_on_literals reference_on_literals messages_on_literals
    percent_encoding_on_literals is_utf8 chars encode
no_query = refl

no_base : judged 1 (codes "coap://192.0.2.1/rd?ep=n -") ≡ Err bad.Base
unfolding judged body_of asked asks_on_literals reference_on_literals messages_on_literals
    percent_encoding_on_literals is_utf8 chars encode
no_base = refl

-- the name alone, in capitals, within a part, and in the path
name_alone : judged 1 (codes "coap://192.0.2.1/rd?base -") ≡ Err bad.Base
unfolding judged body_of asked asks_on_literals reference_on_literals messages_on_literals
    percent_encoding_on_literals is_utf8 chars encode
name_alone = refl

capitals : judged 1 (codes "coap://192.0.2.1/rd?BASE=coap://192.0.2.9 -") ≡ Err bad.Base
unfolding judged body_of asked asks_on_literals reference_on_literals messages_on_literals
    percent_encoding_on_literals is_utf8 chars encode
capitals = refl

within_a_part : judged 1 (codes "coap://192.0.2.1/rd?ep=base=n -") ≡ Err bad.Base
unfolding judged body_of asked asks_on_literals reference_on_literals messages_on_literals
    percent_encoding_on_literals is_utf8 chars encode
within_a_part = refl

in_the_path : judged 1 (codes "coap://192.0.2.1/base=n?ep=n -") ≡ Err bad.Base
unfolding judged body_of asked asks_on_literals reference_on_literals messages_on_literals
    percent_encoding_on_literals is_utf8 chars encode
in_the_path = refl

-- ---- a list

-- an empty text has no line
empty_text : listed [] ≡ Ok []
unfolding lines_of
empty_text = refl

-- the last line may have its line feed or not
without_line_feed : listed good ≡ Ok (good_ask ∷ [])
unfolding lines_of judged body_of asked asks_on_literals reference_on_literals messages_on_literals
    percent_encoding_on_literals hex_on_literals is_utf8 chars encode
without_line_feed = refl

with_line_feed : listed (good ++ 10 ∷ []) ≡ Ok (good_ask ∷ [])
unfolding lines_of judged body_of asked asks_on_literals reference_on_literals messages_on_literals
    percent_encoding_on_literals hex_on_literals is_utf8 chars encode
with_line_feed = refl

-- a line may stand twice
twice : listed (good ++ 10 ∷ good) ≡ Ok (good_ask ∷ good_ask ∷ [])
unfolding lines_of judged body_of asked asks_on_literals reference_on_literals messages_on_literals
    percent_encoding_on_literals hex_on_literals is_utf8 chars encode
twice = refl

-- an empty line is bad, a lone one and a last one too
lone_line_feed : listed (10 ∷ []) ≡ Err (record { line = 1; why = bad.Form })
unfolding lines_of judged
lone_line_feed = refl

second_line_feed : listed (good ++ 10 ∷ 10 ∷ []) ≡ Err (record { line = 2; why = bad.Form })
unfolding lines_of judged body_of asked asks_on_literals reference_on_literals messages_on_literals
    percent_encoding_on_literals hex_on_literals is_utf8 chars encode
second_line_feed = refl

-- the second line is bad
second_bad :
    listed (good ++ 10 ∷ codes "coap://192.0.2.1/rd?ep=n -" ++ 10 ∷ good)
    ≡ Err (record { line = 2; why = bad.Base })
unfolding lines_of judged body_of asked asks_on_literals reference_on_literals messages_on_literals
    percent_encoding_on_literals hex_on_literals is_utf8 chars encode
second_bad = refl

-- of two bad lines the first counts, whichever reason comes first
first_of_two :
    listed (good ++ 10 ∷ codes "coap://192.0.2.1/rd?ep=n -" ++ 10 ∷ codes "coap://192.0.2.1/rd")
    ≡ Err (record { line = 2; why = bad.Base })
unfolding lines_of judged body_of asked asks_on_literals reference_on_literals messages_on_literals
    percent_encoding_on_literals hex_on_literals is_utf8 chars encode
first_of_two = refl

-- behind 1,023 lines one more is listed, and a second is too many
line_1024 : asks_from 1_024 (good ∷ []) ≡ Ok (good_ask ∷ [])
unfolding judged body_of asked asks_on_literals reference_on_literals messages_on_literals
    percent_encoding_on_literals hex_on_literals is_utf8 chars encode
line_1024 = refl

line_1025 : asks_from 1_024 (good ∷ good ∷ []) ≡ Err (record { line = 1_025; why = bad.Many })
unfolding judged body_of asked asks_on_literals reference_on_literals messages_on_literals
    percent_encoding_on_literals hex_on_literals is_utf8 chars encode
line_1025 = refl
