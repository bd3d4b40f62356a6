-- Messages against their bytes, both ways, and datagrams that are no message.
use Rattle.std.specs.Prelude.{◌≡◌, ℕ, List, [], ◌∷◌, ◌++◌, Ok, Err, codes, refl}
use Rattle.message_model.specs.declared.messages.Kind4.{Kind4}
use Rattle.message_model.specs.declared.messages.Kind4.TheVariants.{Con, Non, Ack, Rst}
use Rattle.message_model.specs.declared.messages.Unread.TheVariants as unread
use Rattle.message_model.specs.declared.messages.Role.TheVariants as role
use Rattle.message_model.specs.Codes.{empty, get, post, created, content}
use Rattle.message_model.specs.Message.{Message, Opt, role_of}
use Rattle.message_model.specs.Spelling.{spelling}
use Rattle.message_model.specs.Reading.{reading}
use Rattle.message_model.specs.OptionTable as table
use Rattle.message_model.proofs.Notation.{hex}
use Rattle.message_model.proofs.OnLiterals.{messages_on_literals}

abbrev link_text : List ℕ
link_text = codes "</temp>;rt=\"temperature\";ct=0,</light>;rt=\"light-lux\";if=\"sensor\""

-- ---- a registration

abbrev registration : Message
registration = record {
  kind = Con;
  code = post;
  mid = 1;
  token = hex (codes "a1");
  options =
      (table.uri_path, codes "rd")
      ∷ (table.content_format, hex (codes "28"))
      ∷ (table.uri_query, codes "ep=node1")
      ∷ (table.uri_query, codes "lt=600") ∷ [];
  payload = link_text;
}

abbrev registration_bytes : List ℕ
registration_bytes =
    hex (codes "41020001a1b2726411283865703d6e6f646531066c743d363030ff")
    ++ hex (codes
    "3c2f74656d703e3b72743d2274656d7065726174757265223b63743d302c3c2f6c696768743e3b72743d226c696768742d6c7578223b69663d2273656e736f7222")

registration_is_read : reading registration_bytes ≡ Ok registration
unfolding messages_on_literals
registration_is_read = refl

registration_is_spelled : spelling registration ≡ registration_bytes
unfolding messages_on_literals
registration_is_spelled = refl

-- ---- its answer

abbrev registered : Message
registered = record {
  kind = Ack;
  code = created;
  mid = 1;
  token = hex (codes "a1");
  options = (table.location_path, codes "rd") ∷ (table.location_path, codes "1") ∷ [];
  payload = [];
}

registered_is_read : reading (hex (codes "61410001a18272640131")) ≡ Ok registered
unfolding messages_on_literals
registered_is_read = refl

registered_is_spelled : spelling registered ≡ hex (codes "61410001a18272640131")
unfolding messages_on_literals
registered_is_spelled = refl

-- ---- a lookup

abbrev lookup : Message
lookup = record {
  kind = Con;
  code = get;
  mid = 2;
  token = hex (codes "b2");
  options =
      (table.uri_path, codes "rd-lookup")
      ∷ (table.uri_path, codes "res")
      ∷ (table.uri_query, codes "rt=light-lux")
      ∷ [];
  payload = [];
}

abbrev lookup_bytes : List ℕ
lookup_bytes = hex (codes "41010002b2b972642d6c6f6f6b7570037265734c72743d6c696768742d6c7578")

lookup_is_read : reading lookup_bytes ≡ Ok lookup
unfolding messages_on_literals
lookup_is_read = refl

lookup_is_spelled : spelling lookup ≡ lookup_bytes
unfolding messages_on_literals
lookup_is_spelled = refl

-- ---- its answer

abbrev listed : Message
listed = record {
  kind = Ack;
  code = content;
  mid = 2;
  token = hex (codes "b2");
  options =
      (table.etag, hex (codes "0000000000010000")) ∷ (table.content_format, hex (codes "28")) ∷ [];
  payload = codes "<coap://192.0.2.10/light>;rt=\"light-lux\";if=\"sensor\"";
}

abbrev listed_bytes : List ℕ
listed_bytes =
    hex (codes "61450002b24800000000000100008128ff")
    ++ hex (codes
    "3c636f61703a2f2f3139322e302e322e31302f6c696768743e3b72743d226c696768742d6c7578223b69663d2273656e736f7222")

listed_is_read : reading listed_bytes ≡ Ok listed
unfolding messages_on_literals
listed_is_read = refl

listed_is_spelled : spelling listed ≡ listed_bytes
unfolding messages_on_literals
listed_is_spelled = refl

-- ---- what is no message

-- fewer than four bytes
short_is_refused : reading (hex (codes "4801")) ≡ Err unread.Short
unfolding messages_on_literals
short_is_refused = refl

nothing_is_refused : reading [] ≡ Err unread.Short
unfolding messages_on_literals
nothing_is_refused = refl

-- version 2
version_is_refused : reading (hex (codes "80010001")) ≡ Err unread.Version
unfolding messages_on_literals
version_is_refused = refl

-- a token length of 9
token_length_is_refused : reading (hex (codes "49011234")) ≡ Err (unread.Format Con 0x1234)
unfolding messages_on_literals
token_length_is_refused = refl

-- a token that is cut off
token_is_refused : reading (hex (codes "4201123401")) ≡ Err (unread.Format Con 0x1234)
unfolding messages_on_literals
token_is_refused = refl

-- a marker with nothing after it
marker_is_refused : reading (hex (codes "50011235ff")) ≡ Err (unread.Format Non 0x1235)
unfolding messages_on_literals
marker_is_refused = refl

-- an option that is cut off, in its value and in its delta
value_is_refused : reading (hex (codes "40011234b27a")) ≡ Err (unread.Format Con 0x1234)
unfolding messages_on_literals
value_is_refused = refl

delta_is_refused : reading (hex (codes "40011234d0")) ≡ Err (unread.Format Con 0x1234)
unfolding messages_on_literals
delta_is_refused = refl

-- the nibble 15 where the byte is not the marker
nibble_is_refused : reading (hex (codes "6045123401f001")) ≡ Err (unread.Format Ack 0x1234)
unfolding messages_on_literals
nibble_is_refused = refl

-- the option number 65,536
number_is_refused : reading (hex (codes "40011234e0fef3")) ≡ Err (unread.Format Con 0x1234)
unfolding messages_on_literals
number_is_refused = refl

-- an empty message with one byte more, with a token length, and a reserved class
longer_empty_is_refused : reading (hex (codes "4000123401")) ≡ Err (unread.Format Con 0x1234)
unfolding messages_on_literals
longer_empty_is_refused = refl

empty_with_token_is_refused : reading (hex (codes "41001234a1")) ≡ Err (unread.Format Con 0x1234)
unfolding messages_on_literals
empty_with_token_is_refused = refl

class_is_refused : reading (hex (codes "70c01234")) ≡ Err (unread.Format Rst 0x1234)
unfolding messages_on_literals
class_is_refused = refl

-- ---- edges of what is a message

abbrev bare : Kind4 → ℕ → ℕ → List Opt → Message
bare kind code mid options = record {
  kind = kind;
  code = code;
  mid = mid;
  token = [];
  options = options;
  payload = [];
}

-- an empty message, which a Reset answers
ping_is_read : reading (hex (codes "40001238")) ≡ Ok (bare Con empty 0x1238 [])
unfolding messages_on_literals
ping_is_read = refl

ping_role : role_of Con empty ≡ role.Ping
ping_role = refl

-- an option of number 9, and one of number 0
option_nine_is_read : reading (hex (codes "4001123690")) ≡ Ok (bare Con get 0x1236 ((9, []) ∷ []))
unfolding messages_on_literals
option_nine_is_read = refl

option_zero_is_read : reading (hex (codes "5001123500")) ≡ Ok (bare Non get 0x1235 ((0, []) ∷ []))
unfolding messages_on_literals
option_zero_is_read = refl

-- the last option number, in its one spelling
last_number_is_read :
    reading (hex (codes "40011234e0fef2")) ≡ Ok (bare Con get 0x1234 ((65535, []) ∷ []))
unfolding messages_on_literals
last_number_is_read = refl

last_number_is_spelled :
    spelling (bare Con get 0x1234 ((65535, []) ∷ [])) ≡ hex (codes "40011234e0fef2")
unfolding messages_on_literals
last_number_is_spelled = refl

-- a delta of 13 takes one more byte
proxy_scheme_is_read :
    reading (hex (codes "40011234d11a68"))
    ≡ Ok (bare Con get 0x1234 ((table.proxy_scheme, codes "h") ∷ []))
unfolding messages_on_literals
proxy_scheme_is_read = refl

-- a response of detail 0 is a response, and so is one in an acknowledgement; one in a Reset is not
response_role : role_of Non 0x40 ≡ role.Response
response_role = refl

reset_role : role_of Rst content ≡ role.Ignored
reset_role = refl

acknowledged_request_role : role_of Ack get ≡ role.Ignored
acknowledged_request_role = refl
