-- Streams of a few octets, computed at the edges of the definitions (RFC 8323 sections 3.2, 5).
use Rattle.std.proofs.Common.{◌≡◌, refl, [], ◌∷◌, Some, None}
use Rattle.message_model.specs.Reading.{extended_at, option_at, short_tail, tail_at}
use Rattle.stream_model.specs.declared.messages.StreamBad.TheVariants as bad
use Rattle.stream_model.specs.Messages.{nibble_of, extension_of, lengths_spelling, stream_spelling}
use Rattle.stream_model.specs.Faults.{message_fault}
use Rattle.stream_model.specs.Judging.{extension_size, length_said, judge}
use Rattle.stream_model.specs.Streams.{stream_from, stream_of}

-- ---- lengths: each nibble's first and last (RFC 8323 section 3.2)

lengths_of_12 : nibble_of 12 ≡ 12
unfolding nibble_of
lengths_of_12 = refl

first_of_13 : extension_of 13 ≡ 0 ∷ []
unfolding extension_of
first_of_13 = refl

last_of_13 : extension_of 268 ≡ 255 ∷ []
unfolding extension_of
last_of_13 = refl

first_of_14 : extension_of 269 ≡ 0 ∷ 0 ∷ []
unfolding extension_of
first_of_14 = refl

last_of_14 : extension_of 65804 ≡ 255 ∷ 255 ∷ []
unfolding extension_of
last_of_14 = refl

first_of_15 : extension_of 65805 ≡ 0 ∷ 0 ∷ 0 ∷ 0 ∷ []
unfolding extension_of
first_of_15 = refl

last_of_15 : extension_of 4295033100 ≡ 255 ∷ 255 ∷ 255 ∷ 255 ∷ []
unfolding extension_of
last_of_15 = refl

longest_said : length_said 15 (255 ∷ 255 ∷ 255 ∷ 255 ∷ []) ≡ 4295033100
unfolding length_said
longest_said = refl

-- A GET of /.well-known/core with the token 0f01b2 would have a tail of 13 octets or more; this is
-- a Ping with the token 7f.
ping_spelled : stream_spelling (record { code = 0xe2; token = 0x7f ∷ []; tail = [] })
    ≡ 0x01 ∷ 0xe2 ∷ 0x7f ∷ []
unfolding lengths_spelling nibble_of extension_of
ping_spelled = refl

-- ---- streams

-- No octets: a front of a message.
nothing_yet : stream_of [] ≡ record { messages = []; fault = None; rest = [] }
unfolding stream_from
nothing_yet = refl

-- A CSM and a Ping.
two_messages : stream_of (0x00 ∷ 0xe1 ∷ 0x01 ∷ 0xe2 ∷ 0x7f ∷ [])
    ≡ record {
      messages = (0x00 ∷ 0xe1 ∷ []) ∷ (0x01 ∷ 0xe2 ∷ 0x7f ∷ []) ∷ [];
      fault = None;
      rest = [];
    }
unfolding stream_from judge extension_size length_said message_fault tail_at short_tail
two_messages = refl

-- A Ping that is the first: known with its last octet, and not before.
no_csm : (stream_of (0x01 ∷ 0xe2 ∷ 0x7f ∷ [])).fault ≡ Some bad.First
unfolding stream_from judge extension_size length_said message_fault tail_at short_tail
no_csm = refl

no_csm_yet : stream_of (0x01 ∷ 0xe2 ∷ [])
    ≡ record { messages = []; fault = None; rest = 0x01 ∷ 0xe2 ∷ [] }
unfolding stream_from judge extension_size length_said message_fault tail_at short_tail
no_csm_yet = refl

-- The beginning of a message behind a CSM.
cut : stream_of (0x00 ∷ 0xe1 ∷ 0xd1 ∷ [])
    ≡ record { messages = (0x00 ∷ 0xe1 ∷ []) ∷ []; fault = None; rest = 0xd1 ∷ [] }
unfolding stream_from judge extension_size length_said message_fault tail_at short_tail
cut = refl

-- A CSM with the option 2, its Max-Message-Size, which is elective (RFC 8323 section 5.3.1).
elective : (stream_of (0x10 ∷ 0xe1 ∷ 0x20 ∷ [])).messages
    ≡ (0x10 ∷ 0xe1 ∷ 0x20 ∷ []) ∷ []
unfolding stream_from judge extension_size length_said message_fault tail_at short_tail option_at
    extended_at
elective = refl

-- A CSM with the option 1, which is critical.
critical : (stream_of (0x10 ∷ 0xe1 ∷ 0x10 ∷ [])).fault ≡ Some bad.Signal
unfolding stream_from judge extension_size length_said message_fault tail_at short_tail option_at
    extended_at
critical = refl

-- A request with a critical option is no signal: what it means is not for the stream to say.
request : (stream_of (0x00 ∷ 0xe1 ∷ 0x10 ∷ 0x01 ∷ 0x10 ∷ [])).fault ≡ None
unfolding stream_from judge extension_size length_said message_fault tail_at short_tail option_at
    extended_at
request = refl

-- The signals 7.00 and 7.06, and codes of class 1 and 6.
before_signals : (stream_of (0x00 ∷ 0xe1 ∷ 0x00 ∷ 0xe0 ∷ [])).fault ≡ Some bad.Code
unfolding stream_from judge extension_size length_said message_fault tail_at short_tail
before_signals = refl

behind_signals : (stream_of (0x00 ∷ 0xe1 ∷ 0x00 ∷ 0xe6 ∷ [])).fault ≡ Some bad.Code
unfolding stream_from judge extension_size length_said message_fault tail_at short_tail
behind_signals = refl

class_1 : (stream_of (0x00 ∷ 0xe1 ∷ 0x00 ∷ 0x20 ∷ [])).fault ≡ Some bad.Code
unfolding stream_from judge extension_size length_said message_fault tail_at short_tail
class_1 = refl

class_6 : (stream_of (0x00 ∷ 0xe1 ∷ 0x00 ∷ 0xdf ∷ [])).fault ≡ Some bad.Code
unfolding stream_from judge extension_size length_said message_fault tail_at short_tail
class_6 = refl

-- A marker with no payload.
no_payload : (stream_of (0x00 ∷ 0xe1 ∷ 0x10 ∷ 0x01 ∷ 0xff ∷ [])).fault ≡ Some bad.Format
unfolding stream_from judge extension_size length_said message_fault tail_at short_tail
no_payload = refl

-- A token of eight octets, and one of nine, before its code has come.
token_of_8 : (stream_of (0x00 ∷ 0xe1 ∷ 0x08 ∷ [])).fault ≡ None
unfolding stream_from judge extension_size length_said message_fault tail_at short_tail
token_of_8 = refl

token_of_9 : (stream_of (0x00 ∷ 0xe1 ∷ 0x09 ∷ [])).fault ≡ Some bad.Format
unfolding stream_from judge extension_size length_said message_fault tail_at short_tail
token_of_9 = refl

-- A long token is found with the octets that extend the length, and not before.
token_of_9_yet : (stream_of (0x00 ∷ 0xe1 ∷ 0xd9 ∷ [])).fault ≡ None
unfolding stream_from judge extension_size length_said message_fault tail_at short_tail
token_of_9_yet = refl

-- Messages of 1,152 and 1,153 octets, by their lengths alone: 4 octets and a tail of 1,148 or
-- 1,149.
longest : (stream_of (0x00 ∷ 0xe1 ∷ 0xe0 ∷ 0x03 ∷ 0x6f ∷ [])).fault ≡ None
unfolding stream_from judge extension_size length_said message_fault tail_at short_tail
longest = refl

too_long : (stream_of (0x00 ∷ 0xe1 ∷ 0xe0 ∷ 0x03 ∷ 0x70 ∷ [])).fault ≡ Some bad.Size
unfolding stream_from judge extension_size length_said message_fault tail_at short_tail
too_long = refl

-- The first message is too long: Size, since its code is not read any more.
first_too_long : (stream_of (0xe0 ∷ 0x03 ∷ 0x70 ∷ [])).fault ≡ Some bad.Size
unfolding stream_from judge extension_size length_said message_fault tail_at short_tail
first_too_long = refl

-- A tail of 2^32 octets.
huge : (stream_of (0x00 ∷ 0xe1 ∷ 0xf0 ∷ 0xff ∷ 0xfe ∷ 0xfe ∷ 0xf3 ∷ [])).fault
    ≡ Some bad.Size
unfolding stream_from judge extension_size length_said message_fault tail_at short_tail
huge = refl

huge_said : length_said 15 (0xff ∷ 0xfe ∷ 0xfe ∷ 0xf3 ∷ []) ≡ 4294967296
unfolding length_said
huge_said = refl
