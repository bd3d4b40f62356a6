-- What is answered to messages of a few octets, computed (RFC 8323 sections 3.2, 5.3 to 5.6).
use Rattle.std.specs.Prelude.{◌≡◌, ℕ, List, [], ◌∷◌, Some, None, codes, refl}
use Rattle.message_model.specs.declared.requests.Refusal.TheVariants as refusal
use Rattle.message_model.specs.Codes as code_named
use Rattle.message_model.specs.Message.{Opt}
use Rattle.message_model.specs.Spelling.{spelling}
use Rattle.message_model.specs.OptionTable as table
use Rattle.message_model.proofs.Notation.{hex}
use Rattle.message_model.proofs.OnLiterals.{messages_on_literals}
use Rattle.reference_model.specs.References.{before}
use Rattle.stream_model.specs.Messages as stream_messages
use Rattle.stream_model.specs.declared.signals.TheConstants as signals
use Rattle.stream_reader.specs.Shown.{Shown}
use Rattle.coap_stream.specs.declared.purposes.Meant.TheVariants as meant
use Rattle.coap_stream.specs.declared.refusing.Unasked.TheVariants as unasked_for
use Rattle.coap_stream.specs.declared.talked.TalkEnd.TheVariants as end_as
use Rattle.coap_stream.specs.Requests.{meant_by, heard_as, unasked_of}
use Rattle.coap_stream.specs.declared.lines.Line.{Line}
use Rattle.coap_stream.specs.declared.lines.Manner.TheVariants as manner
use Rattle.coap_stream.specs.Manners.{abort_by, abort_with, opening_by, saying}
use Rattle.coap_stream.specs.Talks.{farewell, carried_of}

-- ---- signals

opened : opening_by manner.Plain ≡ hex (codes "00e1")
unfolding messages_on_literals stream_messages.lengths_spelling stream_messages.nibble_of
    stream_messages.extension_of
opened = refl

ponged : saying signals.PONG (hex (codes "7f")) [] ≡ hex (codes "01e37f")
unfolding messages_on_literals stream_messages.lengths_spelling stream_messages.nibble_of
    stream_messages.extension_of
ponged = refl

aborted : abort_by manner.Plain None ≡ hex (codes "00e5")
unfolding messages_on_literals stream_messages.lengths_spelling stream_messages.nibble_of
    stream_messages.extension_of
aborted = refl

released : (line : Line) → farewell line end_as.Spent None ≡ hex (codes "00e4")
unfolding messages_on_literals stream_messages.lengths_spelling stream_messages.nibble_of
    stream_messages.extension_of
released line = refl

closed : (line : Line) → farewell line end_as.Closed None ≡ []
closed line = refl

-- In full: the CSM offers blocks, a Pong keeps the custody of its Ping, and an Abort names an
-- option.
opened_full : opening_by manner.Full ≡ hex (codes "10e140")
unfolding messages_on_literals stream_messages.lengths_spelling stream_messages.nibble_of
    stream_messages.extension_of
opened_full = refl

aborted_full : abort_with (Some 9) ≡ hex (codes "20e52109")
unfolding messages_on_literals stream_messages.lengths_spelling stream_messages.nibble_of
    stream_messages.extension_of
aborted_full = refl

ping_is_one : meant_by 0xe2 ≡ meant.Ping
ping_is_one = refl

csm_is_passed : meant_by 0xe1 ≡ meant.Passed
csm_is_passed = refl

empty_is_passed : meant_by 0 ≡ meant.Passed
empty_is_passed = refl

last_is_request : meant_by 31 ≡ meant.Request
last_is_request = refl

response_is_passed : meant_by 0x45 ≡ meant.Passed
response_is_passed = refl

-- ---- requests

-- A request of this code, path and other options.
abbrev asking : ℕ → List Opt → Shown
asking code options =
    record { code = code; token = hex (codes "b2"); options = options; payload = [] }

abbrev to_one : List ℕ → List Opt
to_one first = (table.uri_path, first) ∷ []

abbrev to_two : List ℕ → List ℕ → List Opt
to_two first second = (table.uri_path, first) ∷ (table.uri_path, second) ∷ []

-- The discovery of what a directory serves (RFC 9176 section 4), with an Observe that is left out.
discovery_is_heard :
    spelling (heard_as 7 (asking code_named.get
    ((table.observe, []) ∷ to_two (codes ".well-known") (codes "core"))))
    ≡ hex (codes "41010007b2bb2e77656c6c2d6b6e6f776e04636f7265")
unfolding messages_on_literals
discovery_is_heard = refl

discovery_is_asked :
    unasked_of (heard_as 0 (asking code_named.get (to_two (codes ".well-known") (codes "core"))))
    ≡ None
unfolding messages_on_literals
discovery_is_asked = refl

-- Its answer, as a datagram and as it is written.
answer_is_carried :
    carried_of (hex (codes "61450000b2c128ff3c2f72643e3b72743d22636f72652e7264223b63743d3430"))
    ≡ hex (codes "d10e45b2c128ff3c2f72643e3b72743d22636f72652e7264223b63743d3430")
unfolding messages_on_literals stream_messages.lengths_spelling stream_messages.nibble_of
    stream_messages.extension_of
answer_is_carried = refl

-- No datagram spells no message.
nothing_is_carried : carried_of [] ≡ []
unfolding messages_on_literals
nothing_is_carried = refl

-- ---- requests that are answered without a seat

elsewhere : unasked_of (heard_as 0 (asking code_named.get (to_one (codes "foo"))))
    ≡ Some (unasked_for.Refused refusal.Path)
unfolding messages_on_literals
elsewhere = refl

-- A method that is not allowed is the seat's to refuse.
put_is_asked : unasked_of (heard_as 0 (asking code_named.put (to_one (codes "rd")))) ≡ None
unfolding messages_on_literals
put_is_asked = refl

simple : unasked_of (heard_as 0 (asking code_named.post
    (to_two (codes ".well-known") (codes "rd")))) ≡ Some unasked_for.Simple
unfolding messages_on_literals
simple = refl

-- A registration whose options begin like a base.
baseless : unasked_of (heard_as 0 (asking code_named.post
    ((table.uri_path, codes "rd") ∷ (table.uri_query, codes "ep=n")
    ∷ (table.uri_query, codes "bases=coap://h") ∷ [])))
    ≡ Some unasked_for.Baseless
unfolding messages_on_literals before
baseless = refl

based : unasked_of (heard_as 0 (asking code_named.post
    ((table.uri_path, codes "rd") ∷ (table.uri_query, codes "ep=n")
    ∷ (table.uri_query, codes "base=coap://h") ∷ [])))
    ≡ None
unfolding messages_on_literals before
based = refl

-- One whose body has another format is the seat's to refuse.
other_format : unasked_of (heard_as 0 (asking code_named.post
    ((table.uri_path, codes "rd") ∷ (table.content_format, hex (codes "32"))
    ∷ (table.uri_query, codes "ep=n") ∷ [])))
    ≡ None
unfolding messages_on_literals before
other_format = refl
