-- How many requests a stream passes to the seat, computed from its octets alone.
use Rattle.std.specs.Prelude.{ℕ, ◌+◌, ◌==◌, List, [], ◌∷◌, Option, Some, None}
use Rattle.udp_link.specs.Links.{Datagram}
use Rattle.stream_model.specs.Streams.{stream_of}
use Rattle.stream_reader.specs.Shown.{Shown, shown_in}
use Rattle.coap_stream.specs.declared.talked.TalkEnd.{TalkEnd}
use Rattle.coap_stream.specs.Requests.{meant_by}
use Rattle.coap_stream.specs.Talks.{asked_by, ends_by, end_by, most_asked}

-- Returns how many requests were passed to the seat after a message.
abbrev pub asked_after : ℕ → Option Shown → ℕ
asked_after asked None = asked
asked_after asked (Some message) = asked + asked_by asked message

-- Returns how the message ends the conversation, if it does, given how many requests were passed to
-- the seat.
abbrev pub end_with : Option Shown → ℕ → Option TalkEnd
end_with None asked = None
end_with (Some message) asked =
    end_by (ends_by (meant_by message.code)) (asked == most_asked)

-- Returns the count, or that of further messages if the conversation continues.
abbrev pub unless_ended : Option TalkEnd → ℕ → ℕ → ℕ
unless_ended None asked further = further
unless_ended (Some end) asked further = asked

-- Returns how many requests are passed to the seat after these messages, up to the one that ends
-- the conversation.
abbrev pub asked_over : ℕ → List (List ℕ) → ℕ
asked_over asked [] = asked
asked_over asked (octets ∷ messages) =
    unless_ended (end_with (shown_in octets) (asked_after asked (shown_in octets)))
    (asked_after asked (shown_in octets))
    (asked_over (asked_after asked (shown_in octets)) messages)

-- Returns how many requests the octets of a connection pass to the seat.
abbrev pub asked_in : List ℕ → ℕ
asked_in octets = asked_over 0 (stream_of octets).messages

-- Returns the same for several connections.
abbrev pub asked_in_all : List Datagram → ℕ
asked_in_all [] = 0
asked_in_all (stream ∷ streams) = asked_in stream.1 + asked_in_all streams
