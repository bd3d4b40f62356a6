-- What a frame shows of a message is the message's (RFC 8323 section 3.2).
use Rattle.std.proofs.Common.{◌≡◌, ◌<◌, ◌∷◌, ◌++◌, length, refl}
use Rattle.std.specs.Option.{option_map}
use Rattle.std.proofs.lemmas.List.{take_at, drop_at}
use Rattle.message_model.specs.Reading.{tail_at}
use Rattle.stream_model.specs.Messages.{
  StreamMessage,
  nibble_of,
  extension_of,
  lengths_spelling,
  stream_spelling,
}
use Rattle.stream_model.proofs.LengthLemmas.{read_again, high, low}
use Rattle.stream_reader.specs.Shown.{shown_by, shown_body, shown_in}

body_shown : (m : StreamMessage)
    → shown_body (length m.token) (m.code ∷ (m.token ++ m.tail))
    ≡ option_map (shown_by m.code m.token) (tail_at 0 m.tail)
body_shown m =
    rw (take_at m.token m.tail (length m.token) refl, drop_at m.token m.tail (length m.token) refl)
    refl

-- The octets of a message show its code, its token, and the options and the payload of its tail.
pub spelled_shown : (m : StreamMessage)
    → length m.token < 16
    → shown_in (stream_spelling m) ≡ option_map (shown_by m.code m.token) (tail_at 0 m.tail)
unfolding shown_in lengths_spelling
spelled_shown m few =
    let read = read_again (length m.tail) in
    rw (
      high (nibble_of (length m.tail)) (length m.token) few,
      low (nibble_of (length m.tail)) (length m.token) few,
      read.size,
      drop_at (extension_of (length m.tail)) (m.code ∷ (m.token ++ m.tail))
          (length (extension_of (length m.tail))) refl,
    )
    (body_shown m)
