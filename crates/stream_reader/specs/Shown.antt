-- What a frame shows of the octets of a message (RFC 8323 section 3.2).
use Rattle.std.specs.Prelude.{ℕ, ◌/◌, ◌%◌, List, [], ◌∷◌, take, drop, Option, None}
use Rattle.std.specs.Option.{option_map}
use Rattle.message_model.specs.Message.{Opt}
use Rattle.message_model.specs.Reading.{Tail, tail_at}
use Rattle.coap_message.specs.OptionsAt.{options_at}
use Rattle.stream_reader.specs.declared.frames.Frame.{Frame}
use Rattle.stream_model.specs.declared.messages.Judged.{Judged}
use Rattle.stream_model.specs.declared.messages.Judged.TheVariants as judged
use Rattle.stream_model.specs.Judging.{extension_size}
use Rattle.stream_reader.specs.Reading.{Held, held_as}

-- A message: its code, its token, its options and its payload.
pub record Shown : Type 0 where
  pub code : ℕ
  pub token : List ℕ
  pub options : List Opt
  pub payload : List ℕ

-- Returns what a frame shows.
abbrev pub frame_shown : Frame → Shown
frame_shown f = record {
  code = f.code;
  token = f.token.now;
  options = options_at 0 f.options.now;
  payload = f.payload.now;
}

-- Returns what a code, a token and a tail show.
abbrev pub shown_by : ℕ → List ℕ → Tail → Shown
shown_by code token tail = record {
  code = code;
  token = token;
  options = tail.0;
  payload = tail.1;
}

-- Returns what octets after the lengths show, with a token of this length.
abbrev pub shown_body : ℕ → List ℕ → Option Shown
shown_body token [] = None
shown_body token (code ∷ bytes) =
    option_map (shown_by code (take token bytes)) (tail_at 0 (drop token bytes))

-- Returns what the octets of a message show.
unfoldable pub shown_in : List ℕ → Option Shown
shown_in [] = None
shown_in (b ∷ octets) = shown_body (b % 16) (drop (extension_size (b / 16)) octets)

-- Returns what octets show, by the verdict on them: only a message shows anything.
abbrev pub message_by : Judged → List ℕ → Option Shown
message_by judged.Whole octets = shown_in octets
message_by judged.More octets = None
message_by (judged.Bad why) octets = None

-- Returns the message that is complete, if one is.
abbrev pub message_of : Held → Option Shown
message_of h = message_by (held_as h) h.pending
