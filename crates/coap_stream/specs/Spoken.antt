-- Messages that are written to a connection (RFC 8323 section 3.2).
use Rattle.std.specs.Prelude.{
  ◌≡◌,
  ◌+◌,
  ◌≤◌,
  ℕ,
  Bool,
  true,
  false,
  List,
  ◌++◌,
  length,
  take,
  Option,
}
use Rattle.std.specs.Io.KnownBytes.{Appends}
use Rattle.message_model.specs.Spelling.{payload_spelling}
use Rattle.stream_model.specs.Messages.{StreamMessage, stream_spelling}
use Rattle.stream_reader.specs.declared.frames.Frame.{Frame}
use Rattle.rd_base.specs.Outside.{Rose}

-- Returns the message of a frame; `frame_spelling` returns its octets.
abbrev pub frame_message : Frame → StreamMessage
frame_message f = record {
  code = f.code;
  token = f.token.now;
  tail = f.options.now ++ payload_spelling f.payload.now;
}

abbrev pub frame_spelling : Frame → List ℕ
frame_spelling f = stream_spelling (frame_message f)

-- A frame whose token is not too long, and that is no longer than what a datagram carries.
pub record FitsRoom (f : Frame) : Type 0 where
  pub token : length f.token.now ≤ 8
  pub tail : length f.token.now + length f.options.now + length f.payload.now ≤ 1276

-- States that all octets were written, or a prefix of them if the count of the output's faults
-- rose.
abbrev pub IsPut : Option (List ℕ) → Option (List ℕ) → ℕ → ℕ → List ℕ → Bool
    → Type 0
IsPut before now faults faults_then octets true =
    Appends before now octets × (faults_then ≡ faults)
IsPut before now faults faults_then octets false =
    ((n : ℕ) × (n ≤ length octets) × Appends before now (take n octets))
    × (faults ≤ faults_then) × Rose faults faults_then
