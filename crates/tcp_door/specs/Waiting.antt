-- How long a peer sends no message (RFC 8323 sections 3.3, 5.5 and 5.6).
use Rattle.std.specs.Prelude.{◌≡◌, ℕ, ◌+◌, ◌<◌, Bool, true, false, if◌then◌else◌}
use Rattle.std.specs.Prelude.{List, ◌++◌, length}
use Rattle.stream_model.specs.declared.messages.Judged.{Judged}
use Rattle.stream_model.specs.declared.messages.Judged.TheVariants as judged
use Rattle.stream_model.specs.declared.signals.TheConstants as signals
use Rattle.stream_model.specs.Streams.{Stream}
use Rattle.stream_reader.specs.Reading.{Held, stream_after}

-- The messages of a connection so far: what the reader holds, whether a message has ended, and the
-- microseconds since the last one, or since the beginning.
pub record Waited : Type 0 where
  pub held : Held
  pub greeted : Bool
  pub waited : ℕ

-- ---- where messages end

-- Two streams, the first of which has `n` messages more before those of the other, and then
-- continues as it does.
pub record HasBefore (n : ℕ) (whole more : Stream) : Type 0 where
  pub messages : length whole.messages ≡ n + length more.messages
  pub fault : whole.fault ≡ more.fault
  pub rest : whole.rest ≡ more.rest

-- States that `n` messages of the stream end in a piece, whatever follows it.
abbrev pub HasEnds : ℕ → Held → List ℕ → Held → Type 0
HasEnds n old piece new =
    (further : List ℕ)
    → HasBefore n (stream_after old (piece ++ further)) (stream_after new further)

-- States whether there is any of `n`.
abbrev pub IsAnyOf : Bool → ℕ → Type 0
IsAnyOf true n = 0 < n
IsAnyOf false n = n ≡ 0

-- Returns whether a message is complete, and nothing of the next one has arrived.
abbrev pub is_whole : Judged → Bool
is_whole judged.Whole = true
is_whole judged.More = false
is_whole (judged.Bad why) = false

-- A piece that was handled. If a message of the stream ends in it, the wait begins anew.
pub record IsHeeded (old : Waited) (piece : List ℕ) (new : Waited) (any : Bool) : Type 0 where
  pub ends : ℕ
  pub has : HasEnds ends old.held piece new.held
  pub any_of : IsAnyOf any ends
  pub greeted : new.greeted ≡ (if any then true else old.greeted)
  pub waited : new.waited ≡ (if any then 0 else old.waited)

-- ---- how long it may take

-- Returns the microseconds that a message may take: 10 s for the first, and 60 s for each later
-- one.
abbrev pub limit_of : Bool → ℕ
limit_of false = 10000000
limit_of true = 60000000

-- Returns the code of the message that says that the time has passed. It is a Release between two
-- messages (RFC 8323 section 5.5), and an Abort within one or if none arrived (section 5.6).
abbrev pub farewell_by : Judged → ℕ
farewell_by judged.Whole = signals.RELEASE
farewell_by judged.More = signals.ABORT
farewell_by (judged.Bad why) = signals.ABORT
