-- What a stream reader holds, and what a piece does to it (RFC 8323 sections 3.2 and 3.3).
use Rattle.std.specs.Prelude.{
  ◌≡◌,
  ℕ,
  ◌≤◌,
  ◌<◌,
  ⊤,
  Bool,
  true,
  false,
  List,
  [],
  ◌++◌,
  length,
  take,
  drop,
}
use Rattle.stream_model.specs.declared.messages.StreamBad.{StreamBad}
use Rattle.stream_model.specs.declared.messages.Judged.{Judged}
use Rattle.stream_model.specs.declared.messages.Judged.TheVariants as judged
use Rattle.stream_model.specs.Judging.{judge, FrontsMore}
use Rattle.stream_model.specs.Streams.{
  Stream,
  IsGood,
  IsBad,
  IsFront,
  broken,
  with_message,
  stream_from,
}
use Rattle.stream_reader.specs.declared.feeding.Fed.{Fed}
use Rattle.stream_reader.specs.declared.feeding.Fed.TheVariants as fed

-- What a reader holds: the octets of a message, and whether this message is the first of its
-- stream. It is the message that the reader is reading, or that the last piece completed.
pub record Held : Type 0 where
  pub is_first : Bool
  pub pending : List ℕ

-- What a reader holds at the beginning of a stream.
abbrev pub at_beginning : Held
at_beginning = record { is_first = true; pending = [] }

-- What a reader holds after a message.
abbrev pub between_messages : Held
between_messages = record { is_first = false; pending = [] }

-- Returns what is held with more octets.
abbrev pub with_octets : Held → List ℕ → Held
with_octets h octets = record h { pending = h.pending ++ octets }

-- Returns the verdict on what is held.
abbrev pub held_as : Held → Judged
held_as h = judge h.is_first h.pending

-- ---- what a piece does

-- Octets of the piece were taken, with which a message is complete.
pub record IsWhole (old : Held) (piece : List ℕ) (n : ℕ) (new : Held) : Type 0 where
  pub within : n ≤ length piece
  pub held : new ≡ with_octets old (take n piece)
  pub good : IsGood new.is_first new.pending

-- Octets of the piece were taken, which show that a message is bad.
pub record IsBroken (old : Held) (piece : List ℕ) (n : ℕ) (why : StreamBad)
    (new : Held) : Type 0
  where
    pub within : n ≤ length piece
    pub held : new ≡ with_octets old (take n piece)
    pub is_bad : IsBad new.is_first why new.pending

-- All of the piece was taken, and the message is not complete yet.
pub record IsLess (old : Held) (piece : List ℕ) (new : Held) : Type 0 where
  pub held : new ≡ with_octets old piece
  pub front : IsFront new.pending

-- States the result of a piece that continues the octets that are held.
abbrev pub IsTaken : Held → List ℕ → Fed → Held → Type 0
IsTaken old piece fed.More new = IsLess old piece new
IsTaken old piece (fed.Whole n) new = IsWhole old piece n new
IsTaken old piece (fed.Bad n why) new = IsBroken old piece n why new

-- States the result of a piece, by the verdict on the octets that are held. After a message the
-- next one begins, and after a bad one nothing is taken.
abbrev pub IsFedBy : Judged → Held → List ℕ → Fed → Held → Type 0
IsFedBy judged.More old piece result new = IsTaken old piece result new
IsFedBy judged.Whole old piece result new = IsTaken between_messages piece result new
IsFedBy (judged.Bad why) old piece result new = (result ≡ fed.Bad 0 why) × (new ≡ old)

-- States the result of a piece that is fed to a reader.
abbrev pub IsFed : Held → List ℕ → Fed → Held → Type 0
IsFed old piece result new = IsFedBy (held_as old) old piece result new

-- States how many octets of a piece of this size may be taken: one or more if they complete a
-- message.
abbrev pub IsWithin : ℕ → Fed → Type 0
IsWithin size fed.More = ⊤
IsWithin size (fed.Whole n) = (0 < n) × (n ≤ size)
IsWithin size (fed.Bad n why) = n ≤ size

-- ---- for every cutting

-- Returns the stream of further octets, by the verdict on the octets that are held.
abbrev pub stream_by_held : Judged → Held → List ℕ → Stream
stream_by_held (judged.Bad why) h octets = broken why
stream_by_held judged.More h octets = stream_from h.is_first h.pending octets
stream_by_held judged.Whole h octets = stream_from false [] octets

-- Returns the stream that a reader finds in further octets.
abbrev pub stream_after : Held → List ℕ → Stream
stream_after h octets = stream_by_held (held_as h) h octets

-- States that the stream which a reader finds in a piece and further octets continues after the
-- piece. There it is the stream of the octets that were not taken, after the message that is
-- complete.
abbrev pub GoesOn : Held → List ℕ → List ℕ → Fed → Held → Type 0
GoesOn old piece further fed.More new =
    stream_after old (piece ++ further) ≡ stream_after new further
GoesOn old piece further (fed.Whole n) new =
    stream_after old (piece ++ further)
    ≡ with_message new.pending (stream_after new (drop n piece ++ further))
GoesOn old piece further (fed.Bad n why) new =
    stream_after old (piece ++ further) ≡ broken why

-- ---- as it is read

-- Octets of the piece were taken up to where this was the verdict on a message, and not before.
pub record IsJudged (old : Held) (piece : List ℕ) (n : ℕ) (verdict : Judged)
    (new : Held) : Type 0
  where
    pub within : n ≤ length piece
    pub held : new ≡ with_octets old (take n piece)
    pub verdict_is : held_as new ≡ verdict
    pub fronts : FrontsMore new.is_first new.pending

-- States the result of a piece, by the verdict up to which octets were taken.
abbrev pub IsReached : Held → List ℕ → Fed → Held → Type 0
IsReached old piece fed.More new =
    (new ≡ with_octets old piece) × (held_as new ≡ judged.More)
IsReached old piece (fed.Whole n) new = IsJudged old piece n judged.Whole new
IsReached old piece (fed.Bad n why) new = IsJudged old piece n (judged.Bad why) new
