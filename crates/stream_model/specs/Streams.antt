-- The messages of a stream (RFC 8323 sections 3.2 and 3.3): as a relation, and as they arrive octet
-- by octet.
use Rattle.std.specs.Prelude.{
  ◌≡◌,
  ℕ,
  ◌<◌,
  Bool,
  true,
  false,
  List,
  [],
  ◌∷◌,
  ◌++◌,
  length,
  Option,
  Some,
  None,
}
use Rattle.stream_model.specs.declared.messages.StreamBad.{StreamBad}
use Rattle.stream_model.specs.declared.messages.Judged.{Judged}
use Rattle.stream_model.specs.declared.messages.Judged.TheVariants as judged
use Rattle.stream_model.specs.Messages.{StreamMessage, IsStreamMessage, stream_spelling}
use Rattle.stream_model.specs.Faults.{fault_of, known_octets}
use Rattle.stream_model.specs.Judging.{judge}

-- What octets contain: their messages, each as its octets; then the reason why the next message is
-- bad, or the octets of it that have arrived.
pub record Stream : Type 0 where
  pub messages : List (List ℕ)
  pub fault : Option StreamBad
  pub rest : List ℕ

-- ---- as a relation

-- The octets of a message that is not bad; `is_first` says that it is the first of its stream.
pub record IsGood (is_first : Bool) (octets : List ℕ) : Type 0 where
  pub message : StreamMessage
  pub fits : IsStreamMessage message
  pub good : fault_of is_first message ≡ None
  pub spelled : stream_spelling message ≡ octets

-- The octets that decide that a message is bad, for this reason.
pub record IsBad (is_first : Bool) (why : StreamBad) (octets : List ℕ) : Type 0 where
  pub message : StreamMessage
  pub fits : IsStreamMessage message
  pub fault : fault_of is_first message ≡ Some why
  pub known : known_octets message ≡ octets

-- A proper prefix of the octets that decide whether a message is bad.
pub record IsFront (octets : List ℕ) : Type 0 where
  pub message : StreamMessage
  pub fits : IsStreamMessage message
  pub more : List ℕ
  pub some : 0 < length more
  pub known : octets ++ more ≡ known_octets message

-- Octets that begin with a bad message, whatever follows it.
pub record BeginsBad (is_first : Bool) (why : StreamBad) (octets : List ℕ) : Type 0 where
  pub bad : List ℕ
  pub more : List ℕ
  pub split : octets ≡ bad ++ more
  pub is_bad : IsBad is_first why bad

-- States what follows the last good message: a prefix of one, or a bad one.
abbrev pub IsEnd : Bool → Option StreamBad → List ℕ → List ℕ → Type 0
IsEnd is_first None rest octets = (rest ≡ octets) × IsFront octets
IsEnd is_first (Some why) rest octets = (rest ≡ []) × BeginsBad is_first why octets

-- States that the octets are these messages, one after the other, and this end.
abbrev pub AreMessages : Bool → List (List ℕ) → Option StreamBad → List ℕ → List ℕ
    → Type 0
AreMessages is_first [] fault rest octets = IsEnd is_first fault rest octets
AreMessages is_first (message ∷ messages) fault rest octets =
    IsGood is_first message
    × (more : List ℕ) × (octets ≡ message ++ more)
    × AreMessages false messages fault rest more

-- States that the octets of a connection are this stream.
abbrev pub IsStream : List ℕ → Stream → Type 0
IsStream octets s = AreMessages true s.messages s.fault s.rest octets

-- ---- octet by octet

-- Returns the stream of octets that are no whole message yet.
abbrev pub partial : List ℕ → Stream
partial rest = record { messages = []; fault = None; rest = rest }

-- Returns the stream of octets whose next message is bad.
abbrev pub broken : StreamBad → Stream
broken why = record { messages = []; fault = Some why; rest = [] }

-- Returns a stream with one more message before its others.
abbrev pub with_message : List ℕ → Stream → Stream
with_message message s = record s { messages = message ∷ s.messages }

-- Returns the stream of further octets, by the verdict on those before them: the same message
-- continues, or the next one begins.
abbrev pub stream_by : Judged → List ℕ → Stream → Stream → Stream
stream_by judged.More pending same next = same
stream_by judged.Whole pending same next = with_message pending next
stream_by (judged.Bad why) pending same next = broken why

-- Returns the stream of further octets, after those that are no whole message yet.
unfoldable pub stream_from : Bool → List ℕ → List ℕ → Stream
stream_from is_first pending [] = partial pending
stream_from is_first pending (b ∷ octets) =
    stream_by (judge is_first (pending ++ b ∷ [])) (pending ++ b ∷ [])
    (stream_from is_first (pending ++ b ∷ []) octets) (stream_from false [] octets)

-- Returns the stream that the octets of a connection are, octet by octet.
abbrev pub stream_of : List ℕ → Stream
stream_of octets = stream_from true [] octets
