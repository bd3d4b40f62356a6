-- One line of a trace: what it means, and how it is printed.
use Rattle.std.specs.Prelude.{
  ◌≡◌,
  ℕ,
  ◌≤◌,
  ◌==◌,
  List,
  [],
  ◌∷◌,
  length,
  codes,
  decimal,
  Option,
  Some,
  None,
  Result,
  Err,
  ok_or,
  option_and_then,
  if◌then◌else◌,
  nat_lt,
  bytes_eq,
}
use Rattle.std.specs.List.{slice_split, join_with_byte}
use Rattle.rd_base.specs.declared.moments.Moment.{Moment}
use Rattle.rd_base.specs.declared.peers.Peer.{Peer}
use Rattle.hex.specs.Hex.{IsBytes}
use Rattle.line_model.specs.declared.limits.TheConstants.{MAX_LINE}
use Rattle.line_model.specs.declared.lines.Line.{Line}
use Rattle.line_model.specs.declared.lines.Line.TheVariants as line
use Rattle.line_model.specs.declared.lines.Reason.{Reason}
use Rattle.line_model.specs.declared.lines.Reason.TheVariants as reason
use Rattle.line_model.specs.Numbers.{
  max_worker,
  max_moment,
  max_word,
  max_first,
  IsNumber,
  number_of,
}
use Rattle.rd_base.specs.Peers.{IsPeer, IsPeerText, peer_of, peer_text}
use Rattle.line_model.specs.Datagrams.{IsDatagramText, max_datagram, datagram_of, datagram_text}

-- The space between two fields.
abbrev pub space : ℕ
space = 32

-- The most octets of a line, without its line feed.
abbrev pub max_line : ℕ
max_line = MAX_LINE

-- Returns the fields of a line, which are separated by single spaces.
abbrev pub fields : List ℕ → List (List ℕ)
fields text = slice_split (λ b. b == space) text

-- Returns fields as a line, with single spaces between them.
abbrev pub joined : List (List ℕ) → List ℕ
joined parts = join_with_byte space parts

-- Returns what the second step gives, if the first gave something.
infixl 10 ◌>>=◌
abbrev ◌>>=◌ : {A B : Type 0} → Option A → (A → Option B) → Option B
o >>= f = option_and_then f o

-- Returns the line of a datagram that arrives: `in`, then worker, moment, peer, octets and word.
unfoldable pub come_of : List ℕ
    → List ℕ
    → List ℕ
    → List ℕ
    → Option ℕ
    → Option Line
come_of worker moment peer octets word = do
  w ← number_of max_worker worker
  m ← number_of max_moment moment
  p ← peer_of peer
  d ← datagram_of octets
  x ← word
  Some (line.Come w (record { 0 = m }) p d x)

-- Returns the line of a worker that does its job: `go`, then worker and moment.
unfoldable pub go_of : List ℕ → List ℕ → Option Line
go_of worker moment = do
  w ← number_of max_worker worker
  m ← number_of max_moment moment
  Some (line.Go w (record { 0 = m }))

-- Returns the line of time that passes: `tick`, then worker, moment and word.
unfoldable pub tick_of : List ℕ → List ℕ → Option ℕ → Option Line
tick_of worker moment word = do
  w ← number_of max_worker worker
  m ← number_of max_moment moment
  x ← word
  Some (line.Tick w (record { 0 = m }) x)

-- Returns the line of a run that begins: `begin`, then worker, moment and the number above which it
-- begins.
unfoldable pub begin_of : List ℕ → List ℕ → List ℕ → Option Line
begin_of worker moment first = do
  w ← number_of max_worker worker
  m ← number_of max_moment moment
  n ← number_of max_first first
  Some (line.Begin w (record { 0 = m }) n)

-- Returns the line that fields spell, by the first of them. An `in` or a `tick` without a word has
-- the word 0.
unfoldable pub said_by : List (List ℕ) → Option Line
said_by (verb ∷ worker ∷ moment ∷ []) =
    if bytes_eq verb (codes "go") then go_of worker moment
    else if bytes_eq verb (codes "tick") then tick_of worker moment (Some 0) else None
said_by (verb ∷ worker ∷ moment ∷ number ∷ []) =
    if bytes_eq verb (codes "tick") then tick_of worker moment (number_of max_word number)
    else if bytes_eq verb (codes "begin") then begin_of worker moment number else None
said_by (verb ∷ worker ∷ moment ∷ peer ∷ octets ∷ []) =
    if bytes_eq verb (codes "in") then come_of worker moment peer octets (Some 0) else None
said_by (verb ∷ worker ∷ moment ∷ peer ∷ octets ∷ word ∷ []) =
    if bytes_eq verb (codes "in")
    then come_of worker moment peer octets (number_of max_word word)
    else None
said_by _ = None

-- Returns the line that a text spells, or why it is bad. A text that is too long is `Long`,
-- whatever its form.
unfoldable pub line_of : List ℕ → Result Line Reason
line_of text =
    if nat_lt max_line (length text)
    then Err reason.Long
    else ok_or (said_by (fields text)) reason.Form

-- Returns the field of a word, which is left out if the word is 0.
abbrev pub word_fields : ℕ → List (List ℕ)
word_fields word = if word == 0 then [] else decimal word ∷ []

-- Returns the fields of a line as it is printed, without a word of 0.
abbrev pub printed_fields : Line → List (List ℕ)
printed_fields (line.Come worker moment peer octets word) =
    codes "in"
    ∷ decimal worker
    ∷ decimal moment.0
    ∷ peer_text peer
    ∷ datagram_text octets
    ∷ word_fields word
printed_fields (line.Go worker moment) = codes "go" ∷ decimal worker ∷ decimal moment.0 ∷ []
printed_fields (line.Tick worker moment word) =
    codes "tick" ∷ decimal worker ∷ decimal moment.0 ∷ word_fields word
printed_fields (line.Begin worker moment first) =
    codes "begin" ∷ decimal worker ∷ decimal moment.0 ∷ decimal first ∷ []

-- Returns a line as it is printed, without a line feed.
unfoldable pub line_text : Line → List ℕ
line_text l = joined (printed_fields l)

-- Returns the line of a datagram that is sent: `out`, then worker, peer and octets, without a line
-- feed.
unfoldable pub out_text : ℕ → Peer → List ℕ → List ℕ
out_text worker peer octets =
    joined (codes "out" ∷ decimal worker ∷ peer_text peer ∷ datagram_text octets ∷ [])

-- A valid line: its numbers are within their limits, its peer is one, and its datagram has at most
-- 4,096 octets.
pub data IsLine : Line → Type 0 where
  come : {worker : ℕ} {moment : Moment} {peer : Peer} {octets : List ℕ} {word : ℕ}
      → worker ≤ max_worker
      → moment.0 ≤ max_moment
      → IsPeer peer
      → length octets ≤ max_datagram
      → IsBytes octets
      → word ≤ max_word
      → IsLine (line.Come worker moment peer octets word)
  go : {worker : ℕ} {moment : Moment}
      → worker ≤ max_worker
      → moment.0 ≤ max_moment
      → IsLine (line.Go worker moment)
  tick : {worker : ℕ} {moment : Moment} {word : ℕ}
      → worker ≤ max_worker
      → moment.0 ≤ max_moment
      → word ≤ max_word
      → IsLine (line.Tick worker moment word)
  begin : {worker : ℕ} {moment : Moment} {first : ℕ}
      → worker ≤ max_worker
      → moment.0 ≤ max_moment
      → first ≤ max_first
      → IsLine (line.Begin worker moment first)

-- The fields that spell a line.
pub data AreFieldsOf : List (List ℕ) → Line → Type 0 where
  comes : {w m p d x : List ℕ} {worker : ℕ} {moment : Moment} {peer : Peer} {octets : List ℕ}
      {word : ℕ}
      → IsNumber max_worker w worker
      → IsNumber max_moment m moment.0
      → IsPeerText p peer
      → IsDatagramText d octets
      → IsNumber max_word x word
      → AreFieldsOf (codes "in" ∷ w ∷ m ∷ p ∷ d ∷ x ∷ [])
      (line.Come worker moment peer octets word)
  comes_alone : {w m p d : List ℕ} {worker : ℕ} {moment : Moment} {peer : Peer}
      {octets : List ℕ}
      → IsNumber max_worker w worker
      → IsNumber max_moment m moment.0
      → IsPeerText p peer
      → IsDatagramText d octets
      → AreFieldsOf (codes "in" ∷ w ∷ m ∷ p ∷ d ∷ [])
      (line.Come worker moment peer octets 0)
  goes : {w m : List ℕ} {worker : ℕ} {moment : Moment}
      → IsNumber max_worker w worker
      → IsNumber max_moment m moment.0
      → AreFieldsOf (codes "go" ∷ w ∷ m ∷ []) (line.Go worker moment)
  ticks : {w m x : List ℕ} {worker : ℕ} {moment : Moment} {word : ℕ}
      → IsNumber max_worker w worker
      → IsNumber max_moment m moment.0
      → IsNumber max_word x word
      → AreFieldsOf (codes "tick" ∷ w ∷ m ∷ x ∷ []) (line.Tick worker moment word)
  ticks_alone : {w m : List ℕ} {worker : ℕ} {moment : Moment}
      → IsNumber max_worker w worker
      → IsNumber max_moment m moment.0
      → AreFieldsOf (codes "tick" ∷ w ∷ m ∷ []) (line.Tick worker moment 0)
  begins : {w m n : List ℕ} {worker : ℕ} {moment : Moment} {first : ℕ}
      → IsNumber max_worker w worker
      → IsNumber max_moment m moment.0
      → IsNumber max_first n first
      → AreFieldsOf (codes "begin" ∷ w ∷ m ∷ n ∷ []) (line.Begin worker moment first)

-- The text of a line: it is not too long, and its fields, with single spaces between them, spell
-- the line.
pub record IsLineText (text : List ℕ) (l : Line) : Type 0 where
  pub short : length text ≤ max_line
  pub parts : List (List ℕ)
  pub spelled : text ≡ joined parts
  pub said : AreFieldsOf parts l
