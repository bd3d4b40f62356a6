-- The trace that is generated for a number of devices. Each device registers and is served at once,
-- and an observer follows each tenth. A run with `--make` replays it. Devices are numbered from 1;
-- moments are in milliseconds.
use Rattle.std.specs.Prelude.{
  ℕ,
  zero,
  suc,
  ◌+◌,
  ◌*◌,
  ◌/◌,
  ◌%◌,
  ◌==◌,
  Bool,
  List,
  [],
  ◌∷◌,
  ◌++◌,
  flat_map,
  codes,
  decimal,
  if◌then◌else◌,
}
use Rattle.std.specs.Int.{bytes_high_first}
use Rattle.rd_base.specs.declared.peers.Host.TheVariants as host
use Rattle.rd_base.specs.declared.peers.Peer.{Peer}
use Rattle.message_model.specs.declared.messages.Kind4.TheVariants.{Con}
use Rattle.message_model.specs.Message.{Message}
use Rattle.message_model.specs.Codes as codes_of
use Rattle.message_model.specs.OptionTable as table
use Rattle.message_model.specs.Spelling.{spelling}
use Rattle.line_model.specs.declared.lines.Line.{Line}
use Rattle.line_model.specs.declared.lines.Line.TheVariants as line
use Rattle.line_model.specs.Lines.{line_text}
use Rattle.line_model.specs.Texts.{line_feed}

-- The milliseconds from one device to the next.
abbrev pub pace : ℕ
pace = 200

-- Returns the peer of a device: the address 10.0 and its number in two octets, at the port of CoAP.
abbrev pub device : ℕ → Peer
device i = record { host = host.V4 (10 ∷ 0 ∷ i / 256 ∷ i % 256 ∷ []); port = 5_683 }

-- The peer of the observers.
abbrev pub onlooker : Peer
onlooker = record { host = host.V4 (10 ∷ 1 ∷ 0 ∷ 1 ∷ []); port = 40_000 }

-- Returns the lifetime that a device requests, in seconds: 60 to 3,659.
abbrev pub lifetime : ℕ → ℕ
lifetime i = 60 + (611 * i) % 3_600

-- Returns the resource type of a device's second link, one of seven.
abbrev pub kind_text : ℕ → List ℕ
kind_text i = codes "kind" ++ decimal (i % 7)

-- Returns the links of a device.
abbrev pub device_links : ℕ → List ℕ
device_links i =
    codes "</t>;rt=\"temp\",</s"
    ++ (decimal (i % 10) ++ (codes ">;rt=\"" ++ (kind_text i ++ codes "\"")))

-- Returns the registration of a device (RFC 9176 section 5).
abbrev pub device_registration : ℕ → Message
device_registration i = record {
  kind = Con;
  code = codes_of.post;
  mid = i;
  token = i % 256 ∷ [];
  options =
      (table.uri_path, codes "rd")
      ∷ (table.uri_query, codes "ep=dev" ++ decimal i)
      ∷ (table.uri_query, codes "lt=" ++ decimal (lifetime i))
      ∷ [];
  payload = device_links i;
}

-- Returns the lookup that observes the links of a device's kind (RFC 9176 section 6, RFC 7641
-- section 2).
abbrev pub observation : ℕ → Message
observation i = record {
  kind = Con;
  code = codes_of.get;
  mid = 20_000 + i;
  token = bytes_high_first 2 i;
  options =
      (table.observe, [])
      ∷ (table.uri_path, codes "rd-lookup")
      ∷ (table.uri_path, codes "res")
      ∷ (table.uri_query, codes "rt=" ++ kind_text i)
      ∷ [];
  payload = [];
}

-- Returns whether a number divides another.
abbrev pub divides : ℕ → ℕ → Bool
divides d i = i % d == 0

-- Returns the line of an observer, which follows each tenth device.
abbrev pub observer_lines : ℕ → ℕ → List Line
observer_lines workers i =
    if divides 10 i
    then line.Come (i % workers) (record { 0 = pace * i + 2 }) onlooker
    (spelling (observation i)) 0
    ∷ []
    else []

-- Returns the line of a tick, which follows each hundredth device, with its number as the word.
abbrev pub tick_lines : ℕ → ℕ → List Line
tick_lines workers i =
    if divides 100 i then line.Tick (i % workers) (record { 0 = pace * i + 3 }) i ∷ [] else []

-- Returns the lines of a device. The workers step one after another.
abbrev pub device_lines : ℕ → ℕ → List Line
device_lines workers i =
    line.Come (i % workers) (record { 0 = pace * i }) (device i)
    (spelling (device_registration i)) 0
    ∷ line.Go (i % workers) (record { 0 = pace * i + 1 })
    ∷ observer_lines workers i ++ tick_lines workers i

-- Returns the lines of the devices up to a number.
abbrev pub lines_up_to : ℕ → ℕ → List Line
lines_up_to workers zero = []
lines_up_to workers (suc n) = lines_up_to workers n ++ device_lines workers (suc n)

-- Returns the lines of a generated trace: those of its devices, and a last tick.
unfoldable pub generated_lines : ℕ → ℕ → List Line
generated_lines devices workers =
    lines_up_to workers devices ++ line.Tick 0 (record { 0 = pace * devices + 10 }) 0 ∷ []

-- Returns the text of lines, each with its line feed.
abbrev pub text_of : List Line → List ℕ
text_of lines = flat_map (λ l. line_text l ++ line_feed ∷ []) lines

-- Returns the generated trace of a number of devices, for a number of workers.
unfoldable pub generated : ℕ → ℕ → List ℕ
generated devices workers = text_of (generated_lines devices workers)
