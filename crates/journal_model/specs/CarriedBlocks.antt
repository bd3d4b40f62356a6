-- Messages that carry a block of a listing or of a source under its tag, and those that say that a
-- tag is valid (RFC 7959 section 2.4, RFC 7252 section 5.9.1.3).
use Rattle.std.specs.Prelude.{◌≡◌, ℕ, ◌≤◌, Bool, true, false, ◌&&◌, ◌||◌, ◌==◌, List, [], ◌∷◌}
use Rattle.std.specs.Prelude.{length, Option, Some, None, Result, Ok, Err}
use Rattle.std.specs.List.{list_any, IsAmong}
use Rattle.rd_base.specs.declared.peers.Peer.{Peer}
use Rattle.message_model.specs.declared.blocks.Block.{Block}
use Rattle.message_model.specs.declared.messages.Unread.{Unread}
use Rattle.message_model.specs.Message.{Message}
use Rattle.message_model.specs.Codes as codes_of
use Rattle.message_model.specs.OptionTable as table
use Rattle.message_model.specs.Blocks.{block_size, block_of}
use Rattle.message_model.specs.Reading.{reading}
use Rattle.message_model.specs.Request.{etags_in}
use Rattle.history_model.specs.declared.entries.Entry.{Entry}
use Rattle.history_model.specs.Live.{IsFront}
use Rattle.history_model.specs.Listing.{tag}
use Rattle.journal_model.specs.declared.rows.Row.{Row}
use Rattle.journal_model.specs.Journal.{is_look, entries}
use Rattle.journal_model.specs.Requests.{is_look_request, asked_block}
use Rattle.journal_model.specs.Sought.{sought_in, body, has_tag, is_found}
use Rattle.journal_model.specs.Looks.{names_tag}
use Rattle.journal_model.specs.PlacedRows.{Within, Placed}
use Rattle.journal_model.specs.BodyFormers.{repeats_body, former_at, asker_at}
use Rattle.journal_model.specs.AskedListings.{Asked, asked_at, answers_with_links}

-- Returns whether a message is a 2.05.
abbrev pub is_content : Message → Bool
is_content m = m.code == codes_of.content

-- Returns whether a message has an entity tag.
abbrev pub is_tagged : Message → Bool
is_tagged m = list_any (λ t. true) (etags_in m)

-- Returns what a worker had seen when a row was made: the entries of the rows before it.
abbrev pub seen : Placed → List Entry
seen p = entries p.before

-- The most octets of a payload.
abbrev pub longest_payload : ℕ
longest_payload = 1_024

-- States that a payload is the named block of a body, or the whole body if none is named.
abbrev pub IsBlockOf : Option Block → List ℕ → List ℕ → Type 0
IsBlockOf None body payload = payload ≡ body
IsBlockOf (Some b) body payload = block_of body b.num b.szx ≡ Some (payload, b.more)

-- States that the named block is the requested one. None is named only if that is the first and the
-- body fits it.
abbrev pub IsAsked : ℕ → ℕ → Option Block → List ℕ → Type 0
IsAsked number szx None body = (number ≡ 0) × (length body ≤ block_size szx)
IsAsked number szx (Some b) body = (b.num ≡ number) × (b.szx ≡ szx)

-- A message that carries the block of a body that its own Block2 names, which is the requested one.
pub record CarriesBlock (m : Message) (number szx : ℕ) (body : List ℕ) : Type 0 where
  pub block : IsBlockOf (asked_block m) body m.payload
  pub asked : IsAsked number szx (asked_block m) body
  pub fits : length m.payload ≤ longest_payload

-- A message that carries a block of what is requested, as it is found in a history at a moment,
-- under the tag of that history.
pub record Carries (m : Message) (asked : Asked) (history : List Entry) (moment : ℕ) : Type 0 where
  pub whole : List ℕ
  pub found : body asked.sought history moment ≡ Some whole
  pub block : CarriesBlock m asked.number asked.szx whole
  pub tag : etags_in m ≡ tag history moment ∷ []

-- A message that a row built. It carries the requested block of the listing or the source from the
-- history up to that row, at the moment of that row. Unless it repeats a body of an earlier row,
-- this history holds all that the worker had seen when it was asked.
pub record FormedAs (here : Placed) (peer : Peer) (m : Message) : Type 0 where
  pub former : Placed
  pub formed : former_at here.row.step.kind peer m.mid here ≡ Some former
  pub asked : Asked
  pub asks : asked_at here.row.step.kind (peer, m.token) here ≡ Some asked
  pub carries : Carries m asked (entries (former.row ∷ former.before)) former.row.moment.0
  pub holds_seen : repeats_body here.row.step.kind peer m.mid here ≡ false
      → (asker : Placed) → asker_at here.row.step.kind here ≡ Some asker
      → IsFront (seen asker) (entries (former.row ∷ former.before))

-- Returns whether the request is a look that names the tag of a history at a moment. The look is
-- for a listing, or for the source of a live registration.
abbrev pub looks_with_tag : List Entry → ℕ → Result Message Unread → Bool
looks_with_tag history moment (Err fault) = false
looks_with_tag history moment (Ok m) =
    is_look_request m
    && has_tag (sought_in m)
    && is_found (sought_in m) history moment
    && names_tag (tag history moment) m

-- A message that a row of a journal sends.
pub record Sent (rows : List Row) : Type 0 where
  pub here : Placed
  pub within : Within rows here.before here.row
  pub peer : Peer
  pub octets : List ℕ
  pub among : IsAmong here.row.sent (peer, octets)
  pub message : Message
  pub read : reading octets ≡ Ok message

-- Returns whether a message is a 2.05 to a request that seeks a listing or a source, as a
-- notification, or with an entity tag.
abbrev pub shows_links : {rows : List Row} → Sent rows → Bool
shows_links it =
    is_content it.message
    && (answers_with_links it.here.row.step.kind (reading it.here.row.step.datagram)
    || is_tagged it.message)

-- A 2.03 as a look sends it. The look names the tag at its own row. The 2.03 has the peer and the
-- token of the request, this tag and nothing else.
pub record Validates (here : Placed) (peer : Peer) (m : Message) : Type 0 where
  pub looks : is_look here.row.step.kind ≡ true
  pub named :
      looks_with_tag (entries here.before) here.row.moment.0 (reading here.row.step.datagram)
      ≡ true
  pub asked : Asked
  pub asks : asked_at here.row.step.kind (peer, m.token) here ≡ Some asked
  pub options : m.options ≡ (table.etag, tag (entries here.before) here.row.moment.0) ∷ []
  pub payload : m.payload ≡ []
