-- The asks of a client: that of a registration at a URI (RFC 9176 section 5, RFC 7252 section 6.4),
-- and those of its refresh and its removal (RFC 9176 sections 5.3.1 and 5.3.2).
use Rattle.std.specs.Prelude.{
  ℕ,
  ◌≡◌,
  Bool,
  not,
  ◌&&◌,
  ◌||◌,
  ◌==◌,
  nat_le,
  List,
  [],
  ◌∷◌,
  ◌++◌,
  length,
  map,
  drop,
  Option,
  Some,
  None,
  is_some,
  Result,
  Ok,
  Err,
  ⊤,
  codes,
  bytes_eq,
  if◌then◌else◌,
}
use Rattle.std.specs.List.{list_all, slice_split}
use Rattle.std.specs.Str.{is_utf8, str_to_ascii_lowercase}
use Rattle.percent_encoding.specs.Percent.{percent_decode}
use Rattle.rd_base.specs.declared.peers.Peer.{Peer}
use Rattle.rd_base.specs.Peers.{peer_of}
use Rattle.link_model.specs.Characters.{slash, at_sign, is_empty}
use Rattle.reference_model.specs.References.{
  Components,
  reference,
  where_present,
  has_octet,
  begins_with,
  host_of,
}
use Rattle.message_model.specs.declared.messages.TheConstants.{MAX_MESSAGE_SIZE}
use Rattle.message_model.specs.declared.formats.TheConstants.{LINK_FORMAT}
use Rattle.message_model.specs.Message.{Opt}
use Rattle.message_model.specs.Codes as codes_of
use Rattle.message_model.specs.OptionTable as table
use Rattle.client_model.specs.declared.asks.TheConstants.{MAX_PART}
use Rattle.client_model.specs.declared.asks.Ask.{Ask}
use Rattle.client_model.specs.declared.asks.AskBad.{AskBad}
use Rattle.client_model.specs.declared.asks.AskBad.TheVariants as bad
use Rattle.client_model.specs.declared.outcomes.Location.{Location}
use Rattle.client_model.specs.Requests.{ask_size}

-- ---- the parts of a URI

-- Returns whether a scheme is that of CoAP, in either case (RFC 7252 section 6.1, RFC 3986 section
-- 3.1).
abbrev pub is_coap : List ℕ → Bool
is_coap scheme = bytes_eq (str_to_ascii_lowercase scheme) (codes "coap")

-- Returns the port of an authority with its colon, or that of CoAP if it is absent or empty (RFC
-- 7252 section 6.1).
abbrev pub port_or_default : List ℕ → List ℕ
port_or_default text = if nat_le (length text) 1 then codes ":5683" else text

-- Returns the peer that an authority names. It has no user information, its host is an address as
-- it is printed, and a datagram can be sent to its port (RFC 3986 section 3.2, RFC 5952).
unfoldable pub peer_at : List ℕ → Option Peer
peer_at authority =
    if has_octet at_sign authority then None
    else peer_of
    (host_of authority ++ port_or_default (drop (length (host_of authority)) authority))

-- Returns the peer of a URI. Without an authority it names none.
abbrev pub peer_in : Option (List ℕ) → Option Peer
peer_in None = None
peer_in (Some authority) = peer_at authority

-- Returns what is between the marks of a text.
abbrev pub parts_at : ℕ → List ℕ → List (List ℕ)
parts_at mark text = slice_split (λ c. c == mark) text

-- The mark between the parts of a query (RFC 7252 section 6.4).
abbrev pub ampersand : ℕ
ampersand = 38

-- Returns the segments of a path. An empty one and a lone slash have none (RFC 7252 section 6.4).
abbrev pub segments_of : List ℕ → List (List ℕ)
segments_of path =
    if begins_with slash path && not (is_empty (drop 1 path)) then parts_at slash (drop 1 path)
    else []

-- Returns the parts of a query. An empty one is one empty part (RFC 7252 section 6.4).
abbrev pub query_parts : Option (List ℕ) → List (List ℕ)
query_parts None = []
query_parts (Some query) = parts_at ampersand query

-- Returns the parts, decoded (RFC 7252 section 6.4, RFC 3986 section 2.1).
abbrev pub decoded_parts : List (List ℕ) → List (List ℕ)
decoded_parts parts = map percent_decode parts

-- Returns whether an option of a path or of a query may have this value: a text of at most 255
-- octets (RFC 7252 section 5.10).
abbrev pub is_part : List ℕ → Bool
is_part octets = is_utf8 octets && nat_le (length octets) MAX_PART

-- Returns whether each of these may be such a value.
abbrev pub are_parts : List (List ℕ) → Bool
are_parts parts = list_all is_part parts

-- Returns whether these are segments of a location, which is text: none has more than 255 octets
-- (RFC 7252 section 5.10).
abbrev pub are_segments : List (List ℕ) → Bool
are_segments path = list_all (λ segment. nat_le (length segment) MAX_PART) path

-- ---- the asks

-- Returns options with a number and with these values.
abbrev pub options_with : ℕ → List (List ℕ) → List Opt
options_with number values = map (λ value. (number, value)) values

-- Returns an ask, if its datagram is not too long.
abbrev pub if_short : Ask → Result Ask AskBad
if_short ask = if nat_le (ask_size ask) MAX_MESSAGE_SIZE then Ok ask else Err bad.Size

-- Returns the ask of a registration of these links, with a path and a query (RFC 9176 section 5).
abbrev pub registering : Peer → List (List ℕ) → List (List ℕ) → List ℕ → Ask
registering to path query links = record {
  to = to;
  code = codes_of.post;
  options =
      options_with table.uri_path path
      ++ (table.content_format, LINK_FORMAT ∷ []) ∷ options_with table.uri_query query;
  payload = links;
}

-- Returns that ask, if each part is allowed in an option and its datagram is not too long.
unfoldable pub registration_at : Peer → List (List ℕ) → List (List ℕ) → List ℕ
    → Result Ask AskBad
registration_at to path query links =
    if are_parts path && are_parts query then if_short (registering to path query links)
    else Err bad.Part

-- Returns that ask for the peer of a URI.
abbrev pub registration_to : Option Peer → Components → List ℕ → Result Ask AskBad
registration_to None c links = Err bad.Host
registration_to (Some to) c links =
    registration_at
    to
    (decoded_parts (segments_of c.path))
    (decoded_parts (query_parts c.query))
    links

-- Returns that ask for a URI, or the first reason why there is none.
abbrev pub registration_by : Option Components → List ℕ → Result Ask AskBad
registration_by None links = Err bad.Uri
registration_by (Some c) links =
    if not (is_some c.scheme) || is_some c.fragment then Err bad.Uri
    else if not (where_present is_coap c.scheme) then Err bad.Scheme
    else registration_to (peer_in c.authority) c links

-- Returns the ask of a registration of links at a URI, or the first reason why there is none (RFC
-- 9176 section 5, RFC 7252 section 6.4).
unfoldable pub registration : List ℕ → List ℕ → Result Ask AskBad
registration uri links = registration_by (reference uri) links

-- Returns the ask with a code and without payload for a location (RFC 9176 section 5.3).
unfoldable pub located_ask : ℕ → Location → Result Ask AskBad
located_ask code location =
    if are_segments location.path
    then if_short
    (record {
      to = location.to;
      code = code;
      options = options_with table.uri_path location.path;
      payload = [];
    })
    else Err bad.Part

-- Returns the ask that refreshes a registration (RFC 9176 section 5.3.1).
abbrev pub refresh : Location → Result Ask AskBad
refresh location = located_ask codes_of.post location

-- Returns the ask that removes it (RFC 9176 section 5.3.2).
abbrev pub removal : Location → Result Ask AskBad
removal location = located_ask codes_of.delete location

-- States that a result is this one, unless memory ran out.
abbrev pub IsUnlessStarved : Result Ask AskBad → Result Ask AskBad → Type 0
IsUnlessStarved (Err bad.Starved) expected = ⊤
IsUnlessStarved (Err bad.Uri) expected = expected ≡ Err bad.Uri
IsUnlessStarved (Err bad.Scheme) expected = expected ≡ Err bad.Scheme
IsUnlessStarved (Err bad.Host) expected = expected ≡ Err bad.Host
IsUnlessStarved (Err bad.Part) expected = expected ≡ Err bad.Part
IsUnlessStarved (Err bad.Size) expected = expected ≡ Err bad.Size
IsUnlessStarved (Ok ask) expected = expected ≡ Ok ask
