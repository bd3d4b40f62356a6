-- A list of devices as an installer writes it: the request of each line, and the first line that is
-- bad.
use Rattle.std.specs.Prelude.{
  ◌≡◌,
  ℕ,
  ◌+◌,
  ◌*◌,
  ◌-◌,
  ◌/◌,
  ◌==◌,
  ◌&&◌,
  ◌||◌,
  Bool,
  true,
  false,
  not,
  nat_lt,
  List,
  [],
  ◌∷◌,
  ◌++◌,
  length,
  map,
  flat_map,
  codes,
  take,
  drop,
  position,
  slice_index,
  Option,
  Some,
  None,
  is_some,
  unwrap_or,
  Result,
  Ok,
  Err,
  ⊤,
  bytes_eq,
  if◌then◌else◌,
}
use Rattle.std.specs.List.{list_any, list_all, filter, prefix_len, suffix_len}
use Rattle.std.specs.Str.{is_utf8}
use Rattle.std.specs.Char.{is_ascii_whitespace}
use Rattle.hex.specs.Hex.{decode_of}
use Rattle.rd_base.specs.declared.peers.Host.{Host}
use Rattle.rd_base.specs.declared.peers.Host.TheVariants as host
use Rattle.message_model.specs.Message.{Opt}
use Rattle.message_model.specs.OptionTable as table
use Rattle.line_model.specs.Lines.{fields}
use Rattle.line_model.specs.Numbers.{number_of}
use Rattle.line_model.specs.Texts.{lines_of}
use Rattle.client_model.specs.declared.asks.Ask.{Ask}
use Rattle.client_model.specs.declared.asks.AskBad.{AskBad}
use Rattle.client_model.specs.declared.asks.AskBad.TheVariants as none
use Rattle.client_model.specs.declared.outcomes.Location.{Location}
use Rattle.client_model.specs.Requests.{CanBeSent}
use Rattle.client_model.specs.Asks.{registration, refresh, removal}
use Rattle.install_list.specs.declared.entries.Entry.{Entry}
use Rattle.install_list.specs.declared.entries.Then.{Then}
use Rattle.install_list.specs.declared.entries.Then.TheVariants as next
use Rattle.install_list.specs.declared.lines.TheConstants.{
  MAX_LINES,
  LIFETIME,
  LONGEST_LIFETIME,
}
use Rattle.install_list.specs.declared.lines.LineBad.{LineBad}
use Rattle.install_list.specs.declared.lines.LineBad.TheVariants as bad
use Rattle.install_list.specs.declared.lines.LineFault.{LineFault}
use Rattle.install_list.specs.declared.lines.LineFault.TheVariants as unread
use Rattle.install_list.specs.declared.listing.ListFault.{ListFault}
use Rattle.install_list.specs.declared.listing.ListFault.TheVariants as stop
use Rattle.install_list.specs.declared.words.Order.{Order}
use Rattle.install_list.specs.declared.words.Verb.{Verb}
use Rattle.install_list.specs.declared.words.Verb.TheVariants as verb

-- ---- texts

-- Returns a text without the whitespace before it.
abbrev pub without_front : List ℕ → List ℕ
without_front text = drop (prefix_len is_ascii_whitespace text) text

-- Returns a text without the whitespace after it.
abbrev pub without_end : List ℕ → List ℕ
without_end text = take (length text - suffix_len is_ascii_whitespace text) text

-- Returns a text without the spaces, tabs and carriage returns around it.
abbrev pub trimmed : List ℕ → List ℕ
trimmed text = without_end (without_front text)

-- Returns whether a trimmed line is ignored: it is empty, or begins with `#`.
unfoldable pub is_passed : List ℕ → Bool
is_passed line = length line == 0 || bytes_eq (take 1 line) (codes "#")

-- Returns octets that were decoded, if they could be.
abbrev pub decoded : {E : Type 0} → Result (List ℕ) E → Option (List ℕ)
decoded (Ok octets) = Some octets
decoded (Err fault) = None

-- Returns the links of a device, if they can be read: none for `-`, octets in hexadecimal digits
-- after `0x`, and any other text as it is.
unfoldable pub links_of : List ℕ → Option (List ℕ)
links_of text =
    if bytes_eq text (codes "-") then Some []
    else if bytes_eq (take 2 text) (codes "0x") then decoded (decode_of (drop 2 text))
    else Some text

-- Returns an octet of a query, percent-encoded if it is a bracket (RFC 3986 section 3.4).
unfoldable pub quoted_octet : ℕ → List ℕ
quoted_octet c =
    if c == 91 then codes "%5B"
    else if c == 93 then codes "%5D"
    else c ∷ []

-- Returns a URI with the brackets from an index on percent-encoded, if there is an index.
abbrev pub quoted_from : Option ℕ → List ℕ → List ℕ
quoted_from None uri = uri
quoted_from (Some at) uri = take at uri ++ flat_map quoted_octet (drop at uri)

-- Returns a URI with the brackets of its query percent-encoded.
abbrev pub quoted : List ℕ → List ℕ
quoted uri = quoted_from (position (λ c. c == 63) uri) uri

-- Returns the parts of a line before and after the index of a space, or `-` for the second if there
-- is none.
abbrev pub parts_by : Option ℕ → List ℕ → List ℕ × List ℕ
parts_by None line = (line, codes "-")
parts_by (Some at) line = (take at line, drop (at + 1) line)

-- Returns the URI of a line and the text after the next space, or `-` if there is no space.
abbrev pub parts_of : List ℕ → List ℕ × List ℕ
parts_of line = parts_by (position (λ c. c == 32) line) line

-- Returns the last of texts.
abbrev pub last_of : List (List ℕ) → List ℕ
last_of [] = []
last_of (text ∷ []) = text
last_of (text ∷ other ∷ texts) = last_of (other ∷ texts)

-- Returns the text of a line after its last space.
abbrev pub last_word : List ℕ → List ℕ
last_word line = last_of (fields line)

-- Returns whether a line names a device, by a URI with a query, and not a location.
abbrev pub is_named : List ℕ → Bool
is_named line = is_some (position (λ c. c == 63) (parts_of line).0)

-- ---- directories

-- Returns whether an address is link-local (RFC 4291 section 2.5.6, RFC 3927 section 2.1).
abbrev pub is_link_local : Host → Bool
is_link_local (host.V4 octets) = slice_index octets 0 == 169 && slice_index octets 1 == 254
is_link_local (host.V6 groups) = slice_index groups 0 / 64 == 1018

-- Returns whether a socket at an address can send to another address: both are of one family, or
-- the socket is at all addresses.
abbrev pub is_reached : Option Host → Host → Bool
is_reached None to = true
is_reached (Some (host.V4 a)) (host.V4 b) = true
is_reached (Some (host.V4 a)) (host.V6 b) = false
is_reached (Some (host.V6 a)) (host.V4 b) = false
is_reached (Some (host.V6 a)) (host.V6 b) = true

-- Returns a request, if a socket at this address can send to its directory, or why it cannot.
unfoldable pub reached : Option Host → Ask → Result Ask LineBad
reached from ask =
    if is_link_local ask.to.host then Err bad.Zone
    else if not (is_reached from ask.to.host) then Err bad.Family
    else Ok ask

-- ---- requests

-- Returns a request that was built, or that the line is bad if none was.
abbrev pub made : Result Ask AskBad → Result Ask LineBad
made (Ok ask) = Ok ask
made (Err fault) = Err bad.Ask

-- Returns the same of a request, if there is one.
abbrev pub reached_by : Option Host → Result Ask LineBad → Result Ask LineBad
reached_by from (Ok ask) = reached from ask
reached_by from (Err why) = Err why

-- Returns the request that registers links at the directory of a URI without brackets in its query.
unfoldable pub asked_at : Option Host → List ℕ → List ℕ → Result Ask LineBad
asked_at from uri links =
    if is_utf8 uri then reached_by from (made (registration uri links)) else Err bad.Ask

-- Returns the same of a URI as an installer writes it.
abbrev pub registered : Option Host → List ℕ → List ℕ → Result Ask LineBad
registered from uri links = asked_at from (quoted uri) links

-- Returns the request of a URI and of links, if they could be read.
abbrev pub named_by : Option Host → List ℕ → Option (List ℕ) → Result Ask LineBad
named_by from uri None = Err bad.Form
named_by from uri (Some links) = registered from uri links

-- Returns the request of a line `URI LINKS`.
abbrev pub named : Option Host → List ℕ → Result Ask LineBad
named from line = named_by from (parts_of line).0 (links_of (trimmed (parts_of line).1))

-- Returns whether an option gives the base of a registration: it is a part of a query that begins
-- with `base=` (RFC 9176 section 5).
abbrev pub is_base : Opt → Bool
is_base option = option.0 == table.uri_query && bytes_eq (take 5 option.1) (codes "base=")

-- Returns whether a request gives the base of its registration.
abbrev pub has_base : Ask → Bool
has_base ask = list_any is_base ask.options

-- Returns a request, if it gives the base of its registration, or why the line is bad.
abbrev pub if_based : Result Ask LineBad → Result Ask LineBad
if_based (Err why) = Err why
if_based (Ok ask) = if has_base ask then Ok ask else Err bad.Base

-- Returns the request of a line of `register`.
abbrev pub registering : Option Host → List ℕ → Result Ask LineBad
registering from line = if_based (named from line)

-- Returns whether an option is a segment of a path.
abbrev pub is_segment : Opt → Bool
is_segment option = option.0 == table.uri_path

-- Returns the segments of the path among options.
abbrev pub path_of : List Opt → List (List ℕ)
path_of options = map (λ option. option.1) (filter is_segment options)

-- Returns whether an option is a part of a query.
abbrev pub is_query : Opt → Bool
is_query option = option.0 == table.uri_query

-- Returns whether a request has a query.
abbrev pub has_query : Ask → Bool
has_query ask = list_any is_query ask.options

-- Returns whether all texts are UTF-8.
abbrev pub are_texts : List (List ℕ) → Bool
are_texts texts = list_all is_utf8 texts

-- Returns the location that the path of a request names: each segment is UTF-8, there is at least
-- one, and the request has no query.
unfoldable pub located : Ask → Result Location LineBad
located ask =
    if not (are_texts (path_of ask.options)) then Err bad.Ask
    else if length (path_of ask.options) == 0 then Err bad.Ask
    else if has_query ask then Err bad.Ask
    else Ok (record { to = ask.to; path = path_of ask.options })

-- Returns the location that the path of a request names, if there is a request.
abbrev pub located_by : Result Ask LineBad → Result Location LineBad
located_by (Err why) = Err why
located_by (Ok ask) = located ask

-- Returns the location at the end of a line.
abbrev pub location_of : Option Host → List ℕ → Result Location LineBad
location_of from line = located_by (registered from (last_word line) [])

-- Returns the request that `of` builds of a location.
abbrev pub ask_at : (Location → Result Ask AskBad) → Result Location LineBad → Result Ask LineBad
ask_at of (Err why) = Err why
ask_at of (Ok location) = made (of location)

-- Returns the request of a line of `refresh`.
abbrev pub refreshing : Option Host → List ℕ → Result Ask LineBad
refreshing from line = ask_at refresh (location_of from line)

-- Returns the request of a line of `remove` that ends with a location.
abbrev pub removing : Option Host → List ℕ → Result Ask LineBad
removing from line = ask_at removal (location_of from line)

-- ---- what happens after a request

-- Returns the lifetime that an option gives, in seconds (RFC 9176 section 5).
unfoldable pub lifetime_in : Opt → Option ℕ
lifetime_in option =
    if option.0 == table.uri_query && bytes_eq (take 3 option.1) (codes "lt=")
    then number_of LONGEST_LIFETIME (drop 3 option.1)
    else None

-- Returns the last lifetime that options give, or else `lifetime`.
abbrev pub lifetime_from : ℕ → List Opt → ℕ
lifetime_from lifetime [] = lifetime
lifetime_from lifetime (option ∷ options) =
    lifetime_from (unwrap_or (lifetime_in option) lifetime) options

-- Returns half of a lifetime in milliseconds, at least a second.
abbrev pub half_by : ℕ → ℕ
half_by lifetime = if nat_lt lifetime 2 then 1000 else lifetime * 500

-- Returns half of the lifetime of a registration in milliseconds, at least a second.
abbrev pub half_of : Ask → ℕ
half_of ask = half_by (lifetime_from LIFETIME ask.options)

-- Returns a request with what happens after it, if there is a request.
abbrev pub with : Then → Result Ask LineBad → Result (Ask × Then) LineBad
with behind (Err why) = Err why
with behind (Ok ask) = Ok (ask, behind)

-- Returns a request with the interval of its refreshes, if there is a request.
abbrev pub kept : Result Ask LineBad → Result (Ask × Then) LineBad
kept (Err why) = Err why
kept (Ok ask) = Ok (ask, next.Keeps (half_of ask))

-- Returns the request of a line of `register`, with what happens after it.
abbrev pub registering_entry : Option Host → List ℕ → Result (Ask × Then) LineBad
registering_entry from line = with next.Ends (registering from line)

-- Returns the request of a line of `refresh`, with what happens after it.
abbrev pub refreshing_entry : Option Host → List ℕ → Result (Ask × Then) LineBad
refreshing_entry from line = with next.Ends (refreshing from line)

-- Returns the request of a line of `remove` that ends with a location, with what happens after it.
abbrev pub removing_at : Option Host → List ℕ → Result (Ask × Then) LineBad
removing_at from line = with next.Ends (removing from line)

-- Returns the request of a line of `remove` that names a device, with what happens after it.
abbrev pub removing_named : Option Host → List ℕ → Result (Ask × Then) LineBad
removing_named from line = with next.Removes (named from line)

-- Returns the request of a line of `keep`, with what happens after it.
abbrev pub keeping_entry : Option Host → List ℕ → Result (Ask × Then) LineBad
keeping_entry from line = kept (registering from line)

-- Returns the request of a line of `remove`, with what happens after it. If the line names a
-- device, the request registers the device once more, since the answer gives the location.
abbrev pub removing_entry : Option Host → List ℕ → Result (Ask × Then) LineBad
removing_entry from line =
    if is_named line then removing_named from line else removing_at from line

-- Returns the request of a line that is not ignored, with what happens after it.
abbrev pub asked_by : Verb → Option Host → List ℕ → Result (Ask × Then) LineBad
asked_by verb.Register from line = registering_entry from line
asked_by verb.Refresh from line = refreshing_entry from line
asked_by verb.Remove from line = removing_entry from line
asked_by verb.Keep from line = keeping_entry from line

-- Returns the same for the arguments of the command line.
abbrev pub asked : Order → List ℕ → Result (Ask × Then) LineBad
asked order line = asked_by order.verb order.from line

-- ---- a line

-- Returns the entry of the line with this number, if there is a request.
abbrev pub entry_with : ℕ → Result (Ask × Then) LineBad → Result (Option Entry) LineBad
entry_with n (Err why) = Err why
entry_with n (Ok made) = Ok (Some (record { number = n; ask = made.0; then = made.1 }))

-- Returns the entry of the line with this number, from 1, if it has a request, or the first reason
-- why it is bad.
unfoldable pub judged : Order → ℕ → List ℕ → Result (Option Entry) LineBad
judged order n line =
    if nat_lt MAX_LINES n then Err bad.Many
    else if is_passed (trimmed line) then Ok None
    else entry_with n (asked order (trimmed line))

-- ---- the list

-- The first line that is bad, and why.
pub record FirstBad : Type 0 where
  pub line : ℕ
  pub why : LineBad

-- Returns the entry of a line in front of those of the lines after it. The first line that is bad
-- takes their place.
abbrev pub behind : ℕ
    → Result (Option Entry) LineBad
    → Result (List Entry) FirstBad
    → Result (List Entry) FirstBad
behind n (Err why) more = Err (record { line = n; why = why })
behind n (Ok None) more = more
behind n (Ok (Some entry)) (Err first) = Err first
behind n (Ok (Some entry)) (Ok entries) = Ok (entry ∷ entries)

-- Returns the entries of lines from a number on, or the first line that is bad.
abbrev pub entries_from : Order → ℕ → List (List ℕ) → Result (List Entry) FirstBad
entries_from order n [] = Ok []
entries_from order n (line ∷ lines) =
    behind n (judged order n line) (entries_from order (n + 1) lines)

-- Returns the entries of a text, or its first line that is bad.
abbrev pub listed : Order → List ℕ → Result (List Entry) FirstBad
listed order text = entries_from order 1 (lines_of text)

-- ---- the results of the code

-- Returns why a line is bad if no request can be built from its URI and its links.
abbrev pub fault_of : AskBad → LineFault
fault_of none.Starved = unread.Starved
fault_of none.Uri = unread.Bad bad.Ask
fault_of none.Scheme = unread.Bad bad.Ask
fault_of none.Host = unread.Bad bad.Ask
fault_of none.Part = unread.Bad bad.Ask
fault_of none.Size = unread.Bad bad.Ask

-- States that a line was read as expected, unless memory ran out.
abbrev pub IsJudged : {A : Type 0} → Result A LineFault → Result A LineBad → Type 0
IsJudged (Ok x) expected = expected ≡ Ok x
IsJudged (Err (unread.Bad why)) expected = expected ≡ Err why
IsJudged (Err unread.Starved) expected = ⊤

-- States that links were read, or that the line is bad because they cannot be, unless memory ran
-- out.
abbrev pub IsLinks : Result (List ℕ) LineFault → Option (List ℕ) → Type 0
IsLinks (Ok links) expected = expected ≡ Some links
IsLinks (Err (unread.Bad bad.Form)) expected = expected ≡ None
IsLinks (Err (unread.Bad bad.Many)) expected = ⊥
IsLinks (Err (unread.Bad bad.Ask)) expected = ⊥
IsLinks (Err (unread.Bad bad.Zone)) expected = ⊥
IsLinks (Err (unread.Bad bad.Family)) expected = ⊥
IsLinks (Err (unread.Bad bad.Base)) expected = ⊥
IsLinks (Err unread.Starved) expected = ⊤

-- States that a segment was copied, or that it is not UTF-8, unless memory ran out.
abbrev pub IsSegment : Result (List ℕ) LineFault → List ℕ → Type 0
IsSegment (Ok segment) octets = (segment ≡ octets) × (is_utf8 octets ≡ true)
IsSegment (Err (unread.Bad bad.Ask)) octets = is_utf8 octets ≡ false
IsSegment (Err (unread.Bad bad.Many)) octets = ⊥
IsSegment (Err (unread.Bad bad.Form)) octets = ⊥
IsSegment (Err (unread.Bad bad.Zone)) octets = ⊥
IsSegment (Err (unread.Bad bad.Family)) octets = ⊥
IsSegment (Err (unread.Bad bad.Base)) octets = ⊥
IsSegment (Err unread.Starved) octets = ⊤

-- States that texts were appended, or that one of them is not UTF-8, unless memory ran out.
abbrev pub IsPushed : {A : Type 0}
    → Result A LineFault
    → List (List ℕ)
    → List (List ℕ)
    → List (List ℕ)
    → Type 0
IsPushed (Ok x) texts before after = (after ≡ before ++ texts) × (are_texts texts ≡ true)
IsPushed (Err (unread.Bad bad.Ask)) texts before after = are_texts texts ≡ false
IsPushed (Err (unread.Bad bad.Many)) texts before after = ⊥
IsPushed (Err (unread.Bad bad.Form)) texts before after = ⊥
IsPushed (Err (unread.Bad bad.Zone)) texts before after = ⊥
IsPushed (Err (unread.Bad bad.Family)) texts before after = ⊥
IsPushed (Err (unread.Bad bad.Base)) texts before after = ⊥
IsPushed (Err unread.Starved) texts before after = ⊤

-- States that all segments among options were copied, or that one of them is not UTF-8, unless
-- memory ran out.
abbrev pub IsPath : Result (List (List ℕ)) LineFault → List Opt → Type 0
IsPath (Ok path) options = (path ≡ path_of options) × (are_texts (path_of options) ≡ true)
IsPath (Err (unread.Bad bad.Ask)) options = are_texts (path_of options) ≡ false
IsPath (Err (unread.Bad bad.Many)) options = ⊥
IsPath (Err (unread.Bad bad.Form)) options = ⊥
IsPath (Err (unread.Bad bad.Zone)) options = ⊥
IsPath (Err (unread.Bad bad.Family)) options = ⊥
IsPath (Err (unread.Bad bad.Base)) options = ⊥
IsPath (Err unread.Starved) options = ⊤

-- States that the request of an entry can be sent.
abbrev pub CanEntry : Entry → Type 0
CanEntry entry = CanBeSent entry.ask

-- States the same of an entry, if there is one.
abbrev pub IsSendable : Option Entry → Type 0
IsSendable None = ⊤
IsSendable (Some entry) = CanEntry entry

-- States that a list was read as expected, unless memory ran out.
abbrev pub IsListed : Result (List Entry) ListFault → Result (List Entry) FirstBad → Type 0
IsListed (Ok entries) expected = expected ≡ Ok entries
IsListed (Err (stop.Bad n why)) expected = expected ≡ Err (record { line = n; why = why })
IsListed (Err stop.Unread) expected = ⊥
IsListed (Err stop.Starved) expected = ⊤

-- States that a list was read from a source as expected, unless the source failed or memory ran
-- out.
abbrev pub IsRead : Result (List Entry) ListFault → Result (List Entry) FirstBad → Type 0
IsRead (Ok entries) expected = expected ≡ Ok entries
IsRead (Err (stop.Bad n why)) expected = expected ≡ Err (record { line = n; why = why })
IsRead (Err stop.Unread) expected = ⊤
IsRead (Err stop.Starved) expected = ⊤

-- States that a list could not be read, and not that one of its lines is bad.
abbrev pub IsUnread : ListFault → Type 0
IsUnread stop.Unread = ⊤
IsUnread stop.Starved = ⊤
IsUnread (stop.Bad n why) = ⊥

-- Returns the entry as a list, which is empty if there is none.
abbrev pub items_of : Option Entry → List Entry
items_of None = []
items_of (Some entry) = entry ∷ []
