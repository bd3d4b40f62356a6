-- The parts of a request, each found by filtering its options (RFC 7252 section 5.10).
use Rattle.std.specs.Prelude.{
  ℕ,
  ◌+◌,
  ◌-◌,
  ◌*◌,
  Bool,
  false,
  not,
  ◌&&◌,
  ◌||◌,
  List,
  [],
  ◌∷◌,
  length,
  fold,
  Option,
  option_map,
  codes,
  bytes_eq,
  ◌==◌,
  nat_le,
  if◌then◌else◌,
}
use Rattle.std.specs.List.{list_all}
use Rattle.std.specs.Char.{is_ascii_digit}
use Rattle.message_model.specs.declared.requests.TheConstants.{MAX_LOCATION_DIGITS}
use Rattle.message_model.specs.declared.requests.Path.{Path}
use Rattle.message_model.specs.declared.requests.Path.TheVariants as path
use Rattle.message_model.specs.Numbers.{uint_of}
use Rattle.message_model.specs.Message.{Message}
use Rattle.message_model.specs.Codes.{get, post, put, delete}
use Rattle.message_model.specs.OptionTable as table
use Rattle.message_model.specs.OptionTable.{values, first_of, stands_in, recognized_options}

-- The digit 0 in ASCII.
abbrev pub digit_zero : ℕ
digit_zero = 48

-- Returns whether a text of at least two octets begins with the digit 0.
abbrev pub has_leading_zero : List ℕ → Bool
has_leading_zero [] = false
has_leading_zero (b ∷ []) = false
has_leading_zero (b ∷ others) = b == digit_zero

-- The most digits of a registration's number.
abbrev pub most_digits : ℕ
most_digits = MAX_LOCATION_DIGITS

-- Returns whether a text is a decimal number of 1 to 15 digits without a leading zero.
abbrev pub is_location : List ℕ → Bool
is_location text =
    nat_le 1 (length text)
    && nat_le (length text) most_digits
    && list_all is_ascii_digit text
    && not (has_leading_zero text)

-- Returns the number that decimal digits spell.
abbrev pub decimal_value : List ℕ → ℕ
decimal_value digits = fold (λ n digit. n * 10 + (digit - digit_zero)) 0 digits

-- Returns the registration that the segment after `rd` names (RFC 9176 section 5.3).
unfoldable pub location_of : List ℕ → Path
location_of text = if is_location text then path.Location (decimal_value text) else path.Other

-- Returns the resource that the segment after `.well-known` names (RFC 9176 sections 4.3 and 5.1).
abbrev pub well_known_of : List ℕ → Path
well_known_of segment =
    if bytes_eq segment (codes "core") then path.Core
    else if bytes_eq segment (codes "rd") then path.SimpleRd
    else path.Other

-- Returns the resource that the segment after `rd-lookup` names (RFC 9176 section 6).
abbrev pub lookup_of : List ℕ → Path
lookup_of segment =
    if bytes_eq segment (codes "res") then path.Res
    else if bytes_eq segment (codes "ep") then path.Ep
    else path.Other

-- Returns the resource that two segments name.
abbrev pub path_of_two : List ℕ → List ℕ → Path
path_of_two first second =
    if bytes_eq first (codes ".well-known") then well_known_of second
    else if bytes_eq first (codes "rd") then location_of second
    else if bytes_eq first (codes "rd-lookup") then lookup_of second
    else path.Other

-- Returns the resource that the segments of a path name (RFC 9176 sections 4.3, 5 and 6).
unfoldable pub path_of : List (List ℕ) → Path
path_of [] = path.Other
path_of (first ∷ []) = if bytes_eq first (codes "rd") then path.Rd else path.Other
path_of (first ∷ second ∷ []) = path_of_two first second
path_of (first ∷ second ∷ third ∷ others) = path.Other

-- Returns the path of a request (RFC 7252 section 5.10.1).
abbrev pub path_in : Message → Path
path_in m = path_of (values table.uri_path m.options)

-- Returns the query options of a request, in order (RFC 7252 section 5.10.1).
abbrev pub queries_in : Message → List (List ℕ)
queries_in m = values table.uri_query m.options

-- Returns the number that is the value of an option, which appears at most once.
abbrev pub uint_in : ℕ → Message → Option ℕ
uint_in number m = option_map uint_of (first_of (values number m.options))

-- Returns the value of the Observe option as a number (RFC 7641 section 2).
abbrev pub observe_in : Message → Option ℕ
observe_in m = uint_in table.observe m

-- Returns the accepted format (RFC 7252 section 5.10.4).
abbrev pub accept_in : Message → Option ℕ
accept_in m = uint_in table.accept m

-- Returns the format of the payload (RFC 7252 section 5.10.3).
abbrev pub format_in : Message → Option ℕ
format_in m = uint_in table.content_format m

-- Returns the value of Block1, of the payload of a request (RFC 7959 section 2.1).
abbrev pub block1_in : Message → Option (List ℕ)
block1_in m = first_of (values table.block1 m.options)

-- Returns the value of Block2, of the payload of a response (RFC 7959 section 2.1).
abbrev pub block2_in : Message → Option (List ℕ)
block2_in m = first_of (values table.block2 m.options)

-- Returns the value of Echo (RFC 9175 section 2.2.1).
abbrev pub echo_in : Message → Option (List ℕ)
echo_in m = first_of (values table.echo m.options)

-- Returns the entity tags, in order (RFC 7252 section 5.10.6).
abbrev pub etags_in : Message → List (List ℕ)
etags_in m = values table.etag m.options

-- Returns the segments of the location that a response names, in order (RFC 7252 section 5.10.7).
abbrev pub locations_in : Message → List (List ℕ)
locations_in m = values table.location_path m.options

-- Returns whether a request asks for a proxy (RFC 7252 section 5.10.2).
abbrev pub has_proxy : Message → Bool
has_proxy m =
    stands_in table.proxy_uri (recognized_options m.options)
    || stands_in table.proxy_scheme (recognized_options m.options)

-- Returns whether a resource has a method (RFC 9176 sections 4.3, 5, 5.1, 5.3 and 6). GET of a
-- registration reads its links, and PUT replaces them: further operations (RFC 9176 section 5.3.3)
-- of this project's profile.
abbrev pub allowed : Path → ℕ → Bool
allowed path.Core code = code == get
allowed path.SimpleRd code = code == post
allowed path.Rd code = code == post
allowed (path.Location n) code = code == get || code == post || code == put || code == delete
allowed path.Res code = code == get
allowed path.Ep code = code == get
allowed path.Other code = false
