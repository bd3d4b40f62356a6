-- The options of the directory, and which options of a message are recognized (RFC 7252 sections
-- 5.4 and 5.10).
use Rattle.std.specs.Prelude.{
  ℕ,
  ◌%◌,
  Bool,
  true,
  false,
  not,
  ◌&&◌,
  ◌||◌,
  List,
  [],
  ◌∷◌,
  length,
  map,
  filter,
  find,
  Option,
  Some,
  None,
  option_map,
  ◌==◌,
  nat_le,
  if◌then◌else◌,
}
use Rattle.std.specs.List.{list_any}
use Rattle.message_model.specs.declared.options.TheConstants as number_of
use Rattle.message_model.specs.Message.{Opt}

-- The numbers of the options (RFC 7252 section 12.2, RFC 7641 section 2, RFC 7959 section 6, RFC
-- 9175 section 2.2.1). They are those of src/options.rt.
abbrev pub uri_host : ℕ
uri_host = number_of.URI_HOST

abbrev pub etag : ℕ
etag = number_of.ETAG

abbrev pub observe : ℕ
observe = number_of.OBSERVE

abbrev pub uri_port : ℕ
uri_port = number_of.URI_PORT

abbrev pub location_path : ℕ
location_path = number_of.LOCATION_PATH

abbrev pub uri_path : ℕ
uri_path = number_of.URI_PATH

abbrev pub content_format : ℕ
content_format = number_of.CONTENT_FORMAT

abbrev pub uri_query : ℕ
uri_query = number_of.URI_QUERY

abbrev pub accept : ℕ
accept = number_of.ACCEPT

abbrev pub block2 : ℕ
block2 = number_of.BLOCK2

abbrev pub block1 : ℕ
block1 = number_of.BLOCK1

abbrev pub size2 : ℕ
size2 = number_of.SIZE2

abbrev pub proxy_uri : ℕ
proxy_uri = number_of.PROXY_URI

abbrev pub proxy_scheme : ℕ
proxy_scheme = number_of.PROXY_SCHEME

abbrev pub size1 : ℕ
size1 = number_of.SIZE1

abbrev pub echo : ℕ
echo = number_of.ECHO

-- What the table says of an option: the least and greatest length of its value in octets, and
-- whether it may be repeated (RFC 7252 section 5.10).
pub record Definition : Type 0 where
  pub least : ℕ
  pub most : ℕ
  pub repeatable : Bool

-- Returns the entry of an option that appears at most once.
abbrev pub at_most_once : ℕ → ℕ → Option Definition
at_most_once least most = Some (record { least = least; most = most; repeatable = false })

-- Returns the entry of an option that may appear more than once.
abbrev pub any_number : ℕ → ℕ → Option Definition
any_number least most = Some (record { least = least; most = most; repeatable = true })

-- Returns the entry of an option in the table, by its number (RFC 7252 section 5.10, RFC 7641
-- section 2, RFC 7959 sections 2.1 and 4, RFC 9175 section 2.2.1).
unfoldable pub definition_of : ℕ → Option Definition
definition_of number =
    if number == uri_host then at_most_once 1 255
    else if number == etag then any_number 1 8
    else if number == observe then at_most_once 0 3
    else if number == uri_port then at_most_once 0 2
    else if number == location_path then any_number 0 255
    else if number == uri_path then any_number 0 255
    else if number == content_format then at_most_once 0 2
    else if number == uri_query then any_number 0 255
    else if number == accept then at_most_once 0 2
    else if number == block2 then at_most_once 0 3
    else if number == block1 then at_most_once 0 3
    else if number == size2 then at_most_once 0 4
    else if number == proxy_uri then at_most_once 1 1034
    else if number == proxy_scheme then at_most_once 1 255
    else if number == size1 then at_most_once 0 4
    else if number == echo then at_most_once 1 40
    else None

-- Returns whether an option of this number is among these.
abbrev pub stands_in : ℕ → List Opt → Bool
stands_in number options = list_any (λ option. option.0 == number) options

-- Returns whether the table has the option and allows this length. A further option of a number is
-- allowed only if the option may be repeated (RFC 7252 sections 5.4.3 and 5.4.5).
abbrev pub is_allowed_by : Option Definition → Bool → ℕ → Bool
is_allowed_by None is_further size = false
is_allowed_by (Some d) is_further size =
    nat_le d.least size && nat_le size d.most && (d.repeatable || not is_further)

-- Returns whether an option is recognized after those before it (RFC 7252 section 5.4). The table
-- has its number and allows its length. If it may not be repeated, no option before it has its
-- number, whether or not that one was recognized.
abbrev pub is_recognized : List Opt → ℕ → ℕ → Bool
is_recognized before number size =
    is_allowed_by (definition_of number) (stands_in number before) size

-- Returns whether an option is critical: its number is odd (RFC 7252 section 5.4.6).
abbrev pub is_critical : ℕ → Bool
is_critical number = number % 2 == 1

-- An option with the options before it: first these, then the option itself.
abbrev pub Preceded : Type 0
Preceded = List Opt × Opt

-- Returns each option with the options before it.
unfoldable pub preceded_options : List Opt → List Preceded
preceded_options [] = []
preceded_options (option ∷ options) =
    ([], option) ∷ map (λ p. (option ∷ p.0, p.1)) (preceded_options options)

-- Returns whether an option is recognized after those before it.
abbrev pub is_recognized_there : Preceded → Bool
is_recognized_there p = is_recognized p.0 p.1.0 (length p.1.1)

-- Returns the recognized options, in order (RFC 7252 section 5.4.1).
unfoldable pub recognized_options : List Opt → List Opt
recognized_options options = map (λ p. p.1) (filter is_recognized_there (preceded_options options))

-- Returns the number of the first critical option that is not recognized (RFC 7252 section 5.4.1).
unfoldable pub first_bad_option : List Opt → Option ℕ
first_bad_option options =
    option_map (λ p. p.1.0)
    (find (λ p. is_critical p.1.0 && not (is_recognized_there p)) (preceded_options options))

-- Returns the values of the recognized options with this number, in order.
unfoldable pub values : ℕ → List Opt → List (List ℕ)
values number options =
    map (λ option. option.1) (filter (λ option. option.0 == number) (recognized_options options))

-- Returns the first of some values.
abbrev pub first_of : List (List ℕ) → Option (List ℕ)
first_of [] = None
first_of (value ∷ others) = Some value
