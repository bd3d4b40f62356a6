-- Octets that have a meaning in link documents and references, and the classes of characters.
use Rattle.std.specs.Prelude.{ℕ, Bool, true, false, not, ◌&&◌, ◌||◌, ◌==◌, List, [], ◌∷◌, codes}
use Rattle.std.specs.List.{list_any, list_all}
pub use Rattle.rd_base.specs.LinkLines.{quote_mark, comma, backslash}
use Rattle.std.specs.Char.{is_ascii, is_ascii_control, is_ascii_alphanumeric, is_ascii_hexdigit}

abbrev pub number_sign : ℕ
number_sign = 35

abbrev pub percent_sign : ℕ
percent_sign = 37

abbrev pub asterisk : ℕ
asterisk = 42

abbrev pub full_stop : ℕ
full_stop = 46

abbrev pub slash : ℕ
slash = 47

abbrev pub colon : ℕ
colon = 58

abbrev pub semicolon : ℕ
semicolon = 59

abbrev pub less_than_sign : ℕ
less_than_sign = 60

abbrev pub equals_sign : ℕ
equals_sign = 61

abbrev pub greater_than_sign : ℕ
greater_than_sign = 62

abbrev pub question_mark : ℕ
question_mark = 63

abbrev pub at_sign : ℕ
at_sign = 64

abbrev pub left_bracket : ℕ
left_bracket = 91

abbrev pub right_bracket : ℕ
right_bracket = 93

-- Returns whether an octet is one of these.
abbrev pub is_one_of : List ℕ → ℕ → Bool
is_one_of octets c = list_any (λ d. c == d) octets

-- Returns whether a text has no octets.
abbrev pub is_empty : List ℕ → Bool
is_empty [] = true
is_empty (c ∷ cs) = false

-- Returns whether a text is one or more octets, each of which passes the test.
abbrev pub is_run_of : (ℕ → Bool) → List ℕ → Bool
is_run_of test text = not (is_empty text) && list_all test text

-- Returns whether an octet is none of the control characters 0x00 to 0x1F and 0x7F.
abbrev pub is_not_control : ℕ → Bool
is_not_control c = not (is_ascii_control c)

-- Returns whether an octet is a character of an attribute's name: a letter, a digit or some others
-- (RFC 8187 section 3.2.1, attr-char).
abbrev pub is_attribute_name_character : ℕ → Bool
is_attribute_name_character c = is_ascii_alphanumeric c || is_one_of (codes "!#$&+-.^_`|~") c

-- Returns whether an octet is a character of a value without quotes (RFC 6690 section 2,
-- ptokenchar).
abbrev pub is_token_character : ℕ → Bool
is_token_character c = is_ascii_alphanumeric c || is_one_of (codes "!#$%&'()*+-./:<=>?@[]^_`{|}~") c

-- Returns whether an octet is a character between `<` and `>`.
abbrev pub is_target_character : ℕ → Bool
is_target_character c = is_ascii c && is_not_control c && not (c == greater_than_sign)

-- Returns whether an octet is an unreserved character (RFC 3986 section 2.3).
abbrev pub is_unreserved : ℕ → Bool
is_unreserved c = is_ascii_alphanumeric c || is_one_of (codes "-._~") c

-- Returns whether an octet is a delimiter within components (RFC 3986 section 2.2, sub-delims).
abbrev pub is_sub_delimiter : ℕ → Bool
is_sub_delimiter c = is_one_of (codes "!$&'()*+,;=") c

-- Returns whether an octet is a character of a scheme after its first letter (RFC 3986 section
-- 3.1).
abbrev pub is_scheme_character : ℕ → Bool
is_scheme_character c = is_ascii_alphanumeric c || is_one_of (codes "+-.") c

-- Returns whether an octet is a character of a registered name, apart from percent escapes (RFC
-- 3986 section 3.2.2).
abbrev pub is_name_character : ℕ → Bool
is_name_character c = is_unreserved c || is_sub_delimiter c

-- Returns whether an octet is a character of user information, apart from percent escapes (RFC 3986
-- section 3.2.1).
abbrev pub is_userinfo_character : ℕ → Bool
is_userinfo_character c = is_name_character c || c == colon

-- Returns whether an octet is a character between the brackets of an IP literal.
abbrev pub is_literal_character : ℕ → Bool
is_literal_character c = is_ascii_hexdigit c || c == colon || c == full_stop

-- Returns whether an octet is a character of a path, apart from percent escapes: one of a segment,
-- or a slash (RFC 3986 section 3.3).
abbrev pub is_path_character : ℕ → Bool
is_path_character c = is_name_character c || c == colon || c == at_sign || c == slash

-- Returns whether an octet is a character of a query or a fragment, apart from percent escapes (RFC
-- 3986 sections 3.4 and 3.5).
abbrev pub is_query_character : ℕ → Bool
is_query_character c = is_path_character c || c == question_mark
