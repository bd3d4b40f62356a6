-- The classes of characters of the components, and what a percent sign requires of the octets after
-- it (RFC 3986 section 2.1).
use Rattle.std.specs.Prelude.{ℕ, Bool, ◌||◌, ◌==◌, ◌-◌, Option, Some, None, if◌then◌else◌}
use Rattle.std.specs.Char.{is_ascii_hexdigit}
use Rattle.link_model.specs.Characters.{
  percent_sign,
  is_name_character,
  is_userinfo_character,
  is_path_character,
  is_query_character,
}
use Rattle.reference_model.specs.References.{digits_after}
use Rattle.ref_resolve.specs.declared.reach.Class.{Class}
use Rattle.ref_resolve.specs.declared.reach.Class.TheVariants as class

-- Returns whether the octet is a character of the class.
abbrev pub stands_in : Class → ℕ → Bool
stands_in class.Name = is_name_character
stands_in class.User = is_userinfo_character
stands_in class.Path = is_path_character
stands_in class.Query = is_query_character

-- Returns how many hexadecimal digits must follow the octet, if it is allowed after a percent sign
-- that still needs `digits`.
abbrev pub next_digits : (ℕ → Bool) → ℕ → ℕ → Option ℕ
next_digits test digits c =
    if digits == 0 then (if c == percent_sign || test c then Some (digits_after c) else None)
    else (if is_ascii_hexdigit c then Some (digits - 1) else None)
