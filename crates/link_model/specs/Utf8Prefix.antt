-- How far octets begin some text in UTF-8 (RFC 3629 section 4).
use Rattle.std.specs.Prelude.{ℕ, suc, ◌==◌, List, [], ◌∷◌, Option, Some, None, if◌then◌else◌}
use Rattle.std.specs.Int.{is_in_range}

-- The least and the greatest octet that are allowed at a position.
abbrev pub OctetRange : Type 0
OctetRange = ℕ × ℕ

-- The octets that continue a character.
abbrev pub tail : OctetRange
tail = (0x80, 0xBF)

-- Returns the octets that must follow the first one of a character, or `None` if no character
-- begins with it.
unfoldable pub tails_of : ℕ → Option (List OctetRange)
tails_of b =
    if is_in_range 0x00 0x7F b then Some []
    else (if is_in_range 0xC2 0xDF b then Some (tail ∷ [])
    else (if b == 0xE0 then Some ((0xA0, 0xBF) ∷ tail ∷ [])
    else (if b == 0xED then Some ((0x80, 0x9F) ∷ tail ∷ [])
    else (if is_in_range 0xE1 0xEF b then Some (tail ∷ tail ∷ [])
    else (if b == 0xF0 then Some ((0x90, 0xBF) ∷ tail ∷ tail ∷ [])
    else (if is_in_range 0xF1 0xF3 b then Some (tail ∷ tail ∷ tail ∷ [])
    else (if b == 0xF4 then Some ((0x80, 0x8F) ∷ tail ∷ tail ∷ [])
    else None)))))))

-- Returns one more than what the function gives, or 0 if there is nothing.
abbrev pub one_more : {A : Type 0} → Option A → (A → ℕ) → ℕ
one_more None f = 0
one_more (Some x) f = suc (f x)

-- Returns the length of the longest prefix that begins some text, if octets of these ranges must
-- come first.
unfoldable pub utf8_prefix_after : List OctetRange → List ℕ → ℕ
utf8_prefix_after ranges [] = 0
utf8_prefix_after [] (b ∷ bs) = one_more (tails_of b) (λ ranges. utf8_prefix_after ranges bs)
utf8_prefix_after (r ∷ ranges) (b ∷ bs) =
    if is_in_range (r.0) (r.1) b then suc (utf8_prefix_after ranges bs) else 0

-- Returns the length of the longest prefix that begins some text in UTF-8.
abbrev pub utf8_prefix : List ℕ → ℕ
utf8_prefix bytes = utf8_prefix_after [] bytes
