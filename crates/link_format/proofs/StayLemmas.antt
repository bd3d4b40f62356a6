-- Octets that leave a walk over a document at the point where it is, with nothing due.
use Rattle.std.proofs.Common.{
  ◌≡◌,
  ℕ,
  Bool,
  true,
  false,
  ◌&&◌,
  List,
  [],
  ◌∷◌,
  length,
  Some,
  refl,
  sym,
  ◌∙◌,
  arith,
}
use Rattle.std.specs.Prelude.{◌==◌, not, if◌then◌else◌, IsTrue}
use Rattle.std.specs.Char.{is_ascii, is_ascii_alphanumeric}
use Rattle.std.specs.Int.{is_in_range}
use Rattle.std.proofs.lemmas.Bool.{and_parts, eqb-true}
use Rattle.std.proofs.lemmas.Bool.Decides.{nat_tests}
use Rattle.link_model.specs.Characters.{
  quote_mark,
  backslash,
  greater_than_sign,
  is_not_control,
  is_target_character,
}
use Rattle.link_model.specs.DocumentReading.{
  at_target,
  after_part,
  within_name,
  in_token,
  in_quotes,
  after_backslash,
  point_if,
  point_after,
}
use Rattle.link_model.specs.Utf8Prefix.{OctetRange, tails_of}
use Rattle.link_format.specs.Ranges.{tails_after}

true_of : (a b : Bool) → a ≡ b → IsTrue a → b ≡ true
true_of a b e h = sym e ∙ h

not_true : (b : Bool) → not b ≡ true → b ≡ false
not_true true e = cc
not_true false e = refl

-- ---- nothing is due

pub ascii_tails : (b : ℕ) → is_ascii b ≡ true → tails_of b ≡ Some []
unfolding tails_of
ascii_tails b h = let e : is_in_range 0x00 0x7F b ≡ true = grind (arith, nat_tests) in rw e refl

pub none_due : (tails : List OctetRange) (empty : Bool)
    → empty ≡ (length tails == 0)
    → empty ≡ true
    → tails ≡ []
none_due [] empty e f = refl
none_due (r ∷ ranges) empty e f =
    let g = eqb-true (length (r ∷ ranges)) 0 (sym e ∙ f) in absurd (omega arith)

pub no_tails : (tails : List OctetRange) (b : ℕ) (empty : Bool)
    → empty ≡ (length tails == 0)
    → empty ≡ true
    → is_ascii b ≡ true
    → tails_after tails b ≡ Some tails
no_tails [] b empty e f h = ascii_tails b h
no_tails (r ∷ ranges) b empty e f h =
    let g = eqb-true (length (r ∷ ranges)) 0 (sym e ∙ f) in absurd (omega arith)

-- ---- characters of targets

pub target_ascii : (b : ℕ) (t : Bool) → t ≡ is_target_character b → IsTrue t → is_ascii b ≡ true
target_ascii b t e h =
    let parts =
    and_parts (is_ascii b && is_not_control b) (not (b == greater_than_sign))
    (true_of t (is_target_character b) e h) in
    (and_parts (is_ascii b) (is_not_control b) parts.0).0

pub target_stays : (b : ℕ) (t : Bool)
    → t ≡ is_target_character b
    → IsTrue t
    → point_after at_target b ≡ Some at_target
unfolding point_after
target_stays b t e h =
    by_tests (b == greater_than_sign) (is_target_character b)
    (not_true (b == greater_than_sign)
    ((and_parts (is_ascii b && is_not_control b) (not (b == greater_than_sign))
    (true_of t (is_target_character b) e h)).1)) (true_of t (is_target_character b) e h)
  where
    by_tests : (u v : Bool)
        → u ≡ false
        → v ≡ true
        → (if u then Some after_part else point_if v at_target) ≡ Some at_target
    by_tests u v e f = rw (e, f) refl

-- ---- letters and digits of names and tokens

pub alphanumeric_ascii : (b : ℕ) (t : Bool)
    → t ≡ is_ascii_alphanumeric b
    → IsTrue t
    → is_ascii b ≡ true
alphanumeric_ascii b t e h =
    let k = true_of t (is_ascii_alphanumeric b) e h in grind (arith, nat_tests)

pub name_stays : (b : ℕ) (t : Bool)
    → t ≡ is_ascii_alphanumeric b
    → IsTrue t
    → point_after within_name b ≡ Some within_name
unfolding point_after
name_stays b t e h = let k = true_of t (is_ascii_alphanumeric b) e h in rw k refl

pub token_stays : (b : ℕ) (t : Bool)
    → t ≡ is_ascii_alphanumeric b
    → IsTrue t
    → point_after in_token b ≡ Some in_token
unfolding point_after
token_stays b t e h = let k = true_of t (is_ascii_alphanumeric b) e h in rw k refl

-- ---- characters of quoted strings

-- the octet is of ASCII and stands for itself
abbrev pub is_plain : ℕ → Bool
is_plain b = is_ascii b && is_not_control b && not (b == quote_mark) && not (b == backslash)

pub plain_ascii : (b : ℕ) (t : Bool) → t ≡ is_plain b → IsTrue t → is_ascii b ≡ true
plain_ascii b t e h =
    let last =
    and_parts (is_ascii b && is_not_control b && not (b == quote_mark)) (not (b == backslash))
    (true_of t (is_plain b) e h) in
    let more = and_parts (is_ascii b && is_not_control b) (not (b == quote_mark)) last.0 in
    (and_parts (is_ascii b) (is_not_control b) more.0).0

pub plain_stays : (b : ℕ) (t : Bool)
    → t ≡ is_plain b
    → IsTrue t
    → point_after in_quotes b ≡ Some in_quotes
unfolding point_after
plain_stays b t e h =
    let last =
    and_parts (is_ascii b && is_not_control b && not (b == quote_mark)) (not (b == backslash))
    (true_of t (is_plain b) e h) in
    let more = and_parts (is_ascii b && is_not_control b) (not (b == quote_mark)) last.0 in
    by_tests (b == quote_mark) (b == backslash) (is_not_control b)
    (not_true (b == quote_mark) more.1) (not_true (b == backslash) last.1)
    ((and_parts (is_ascii b) (is_not_control b) more.0).1)
  where
    by_tests : (u v w : Bool)
        → u ≡ false
        → v ≡ false
        → w ≡ true
        → (if u then Some after_part else
        (if v then Some after_backslash else point_if w in_quotes))
        ≡ Some in_quotes
    by_tests u v w e f g = rw (e, f, g) refl
