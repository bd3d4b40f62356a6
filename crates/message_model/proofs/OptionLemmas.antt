-- An option that is read is spelled so, and an option that is spelled is read again.
use Rattle.std.proofs.Common.{
  ◌≡◌,
  ℕ,
  ◌+◌,
  ◌-◌,
  ◌*◌,
  ◌/◌,
  ◌%◌,
  ◌<◌,
  ◌≤◌,
  false,
  ltb,
  eqb,
  List,
  [],
  ◌∷◌,
  ◌++◌,
  length,
  Some,
  refl,
  sym,
  subst,
  append_assoc,
  arith,
  inl,
  inr,
}
use Rattle.std.proofs.lemmas.Bool.{cases_lt, ltb-true, ltb-false, lt-ltb, le-ltb, eqb-true}
use Rattle.std.proofs.lemmas.Option.{same_Some, none-some}
use Rattle.message_model.specs.Numbers.{AreBytes}
use Rattle.message_model.specs.Message.{Opt, longest_value, last_number}
use Rattle.message_model.specs.Spelling.{nibble_of, extension_of, option_spelling}
use Rattle.message_model.specs.Reading.{◌>>=◌, byte_at, bytes_at, extended_at, option_at}
use Rattle.message_model.proofs.ByteLemmas.{
  bind_some,
  Takes,
  Takes-from,
  Takes-then,
  byte_takes,
  bytes_takes,
  bytes_again,
}
use Rattle.rd_base.proofs.lemmas.Choices.{either_of, not_refused}

-- ---- the three forms of a delta or a length

pub nibble_short : (n : ℕ) → n < 13 → nibble_of n ≡ n
unfolding nibble_of
nibble_short n h = rw (lt-ltb n 13 h) refl

pub extension_short : (n : ℕ) → n < 13 → extension_of n ≡ []
unfolding extension_of
extension_short n h = rw (lt-ltb n 13 h) refl

pub nibble_middle : (n : ℕ) → 13 ≤ n → n < 269 → nibble_of n ≡ 13
unfolding nibble_of
nibble_middle n h k = rw (le-ltb n 13 h, lt-ltb n 269 k) refl

pub extension_middle : (n : ℕ) → 13 ≤ n → n < 269 → extension_of n ≡ (n - 13) ∷ []
unfolding extension_of
extension_middle n h k = rw (le-ltb n 13 h, lt-ltb n 269 k) refl

pub nibble_long : (n : ℕ) → 269 ≤ n → nibble_of n ≡ 14
unfolding nibble_of
nibble_long n h =
    let over : 13 ≤ n = omega arith in
    rw (le-ltb n 13 over, le-ltb n 269 h) refl

pub extension_long : (n : ℕ) → 269 ≤ n → extension_of n ≡ ((n - 269) / 256) ∷ ((n - 269) % 256) ∷ []
unfolding extension_of
extension_long n h =
    let over : 13 ≤ n = omega arith in
    rw (le-ltb n 13 over, le-ltb n 269 h) refl

pub nibble-le : (n : ℕ) → nibble_of n ≤ 14
nibble-le n =
    elim (cases_lt n 13) [
      | inl small ↦ omega (arith, nibble_short n small)
      | inr big ↦ elim (cases_lt n 269) [
        | inl middle ↦ omega (arith, nibble_middle n big middle)
        | inr long ↦ omega (arith, nibble_long n long)
      ]
    ]

-- ---- a delta or a length

-- what was read of a delta or a length
pub record Extends (nibble : ℕ) (bytes : List ℕ) (x : ℕ × List ℕ) : Type 0 where
  pub takes : Takes bytes (extension_of x.0) x.1
  pub nibble_is : nibble ≡ nibble_of x.0
  pub most : x.0 ≤ longest_value

short_takes : (nibble : ℕ) (bytes : List ℕ) (x : ℕ × List ℕ)
    → AreBytes bytes
    → nibble < 13
    → Some (nibble, bytes) ≡ Some x
    → Extends nibble bytes x
short_takes nibble bytes x fits small e =
    subst (λ (y : ℕ × List ℕ). Extends nibble bytes y) (same_Some (nibble, bytes) x e) (record {
      takes =
          Takes-from bytes (extension_of nibble) bytes (rw (extension_short nibble small) refl)
          fits;
      nibble_is = sym (nibble_short nibble small);
      most = omega arith;
    })

middle_takes : (bytes : List ℕ) (x : ℕ × List ℕ)
    → AreBytes bytes
    → (byte_at bytes >>= λ more. Some (13 + more.0, more.1)) ≡ Some x
    → Extends 13 bytes x
middle_takes [] x fits e = absurd cc
middle_takes (b ∷ bytes) x fits e =
    let small : b < 256 = fits.0 in
    let low : 13 ≤ 13 + b = omega arith in
    let high : 13 + b < 269 = omega arith in
    let back : 13 + b - 13 ≡ b = omega arith in
    subst (λ (y : ℕ × List ℕ). Extends 13 (b ∷ bytes) y) (same_Some (13 + b, bytes) x e) (record {
      takes =
          Takes-from (b ∷ bytes) (extension_of (13 + b)) bytes
          (rw (extension_middle (13 + b) low high, back) refl) fits;
      nibble_is = sym (nibble_middle (13 + b) low high);
      most = omega arith;
    })

long_takes : (bytes : List ℕ) (x : ℕ × List ℕ)
    → AreBytes bytes
    → (byte_at bytes >>=
    λ high. byte_at high.1 >>= λ low. Some (269 + (high.0 * 256 + low.0), low.1))
    ≡ Some x
    → Extends 14 bytes x
long_takes [] x fits e = absurd cc
long_takes (a ∷ []) x fits e = absurd cc
long_takes (a ∷ b ∷ bytes) x fits e =
    let small_a : a < 256 = fits.0 in
    let small_b : b < 256 = fits.1.0 in
    let n : ℕ = 269 + (a * 256 + b) in
    let low : 269 ≤ 269 + (a * 256 + b) = omega arith in
    let first : (269 + (a * 256 + b) - 269) / 256 ≡ a = omega arith in
    let second : (269 + (a * 256 + b) - 269) % 256 ≡ b = omega arith in
    subst (λ (y : ℕ × List ℕ). Extends 14 (a ∷ b ∷ bytes) y)
    (same_Some (269 + (a * 256 + b), bytes) x e) (record {
      takes =
          Takes-from (a ∷ b ∷ bytes) (extension_of (269 + (a * 256 + b))) bytes
          (rw (extension_long (269 + (a * 256 + b)) low, first, second) refl) fits;
      nibble_is = sym (nibble_long (269 + (a * 256 + b)) low);
      most = omega arith;
    })

pub extended_takes : (nibble : ℕ) (bytes : List ℕ) (x : ℕ × List ℕ)
    → AreBytes bytes
    → extended_at nibble bytes ≡ Some x
    → Extends nibble bytes x
unfolding extended_at
extended_takes nibble bytes x fits e =
    elim (either_of (ltb nibble 13) (Some (nibble, bytes)) _ (Some x) e) [
      | inl short ↦ short_takes nibble bytes x fits (ltb-true _ _ short.0) short.1
      | inr longer ↦ elim (either_of (eqb nibble 13) _ _ (Some x) longer.1) [
        | inl middle ↦ subst (λ (k : ℕ). Extends k bytes x) (sym (eqb-true _ _ middle.0))
            (middle_takes bytes x fits middle.1)
        | inr other ↦ elim (either_of (eqb nibble 14) _ _ (Some x) other.1) [
          | inl long ↦ subst (λ (k : ℕ). Extends k bytes x) (sym (eqb-true _ _ long.0))
              (long_takes bytes x fits long.1)
          | inr none ↦ absurd (none-some x none.1)
        ]
      ]
    ]

pub extended_again : (n : ℕ) (rest : List ℕ)
    → n ≤ longest_value
    → extended_at (nibble_of n) (extension_of n ++ rest) ≡ Some (n, rest)
unfolding extended_at
extended_again n rest most =
    elim (cases_lt n 13) [
      | inl short ↦ rw (nibble_short n short, extension_short n short, lt-ltb n 13 short) refl
      | inr big ↦ elim (cases_lt n 269) [
        | inl middle ↦
            let back : 13 + (n - 13) ≡ n = omega arith in
            rw (nibble_middle n big middle, extension_middle n big middle, back) refl
        | inr long ↦
            let back : 269 + ((n - 269) / 256 * 256 + (n - 269) % 256) ≡ n = omega arith in
            rw (nibble_long n long, extension_long n long, back) refl
      ]
    ]

-- ---- an option

-- An option that can stand after an option of the number before.
pub record IsOptionAfter (before : ℕ) (option : Opt) : Type 0 where
  pub ascends : before ≤ option.0
  pub number : option.0 ≤ last_number
  pub size : length option.1 ≤ longest_value
  pub value : AreBytes option.1

spelled_with : (before first delta size : ℕ) (value : List ℕ)
    → first / 16 ≡ nibble_of delta
    → first % 16 ≡ nibble_of size
    → length value ≡ size
    → option_spelling before (before + delta, value)
    ≡ (first ∷ []) ++ (extension_of delta ++ (extension_of size ++ value))
unfolding option_spelling
spelled_with before first delta size value high low len =
    let back : before + delta - before ≡ delta = omega arith in
    let head : nibble_of delta * 16 + nibble_of size ≡ first = omega (arith, high, low) in
    rw (back, len, head) refl

-- what the steps of an option took is its spelling
option_made : (before first : ℕ) (bytes after : List ℕ) (delta size : ℕ × List ℕ)
    (value rest : List ℕ)
    → Takes bytes (first ∷ []) after
    → Extends (first / 16) after delta
    → Extends (first % 16) delta.1 size
    → Takes size.1 value rest
    → length value ≡ size.0
    → before + delta.0 ≤ last_number
    → Takes bytes (option_spelling before (before + delta.0, value)) rest
    × IsOptionAfter before (before + delta.0, value)
option_made before first bytes after delta size value rest head high low body len most =
    let third = Takes-then delta.1 (extension_of size.0) size.1 value rest low.takes body in
    let second =
    Takes-then after (extension_of delta.0) delta.1 (extension_of size.0 ++ value) rest
    high.takes third in
    let whole =
    Takes-then bytes (first ∷ []) after (extension_of delta.0 ++ (extension_of size.0 ++ value))
    rest head second in (
      rw (spelled_with before first delta.0 size.0 value high.nibble_is low.nibble_is len) whole,
      record {
        ascends = omega arith;
        number = most;
        size = omega (arith, len, low.most);
        value = body.text_fits;
      },
    )

pub option_takes : (before : ℕ) (bytes : List ℕ) (x : Opt × List ℕ)
    → AreBytes bytes
    → option_at before bytes ≡ Some x
    → Takes bytes (option_spelling before x.0) x.1 × IsOptionAfter before x.0
unfolding option_at
option_takes before bytes x fits e =
    let a = bind_some (byte_at bytes) _ x e in
    let b = bind_some (extended_at (a.0.0 / 16) a.0.1) _ x a.2 in
    let c = bind_some (extended_at (a.0.0 % 16) b.0.1) _ x b.2 in
    let d = bind_some (bytes_at c.0.0 c.0.1) _ x c.2 in
    let p =
    not_refused (ltb last_number (before + b.0.0)) (Some ((before + b.0.0, d.0.0), d.0.1)) x
    d.2 in
    let first = byte_takes bytes a.0 fits a.1 in
    let delta = extended_takes (a.0.0 / 16) a.0.1 b.0 first.rest_fits b.1 in
    let size = extended_takes (a.0.0 % 16) b.0.1 c.0 delta.takes.rest_fits c.1 in
    let value = bytes_takes c.0.0 c.0.1 d.0 size.takes.rest_fits d.1 in
    let made =
    option_made before a.0.0 bytes a.0.1 b.0 c.0 d.0.0 d.0.1 first delta size value.0 value.1
    (ltb-false _ _ p.0) in
    subst (λ (y : Opt × List ℕ).
    Takes bytes (option_spelling before y.0) y.1 × IsOptionAfter before y.0)
    (same_Some ((before + b.0.0, d.0.0), d.0.1) x p.1) made

-- Where an option does not fall, and its number and its length can be written, it is read again,
-- whatever the octets of its value are.
pub option_in_order : (before : ℕ) (option : Opt) (rest : List ℕ)
    → before ≤ option.0
    → option.0 ≤ last_number
    → length option.1 ≤ longest_value
    → option_at before (option_spelling before option ++ rest) ≡ Some (option, rest)
unfolding option_at option_spelling
option_in_order before option rest ascends number size =
    let low_delta : nibble_of (option.0 - before) ≤ 14 = nibble-le (option.0 - before) in
    let low_size : nibble_of (length option.1) ≤ 14 = nibble-le (length option.1) in
    let high :
    (nibble_of (option.0 - before) * 16 + nibble_of (length option.1)) / 16
    ≡ nibble_of (option.0 - before) =
    omega arith in
    let low :
    (nibble_of (option.0 - before) * 16 + nibble_of (length option.1)) % 16
    ≡ nibble_of (length option.1) =
    omega arith in
    let regrouped :
    (extension_of (option.0 - before) ++ (extension_of (length option.1) ++ option.1)) ++ rest
    ≡ extension_of (option.0 - before)
    ++ (extension_of (length option.1) ++ (option.1 ++ rest)) =
    simp append_assoc in
    let back : before + (option.0 - before) ≡ option.0 = omega arith in
    let small : ltb 65535 option.0 ≡ false = le-ltb 65535 option.0 number in
    rw (
      high,
      low,
      regrouped,
      extended_again (option.0 - before)
          (extension_of (length option.1) ++ (option.1 ++ rest)) (omega arith),
      extended_again
          (length option.1) (option.1 ++ rest) size,
      bytes_again (length option.1) option.1 rest
          refl,
      back,
      small,
    ) refl

-- So it is with an option whose value is bytes.
pub option_again : (before : ℕ) (option : Opt) (rest : List ℕ)
    → IsOptionAfter before option
    → option_at before (option_spelling before option ++ rest) ≡ Some (option, rest)
option_again before option rest fits =
    option_in_order before option rest fits.ascends fits.number fits.size
