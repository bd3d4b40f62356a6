-- The octets of UTF-8.
use Rattle.std.proofs.Common.{
  ◌≡◌,
  ℕ,
  ◌+◌,
  ◌/◌,
  ◌%◌,
  ◌<◌,
  Bool,
  true,
  false,
  cond,
  ◌&&◌,
  arith,
  List,
  [],
  ◌∷◌,
  ◌++◌,
  IsUtf8,
  ltb,
  ltb-true,
  inl,
  inr,
  refl,
  subst,
}
use lib.Utf8.{scalar, scalars, encode, encodes, next, scalar_cases}
use Rattle.std.proofs.lemmas.Bool.{and_parts}
use Rattle.rd_base.proofs.lemmas.Each.{each_append}
use Rattle.attribute_index.specs.Abbreviations.{AreOctets}

below_end : (c : ℕ) → scalar c ≡ true → c < 1114112
below_end c ok = elim (scalar_cases c ok) [ inl h ↦ omega (arith, h) | inr h ↦ h.1 ]

next_octet : (c : ℕ) → next c < 245
next_octet c = omega arith

-- each octet of a character is at most 244
char_octets : (c : ℕ) → c < 1114112 → AreOctets (encode c)
unfolding encode
char_octets c small = by (ltb c 128) refl (ltb c 2048) refl (ltb c 65536) refl
  where
    by : (one : Bool) → ltb c 128 ≡ one → (two : Bool) → ltb c 2048 ≡ two → (three : Bool)
        → ltb c 65536 ≡ three
        → AreOctets (cond one (c ∷ []) (cond two ((192 + c / 64) ∷ next c ∷ [])
        (cond three ((224 + c / 4096) ∷ next (c / 64) ∷ next c ∷ [])
        ((240 + c / 262144) ∷ next (c / 4096) ∷ next (c / 64) ∷ next c ∷ []))))
    by true a two b three d = let low : c < 128 = ltb-true c 128 a in (omega arith, tt)
    by false a true b three d =
        let low : c < 2048 = ltb-true c 2048 b in (omega arith, (next_octet c, tt))
    by false a false b true d =
        let low : c < 65536 = ltb-true c 65536 d in
        (omega arith, (next_octet (c / 64), (next_octet c, tt)))
    by false a false b false d =
        (omega arith, (next_octet (c / 4096), (next_octet (c / 64), (next_octet c, tt))))

chars_octets : (cs : List ℕ) → scalars cs ≡ true → AreOctets (encodes cs)
chars_octets [] ok = tt
chars_octets (c ∷ cs) ok =
    let parts = and_parts (scalar c) (scalars cs) ok in
    each_append (λ octet. octet < 245) (encode c) (encodes cs)
    (char_octets c (below_end c parts.0)) (chars_octets cs parts.1)

-- so is each octet of a text
pub text_octets : (text : List ℕ) → IsUtf8 text → AreOctets text
text_octets text utf8 = subst AreOctets utf8.1.1 (chars_octets utf8.0 utf8.1.0)
