-- A part of a URI that is owned is the part decoded.
use Rattle.std.proofs.Common.{
  ◌≡◌,
  ℕ,
  true,
  false,
  nat_le,
  List,
  length,
  Result,
  Ok,
  Err,
  IsUtf8,
  subst,
  ◌∙◌,
}
use Rattle.std.specs.Str.{is_utf8}
use Rattle.std.proofs.lemmas.Bool.{and_left, and_right, and_from, false_from_ne_true}
use Rattle.std.proofs.lemmas.Str.{IsUtf8-from_is_utf8, is_utf8-from_IsUtf8}
use Rattle.percent_encoding.specs.Percent.{percent_decode}
use Rattle.client_model.specs.declared.asks.TheConstants.{MAX_PART}
use Rattle.client_model.specs.Asks.{is_part}
use Rattle.registrant.specs.declared.parts.PartBad.{PartBad}
use Rattle.registrant.specs.declared.parts.PartBad.TheVariants as bad
use Rattle.registrant.specs.Parts.{IsDecoded, IsOwned}

pub owned_decoded : (text shown : List ℕ) (r : Result (List ℕ) PartBad)
    → shown ≡ percent_decode text
    → IsUtf8 (percent_decode text)
    → IsOwned shown r
    → IsDecoded text r
owned_decoded text shown (Ok part) e utf8 h = (
  h.0 ∙ e,
  and_from
      (is_utf8 (percent_decode text))
      (nat_le (length (percent_decode text)) MAX_PART)
      (is_utf8-from_IsUtf8 (percent_decode text) utf8)
      (subst (λ (t : List ℕ). nat_le (length t) MAX_PART ≡ true) e h.1),
)
owned_decoded text shown (Err bad.Part) e utf8 h =
    and_right
    (is_utf8 (percent_decode text))
    (nat_le (length (percent_decode text)) MAX_PART)
    (subst (λ (t : List ℕ). nat_le (length t) MAX_PART ≡ false) e h)
owned_decoded text shown (Err bad.Starved) e utf8 h = tt

-- what is decoded to no text is no part
pub no_part : (text : List ℕ)
    → (IsUtf8 (percent_decode text) → ⊥)
    → is_part (percent_decode text) ≡ false
no_part text never =
    and_left (is_utf8 (percent_decode text)) (nat_le (length (percent_decode text)) MAX_PART)
    (false_from_ne_true
    (is_utf8 (percent_decode text))
    (λ t. never (IsUtf8-from_is_utf8 (percent_decode text) t)))
