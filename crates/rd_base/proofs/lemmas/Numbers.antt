-- Numbers: a number equals itself, and one that passes a test is not one that fails it.
use Rattle.std.proofs.Common.{◌≡◌, ℕ, Bool, true, false, true≢false, refl, sym, ap, ◌∙◌}
use Rattle.std.specs.Prelude.{◌==◌}
use Rattle.std.proofs.lemmas.Bool.{eqb-true, eq-eqb}

pub eqb-refl : (n : ℕ) → (n == n) ≡ true
eqb-refl n = eq-eqb n n refl

-- an octet that passes a test is not one that fails it
pub other_octet : (test : ℕ → Bool) (c mark : ℕ)
    → test c ≡ true
    → test mark ≡ false
    → (c == mark) ≡ false
other_octet test c mark h t = by_test (c == mark) refl
  where
    by_test : (b : Bool) → (c == mark) ≡ b → b ≡ false
    by_test true e = absurd (true≢false (sym h ∙ ap test (eqb-true c mark e) ∙ t))
    by_test false e = refl
