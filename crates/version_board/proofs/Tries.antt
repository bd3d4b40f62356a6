-- What holds of a try that did not succeed, and of one that did.
use Rattle.std.proofs.Common.{◌≡◌, true, false, sym, Result, Ok, Err, true≢false}
use Rattle.std.specs.Prelude.{MatchResult, is_ok}

-- what a clause says of a try that did not succeed
pub at_err : {T E : Type 0} (r : Result T E) (P : T → Type 0) (Q : Type 0)
    → MatchResult r P (λ _. Q)
    → is_ok r ≡ false
    → Q
at_err (Ok x) P Q m h = absurd (true≢false h)
at_err (Err e) P Q m h = m

-- what it says of one that did
pub at_ok : {T E : Type 0} (r : Result T E) (P : Type 0) (Q : E → Type 0)
    → MatchResult r (λ _. P) Q
    → is_ok r ≡ true
    → P
at_ok (Ok x) P Q m h = m
at_ok (Err e) P Q m h = absurd (true≢false (sym h))
