-- What was written in pieces.
use Rattle.std.proofs.Common.{
  ◌≡◌,
  ℕ,
  ◌+◌,
  ◌-◌,
  List,
  ◌++◌,
  length,
  take,
  drop,
  Option,
  sym,
  ap,
  ◌∙◌,
  subst,
  arith,
}
use Rattle.std.proofs.Math.Seq.{take-add}
use Rattle.std.proofs.lemmas.List.{length-drop, take_all}
use Rattle.std.specs.Io.KnownBytes.{Appends}
use Rattle.std.proofs.KnownBytes.{Appends-trans}

-- a piece more of what is left
pub more_written : (old mid new : Option (List ℕ)) (at n : ℕ) (bytes : List ℕ)
    → Appends old mid (take at bytes)
    → Appends mid new (take n (take (length bytes - at) (drop at bytes)))
    → Appends old new (take (at + n) bytes)
more_written old mid new at n bytes first second =
    let rest : take (length bytes - at) (drop at bytes) ≡ drop at bytes =
    take_all _ _ (omega (arith, length-drop at bytes)) in
    let whole :
    take at bytes ++ take n (take (length bytes - at) (drop at bytes)) ≡ take (at + n) bytes =
    ap (λ (l : List ℕ). take at bytes ++ take n l) rest ∙ sym (take-add at n bytes) in
    subst (Appends old new) whole (Appends-trans old mid new _ _ first second)
