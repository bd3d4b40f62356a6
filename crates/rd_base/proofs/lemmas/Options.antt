-- Optional values: what an equation of two of them says.
use Rattle.std.proofs.Common.{◌≡◌, Option, Some, None, option_map, refl}

-- what is there on both sides is equal
pub some_same : {A : Type 0} {x y : A} → Some x ≡ Some y → x ≡ y
some_same h = cc

-- nothing is no value
pub none_some : {A : Type 0} {x : A} → None ≡ Some x → ⊥
none_some h = cc

-- what gives nothing had nothing
pub map_none : {A B : Type 0} (f : A → B) (o : Option A) → option_map f o ≡ None → o ≡ None
map_none f None e = refl
map_none f (Some x) e = cc
