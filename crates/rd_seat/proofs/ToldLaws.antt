-- What is told of a list, from one call to the next.
use Rattle.std.proofs.Common.{List, Option, None, Some, ◌∙◌}
use Rattle.udp_link.specs.Told.{WhereTold, Stays}

-- two relations one after the other
pub told_then : {A : Type 0} {R S T : List A → List A → Type 0}
    → ((x y z : List A) → R x y → S y z → T x z) → (a b c : Option (List A))
    → WhereTold R a b → WhereTold S b c → WhereTold T a c
told_then join None b c r s = tt
told_then join (Some x) None c r s = absurd r
told_then join (Some x) (Some y) None r s = absurd s
told_then join (Some x) (Some y) (Some z) r s = join x y z r s

-- what is told meets what everything meets
pub told_as : {A : Type 0} {R S : List A → List A → Type 0}
    → ((x y : List A) → R x y → S x y)
    → (a b : Option (List A)) → WhereTold R a b → WhereTold S a b
told_as meets None b r = tt
told_as meets (Some x) None r = absurd r
told_as meets (Some x) (Some y) r = meets x y r

-- nothing happened
pub told_same : {A : Type 0} (R : List A → List A → Type 0) → ((x : List A) → R x x)
    → (a : Option (List A)) → WhereTold R a a
told_same R meets None = tt
told_same R meets (Some x) = meets x

pub Stays-then : {A : Type 0} (a b c : Option (List A)) → Stays a b → Stays b c → Stays a c
Stays-then a b c r s = told_then (λ x y z e f. f ∙ e) a b c r s
