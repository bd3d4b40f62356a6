-- The examples of RFC 3986 section 5.4, computed.
use Rattle.std.proofs.Common.{◌≡◌, List, ℕ, ◌++◌, flat_map, replicate, refl, codes}
use Rattle.reference_model.specs.Resolution.{resolved}
use Rattle.reference_model.proofs.OnLiterals.{reference_on_literals}

-- the base of the examples
abbrev pub base : List ℕ
base = codes "http://a/b/c/d;p?q"

normal_1 : resolved base (codes "g:h") ≡ codes "g:h"
unfolding reference_on_literals
normal_1 = refl

normal_2 : resolved base (codes "g") ≡ codes "http://a/b/c/g"
unfolding reference_on_literals
normal_2 = refl

normal_3 : resolved base (codes "./g") ≡ codes "http://a/b/c/g"
unfolding reference_on_literals
normal_3 = refl

normal_4 : resolved base (codes "g/") ≡ codes "http://a/b/c/g/"
unfolding reference_on_literals
normal_4 = refl

normal_5 : resolved base (codes "/g") ≡ codes "http://a/g"
unfolding reference_on_literals
normal_5 = refl

normal_6 : resolved base (codes "//g") ≡ codes "http://g"
unfolding reference_on_literals
normal_6 = refl

normal_7 : resolved base (codes "?y") ≡ codes "http://a/b/c/d;p?y"
unfolding reference_on_literals
normal_7 = refl

normal_8 : resolved base (codes "g?y") ≡ codes "http://a/b/c/g?y"
unfolding reference_on_literals
normal_8 = refl

normal_9 : resolved base (codes "#s") ≡ codes "http://a/b/c/d;p?q#s"
unfolding reference_on_literals
normal_9 = refl

normal_10 : resolved base (codes "g#s") ≡ codes "http://a/b/c/g#s"
unfolding reference_on_literals
normal_10 = refl

normal_11 : resolved base (codes "g?y#s") ≡ codes "http://a/b/c/g?y#s"
unfolding reference_on_literals
normal_11 = refl

normal_12 : resolved base (codes ";x") ≡ codes "http://a/b/c/;x"
unfolding reference_on_literals
normal_12 = refl

normal_13 : resolved base (codes "g;x") ≡ codes "http://a/b/c/g;x"
unfolding reference_on_literals
normal_13 = refl

normal_14 : resolved base (codes "g;x?y#s") ≡ codes "http://a/b/c/g;x?y#s"
unfolding reference_on_literals
normal_14 = refl

normal_15 : resolved base (codes "") ≡ codes "http://a/b/c/d;p?q"
unfolding reference_on_literals
normal_15 = refl

normal_16 : resolved base (codes ".") ≡ codes "http://a/b/c/"
unfolding reference_on_literals
normal_16 = refl

normal_17 : resolved base (codes "./") ≡ codes "http://a/b/c/"
unfolding reference_on_literals
normal_17 = refl

normal_18 : resolved base (codes "..") ≡ codes "http://a/b/"
unfolding reference_on_literals
normal_18 = refl

normal_19 : resolved base (codes "../") ≡ codes "http://a/b/"
unfolding reference_on_literals
normal_19 = refl

normal_20 : resolved base (codes "../g") ≡ codes "http://a/b/g"
unfolding reference_on_literals
normal_20 = refl

normal_21 : resolved base (codes "../..") ≡ codes "http://a/"
unfolding reference_on_literals
normal_21 = refl

normal_22 : resolved base (codes "../../") ≡ codes "http://a/"
unfolding reference_on_literals
normal_22 = refl

normal_23 : resolved base (codes "../../g") ≡ codes "http://a/g"
unfolding reference_on_literals
normal_23 = refl

abnormal_1 : resolved base (codes "../../../g") ≡ codes "http://a/g"
unfolding reference_on_literals
abnormal_1 = refl

abnormal_2 : resolved base (codes "../../../../g") ≡ codes "http://a/g"
unfolding reference_on_literals
abnormal_2 = refl

abnormal_3 : resolved base (codes "/./g") ≡ codes "http://a/g"
unfolding reference_on_literals
abnormal_3 = refl

abnormal_4 : resolved base (codes "/../g") ≡ codes "http://a/g"
unfolding reference_on_literals
abnormal_4 = refl

abnormal_5 : resolved base (codes "g.") ≡ codes "http://a/b/c/g."
unfolding reference_on_literals
abnormal_5 = refl

abnormal_6 : resolved base (codes ".g") ≡ codes "http://a/b/c/.g"
unfolding reference_on_literals
abnormal_6 = refl

abnormal_7 : resolved base (codes "g..") ≡ codes "http://a/b/c/g.."
unfolding reference_on_literals
abnormal_7 = refl

abnormal_8 : resolved base (codes "..g") ≡ codes "http://a/b/c/..g"
unfolding reference_on_literals
abnormal_8 = refl

abnormal_9 : resolved base (codes "./../g") ≡ codes "http://a/b/g"
unfolding reference_on_literals
abnormal_9 = refl

abnormal_10 : resolved base (codes "./g/.") ≡ codes "http://a/b/c/g/"
unfolding reference_on_literals
abnormal_10 = refl

abnormal_11 : resolved base (codes "g/./h") ≡ codes "http://a/b/c/g/h"
unfolding reference_on_literals
abnormal_11 = refl

abnormal_12 : resolved base (codes "g/../h") ≡ codes "http://a/b/c/h"
unfolding reference_on_literals
abnormal_12 = refl

abnormal_13 : resolved base (codes "g;x=1/./y") ≡ codes "http://a/b/c/g;x=1/y"
unfolding reference_on_literals
abnormal_13 = refl

abnormal_14 : resolved base (codes "g;x=1/../y") ≡ codes "http://a/b/c/y"
unfolding reference_on_literals
abnormal_14 = refl

abnormal_15 : resolved base (codes "g?y/./x") ≡ codes "http://a/b/c/g?y/./x"
unfolding reference_on_literals
abnormal_15 = refl

abnormal_16 : resolved base (codes "g?y/../x") ≡ codes "http://a/b/c/g?y/../x"
unfolding reference_on_literals
abnormal_16 = refl

abnormal_17 : resolved base (codes "g#s/./x") ≡ codes "http://a/b/c/g#s/./x"
unfolding reference_on_literals
abnormal_17 = refl

abnormal_18 : resolved base (codes "g#s/../x") ≡ codes "http://a/b/c/g#s/../x"
unfolding reference_on_literals
abnormal_18 = refl

abnormal_19 : resolved base (codes "http:g") ≡ codes "http:g"
unfolding reference_on_literals
abnormal_19 = refl

-- the octets `../`, as often
abbrev steps_up : ℕ → List ℕ
steps_up n = flat_map (λ (c : ℕ). codes "../") (replicate n 0)

many_steps_up : resolved (codes "coap://h/a/b") (steps_up 8192 ++ codes "g") ≡ codes "coap://h/g"
unfolding reference_on_literals
many_steps_up = refl
