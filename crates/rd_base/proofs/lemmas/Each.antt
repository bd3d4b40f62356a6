-- Facts on each element of a list.
use Rattle.std.proofs.Common.{◌≡◌, Bool, true, false, cond, List, [], ◌∷◌, ◌++◌, map, filter, refl}
use Rattle.std.specs.List.{list_any, AllByRecursion}
use Rattle.std.proofs.lemmas.Bool.{or_parts}

pub each_weaker : {X : Type 0} (P Q : X → Type 0)
    → ((x : X) → P x → Q x)
    → (xs : List X)
    → AllByRecursion P xs
    → AllByRecursion Q xs
each_weaker P Q weak [] h = tt
each_weaker P Q weak (x ∷ xs) h = (weak x h.0, each_weaker P Q weak xs h.1)

pub each_both : {X : Type 0} (P Q R : X → Type 0)
    → ((x : X) → P x → Q x → R x)
    → (xs : List X)
    → AllByRecursion P xs
    → AllByRecursion Q xs
    → AllByRecursion R xs
each_both P Q R both [] h k = tt
each_both P Q R both (x ∷ xs) h k = (both x h.0 k.0, each_both P Q R both xs h.1 k.1)

pub each_one : {X : Type 0} (P : X → Type 0) → ((x : X) → P x) → (xs : List X) → AllByRecursion P xs
each_one P one [] = tt
each_one P one (x ∷ xs) = (one x, each_one P one xs)

pub each_map : {X Y : Type 0} (P : Y → Type 0) (f : X → Y) (xs : List X)
    → AllByRecursion (λ x. P (f x)) xs
    → AllByRecursion P (map f xs)
each_map P f [] h = tt
each_map P f (x ∷ xs) h = (h.0, each_map P f xs h.1)

pub each_filter : {X : Type 0} (P : X → Type 0) (test : X → Bool) (xs : List X)
    → AllByRecursion P xs
    → AllByRecursion P (filter test xs)
each_filter P test [] h = tt
each_filter P test (x ∷ xs) h = by (test x) (each_filter P test xs h.1)
  where
    by : (b : Bool)
        → AllByRecursion P (filter test xs)
        → AllByRecursion P (cond b (x ∷ filter test xs) (filter test xs))
    by true rest = (h.0, rest)
    by false rest = rest

-- what is kept passes
pub each_passes : {X : Type 0} (test : X → Bool) (xs : List X)
    → AllByRecursion (λ x. test x ≡ true) (filter test xs)
each_passes test [] = tt
each_passes {X} test (x ∷ xs) = by (test x) refl (each_passes test xs)
  where
    by : (b : Bool)
        → test x ≡ b
        → AllByRecursion (λ (y : X). test y ≡ true) (filter test xs)
        → AllByRecursion (λ (y : X). test y ≡ true) (cond b (x ∷ filter test xs) (filter test xs))
    by true same rest = (same, rest)
    by false same rest = rest

pub each_push : {X : Type 0} (P : X → Type 0) (xs : List X) (x : X)
    → AllByRecursion P xs
    → P x
    → AllByRecursion P (xs ++ x ∷ [])
each_push P [] x h last = (last, tt)
each_push P (y ∷ ys) x h last = (h.0, each_push P ys x h.1 last)

pub each_append : {X : Type 0} (P : X → Type 0) (xs ys : List X)
    → AllByRecursion P xs
    → AllByRecursion P ys
    → AllByRecursion P (xs ++ ys)
each_append P [] ys h k = k
each_append P (x ∷ xs) ys h k = (h.0, each_append P xs ys h.1 k)

-- one element fewer at the end
pub each_popped : {X : Type 0} (P : X → Type 0) (xs : List X) (x : X)
    → AllByRecursion P (xs ++ x ∷ [])
    → AllByRecursion P xs × P x
each_popped P [] x h = (tt, h.0)
each_popped P (y ∷ ys) x h = let rest = each_popped P ys x h.1 in ((h.0, rest.0), rest.1)

-- where no element passes a test: what follows for each that fails it
pub each_failing : {X : Type 0} (test : X → Bool) (P : X → Type 0)
    → ((x : X) → test x ≡ false → P x)
    → (xs : List X)
    → list_any test xs ≡ false
    → AllByRecursion P xs
each_failing test P fails [] h = tt
each_failing test P fails (x ∷ xs) h =
    let both = or_parts (test x) (list_any test xs) h in
    (fails x both.0, each_failing test P fails xs both.1)

-- and none passes a test that passes fewer
pub none_pass : {X : Type 0} (test other : X → Bool)
    → ((x : X) → test x ≡ false → other x ≡ false)
    → (xs : List X)
    → list_any test xs ≡ false
    → list_any other xs ≡ false
none_pass test other fails [] h = refl
none_pass test other fails (x ∷ xs) h =
    let both = or_parts (test x) (list_any test xs) h in
    rw (fails x both.0, none_pass test other fails xs both.1) refl
