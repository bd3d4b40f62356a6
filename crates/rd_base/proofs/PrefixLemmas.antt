-- Laws of what stands after a prefix.
use Rattle.std.proofs.Common.{
  ◌≡◌,
  ℕ,
  ◌<◌,
  Bool,
  true,
  false,
  List,
  [],
  ◌∷◌,
  ◌++◌,
  length,
  take,
  drop,
  Option,
  Some,
  None,
  refl,
  sym,
  ap,
  ◌∙◌,
  bytes_eq,
  ◌&&◌,
  cond,
  append-nil,
  arith,
}
use Rattle.std.proofs.lemmas.Slice.Eq.{bytes_eq-Decides}
use Rattle.std.specs.Prelude.{◌==◌, nat_eq}
use lib.Pointwise.{pointwise}
use Rattle.std.proofs.lemmas.Option.{none-some, same_Some}
use Rattle.std.proofs.lemmas.Bool.{eqb-true, eq-eqb, ne_eqb, false_from_ne_true}
use Rattle.rd_base.specs.Prefixes.{after_prefix, ◌then◌}

chosen_then : (t : Bool) (o : Option (List ℕ)) (b : List ℕ)
    → (cond t o None then b) ≡ cond t (o then b) None
chosen_then true o b = refl
chosen_then false o b = refl

-- two prefixes stand one after the other
pub after_two : (a b text : List ℕ) → after_prefix (a ++ b) text ≡ (after_prefix a text then b)
unfolding after_prefix
after_two [] b text = refl
after_two (x ∷ a) b [] = refl
after_two (x ∷ a) b (y ∷ text) =
    ap (λ (o : Option (List ℕ)). cond (y == x) o None) (after_two a b text)
    ∙ sym (chosen_then (y == x) (after_prefix a text) b)

-- a text after its prefix
pub after_own_prefix : (prefix rest : List ℕ) → after_prefix prefix (prefix ++ rest) ≡ Some rest
unfolding after_prefix
after_own_prefix [] rest = refl
after_own_prefix (x ∷ prefix) rest =
    ap (λ t. cond t (after_prefix prefix (prefix ++ rest)) None) (eq-eqb x x refl)
    ∙ after_own_prefix prefix rest

there : (t : Bool) (x y : ℕ) (prefix text rest : List ℕ) (o : Option (List ℕ))
    → (t ≡ true → y ≡ x)
    → (o ≡ Some rest → text ≡ prefix ++ rest)
    → cond t o None ≡ Some rest
    → y ∷ text ≡ x ∷ prefix ++ rest
there true x y prefix text rest o h k e = rw (h refl, k e)
there false x y prefix text rest o h k e = absurd (none-some rest e)

-- what was found after a prefix stands there
pub after_found : (prefix text rest : List ℕ)
    → after_prefix prefix text ≡ Some rest
    → text ≡ prefix ++ rest
unfolding after_prefix
after_found [] text rest e = same_Some text rest e
after_found (x ∷ prefix) [] rest e = absurd (none-some rest e)
after_found (x ∷ prefix) (y ∷ text) rest e =
    there (y == x) x y prefix text rest (after_prefix prefix text) (eqb-true y x)
    (after_found prefix text rest) e

passed_both : (t p : Bool) (o : Option (List ℕ)) (rest : List ℕ)
    → (t && p) ≡ true
    → (p ≡ true → o ≡ Some rest)
    → cond t o None ≡ Some rest
passed_both true p o rest e h = h e
passed_both false p o rest e h = cc

failed_one : (t p : Bool) (o : Option (List ℕ))
    → (t && p) ≡ false
    → (p ≡ false → o ≡ None)
    → cond t o None ≡ None
failed_one true p o e h = h e
failed_one false p o e h = refl

-- where the first octets are those of the prefix
pub after_taken : (prefix text : List ℕ)
    → pointwise nat_eq (take (length prefix) text) prefix ≡ true
    → after_prefix prefix text ≡ Some (drop (length prefix) text)
unfolding after_prefix
after_taken [] text e = refl
after_taken (x ∷ prefix) [] e = cc
after_taken (x ∷ prefix) (y ∷ text) e =
    passed_both (y == x) (pointwise nat_eq (take (length prefix) text) prefix)
    (after_prefix prefix text) (drop (length prefix) text) e (after_taken prefix text)

-- and where they are not
pub after_other : (prefix text : List ℕ)
    → pointwise nat_eq (take (length prefix) text) prefix ≡ false
    → after_prefix prefix text ≡ None
unfolding after_prefix
after_other [] text e = cc
after_other (x ∷ prefix) [] e = refl
after_other (x ∷ prefix) (y ∷ text) e =
    failed_one (y == x) (pointwise nat_eq (take (length prefix) text) prefix)
    (after_prefix prefix text) e (after_other prefix text)

then_append : (o : Option (List ℕ)) (a b : List ℕ) → (o then (a ++ b)) ≡ ((o then a) then b)
then_append None a b = refl
then_append (Some text) a b = after_two a b text

-- three prefixes one after the other
module _ (a b c text : List ℕ) where
  three : after_prefix (a ++ (b ++ c)) text ≡ ((after_prefix a text then b) then c)
  three = after_two a (b ++ c) text ∙ then_append (after_prefix a text) b c

  pub no_first : None ≡ after_prefix a text → None ≡ after_prefix (a ++ (b ++ c)) text
  no_first e = ap (λ o. (o then b) then c) e ∙ sym three

  pub no_second : (rest : List ℕ)
      → Some rest ≡ after_prefix a text
      → None ≡ after_prefix b rest
      → None ≡ after_prefix (a ++ (b ++ c)) text
  no_second rest e h = ap (λ o. o then c) h ∙ ap (λ o. (o then b) then c) e ∙ sym three

  pub after_three : (rest last : List ℕ)
      → Some rest ≡ after_prefix a text
      → Some last ≡ after_prefix b rest
      → after_prefix c last ≡ after_prefix (a ++ (b ++ c)) text
  after_three rest last e h = ap (λ o. o then c) h ∙ ap (λ o. (o then b) then c) e ∙ sym three

-- a text with nothing after its prefix is that prefix
nothing_after : (prefix text : List ℕ)
    → Some [] ≡ after_prefix prefix text
    → bytes_eq text prefix ≡ true
nothing_after prefix text e =
    (bytes_eq-Decides text prefix).1 (after_found prefix text [] (sym e) ∙ append-nil prefix)

-- and no other text
some_after : (prefix text rest : List ℕ)
    → Some rest ≡ after_prefix prefix text
    → 0 < length rest
    → bytes_eq text prefix ≡ false
some_after prefix text rest e more = false_from_ne_true (bytes_eq text prefix) λ same.
    let all : Some [] ≡ after_prefix prefix text =
    sym (ap (λ t. after_prefix prefix t) ((bytes_eq-Decides text prefix).0 same ∙ sym
    (append-nil prefix)) ∙ after_own_prefix prefix []) in
    let none : [] ≡ rest = same_Some [] rest (all ∙ sym e) in
    let size = ap (λ (l : List ℕ). length l) none in
    omega (arith, size, more)

pub no_prefix : (prefix text : List ℕ)
    → None ≡ after_prefix prefix text
    → bytes_eq text prefix ≡ false
no_prefix prefix text e = false_from_ne_true (bytes_eq text prefix) λ same.
    let all : Some [] ≡ after_prefix prefix text =
    sym (ap (λ t. after_prefix prefix t) ((bytes_eq-Decides text prefix).0 same ∙ sym
    (append-nil prefix)) ∙ after_own_prefix prefix []) in
    none-some [] (e ∙ sym all)

-- so a text is a prefix where no octet stands after it
pub no_rest : (prefix text rest : List ℕ)
    → Some rest ≡ after_prefix prefix text
    → (length rest == 0) ≡ bytes_eq text prefix
no_rest prefix text [] e = sym (nothing_after prefix text e)
no_rest prefix text (x ∷ rest) e =
    ne_eqb (length (x ∷ rest)) 0 (λ z. omega (arith, z))
    ∙ sym (some_after prefix text (x ∷ rest) e (omega arith))
