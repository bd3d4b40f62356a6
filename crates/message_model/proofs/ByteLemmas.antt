-- Bytes that bytes begin with, and steps that each take some.
use Rattle.std.proofs.Common.{
  ◌≡◌,
  ℕ,
  suc,
  ◌<◌,
  ◌≤◌,
  false,
  ltb,
  List,
  [],
  ◌∷◌,
  ◌++◌,
  length,
  get_or,
  take,
  drop,
  Option,
  Some,
  None,
  refl,
  sym,
  ap,
  subst,
  ◌∙◌,
  append_assoc,
  Fits,
  w8,
  arith,
}
use Rattle.std.proofs.Math.Facts.{Fits-lt-pow}
use Rattle.std.proofs.lemmas.Bool.{ltb-false, le-ltb}
use Rattle.std.proofs.lemmas.List.{take_at, drop_at, take-append-drop, length-append, length-take}
use Rattle.std.proofs.lemmas.Option.{same_Some}
use Rattle.message_model.specs.Numbers.{AreBytes}
use Rattle.message_model.specs.Reading.{◌>>=◌, byte_at, bytes_at}
use Rattle.rd_base.proofs.lemmas.Choices.{not_refused}

-- ---- bytes

pub AreBytes-append : (xs ys : List ℕ) → AreBytes xs → AreBytes ys → AreBytes (xs ++ ys)
AreBytes-append [] ys h k = k
AreBytes-append (x ∷ xs) ys h k = (h.0, AreBytes-append xs ys h.1 k)

pub AreBytes-front : (xs ys : List ℕ) → AreBytes (xs ++ ys) → AreBytes xs
AreBytes-front [] ys h = tt
AreBytes-front (x ∷ xs) ys h = (h.0, AreBytes-front xs ys h.1)

pub AreBytes-back : (xs ys : List ℕ) → AreBytes (xs ++ ys) → AreBytes ys
AreBytes-back [] ys h = h
AreBytes-back (x ∷ xs) ys h = AreBytes-back xs ys h.1

-- from the same fact at each index
pub AreBytes-from_places : (bytes : List ℕ) → ((i : ℕ) → get_or bytes i 0 < 256) → AreBytes bytes
AreBytes-from_places [] h = tt
AreBytes-from_places (b ∷ bytes) h = (h 0, AreBytes-from_places bytes (λ i. h (suc i)))

-- from what is known of the bytes that a program holds
pub AreBytes-from_Fits : (bytes : List ℕ) → ((i : ℕ) → Fits w8 (get_or bytes i 0)) → AreBytes bytes
AreBytes-from_Fits bytes h = AreBytes-from_places bytes (λ i. Fits-lt-pow (h i))

-- ---- steps

pub byte_at-some : (bytes : List ℕ) (x : ℕ × List ℕ) → Some x ≡ byte_at bytes → bytes ≡ x.0 ∷ x.1
byte_at-some [] x e = absurd cc
byte_at-some (b ∷ bytes) x e = ap (λ (y : ℕ × List ℕ). y.0 ∷ y.1) (sym (same_Some x (b, bytes) e))

pub byte_at-none : (bytes : List ℕ) → None ≡ byte_at bytes → bytes ≡ []
byte_at-none [] e = refl
byte_at-none (b ∷ bytes) e = absurd cc

-- the value of a step that gave one
pub bind_some : {A B : Type 0} (o : Option A) (f : A → Option B) (y : B)
    → (o >>= f) ≡ Some y
    → (x : A) × (o ≡ Some x) × (f x ≡ Some y)
bind_some (Some x) f y e = (x, refl, e)
bind_some None f y e = absurd cc

-- what a step took of the bytes
pub record Takes (bytes text rest : List ℕ) : Type 0 where
  pub parts : bytes ≡ text ++ rest
  pub text_fits : AreBytes text
  pub rest_fits : AreBytes rest

pub Takes-from : (bytes text rest : List ℕ)
    → bytes ≡ text ++ rest
    → AreBytes bytes
    → Takes bytes text rest
Takes-from bytes text rest e fits =
    let both : AreBytes (text ++ rest) = subst AreBytes e fits in
    record {
      parts = e;
      text_fits = AreBytes-front text rest both;
      rest_fits = AreBytes-back text rest both;
    }

pub Takes-then : (a x b y c : List ℕ) → Takes a x b → Takes b y c → Takes a (x ++ y) c
Takes-then a x b y c p q = record {
  parts = p.parts ∙ ap (λ (t : List ℕ). x ++ t) q.parts ∙ sym (append_assoc x y c);
  text_fits = AreBytes-append x y p.text_fits q.text_fits;
  rest_fits = q.rest_fits;
}

pub byte_takes : (bytes : List ℕ) (x : ℕ × List ℕ)
    → AreBytes bytes
    → byte_at bytes ≡ Some x
    → Takes bytes (x.0 ∷ []) x.1
byte_takes [] x fits e = absurd cc
byte_takes (b ∷ bytes) x fits e =
    subst (λ (y : ℕ × List ℕ). Takes (b ∷ bytes) (y.0 ∷ []) y.1) (same_Some (b, bytes) x e)
    (Takes-from (b ∷ bytes) (b ∷ []) bytes refl fits)

pub bytes_takes : (n : ℕ) (bytes : List ℕ) (x : List ℕ × List ℕ)
    → AreBytes bytes
    → bytes_at n bytes ≡ Some x
    → Takes bytes x.0 x.1 × (length x.0 ≡ n)
bytes_takes n bytes x fits e =
    let p = not_refused (ltb (length bytes) n) (Some (take n bytes, drop n bytes)) x e in
    let long : n ≤ length bytes = ltb-false _ _ p.0 in
    subst (λ (y : List ℕ × List ℕ). Takes bytes y.0 y.1 × (length y.0 ≡ n))
    (same_Some (take n bytes, drop n bytes) x p.1) (
      Takes-from bytes (take n bytes) (drop n bytes) (sym (take-append-drop n bytes)) fits,
      omega
          (arith, length-take n bytes),
    )

pub bytes_again : (n : ℕ) (text rest : List ℕ)
    → length text ≡ n
    → bytes_at n (text ++ rest) ≡ Some (text, rest)
bytes_again n text rest e =
    let long : ltb (length (text ++ rest)) n ≡ false =
    le-ltb _ _ (omega (arith, length-append text rest)) in
    rw (long, take_at text rest n e, drop_at text rest n e) refl
