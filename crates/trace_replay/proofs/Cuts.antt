-- What `cut` gives, by the place of the first separator.
use Rattle.std.proofs.Common.{
  ◌≡◌,
  ℕ,
  suc,
  ◌+◌,
  Bool,
  true,
  false,
  cond,
  not,
  List,
  [],
  ◌∷◌,
  length,
  take,
  drop,
  Some,
  None,
  Option,
  refl,
  sym,
  ap,
  ◌∙◌,
  arith,
}
use Rattle.std.specs.Prelude.{◌==◌, nat_lt, option_map, position}
use Rattle.std.specs.List.{position_or_len}
use Rattle.std.proofs.lemmas.Bool.Decides.{nat_tests}
use Rattle.trace_replay.specs.Fields.{cut, onto_first}

abbrev cut_at : ℕ → List ℕ → Option (List ℕ × List ℕ)
cut_at i text = Some (take i text, drop (suc i) text)

-- the pieces round an offset
abbrev cut_there : Bool → ℕ → List ℕ → Option (List ℕ × List ℕ)
cut_there b i text = cond b (cut_at i text) None

onto_there : (b : Bool) (x i : ℕ) (text : List ℕ)
    → option_map (onto_first x) (cut_there b i text) ≡ cut_there b (suc i) (x ∷ text)
onto_there true x i text = refl
onto_there false x i text = refl

lt_suc : (i n : ℕ) → nat_lt i n ≡ nat_lt (1 + i) (suc n)
lt_suc i n = grind (arith, nat_tests)

lt_zero : (n : ℕ) → nat_lt 0 (suc n) ≡ true
lt_zero n = grind (arith, nat_tests)

there : (e : Bool) (b i : ℕ) (bs : List ℕ)
    → cond e (Some ([], bs)) (cut_there (nat_lt i (length bs)) (suc i) (b ∷ bs))
    ≡ cut_there (nat_lt (cond (not e) (1 + i) 0) (suc (length bs))) (cond (not e) (1 + i) 0)
    (b ∷ bs)
there true b i bs = ap (λ t. cut_there t 0 (b ∷ bs)) (sym (lt_zero (length bs)))
there false b i bs = let e : suc i ≡ 1 + i = omega arith in
    ap (λ t. cut_there t (suc i) (b ∷ bs)) (lt_suc i (length bs))
    ∙ ap (λ k. cut_there (nat_lt (1 + i) (suc (length bs))) k (b ∷ bs)) e

pub cut_by_place : (c : ℕ) (text : List ℕ)
    → cut c text
    ≡ cut_there (nat_lt (position_or_len (λ b. b == c) text) (length text))
    (position_or_len (λ b. b == c) text) text
cut_by_place c [] = refl
cut_by_place c (b ∷ bs) =
    ap (λ o. cond (b == c) (Some ([], bs)) o)
    (ap (option_map (onto_first b)) (cut_by_place c bs) ∙ onto_there _ b _ bs)
    ∙ there (b == c) b (position_or_len (λ x. x == c) bs) bs

none_where : (t : Bool) (i : ℕ) (text : List ℕ)
    → None ≡ cond t (Some i) None
    → None ≡ cut_there t i text
none_where true i text e = cc
none_where false i text e = refl

some_where : (t : Bool) (i at : ℕ) (text : List ℕ)
    → Some at ≡ cond t (Some i) None
    → cut_at at text ≡ cut_there t i text
some_where true i at text e = let same : at ≡ i = cc in ap (λ k. cut_at k text) same
some_where false i at text e = cc

-- no separator
pub cut_none : (c : ℕ) (text : List ℕ) → None ≡ position (λ b. b == c) text → None ≡ cut c text
cut_none c text e = none_where _ _ text e ∙ sym (cut_by_place c text)

-- the first separator at a place
pub cut_some : (c at : ℕ) (text : List ℕ)
    → Some at ≡ position (λ b. b == c) text
    → Some (take at text, drop (at + 1) text) ≡ cut c text
cut_some c at text e = let one : at + 1 ≡ suc at = omega arith in
    ap (λ (k : ℕ). Some (take at text, drop k text)) one
    ∙ some_where _ _ at text e
    ∙ sym (cut_by_place c text)
