-- A key has its method, its path and its query options: no two requests that differ in them have
-- one key.
use Rattle.std.proofs.Common.{
  ◌≡◌,
  ℕ,
  ◌^◌,
  ◌<◌,
  List,
  [],
  ◌∷◌,
  ◌++◌,
  length,
  take,
  drop,
  Option,
  Some,
  None,
  refl,
  sym,
  ap,
  ◌∙◌,
}
use Rattle.std.specs.Prelude.{flat_map, if◌then◌else◌, ◌==◌, ⊤}
use Rattle.std.specs.Int.{w64, from_be_bytes}
use Rattle.std.proofs.lemmas.Nat.{from_be_bytes-to_be_bytes_8}
use Rattle.std.proofs.lemmas.List.{take_at, drop_at}
use Rattle.std.proofs.lemmas.Option.{same_Some}
use Rattle.message_model.specs.declared.requests.Path.{Path}
use Rattle.message_model.specs.declared.requests.Path.TheVariants as path
use Rattle.message_model.specs.RequestKey.{path_bytes, query_bytes, key_of}

-- ---- paths

-- A location's number fits the eight bytes that it has in a key.
abbrev pub FitsKey : Path → Type 0
FitsKey (path.Location n) = n < 2 ^ 64
FitsKey path.Core = ⊤
FitsKey path.SimpleRd = ⊤
FitsKey path.Rd = ⊤
FitsKey path.Res = ⊤
FitsKey path.Ep = ⊤
FitsKey path.Other = ⊤

-- the path that bytes begin with
path_at : List ℕ → Option (Path × List ℕ)
path_at [] = None
path_at (b ∷ bytes) =
    if b == 0 then Some (path.Core, bytes)
    else if b == 1 then Some (path.SimpleRd, bytes)
    else if b == 2 then Some (path.Rd, bytes)
    else if b == 3 then Some (path.Location (from_be_bytes w64 (take 8 bytes)), drop 8 bytes)
    else if b == 4 then Some (path.Res, bytes)
    else if b == 5 then Some (path.Ep, bytes)
    else Some (path.Other, bytes)

path_again : (p : Path) (rest : List ℕ)
    → FitsKey p
    → path_at (path_bytes p ++ rest) ≡ Some (p, rest)
unfolding path_at
path_again path.Core rest fits = refl
path_again path.SimpleRd rest fits = refl
path_again path.Rd rest fits = refl
path_again (path.Location n) rest fits =
    ap (λ (k : ℕ). Some (path.Location k, rest)) (from_be_bytes-to_be_bytes_8 n fits)
path_again path.Res rest fits = refl
path_again path.Ep rest fits = refl
path_again path.Other rest fits = refl

-- ---- query options

cons_parts : (a b : ℕ) (xs ys : List ℕ) → a ∷ xs ≡ b ∷ ys → (a ≡ b) × (xs ≡ ys)
cons_parts a b xs ys e = (cc, cc)

queries_once : (qs rs : List (List ℕ)) → flat_map query_bytes qs ≡ flat_map query_bytes rs → qs ≡ rs
queries_once [] [] e = refl
queries_once [] (r ∷ rs) e = absurd cc
queries_once (q ∷ qs) [] e = absurd cc
queries_once (q ∷ qs) (r ∷ rs) e =
    let h =
    cons_parts (length q) (length r) (q ++ flat_map query_bytes qs)
    (r ++ flat_map query_bytes rs) e in
    let first : q ≡ r =
    sym (take_at q (flat_map query_bytes qs) (length q) refl)
    ∙ ap (take (length q)) h.1
    ∙ take_at r (flat_map query_bytes rs) (length q) (sym h.0) in
    let others : flat_map query_bytes qs ≡ flat_map query_bytes rs =
    sym (drop_at q (flat_map query_bytes qs) (length q) refl)
    ∙ ap (drop (length q)) h.1
    ∙ drop_at r (flat_map query_bytes rs) (length q) (sym h.0) in
    let same = queries_once qs rs others in
    ap (λ (t : List ℕ). t ∷ qs) first ∙ ap (λ (ts : List (List ℕ)). r ∷ ts) same

-- What a key is made of.
pub record IsSameRequest (code : ℕ) (p : Path) (qs : List (List ℕ)) (other : ℕ) (q : Path)
    (rs : List (List ℕ)) : Type 0 where
  pub method : code ≡ other
  pub path : p ≡ q
  pub queries : qs ≡ rs

-- Two requests with one key have the same method, path and query options.
pub key_of_once : (code : ℕ) (p : Path) (qs : List (List ℕ)) (other : ℕ) (q : Path)
    (rs : List (List ℕ))
    → FitsKey p
    → FitsKey q
    → key_of code p qs ≡ key_of other q rs
    → IsSameRequest code p qs other q rs
unfolding key_of
key_of_once code p qs other q rs fits fit e =
    let h =
    cons_parts code other (path_bytes p ++ flat_map query_bytes qs)
    (path_bytes q ++ flat_map query_bytes rs) e in
    let both : Some (p, flat_map query_bytes qs) ≡ Some (q, flat_map query_bytes rs) =
    sym (path_again p (flat_map query_bytes qs) fits)
    ∙ ap path_at h.1
    ∙ path_again q (flat_map query_bytes rs) fit in
    let pair = same_Some (p, flat_map query_bytes qs) (q, flat_map query_bytes rs) both in
    record {
      method = h.0;
      path = ap (λ (x : Path × List ℕ). x.0) pair;
      queries = queries_once qs rs (ap (λ (x : Path × List ℕ). x.1) pair);
    }
