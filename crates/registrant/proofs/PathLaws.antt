-- The path of a location, segment by segment.
use Rattle.std.proofs.Common.{
  ◌≡◌,
  ℕ,
  true,
  false,
  List,
  [],
  ◌∷◌,
  ◌++◌,
  refl,
  sym,
  ap,
  ◌∙◌,
  append_assoc,
}
use Rattle.std.specs.List.{list_all}
use Rattle.std.specs.Str.{is_utf8}
use Rattle.std.proofs.lemmas.Bool.{and_left, and_right, and_from, and_parts}
use Rattle.client_model.specs.Verdicts.{is_path}

-- one that is no text
all_but : (before rest : List (List ℕ)) (v : List ℕ)
    → is_utf8 v ≡ false
    → list_all is_utf8 (before ++ v ∷ rest) ≡ false
all_but [] rest v e = and_left (is_utf8 v) (list_all is_utf8 rest) e
all_but (b ∷ before) rest v e =
    and_right (is_utf8 b) (list_all is_utf8 (before ++ v ∷ rest)) (all_but before rest v e)

bad_path : (before rest : List (List ℕ)) (v : List ℕ)
    → is_utf8 v ≡ false
    → is_path (before ++ v ∷ rest) ≡ false
bad_path [] rest v e = all_but [] rest v e
bad_path (b ∷ before) rest v e = all_but (b ∷ before) rest v e

-- one more that is
pub all_with : (before : List (List ℕ)) (v : List ℕ)
    → list_all is_utf8 before ≡ true
    → is_utf8 v ≡ true
    → list_all is_utf8 (before ++ v ∷ []) ≡ true
all_with [] v h e = and_from (is_utf8 v) true e refl
all_with (b ∷ before) v h e =
    let parts = and_parts (is_utf8 b) (list_all is_utf8 before) h in
    and_from
    (is_utf8 b)
    (list_all is_utf8 (before ++ v ∷ []))
    parts.0
    (all_with before v parts.1 e)

pub good_path : (path : List (List ℕ))
    → list_all is_utf8 path ≡ true
    → (path ≡ [] → ⊥)
    → is_path path ≡ true
good_path [] h some = absurd (some refl)
good_path (v ∷ path) h some = h

-- ---- one segment of those that are left

-- one that is no text
pub path_bad : (path left new whole : List (List ℕ)) (v : List ℕ)
    → path ++ left ≡ whole
    → left ≡ v ∷ new
    → is_utf8 v ≡ false
    → is_path whole ≡ false
path_bad path left new whole v so_far steps bad =
    sym (ap is_path (sym (ap (λ l. path ++ l) steps) ∙ so_far)) ∙ bad_path path new v bad

-- one that is
pub path_more : (path left new whole : List (List ℕ)) (v : List ℕ)
    → path ++ left ≡ whole
    → left ≡ v ∷ new
    → (path ++ v ∷ []) ++ new ≡ whole
path_more path left new whole v so_far steps =
    append_assoc path (v ∷ []) new ∙ (sym (ap (λ l. path ++ l) steps) ∙ so_far)
