-- Links that are alike. If their endpoints are judged alike, the same queries list them, and in the
-- same line.
use Rattle.std.specs.Prelude.{◌≡◌, ◌≤◌, Bool, true, List, [], ◌∷◌, length}
use Rattle.std.specs.List.{AllByRecursion}
use Rattle.rd_base.specs.declared.queries.Criterion.{Criterion}
use Rattle.rd_base.specs.declared.records.Item.{Item}
use Rattle.rd_base.specs.declared.records.Record.{Record}
use Rattle.record_model.specs.ListingLines.{link_line, same_lines}
use Rattle.record_model.specs.Matching.{endpoint_matches}
use Rattle.listing.specs.ListedLinks.{lines_by}

-- Two links with the same line, target, anchor and attributes.
pub record AreAlike (x y : Item) : Type 0 where
  pub line : link_line x ≡ link_line y
  pub target : x.target ≡ y.target
  pub anchor : x.anchor ≡ y.anchor
  pub pairs : x.pairs ≡ y.pairs

-- States that both lists have the same length, and that their links are alike, one by one.
abbrev pub AreAllAlike : List Item → List Item → Type 0
AreAllAlike [] [] = Unit {0}
AreAllAlike [] (y ∷ ys) = ⊥
AreAllAlike (x ∷ xs) [] = ⊥
AreAllAlike (x ∷ xs) (y ∷ ys) = AreAlike x y × AreAllAlike xs ys

-- States that each criterion matches both endpoints by themselves, or neither.
abbrev pub AreJudgedAlike : List Criterion → Record → Record → Type 0
AreJudgedAlike criteria r s =
    AllByRecursion (λ criterion. endpoint_matches criterion r ≡ endpoint_matches criterion s)
    criteria

-- States that, if `together` holds, two links that are alike get the same answer: the first from
-- `test`, the second from `other`.
abbrev pub Agree : Bool → (Item → Bool) → (Item → Bool) → Type 0
Agree together test other = together ≡ true → (x y : Item) → AreAlike x y → test x ≡ other y

-- The remaining links of two registrations, after links at the beginning that are alike were left
-- out. If the tests agree, the registrations contribute the same lines if and only if the remaining
-- links do.
pub record AreLeftAlike (together : Bool) (old new left others : List Item) : Type 0 where
  pub same : (test other : Item → Bool)
      → Agree together test other
      → same_lines (lines_by test left) (lines_by other others)
      ≡ same_lines (lines_by test old) (lines_by other new)
  pub fewer : length left ≤ length old
