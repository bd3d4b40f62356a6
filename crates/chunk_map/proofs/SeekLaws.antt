-- A cursor over ascending pairs that goes forward to a key.
use Rattle.std.proofs.Common.{
  ◌≡◌,
  true,
  false,
  cond,
  List,
  [],
  ◌∷◌,
  ◌++◌,
  length,
  ◌<◌,
  Some,
  None,
  refl,
  sym,
  ap,
  ◌∙◌,
  arith,
  append_assoc,
}
use Rattle.std.specs.declared.cmp.Ordering.{Ordering}
use Rattle.std.specs.declared.cmp.Ordering.TheVariants.{Less, Equal, Greater}
use Rattle.std.specs.Ordering.{is_eq, is_le}
use Rattle.std.specs.Cmp.{IsTotalOrder}
use Rattle.std.specs.Map.{lookup}
use Rattle.std.specs.BTreeMap.{is_at}
use Rattle.std.specs.BTreeMap.Range.{entries_from}
use Rattle.std.proofs.lemmas.Bool.{false≢true}
use Rattle.std.proofs.lemmas.List.{append-nil}
use Rattle.chunk_map.specs.Sorted.{IsAscending, begins_by, first_value}
use Rattle.chunk_map.proofs.SortedLaws.{
  all_behind,
  behind_of,
  front_of,
  from_back,
  from_front,
  lookup_less,
}

module _ {K V : Type 0} {R : K → K → Ordering} (o : IsTotalOrder R) (key : K) where
  -- the key is below all that stands behind
  pub seek_front : (fs bs : List (K × V))
      → IsAscending R (fs ++ bs)
      → begins_by R bs key ≡ false
      → entries_from (R key) (fs ++ bs) ≡ entries_from (R key) fs ++ bs
  seek_front fs [] up begins =
      ap (λ es. entries_from (R key) es) (append-nil fs)
      ∙ sym (append-nil (entries_from (R key) fs))
  seek_front fs (b ∷ bs) up begins =
      from_back R key fs (b ∷ bs) (behind_of o fs (b ∷ []) bs key up tt begins)

  -- the key is above all that stands in front
  pub seek_behind : (fs bs : List (K × V))
      → IsAscending R (fs ++ bs)
      → begins_by R bs key ≡ true
      → entries_from (R key) (fs ++ bs) ≡ entries_from (R key) bs
  seek_behind fs [] up begins = absurd (false≢true begins)
  seek_behind fs (b ∷ bs) up begins =
      from_front R key fs (b ∷ bs) (front_of o fs (b ∷ []) bs key up begins)

  -- what is found is what stands first then
  pub lookup_first : (es : List (K × V))
      → IsAscending R es
      → lookup (is_at (R key)) es ≡ first_value R key (entries_from (R key) es)
  unfolding IsAscending
  lookup_first [] up = refl
  lookup_first (e ∷ es) up = by (R key e.0) refl (lookup_first es up.1)
    where
      by : (r : Ordering)
          → R key e.0 ≡ r
          → lookup (is_at (R key)) es ≡ first_value R key (entries_from (R key) es)
          → cond (is_eq r) (Some e.1) (lookup (is_at (R key)) es)
          ≡ first_value R key
          (cond (is_le r) (e ∷ entries_from (R key) es) (entries_from (R key) es))
      by Less h more =
          lookup_less R key es (all_behind o e es key up.0 h)
          ∙ sym (ap (λ r. cond (is_eq r) (Some e.1) None) h)
      by Equal h more = sym (ap (λ r. cond (is_eq r) (Some e.1) None) h)
      by Greater h more = more

pub first_front : {K V : Type 0} (R : K → K → Ordering) (key : K) (es rest : List (K × V))
    → 0 < length es
    → first_value R key (es ++ rest) ≡ first_value R key es
first_front R key [] rest lt = absurd (omega arith)
first_front R key (e ∷ es) rest lt = refl

-- lists one after another, nested to the right and to the left
pub behind_two : {E : Type 0} (xs bs cs : List E) → xs ++ (bs ++ cs) ≡ (xs ++ bs) ++ cs
behind_two xs bs cs = sym (append_assoc xs bs cs)
