-- What stands in a list of parts of which one was changed in place.
use Rattle.std.proofs.Common.{
  ◌≡◌,
  ℕ,
  ◌+◌,
  ◌<◌,
  suc,
  zero,
  List,
  [],
  ◌∷◌,
  ◌++◌,
  length,
  take,
  drop,
  set,
  get_or,
  slice_set,
  slice_index_or,
  refl,
  sym,
  ap,
  ◌∙◌,
  subst,
  arith,
  append_assoc,
}
use Rattle.std.specs.List.{All, flat_map, insert, remove}
use Rattle.std.proofs.lemmas.List.{take-set, drop-set-lt, get_or-set_same, set-get_or, set_split}
use Rattle.std.proofs.lemmas.List.Elements.{All-append, All-cons, All-take, All-drop}
use Rattle.chunk_map.specs.declared.part.Outcome.{Outcome}
use Rattle.chunk_map.specs.Outcomes.{standing}

module _ {P E : Type 0} (pairs : P → List E) where
  -- the part at the index is what the two became
  joined : (parts : List P) (i : ℕ) (d e j : P)
      → suc i < length parts
      → pairs j ≡ pairs (slice_index_or parts i d) ++ pairs (slice_index_or parts (suc i) e)
      → flat_map pairs (slice_set (take (suc i) parts ++ drop (suc (suc i)) parts) i j)
      ≡ flat_map pairs parts
  joined [] i d e j lt is = absurd (omega arith)
  joined (p ∷ []) i d e j lt is = absurd (omega arith)
  joined (p ∷ q ∷ ps) zero d e j lt is =
      ap (λ es. es ++ flat_map pairs ps) is ∙ append_assoc (pairs p) (pairs q) (flat_map pairs ps)
  joined (p ∷ q ∷ ps) (suc i) d e j lt is =
      ap (λ es. pairs p ++ es) (joined (q ∷ ps) i d e j (omega arith) is)

  pub joined_next : (parts : List P) (i : ℕ) (d e j : P)
      → i + 1 < length parts
      → pairs j ≡ pairs (slice_index_or parts i d) ++ pairs (slice_index_or parts (i + 1) e)
      → flat_map pairs (slice_set (remove parts (i + 1)) i j) ≡ flat_map pairs parts
  joined_next parts i d e j lt is =
      let next : suc i ≡ i + 1 = omega arith in
      subst (λ n.
      flat_map pairs (slice_set (take n parts ++ drop (suc n) parts) i j)
      ≡ flat_map pairs parts) next
      (joined parts i d e j (omega (arith, lt)) (subst
      (λ n. pairs j ≡ pairs (slice_index_or parts i d) ++ pairs (slice_index_or parts n e))
      (sym next) is))

  -- what stands where one part became another
  pub stands_at : (parts : List P) (i : ℕ) (p d : P) (outcome : Outcome P) (whole : List E)
      → i < length parts
      → whole
      ≡ flat_map pairs (take i (slice_set parts i p))
      ++ (standing pairs (slice_index_or (slice_set parts i p) i d) outcome
      ++ flat_map pairs (drop (i + 1) (slice_set parts i p)))
      → whole
      ≡ flat_map pairs (take i parts)
      ++ (standing pairs p outcome ++ flat_map pairs (drop (i + 1) parts))
  stands_at parts i p d outcome whole lt is =
      is
      ∙ ap (λ ps.
      flat_map pairs ps
      ++ (standing pairs (slice_index_or (slice_set parts i p) i d) outcome
      ++ flat_map pairs (drop (i + 1) (slice_set parts i p)))) (take-set parts i p)
      ∙ ap (λ q.
      flat_map pairs (take i parts)
      ++ (standing pairs q outcome
      ++ flat_map pairs (drop (i + 1) (slice_set parts i p))))
      (get_or-set_same parts i p d lt)
      ∙ ap (λ ps. flat_map pairs (take i parts) ++ (standing pairs p outcome ++ flat_map pairs ps))
      (drop-set-lt (i + 1) parts i p (omega arith))

module _ {P : Type 0} (is_whole : P → Type 0) (parts : List P) (i : ℕ) where
  -- all are whole where those before one, that one and those behind it are
  pub all_around : i < length parts
      → All is_whole (take i parts)
      → ((d : P) → is_whole (slice_index_or parts i d))
      → All is_whole (drop (i + 1) parts)
      → All is_whole parts
  all_around lt front part behind k d within = whole k d within
    where
      here : parts ≡ take i parts ++ slice_index_or parts i d ∷ drop (suc i) parts
      here = sym (set-get_or parts i d) ∙ set_split parts i (slice_index_or parts i d) lt

      next : i + 1 ≡ suc i
      next = omega arith

      whole : All is_whole parts
      whole = subst (λ ps. All is_whole ps) (sym here)
          (All-append is_whole (take i parts) (slice_index_or parts i d ∷ drop (suc i) parts) front
          (All-cons is_whole (slice_index_or parts i d) (drop (suc i) parts) (part d)
          (subst (λ n. All is_whole (drop n parts)) next behind)))

  pub all_set : (p : P)
      → All is_whole (drop (i + 1) parts)
      → All is_whole (drop (i + 1) (slice_set parts i p))
  all_set p behind =
      subst (λ ps. All is_whole ps) (sym (drop-set-lt (i + 1) parts i p (omega arith))) behind

  pub all_removed : All is_whole (take i parts)
      → All is_whole (drop (i + 1) parts)
      → All is_whole (remove parts i)
  all_removed front behind =
      let next : i + 1 ≡ suc i = omega arith in
      All-append is_whole (take i parts) (drop (suc i) parts) front
      (subst (λ n. All is_whole (drop n parts)) next behind)

pub all_inserted : {P : Type 0} (is_whole : P → Type 0) (parts : List P) (i : ℕ) (p : P)
    → is_whole p
    → All is_whole parts
    → All is_whole (insert parts i p)
all_inserted is_whole parts i p one all =
    All-append is_whole (take i parts) (p ∷ drop i parts) (All-take is_whole i parts all)
    (All-cons is_whole p (drop i parts) one (All-drop is_whole i parts all))
