-- A change of the value at a key: in the part where the key stands, and in the whole.
use Rattle.std.proofs.Common.{
  ◌≡◌,
  ℕ,
  ◌+◌,
  ◌<◌,
  List,
  ◌++◌,
  length,
  take,
  drop,
  slice_index_or,
  Option,
  Some,
  None,
  sym,
  ap,
  ◌∙◌,
  subst,
  arith,
  append_assoc,
}
use Rattle.std.specs.declared.cmp.Ordering.{Ordering}
use Rattle.std.specs.List.{flat_map}
use Rattle.std.specs.Cmp.{IsTotalOrder}
use Rattle.std.specs.BTreeMap.{is_at}
use Rattle.std.proofs.lemmas.List.{length-append}
use Rattle.chunk_map.specs.declared.change.Tally.{Tally}
use Rattle.chunk_map.specs.declared.change.Tally.TheVariants.{Same, More, Fewer}
use Rattle.chunk_map.specs.Changes.{IsChanged, IsCounted, with_value}
use Rattle.chunk_map.specs.Sorted.{IsAscending, AllGreater, AllLess}
use Rattle.chunk_map.proofs.SortedLaws.{ascends_insert, ascends_remove}
use Rattle.chunk_map.proofs.PartLaws.{cut_is, insert_at, remove_at, lookup_at}

-- what is changed ascends
pub ascends_changed : {K V : Type 0} {R : K → K → Ordering}
    → IsTotalOrder R
    → (gives : Option V → Option V → Type 0) (es : List (K × V)) (key : K) (es' : List (K × V))
    → IsAscending R es
    → IsChanged R gives es key es'
    → IsAscending R es'
ascends_changed {K} {V} {R} o gives es key es' up h =
    subst (λ xs. IsAscending R xs) (sym h.2) (by h.0)
  where
    by : (new : Option V) → IsAscending R (with_value R es key new)
    by None = ascends_remove R (is_at (R key)) es up
    by (Some v) = ascends_insert o key v es up

-- equal pairs are changed alike
pub changed_alike : {K V : Type 0} (R : K → K → Ordering) (gives : Option V → Option V → Type 0)
    {es es' fs fs' : List (K × V)} (key : K)
    → es ≡ fs
    → es' ≡ fs'
    → IsChanged R gives es key es'
    → IsChanged R gives fs key fs'
changed_alike R gives {es} {es'} {fs} {fs'} key old new h =
    subst (λ xs. IsChanged R gives xs key fs') old (subst (λ xs. IsChanged R gives es key xs) new h)

-- ---- how many there are

counted_between : {E : Type 0} (t : Tally) (front middle middle' behind : List E)
    → IsCounted t (length middle) (length middle')
    → IsCounted t (length (front ++ (middle ++ behind))) (length (front ++ (middle' ++ behind)))
counted_between t front middle middle' behind h =
    let a = length-append front (middle ++ behind) in
    let b = length-append middle behind in
    let a' = length-append front (middle' ++ behind) in
    let b' = length-append middle' behind in
    by t (length front) (length middle) (length middle') (length behind)
    (length (front ++ (middle ++ behind))) (length (front ++ (middle' ++ behind))) h
    (a ∙ ap (λ n. length front + n) b) (a' ∙ ap (λ n. length front + n) b')
  where
    by : (t : Tally) (f m m' b all all' : ℕ)
        → IsCounted t m m'
        → all ≡ f + (m + b)
        → all' ≡ f + (m' + b)
        → IsCounted t all all'
    by Same f m m' b all all' h a a' = omega arith
    by More f m m' b all all' h a a' = omega arith
    by Fewer f m m' b all all' h a a' = omega arith

-- ---- a change of the part where the key stands

module _ {P K V : Type 0} (pairs : P → List (K × V)) (R : K → K → Ordering) (parts : List P) (i : ℕ)
    (p : P) (lt : i < length parts) (is : p ≡ slice_index_or parts i p) (key : K)
    (before : AllGreater R key (flat_map pairs (take i parts)))
    (after : AllLess R key (flat_map pairs (drop (i + 1) parts))) where
  with_at : (new : Option V)
      → with_value R (flat_map pairs parts) key new
      ≡ flat_map pairs (take i parts)
      ++ (with_value R (pairs p) key new ++ flat_map pairs (drop (i + 1) parts))
  with_at None = remove_at pairs R parts i p lt is key before after
  with_at (Some v) = insert_at pairs R parts i p lt is key before after v

  pub changed_within : (gives : Option V → Option V → Type 0) (middle : List (K × V))
      → IsChanged R gives (pairs p) key middle
      → IsChanged R gives (flat_map pairs parts) key
      (flat_map pairs (take i parts) ++ (middle ++ flat_map pairs (drop (i + 1) parts)))
  changed_within gives middle h = (
    h.0,
    subst (λ old. gives old h.0) (sym (lookup_at pairs R parts i p lt is key before after)) h.1,
    ap (λ es. flat_map pairs (take i parts) ++ (es ++ flat_map pairs (drop (i + 1) parts))) h.2
        ∙ sym (with_at h.0),
  )

  pub counted_within : (t : Tally) (middle : List (K × V))
      → IsCounted t (length (pairs p)) (length middle)
      → IsCounted t (length (flat_map pairs parts)) (length
      (flat_map pairs (take i parts) ++ (middle ++ flat_map pairs (drop (i + 1) parts))))
  counted_within t middle h =
      subst (λ es.
      IsCounted t (length es) (length (flat_map pairs (take i parts)
      ++ (middle ++ flat_map pairs (drop (i + 1) parts)))))
      (sym (cut_is pairs parts i p lt is))
      (counted_between t (flat_map pairs (take i parts)) (pairs p) middle
      (flat_map pairs (drop (i + 1) parts)) h)

-- from the same number comes the same number
pub counted_alike : (t : Tally) (n m n' m' : ℕ)
    → n ≡ m
    → IsCounted t n n'
    → IsCounted t m m'
    → n' ≡ m'
counted_alike Same n m n' m' same a b = omega arith
counted_alike More n m n' m' same a b = omega arith
counted_alike Fewer n m n' m' same a b = omega arith

-- what was appended one after the other, after a change between them
pub appended_two : {E : Type 0} (front one two behind first second third whole : List E)
    → first ≡ front
    → second ≡ first ++ one
    → third ≡ second ++ two
    → whole ≡ third ++ behind
    → whole ≡ front ++ (one ++ (two ++ behind))
appended_two front one two behind first second third whole a b c d =
    d
    ∙ ap (λ es. es ++ behind) (c ∙ ap (λ es. es ++ two) (b ∙ ap (λ es. es ++ one) a))
    ∙ append_assoc (front ++ one) two behind
    ∙ append_assoc front one (two ++ behind)

-- parts that were joined with their neighbours
pub joined_around : {E : Type 0} (front one two behind front' one' one'' two'' behind'' : List E)
    → front' ++ one' ≡ front ++ one
    → one'' ++ (two'' ++ behind'') ≡ one' ++ (two ++ behind)
    → front' ++ (one'' ++ (two'' ++ behind'')) ≡ front ++ ((one ++ two) ++ behind)
joined_around front one two behind front' one' one'' two'' behind'' a b =
    ap (λ es. front' ++ es) b
    ∙ sym (append_assoc front' one' (two ++ behind))
    ∙ ap (λ es. es ++ (two ++ behind)) a
    ∙ append_assoc front one (two ++ behind)
    ∙ ap (λ es. front ++ es) (sym (append_assoc one two behind))
