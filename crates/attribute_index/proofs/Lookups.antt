-- What a look-up finds in a map where a pair was put or taken.
use Rattle.std.proofs.Common.{
  ◌≡◌,
  Bool,
  true,
  false,
  cond,
  List,
  [],
  ◌∷◌,
  Some,
  None,
  refl,
  sym,
  ap,
  ◌∙◌,
}
use Rattle.std.specs.declared.cmp.Ordering.{Ordering}
use Rattle.std.specs.declared.cmp.Ordering.TheVariants.{Less, Equal, Greater}
use Rattle.std.specs.Ordering.{is_eq, match_ordering}
use Rattle.std.specs.List.{AllByRecursion}
use Rattle.std.specs.Cmp.{IsTotalOrder, alike_right, Equal-is}
use Rattle.std.specs.Map.{lookup, remove_entry}
use Rattle.std.specs.BTreeMap.{insert_entry, is_at}
use Rattle.std.proofs.lemmas.Map.{NonePasses, lookup-none}
use Rattle.std.proofs.lemmas.Bool.{false≢true}
use Rattle.rd_base.proofs.lemmas.Each.{each_weaker}
use Rattle.chunk_map.specs.Sorted.{IsAscending}

cond_again : {A : Type 0} (t : Bool) (x y z : A) → cond t x z ≡ cond t x (cond t y z)
cond_again true x y z = refl
cond_again false x y z = refl

cond_alike : {A : Type 0} (t : Bool) (x : A) → x ≡ cond t x x
cond_alike true x = refl
cond_alike false x = refl

cond_swapped : {A : Type 0} (s t : Bool) (x y z : A) → (s ≡ true → t ≡ true → ⊥)
    → cond s x (cond t y z) ≡ cond t y (cond s x z)
cond_swapped true true x y z apart = absurd (apart refl refl)
cond_swapped true false x y z apart = refl
cond_swapped false true x y z apart = refl
cond_swapped false false x y z apart = refl

module _ {K : Type 0} {R : K → K → Ordering} (o : IsTotalOrder R) where
  -- a key that is equal to two keys finds them equal
  equal_keys : (q a b : K) → is_at (R q) a ≡ true → is_at (R q) b ≡ true → R a b ≡ Equal
  equal_keys q a b s t = sym (o.congr q a b ((Equal-is (R q a)).0 s)) ∙ (Equal-is (R q b)).0 t

module _ {K X : Type 0} {R : K → K → Ordering} (o : IsTotalOrder R) where
  -- a key that is equal to the first of ascending keys is equal to no other
  pub none_behind : (q k : K) (es : List (K × X)) → is_at (R q) k ≡ true
      → AllByRecursion (λ x. R k x.0 ≡ Less) es → NonePasses (is_at (R q)) es
  none_behind q k es same up =
      each_weaker (λ x. R k x.0 ≡ Less) (λ x. is_at (R q) x.0 ≡ false)
      (λ x less. ap is_eq (o.congr q k x.0 ((Equal-is (R q k)).0 same) ∙ less)) es up

  -- equal keys find the same
  pub lookup_alike : (q k : K) (es : List (K × X)) → is_at (R q) k ≡ true
      → lookup (is_at (R q)) es ≡ lookup (is_at (R k)) es
  lookup_alike q k [] same = refl
  lookup_alike q k (e ∷ es) same =
      ap (λ r. cond (is_eq r) (Some e.1) (lookup (is_at (R q)) es))
      (o.congr q k e.0 ((Equal-is (R q k)).0 same))
      ∙ ap (λ found. cond (is_at (R k) e.0) (Some e.1) found) (lookup_alike q k es same)

  pub lookup-insert_entry : (q k : K) (v : X) (es : List (K × X))
      → lookup (is_at (R q)) (insert_entry R es k v)
      ≡ cond (is_at (R q) k) (Some v) (lookup (is_at (R q)) es)
  lookup-insert_entry q k v [] = refl
  lookup-insert_entry q k v (e ∷ es) = by (R k e.0) refl (lookup-insert_entry q k v es)
    where
      by : (r : Ordering) → R k e.0 ≡ r
          → lookup (is_at (R q)) (insert_entry R es k v)
          ≡ cond (is_at (R q) k) (Some v) (lookup (is_at (R q)) es)
          → lookup (is_at (R q))
          (match_ordering r ((k, v) ∷ e ∷ es) ((e.0, v) ∷ es) (e ∷ insert_entry R es k v))
          ≡ cond (is_at (R q) k) (Some v)
          (cond (is_at (R q) e.0) (Some e.1) (lookup (is_at (R q)) es))
      by Less h more = refl
      by Equal h more =
          cond_again (is_at (R q) e.0) (Some v) (Some e.1) (lookup (is_at (R q)) es)
          ∙ ap (λ r. cond (is_eq r) (Some v)
          (cond (is_at (R q) e.0) (Some e.1) (lookup (is_at (R q)) es)))
          (sym (alike_right o k e.0 q h))
      by Greater h more =
          ap (cond (is_at (R q) e.0) (Some e.1)) more
          ∙ cond_swapped (is_at (R q) e.0) (is_at (R q) k) (Some e.1) (Some v)
          (lookup (is_at (R q)) es)
          (λ s t. false≢true (sym (ap is_eq h) ∙ ap is_eq (equal_keys o q k e.0 t s)))

  pub lookup-remove_entry : (q k : K) (es : List (K × X)) → IsAscending R es
      → lookup (is_at (R q)) (remove_entry (is_at (R k)) es)
      ≡ cond (is_at (R q) k) None (lookup (is_at (R q)) es)
  unfolding IsAscending
  lookup-remove_entry q k [] up = cond_alike (is_at (R q) k) None
  lookup-remove_entry q k (e ∷ es) up = by (is_at (R k) e.0) refl (lookup-remove_entry q k es up.1)
    where
      here : (t : Bool) → is_at (R q) e.0 ≡ t
          → lookup (is_at (R q)) es ≡ cond t None (cond t (Some e.1) (lookup (is_at (R q)) es))
      here true s = lookup-none (is_at (R q)) es (none_behind q e.0 es s up.0)
      here false s = refl

      by : (t : Bool) → is_at (R k) e.0 ≡ t
          → lookup (is_at (R q)) (remove_entry (is_at (R k)) es)
          ≡ cond (is_at (R q) k) None (lookup (is_at (R q)) es)
          → lookup (is_at (R q)) (cond t es (e ∷ remove_entry (is_at (R k)) es))
          ≡ cond (is_at (R q) k) None
          (cond (is_at (R q) e.0) (Some e.1) (lookup (is_at (R q)) es))
      by true s more =
          here (is_at (R q) e.0) refl
          ∙ ap (λ r. cond (is_eq r) None
          (cond (is_at (R q) e.0) (Some e.1) (lookup (is_at (R q)) es)))
          (sym (alike_right o k e.0 q ((Equal-is (R k e.0)).0 s)))
      by false s more =
          ap (cond (is_at (R q) e.0) (Some e.1)) more
          ∙ cond_swapped (is_at (R q) e.0) (is_at (R q) k) (Some e.1) None
          (lookup (is_at (R q)) es)
          (λ a b. false≢true (sym s ∙ ap is_eq (equal_keys o q k e.0 b a)))
