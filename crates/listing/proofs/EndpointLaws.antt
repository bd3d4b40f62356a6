-- An endpoint by itself: the attributes that each endpoint has, and then its extra ones.
use Rattle.std.proofs.Common.{
  ◌≡◌,
  ℕ,
  Bool,
  true,
  false,
  ◌&&◌,
  ◌||◌,
  bytes_eq,
  codes,
  List,
  [],
  ◌∷◌,
  ◌++◌,
  Option,
  Some,
  None,
  refl,
  sym,
  ap,
  ap₂,
  subst,
  ◌∙◌,
}
use Rattle.std.proofs.Math.Bool.{or-false}
use Rattle.std.proofs.lemmas.Bool.{false≢true, false_from_ne_true, and_left}
use Rattle.std.proofs.lemmas.List.Folds.{list_any-append}
use Rattle.std.proofs.lemmas.Slice.Eq.{bytes_eq-Decides}
use Rattle.rd_base.specs.declared.attributes.Pair.{Pair}
use Rattle.rd_base.specs.declared.queries.Criterion.{Criterion}
use Rattle.rd_base.specs.declared.records.Record.{Record}
use Rattle.record_model.specs.Matching.{
  is_href,
  matches_named,
  matches_pairs,
  matches_value,
  endpoint_pairs,
  endpoint_matches,
  endpoint_type,
  sector_pairs,
}
use Rattle.record_model.specs.ListingLines.{own_pairs}

-- pairs after the sector's
after_sector : (base name kind : Pair) (sector : Option (List ℕ)) (extra : List Pair)
    → base ∷ name ∷ (sector_pairs sector ++ (kind ∷ extra))
    ≡ (base ∷ name ∷ (sector_pairs sector ++ (kind ∷ []))) ++ extra
after_sector base name kind None extra = refl
after_sector base name kind (Some text) extra = refl

-- an endpoint's attributes are its own ones and its extra ones
pub endpoint_pairs-parts : (r : Record) → endpoint_pairs r ≡ own_pairs r ++ r.attrs
unfolding endpoint_pairs
endpoint_pairs-parts r = after_sector _ _ _ r.name.sector r.attrs

-- a criterion of another name is met by one of these
pub endpoint_by_parts : (criterion : Criterion) (r : Record) (own extra : Bool)
    → is_href criterion ≡ false
    → own ≡ matches_pairs criterion (own_pairs r)
    → extra ≡ matches_pairs criterion r.attrs
    → (own || extra) ≡ endpoint_matches criterion r
unfolding endpoint_matches
endpoint_by_parts criterion r own extra other in_own in_extra =
    rw other (
    ap (λ (b : Bool). b || extra) in_own
    ∙ ap (λ (b : Bool). matches_pairs criterion (own_pairs r) || b) in_extra
    ∙ sym (list_any-append (λ (pair : Pair).
    bytes_eq pair.name criterion.name
    && matches_named criterion.name criterion.pattern pair.value) (own_pairs r)
    r.attrs)
    ∙ ap (matches_pairs criterion) (sym (endpoint_pairs-parts r)))

-- the same for a criterion of this name and pattern
pub endpoint_by_texts : (criterion : Criterion) (r : Record) (own extra : Bool)
    (name pattern : List ℕ) (attrs : List Pair)
    → name ≡ criterion.name
    → pattern ≡ criterion.pattern
    → attrs ≡ r.attrs
    → bytes_eq name (codes "href") ≡ false
    → own ≡ matches_pairs (record { name = name; pattern = pattern }) (own_pairs r)
    → extra ≡ matches_pairs (record { name = name; pattern = pattern }) attrs
    → (own || extra) ≡ endpoint_matches criterion r
endpoint_by_texts criterion r own extra name pattern attrs named told given other in_own in_extra =
    let make : List ℕ → List ℕ → Criterion = λ n p. record { name = n; pattern = p } in
    let same : make name pattern ≡ criterion = ap₂ make named told in
    subst (λ (k : Criterion). (own || extra) ≡ endpoint_matches k r) same
    (endpoint_by_parts (record { name = name; pattern = pattern }) r own extra other in_own
    (in_extra ∙ ap (matches_pairs (record { name = name; pattern = pattern })) given))

-- the type of endpoints is one part, which a pattern matches as a whole
pub is_of_type : (name pattern : List ℕ)
    → (bytes_eq name (codes "rt") && matches_value pattern endpoint_type)
    ≡ (bytes_eq (codes "rt") name && matches_named name pattern endpoint_type)
unfolding matches_named
is_of_type name pattern = by (bytes_eq name (codes "rt")) refl
  where
    by : (named : Bool)
        → bytes_eq name (codes "rt") ≡ named
        → (named && matches_value pattern endpoint_type)
        ≡ (bytes_eq (codes "rt") name && matches_named name pattern endpoint_type)
    by true same =
        subst (λ (n : List ℕ).
        matches_value pattern endpoint_type
        ≡ (bytes_eq (codes "rt") n && matches_named n pattern endpoint_type))
        (sym ((bytes_eq-Decides name (codes "rt")).0 same)) (sym (or-false _))
    by false other =
        let never : bytes_eq (codes "rt") name ≡ false =
        false_from_ne_true _
        (λ h. false≢true (sym other ∙ (bytes_eq-Decides name (codes "rt")).1 (sym
        ((bytes_eq-Decides (codes "rt") name).0 h)))) in
        sym (and_left _ _ never)
