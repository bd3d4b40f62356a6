-- A reference has one reading into components, and `reference` finds it.
use Rattle.std.proofs.Common.{
  ◌≡◌,
  ℕ,
  Bool,
  true,
  false,
  List,
  [],
  ◌∷◌,
  ◌++◌,
  Option,
  Some,
  None,
  unwrap_or,
  refl,
  sym,
  ap,
  ◌∙◌,
  append_assoc,
  arith,
}
use Rattle.std.proofs.lemmas.Bool.Decides.{nat_tests}
use Rattle.link_model.specs.Characters.{colon, slash, question_mark, number_sign}
use Rattle.reference_model.specs.References.{
  Components,
  before,
  after,
  marked,
  without_fragment,
  without_query,
  has_colon_in_first_segment,
  scheme_in,
  after_scheme,
  after_two_slashes,
  authority_in,
  path_in,
  scheme_text,
  authority_text,
  query_text,
  fragment_text,
  components,
  recomposed,
  IsReference,
  is_allowed,
  reference,
}
use Rattle.rd_base.proofs.lemmas.Options.{some_same, none_some}
use Rattle.reference_model.proofs.ReferenceCuts.{cut, cut_from, after_some, has_octet-before_other}

-- ---- putting together what was taken apart

colon_cut : (text : List ℕ)
    → has_colon_in_first_segment text ≡ true
    → text ≡ before colon text ++ colon ∷ unwrap_or (after colon text) []
colon_cut text h =
    let here = after_some colon text (has_octet-before_other slash colon text h) in
    cut colon text ∙ ap (λ (o : Option (List ℕ)). before colon text ++ marked colon o) here

pub scheme_and_rest : (text : List ℕ) → text ≡ scheme_text (scheme_in text) ++ after_scheme text
scheme_and_rest text = by_colon (has_colon_in_first_segment text) refl
  where
    by_colon : (b : Bool)
        → has_colon_in_first_segment text ≡ b
        → text ≡ scheme_text (scheme_in text) ++ after_scheme text
    by_colon true e =
        rw e (colon_cut text e
        ∙ sym
        (append_assoc (before colon text) (colon ∷ []) (unwrap_or (after colon text) [])))
    by_colon false e = rw e refl

pub two_slashes : (text rest : List ℕ)
    → after_two_slashes text ≡ Some rest
    → text ≡ slash ∷ slash ∷ rest
two_slashes [] rest h = grind (arith, nat_tests)
two_slashes (c ∷ []) rest h = grind (arith, nat_tests)
two_slashes (c ∷ d ∷ cs) rest h = grind (arith, nat_tests)

pub authority_and_path : (text : List ℕ) → text ≡ authority_text (authority_in text) ++ path_in text
authority_and_path text = by_slashes (after_two_slashes text) refl
  where
    by_slashes : (o : Option (List ℕ))
        → after_two_slashes text ≡ o
        → text ≡ authority_text (authority_in text) ++ path_in text
    by_slashes None e = rw e refl
    by_slashes (Some rest) e =
        rw e
        (two_slashes text rest e ∙ ap (λ (r : List ℕ). slash ∷ slash ∷ r) (cut_from slash rest))

joined : (text front hier rest s a p q f : List ℕ)
    → text ≡ front ++ f
    → front ≡ hier ++ q
    → hier ≡ s ++ rest
    → rest ≡ a ++ p
    → s ++ (a ++ (p ++ (q ++ f))) ≡ text
joined text front hier rest s a p q f e1 e2 e3 e4 =
    let flat : ((s ++ (a ++ p)) ++ q) ++ f ≡ s ++ (a ++ (p ++ (q ++ f))) = simp append_assoc in
    sym flat
    ∙ sym (e1
    ∙ ap (λ (x : List ℕ). x ++ f)
    (e2 ∙ ap (λ (x : List ℕ). x ++ q) (e3 ∙ ap (λ (x : List ℕ). s ++ x) e4)))

-- the components of any text spell it
pub recomposed-components : (text : List ℕ) → recomposed (components text) ≡ text
unfolding recomposed components
recomposed-components text =
    let hier = without_query text in
    joined text (without_fragment text) hier (after_scheme hier)
    (scheme_text (scheme_in hier)) (authority_text (authority_in (after_scheme hier)))
    (path_in (after_scheme hier))
    (query_text (after question_mark (without_fragment text)))
    (fragment_text (after number_sign text))
    (cut number_sign text) (cut question_mark (without_fragment text)) (scheme_and_rest hier)
    (authority_and_path (after_scheme hier))

-- what `reference` gives are components of the text
pub reference_found : (bytes : List ℕ) (c : Components)
    → reference bytes ≡ Some c
    → IsReference bytes c
unfolding reference
reference_found bytes c h = by_test (is_allowed (components bytes)) refl
  where
    by_test : (b : Bool) → is_allowed (components bytes) ≡ b → IsReference bytes c
    by_test true e =
        let same : components bytes ≡ c = some_same (rw e at h) in
        record {
          spelled = sym (recomposed-components bytes) ∙ ap recomposed same;
          allowed = rw (← same) e;
        }
    by_test false e = absurd (none_some (rw e at h))
