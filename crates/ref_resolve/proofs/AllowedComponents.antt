-- The components that a text is taken apart into are judged one by one.
use Rattle.std.proofs.Common.{
  ◌≡◌,
  ℕ,
  Bool,
  true,
  false,
  ◌&&◌,
  List,
  ◌++◌,
  Some,
  length,
  refl,
  sym,
  ap,
  ◌∙◌,
  length-append,
  arith,
}
use Rattle.link_model.specs.Characters.{
  question_mark,
  number_sign,
  is_path_character,
  is_query_character,
}
use Rattle.reference_model.specs.References.{
  Components,
  after,
  without_fragment,
  without_query,
  components,
  recomposed,
  scheme_text,
  authority_text,
  query_text,
  fragment_text,
  where_present,
  is_scheme,
  is_authority,
  is_text_of,
  path_fits,
  is_allowed,
  IsReference,
}
use Rattle.reference_model.specs.ReferenceFaults.{prefix_of_parts, parts_of, reference_fault_at}
use Rattle.reference_model.proofs.ReferenceLaws.{recomposed-components}
use Rattle.reference_model.proofs.ReferenceReading.{components-recomposed}
use Rattle.reference_model.proofs.ReferenceFaultLaws.{path_fits_beside}
use Rattle.ref_resolve.specs.ComponentFaults.{have_no_fault, size_of}

-- ---- the path of components that a text is taken apart into fits

path_fits_taken_apart : (text : List ℕ) → path_fits (components text) ≡ true
unfolding components
path_fits_taken_apart text =
    path_fits_beside (without_query text) (after question_mark (without_fragment text))
    (after number_sign text)

-- ---- so each component alone decides

middle_true : (a b c d e f : Bool)
    → d ≡ true
    → (a && b && c && d && e && f) ≡ (a && b && c && e && f)
middle_true true true true d e f h = rw h refl
middle_true true true false d e f h = refl
middle_true true false c d e f h = refl
middle_true false b c d e f h = refl

pub allowed_taken_apart : (text : List ℕ)
    → is_allowed (components text) ≡ have_no_fault (components text)
allowed_taken_apart text =
    let c = components text in
    middle_true (where_present is_scheme c.scheme) (where_present is_authority c.authority)
    (is_text_of is_path_character c.path) (path_fits c)
    (where_present (is_text_of is_query_character) c.query)
    (where_present (is_text_of is_query_character) c.fragment) (path_fits_taken_apart text)

-- ---- what is read

pub read_reference : (text : List ℕ) (c : Components)
    → c ≡ components text
    → have_no_fault c ≡ true
    → IsReference text c
read_reference text c e h = record {
  spelled = sym (ap recomposed e ∙ recomposed-components text);
  allowed = ap is_allowed e ∙ allowed_taken_apart text ∙ sym (ap have_no_fault e) ∙ h;
}

pub read_alone : (text : List ℕ) (c d : Components)
    → c ≡ components text
    → IsReference text d
    → c ≡ d
read_alone text c d e r = e ∙ ap components r.spelled ∙ components-recomposed d r.allowed

pub not_read : (text : List ℕ) (c d : Components)
    → c ≡ components text
    → have_no_fault c ≡ false
    → IsReference text d
    → ⊥
not_read text c d e h r =
    let same : d ≡ components text = sym (read_alone text c d e r) ∙ e in
    let good : have_no_fault c ≡ true =
    ap have_no_fault e
    ∙ sym (allowed_taken_apart text)
    ∙ sym (ap is_allowed same)
    ∙ r.allowed in
    true_false (sym good ∙ h)
  where
    true_false : true ≡ false → ⊥
    true_false k = cc

pub offset_of_fault : (text : List ℕ) (c : Components) (at : ℕ)
    → c ≡ components text
    → have_no_fault c ≡ false
    → at ≡ prefix_of_parts (parts_of c)
    → reference_fault_at text ≡ Some at
unfolding reference_fault_at
offset_of_fault text c at e h k =
    let bad : is_allowed (components text) ≡ false =
    allowed_taken_apart text ∙ sym (ap have_no_fault e) ∙ h in
    rw bad (ap (λ (n : ℕ). Some n)
    (ap (λ (x : Components). prefix_of_parts (parts_of x)) (sym e) ∙ sym k))

-- ---- how long the parts are

sizes : (c : Components) → length (recomposed c) ≡ size_of c
unfolding recomposed
sizes c = omega (
  arith,
  length-append (scheme_text c.scheme)
      (authority_text c.authority ++ (c.path ++ (query_text c.query ++ fragment_text c.fragment))),
  length-append (authority_text c.authority)
      (c.path ++ (query_text c.query ++ fragment_text c.fragment)),
  length-append c.path (query_text c.query ++ fragment_text c.fragment),
  length-append (query_text c.query) (fragment_text c.fragment),
)

pub size_taken_apart : (text : List ℕ) (c : Components)
    → c ≡ components text
    → size_of c ≡ length text
size_taken_apart text c e = sym (sizes c) ∙ ap length (ap recomposed e ∙ recomposed-components text)
