-- A path up to its last slash, from where a search finds it; and paths that are merged.
use Rattle.std.proofs.Common.{
  ◌≡◌,
  ℕ,
  zero,
  suc,
  ◌<◌,
  Bool,
  true,
  false,
  List,
  [],
  ◌∷◌,
  ◌++◌,
  Option,
  is_some,
  length,
  get_or,
  take,
  refl,
  sym,
  ap,
  ◌∙◌,
  append_assoc,
  arith,
}
use Rattle.std.specs.Prelude.{◌==◌}
use Rattle.std.proofs.lemmas.Bool.{false≢true}
use Rattle.std.proofs.lemmas.Bool.Decides.{nat_tests}
use mathlib.Core.Logic.{◌≢◌}
use Rattle.link_model.specs.Characters.{slash}
use Rattle.reference_model.specs.References.{
  Components,
  IsReference,
  components,
  recomposed,
  scheme_text,
  authority_text,
  query_text,
  fragment_text,
  before,
  from_first,
  has_octet,
}
use Rattle.reference_model.specs.Resolution.{segments_of, up_to_last_slash, resolution, resolved}
use Rattle.reference_model.proofs.ReferenceReading.{components-recomposed}
use Rattle.ref_resolve.proofs.CutLaws.{octet_nowhere, from_nowhere}
use Rattle.ref_resolve.proofs.Segments.{segments_after, first_segment}

-- without a slash nothing is left
up_to_none : (path : List ℕ) → has_octet slash path ≡ false → up_to_last_slash path ≡ []
up_to_none path h = rw (first_segment path, from_nowhere slash path h) refl

-- a slash that stands somewhere has a first offset
from_some : (path : List ℕ)
    → has_octet slash path ≡ true
    → (rest : List ℕ) × (from_first slash path ≡ slash ∷ rest)
unfolding from_first
from_some [] h = absurd (false≢true h)
from_some (c ∷ cs) h = by_slash (c == slash) refl (from_some cs)
  where
    by_slash : (b : Bool)
        → (c == slash) ≡ b
        → (has_octet slash cs ≡ true → (rest : List ℕ) × (from_first slash cs ≡ slash ∷ rest))
        → (rest : List ℕ) × (from_first slash (c ∷ cs) ≡ slash ∷ rest)
    by_slash true e later =
        let same : c ≡ slash = grind (arith, nat_tests, e) in
        (cs, rw e (ap (λ (x : ℕ). x ∷ cs) same))
    by_slash false e later = let found = later (rw e at h) in (found.0, rw e (found.1))

-- where a slash stands in the rest, the first octet stays
up_to_cons : (c : ℕ) (cs : List ℕ)
    → has_octet slash cs ≡ true
    → up_to_last_slash (c ∷ cs) ≡ c ∷ up_to_last_slash cs
unfolding segments_of
up_to_cons c cs h = by_slash (c == slash) refl
  where
    by_slash : (b : Bool) → (c == slash) ≡ b → up_to_last_slash (c ∷ cs) ≡ c ∷ up_to_last_slash cs
    by_slash true e =
        let same : c ≡ slash = grind (arith, nat_tests, e) in
        let cut : up_to_last_slash (c ∷ cs) ≡ slash ∷ up_to_last_slash cs =
        rw (e, first_segment cs) refl in
        cut ∙ ap (λ (x : ℕ). x ∷ up_to_last_slash cs) (sym same)
    by_slash false e =
        let found = from_some cs h in
        let two :
        segments_of cs
        ≡ before slash cs
        ∷ before slash (found.0)
        ∷ segments_after (from_first slash (found.0)) =
        first_segment cs
        ∙ ap (λ (r : List ℕ). before slash cs ∷ segments_after r) (found.1)
        ∙ ap (λ (r : List (List ℕ)). before slash cs ∷ r) (first_segment (found.0)) in
        rw (e, two) refl

-- a slash that is the last
slash_alone : (c : ℕ) (cs : List ℕ)
    → c ≡ slash
    → has_octet slash cs ≡ false
    → up_to_last_slash (c ∷ cs) ≡ c ∷ []
unfolding segments_of
slash_alone c cs e h =
    let test : (c == slash) ≡ true = grind (arith, nat_tests, e) in
    let cut : up_to_last_slash (c ∷ cs) ≡ slash ∷ [] =
    rw (test, first_segment cs, from_nowhere slash cs h) refl in
    cut ∙ ap (λ (x : ℕ). x ∷ []) (sym e)

octet_somewhere : (offset : ℕ) (text : List ℕ)
    → offset < length text
    → get_or text offset 0 ≡ slash
    → has_octet slash text ≡ true
octet_somewhere offset [] l e = absurd (omega (arith, l))
octet_somewhere zero (c ∷ cs) l e = grind (arith, nat_tests, e)
octet_somewhere (suc offset) (c ∷ cs) l e =
    grind (arith, nat_tests, octet_somewhere offset cs (omega (arith, l)) e)

-- a path up to the offset of its last slash
pub up_to_offset : (path : List ℕ) (offset : ℕ)
    → offset < length path
    → get_or path offset 0 ≡ slash
    → ((i : ℕ) → offset < i → i < length path → get_or path i 0 ≢ slash)
    → up_to_last_slash path ≡ take (suc offset) path
up_to_offset [] offset l e h = absurd (omega (arith, l))
up_to_offset (c ∷ cs) zero l e h =
    let none : has_octet slash cs ≡ false =
    octet_nowhere slash cs (λ i k. h (suc i) (omega arith) (omega (arith, k))) in
    slash_alone c cs e none
up_to_offset (c ∷ cs) (suc offset) l e h =
    let here : has_octet slash cs ≡ true = octet_somewhere offset cs (omega (arith, l)) e in
    up_to_cons c cs here
    ∙ ap (λ (r : List ℕ). c ∷ r) (up_to_offset cs offset (omega (arith, l)) e
    (λ i k m. h (suc i) (omega (arith, k)) (omega (arith, m))))

pub up_to_nowhere : (path : List ℕ)
    → ((i : ℕ) → i < length path → get_or path i 0 ≢ slash)
    → up_to_last_slash path ≡ []
up_to_nowhere path h = up_to_none path (octet_nowhere slash path h)

-- ---- what is resolved

pub fragment_kept : (base r : Components) → (resolution base r).fragment ≡ r.fragment
unfolding resolution
fragment_kept base r = by_scheme (is_some r.scheme) refl
  where
    by_authority : is_some r.scheme ≡ false
        → (b : Bool)
        → is_some r.authority ≡ b
        → (resolution base r).fragment ≡ r.fragment
    by_authority e true f = rw (e, f) refl
    by_authority e false f = rw (e, f) refl

    by_scheme : (b : Bool) → is_some r.scheme ≡ b → (resolution base r).fragment ≡ r.fragment
    by_scheme true e = rw e refl
    by_scheme false e = by_authority e (is_some r.authority) refl

-- the parts of a text, appended one by one
pub appended : (target : Components) (fragment : Option (List ℕ)) (t0 t1 t2 t3 t4 t5 : List ℕ)
    → t0 ≡ []
    → t1 ≡ t0 ++ scheme_text target.scheme
    → t2 ≡ t1 ++ authority_text target.authority
    → t3 ≡ t2 ++ target.path
    → t4 ≡ t3 ++ query_text target.query
    → t5 ≡ t4 ++ fragment_text fragment
    → fragment ≡ target.fragment
    → t5 ≡ recomposed target
unfolding recomposed
appended target fragment t0 t1 t2 t3 t4 t5 e0 e1 e2 e3 e4 e5 f =
    let s = scheme_text target.scheme in
    let a = authority_text target.authority in
    let q = query_text target.query in
    let whole : t5 ≡ ((((([] ++ s) ++ a) ++ target.path) ++ q) ++ fragment_text target.fragment) =
    e5 ∙ ap (λ (x : Option (List ℕ)). t4 ++ fragment_text x) f
    ∙ ap (λ (t : List ℕ). t ++ fragment_text target.fragment)
    (e4 ∙ ap (λ (t : List ℕ). t ++ q) (e3 ∙ ap (λ (t : List ℕ). t ++ target.path) (e2 ∙ ap (λ (t
    : List ℕ). t ++ a) (e1 ∙ ap (λ (t : List ℕ). t ++ s) e0)))) in
    whole ∙ simp append_assoc

-- the text that two references give
pub resolved_of : (b r : List ℕ) (base reference : Components) (text : List ℕ)
    → IsReference b base
    → IsReference r reference
    → text ≡ recomposed (resolution base reference)
    → text ≡ resolved b r
unfolding resolved
resolved_of b r base reference text x y e =
    let first : components b ≡ base =
    ap components x.spelled ∙ components-recomposed base x.allowed in
    let second : components r ≡ reference =
    ap components y.spelled ∙ components-recomposed reference y.allowed in
    e
    ∙ ap (λ (c : Components). recomposed (resolution c reference)) (sym first)
    ∙ ap (λ (c : Components). recomposed (resolution (components b) c)) (sym second)
