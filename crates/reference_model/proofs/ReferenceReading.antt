-- The components of a reference are those that its text is taken apart into.
use Rattle.std.proofs.Common.{
  ◌≡◌,
  ℕ,
  Bool,
  true,
  false,
  not,
  ◌&&◌,
  ◌||◌,
  List,
  [],
  ◌∷◌,
  ◌++◌,
  Option,
  Some,
  None,
  is_some,
  refl,
  sym,
  ap,
  ◌∙◌,
  append_assoc,
  append-nil,
  arith,
}
use Rattle.std.specs.Prelude.{◌==◌, if◌then◌else◌}
use Rattle.std.specs.List.{list_all}
use Rattle.std.specs.Char.{is_ascii_alphabetic}
use Rattle.std.proofs.lemmas.Bool.{and_parts, not-true, false≢true}
use Rattle.std.proofs.lemmas.Bool.Decides.{nat_tests}
use Rattle.link_model.specs.Characters.{
  colon,
  slash,
  question_mark,
  number_sign,
  is_empty,
  is_scheme_character,
  is_path_character,
  is_query_character,
}
use Rattle.reference_model.specs.References.{
  Components,
  before,
  after,
  begins_with,
  from_first,
  has_octet,
  without_fragment,
  without_query,
  has_colon_in_first_segment,
  scheme_in,
  after_scheme,
  after_two_slashes,
  authority_in,
  path_in,
  scheme_text,
  authority_text,
  query_text,
  fragment_text,
  components,
  recomposed,
  where_present,
  is_scheme,
  is_authority,
  is_text_of,
  path_fits,
  IsReference,
  is_allowed,
  reference,
}
use Rattle.reference_model.proofs.ReferenceCuts.{before-marked, after-marked, has_octet-append}
use Rattle.rd_base.proofs.lemmas.Options.{some_same}
use Rattle.reference_model.proofs.ReferenceMarks.{
  no_mark_in_run,
  no_mark_in_text,
  no_mark_in_authority,
  no_mark_first,
  IsNoAuthorityMark,
}
use Rattle.rd_base.proofs.lemmas.Numbers.{other_octet}

pub no_mark_appended : (mark : ℕ) (a b : List ℕ)
    → has_octet mark a ≡ false
    → has_octet mark b ≡ false
    → has_octet mark (a ++ b) ≡ false
no_mark_appended mark a b h k = has_octet-append mark a b ∙ rw (h, k) refl

pub before-append : (mark : ℕ) (a b : List ℕ)
    → has_octet mark a ≡ false
    → before mark (a ++ b) ≡ a ++ before mark b
unfolding before
before-append mark [] b h = refl
before-append mark (c ∷ a) b h = grind (arith, nat_tests, before-append mark a b)

pub from_first-append : (mark : ℕ) (a b : List ℕ)
    → has_octet mark a ≡ false
    → from_first mark (a ++ b) ≡ from_first mark b
unfolding from_first
from_first-append mark [] b h = refl
from_first-append mark (c ∷ a) b h = grind (arith, nat_tests, from_first-append mark a b)

-- ---- schemes

pub no_mark_in_scheme : (mark : ℕ)
    → is_ascii_alphabetic mark ≡ false
    → is_scheme_character mark ≡ false
    → (scheme : List ℕ)
    → is_scheme scheme ≡ true
    → has_octet mark scheme ≡ false
no_mark_in_scheme mark a s [] h = refl
no_mark_in_scheme mark a s (c ∷ cs) h =
    let parts = and_parts (is_ascii_alphabetic c) (list_all is_scheme_character cs) h in
    no_mark_first mark c cs (other_octet is_ascii_alphabetic c mark (parts.0) a)
    (no_mark_in_run is_scheme_character mark s cs (parts.1))

pub colon_after_scheme : (scheme rest : List ℕ)
    → is_scheme scheme ≡ true
    → has_colon_in_first_segment (scheme ++ colon ∷ rest) ≡ true
unfolding before
colon_after_scheme scheme rest h =
    rw (before-append slash scheme (colon ∷ rest) (no_mark_in_scheme slash refl refl scheme h))
    (has_octet-append colon scheme (colon ∷ before slash rest) ∙ grind (arith, nat_tests))

scheme_read : (scheme : Option (List ℕ)) (rest : List ℕ)
    → where_present is_scheme scheme ≡ true
    → (is_some scheme || not (has_colon_in_first_segment rest)) ≡ true
    → (scheme_in (scheme_text scheme ++ rest) ≡ scheme)
    × (after_scheme (scheme_text scheme ++ rest) ≡ rest)
scheme_read None rest h k =
    let no_colon = not-true (has_colon_in_first_segment rest) k in
    (rw no_colon refl, rw no_colon refl)
scheme_read (Some scheme) rest h k =
    let flat : (scheme ++ colon ∷ []) ++ rest ≡ scheme ++ colon ∷ rest =
    append_assoc scheme (colon ∷ []) rest in
    let here = colon_after_scheme scheme rest h in
    let no_colon = no_mark_in_scheme colon refl refl scheme h in
    let front : before colon (scheme ++ colon ∷ rest) ≡ scheme =
    before-marked colon scheme (Some rest) no_colon in
    let back : after colon (scheme ++ colon ∷ rest) ≡ Some rest =
    after-marked colon scheme (Some rest) no_colon in
    (rw (flat, here, front) refl, rw (flat, here, back) refl)

-- ---- authorities and paths

path_after_authority : (path : List ℕ)
    → (is_empty path || begins_with slash path) ≡ true
    → (before slash path ≡ []) × (from_first slash path ≡ path)
unfolding before from_first
path_after_authority [] h = (refl, refl)
path_after_authority (c ∷ cs) h = (rw h refl, rw h refl)

none_from : {A : Type 0} (o : Option A) → not (is_some o) ≡ true → o ≡ None
none_from None h = refl
none_from (Some x) h = absurd (false≢true h)

authority_read : (authority : Option (List ℕ)) (path : List ℕ)
    → where_present (λ a. not (has_octet slash a)) authority ≡ true
    → (if is_some authority then is_empty path
    || begins_with slash path else not (is_some (after_two_slashes path)))
    ≡ true
    → (authority_in (authority_text authority ++ path) ≡ authority)
    × (path_in (authority_text authority ++ path) ≡ path)
authority_read None path h k =
    let none = none_from (after_two_slashes path) k in (rw none refl, rw none refl)
authority_read (Some a) path h k =
    let no_slash = not-true (has_octet slash a) h in
    let parts = path_after_authority path k in (
      ap (λ (x : List ℕ). Some x)
          (before-append slash a path no_slash ∙ rw (parts.0) (append-nil a)),
      from_first-append slash
          a path no_slash
          ∙ parts.1,
    )

-- ---- the whole

six_parts : (a b c d e f : Bool)
    → (a && b && c && d && e && f) ≡ true
    → (a ≡ true) × (b ≡ true) × (c ≡ true) × (d ≡ true) × (e ≡ true) × (f ≡ true)
six_parts a b c d e f h =
    let x = and_parts (a && b && c && d && e) f h in
    let y = and_parts (a && b && c && d) e (x.0) in
    let z = and_parts (a && b && c) d (y.0) in
    let v = and_parts (a && b) c (z.0) in
    let w = and_parts a b (v.0) in
    (w.0, w.1, v.1, z.1, y.1, x.1)

no_slash_in_authority : (authority : Option (List ℕ))
    → where_present is_authority authority ≡ true
    → where_present (λ a. not (has_octet slash a)) authority ≡ true
no_slash_in_authority None h = refl
no_slash_in_authority (Some a) h =
    rw (no_mark_in_authority slash (record {
      host = record {
        name =
            refl;
        literal =
            refl;
        digit =
            refl;
        hexdigit =
            refl;
        percent =
            refl;
        colon_octet = refl;
        left = refl;
        right = refl;
      };
      userinfo = refl;
      at = refl;
    }) a h) refl

-- a mark that ends a component which may not have it
pub record IsEnd (mark : ℕ) : Type 0 where
  pub alphabetic : is_ascii_alphabetic mark ≡ false
  pub scheme : is_scheme_character mark ≡ false
  pub path : is_path_character mark ≡ false
  pub authority : IsNoAuthorityMark mark
  pub slash_octet : (slash == mark) ≡ false

pub end_question_mark : IsEnd question_mark
end_question_mark = record {
  alphabetic = refl;
  scheme = refl;
  path = refl;
  slash_octet = refl;
  authority = record {
    host =
        record {
          name =
              refl;
          literal =
              refl;
          digit =
              refl;
          hexdigit =
              refl;
          percent = refl;
          colon_octet = refl;
          left = refl;
          right = refl;
        };
    userinfo = refl;
    at = refl;
  };
}

pub end_number_sign : IsEnd number_sign
end_number_sign = record {
  alphabetic = refl;
  scheme = refl;
  path = refl;
  slash_octet = refl;
  authority = record {
    host =
        record {
          name =
              refl;
          literal =
              refl;
          digit =
              refl;
          hexdigit =
              refl;
          percent = refl;
          colon_octet = refl;
          left = refl;
          right = refl;
        };
    userinfo = refl;
    at = refl;
  };
}

pub no_end_before_path : (mark : ℕ)
    → IsEnd mark
    → (scheme authority : Option (List ℕ)) (path : List ℕ)
    → where_present is_scheme scheme ≡ true
    → where_present is_authority authority ≡ true
    → is_text_of is_path_character path ≡ true
    → has_octet mark (scheme_text scheme ++ (authority_text authority ++ path)) ≡ false
no_end_before_path mark m scheme authority path s a p =
    no_mark_appended mark (scheme_text scheme) (authority_text authority ++ path)
    (in_scheme scheme s)
    (no_mark_appended mark (authority_text authority) path (in_authority authority a)
    (no_mark_in_text is_path_character mark m.path m.authority.host.percent
    m.authority.host.hexdigit 0 path p))
  where
    in_scheme : (o : Option (List ℕ))
        → where_present is_scheme o ≡ true
        → has_octet mark (scheme_text o) ≡ false
    in_scheme None h = refl
    in_scheme (Some text) h =
        no_mark_appended mark text (colon ∷ [])
        (no_mark_in_scheme mark m.alphabetic m.scheme text h)
        (no_mark_first mark colon [] m.authority.host.colon_octet refl)

    in_authority : (o : Option (List ℕ))
        → where_present is_authority o ≡ true
        → has_octet mark (authority_text o) ≡ false
    in_authority None h = refl
    in_authority (Some text) h =
        no_mark_first mark slash (slash ∷ text) m.slash_octet
        (no_mark_first mark slash text m.slash_octet
        (no_mark_in_authority mark m.authority text h))

pub no_number_sign_in_query : (query : Option (List ℕ))
    → where_present (is_text_of is_query_character) query ≡ true
    → has_octet number_sign (query_text query) ≡ false
no_number_sign_in_query None h = refl
no_number_sign_in_query (Some text) h =
    no_mark_first number_sign question_mark text refl
    (no_mark_in_text is_query_character number_sign refl refl refl 0 text h)

-- whether the path may stand beside the scheme and the authority, as `path_fits` says it
abbrev fits : Option (List ℕ) → Option (List ℕ) → List ℕ → Bool
fits scheme authority path =
    path_fits (record
    { scheme = scheme; authority = authority; path = path; query = None; fragment = None })

no_colon : (scheme authority : Option (List ℕ)) (path : List ℕ)
    → fits scheme authority path ≡ true
    → (is_some scheme || not (has_colon_in_first_segment (authority_text authority ++ path))) ≡ true
unfolding before
no_colon scheme None path h =
    (and_parts (not (is_some (after_two_slashes path)))
    (is_some scheme || not (has_colon_in_first_segment path)) h).1
no_colon None (Some a) path h = refl
no_colon (Some s) (Some a) path h = refl

path_fits_alone : (scheme authority : Option (List ℕ)) (path : List ℕ)
    → fits scheme authority path ≡ true
    → (if is_some authority then is_empty path
    || begins_with slash path else not (is_some (after_two_slashes path)))
    ≡ true
path_fits_alone scheme None path h =
    (and_parts (not (is_some (after_two_slashes path)))
    (is_some scheme || not (has_colon_in_first_segment path)) h).0
path_fits_alone scheme (Some a) path h = h

same_components : (a b : Components)
    → a.scheme ≡ b.scheme
    → a.authority ≡ b.authority
    → a.path ≡ b.path
    → a.query ≡ b.query
    → a.fragment ≡ b.fragment
    → a ≡ b
same_components a b s x p q f = λ i. record {
  scheme = s i;
  authority = x i;
  path = p i;
  query = q i;
  fragment = f i;
}

flat_front : (s a p q f : List ℕ) → s ++ (a ++ (p ++ (q ++ f))) ≡ (s ++ (a ++ (p ++ q))) ++ f
flat_front s a p q f = simp append_assoc

flat_hier : (s a p q : List ℕ) → s ++ (a ++ (p ++ q)) ≡ (s ++ (a ++ p)) ++ q
flat_hier s a p q = simp append_assoc

-- what is taken apart is what was put together
pub components-recomposed : (c : Components) → is_allowed c ≡ true → components (recomposed c) ≡ c
unfolding components recomposed
components-recomposed c h =
    let all =
    six_parts (where_present is_scheme c.scheme) (where_present is_authority c.authority)
    (is_text_of is_path_character c.path) (path_fits c)
    (where_present (is_text_of is_query_character) c.query)
    (where_present (is_text_of is_query_character) c.fragment) h in
    let s = scheme_text c.scheme in
    let a = authority_text c.authority in
    let q = query_text c.query in
    let f = fragment_text c.fragment in
    let front = s ++ (a ++ (c.path ++ q)) in
    let hier = s ++ (a ++ c.path) in
    let text = s ++ (a ++ (c.path ++ (q ++ f))) in
    let before_query : has_octet question_mark hier ≡ false =
    no_end_before_path question_mark end_question_mark c.scheme c.authority c.path (all.0)
    (all.1) (all.2) in
    let before_fragment : has_octet number_sign hier ≡ false =
    no_end_before_path number_sign end_number_sign c.scheme c.authority c.path (all.0) (all.1)
    (all.2) in
    let in_front : has_octet number_sign front ≡ false =
    rw (flat_hier s a (c.path) q)
    (no_mark_appended number_sign hier q before_fragment (no_number_sign_in_query c.query
    (all.4))) in
    let e1 : without_fragment text ≡ front =
    ap (before number_sign) (flat_front s a (c.path) q f)
    ∙ before-marked number_sign front c.fragment in_front in
    let e2 : after number_sign text ≡ c.fragment =
    ap (after number_sign) (flat_front s a (c.path) q f)
    ∙ after-marked number_sign front c.fragment in_front in
    let e3 : without_query text ≡ hier =
    ap (before question_mark) (e1 ∙ flat_hier s a (c.path) q)
    ∙ before-marked question_mark hier c.query before_query in
    let e4 : after question_mark (without_fragment text) ≡ c.query =
    ap (after question_mark) (e1 ∙ flat_hier s a (c.path) q)
    ∙ after-marked question_mark hier c.query before_query in
    let by_scheme =
    scheme_read c.scheme (a ++ c.path) (all.0) (no_colon c.scheme c.authority c.path (all.3)) in
    let by_authority =
    authority_read c.authority c.path (no_slash_in_authority c.authority (all.1))
    (path_fits_alone c.scheme c.authority c.path (all.3)) in
    let e5 : after_scheme (without_query text) ≡ a ++ c.path = ap after_scheme e3 ∙ by_scheme.1 in
    same_components (components text) c (ap scheme_in e3 ∙ by_scheme.0)
    (ap authority_in e5 ∙ by_authority.0) (ap path_in e5 ∙ by_authority.1) e4 e2

-- `reference` reads each URI-reference
pub reference_only : (bytes : List ℕ) (c : Components)
    → IsReference bytes c
    → reference bytes ≡ Some c
unfolding reference
reference_only bytes c r =
    let same : components bytes ≡ c = ap components r.spelled ∙ components-recomposed c r.allowed in
    rw (same, r.allowed) refl

-- a reference has one reading
-- An end theorem: nothing here cites it.
pub one_reading : (bytes : List ℕ) (c d : Components)
    → IsReference bytes c
    → IsReference bytes d
    → c ≡ d
one_reading bytes c d r s = some_same (sym (reference_only bytes c r) ∙ reference_only bytes d s)
