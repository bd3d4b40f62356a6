-- A reference that is a path alone has the components that it shows, and a path without full stops
-- after slashes has no dot segments.
use Rattle.std.proofs.Common.{
  ◌≡◌,
  ℕ,
  Bool,
  true,
  false,
  not,
  ◌&&◌,
  List,
  [],
  ◌∷◌,
  ◌++◌,
  length,
  drop,
  Option,
  None,
  refl,
  sym,
  ap,
  ◌∙◌,
  append-nil,
  append_assoc,
  arith,
}
use Rattle.std.specs.Prelude.{◌==◌, fold}
use Rattle.std.specs.List.{list_all, list_any}
use Rattle.std.proofs.lemmas.Bool.{and_parts, or_parts, not-true, false≢true}
use Rattle.std.proofs.Math.Bool.{and-false}
use Rattle.std.proofs.lemmas.Bool.Decides.{nat_tests}
use Rattle.link_model.specs.Characters.{
  number_sign,
  percent_sign,
  full_stop,
  slash,
  question_mark,
  is_path_character,
}
use Rattle.reference_model.specs.References.{
  Components,
  before,
  after,
  begins_with,
  from_first,
  has_octet,
  components,
  without_fragment,
  without_query,
  scheme_in,
  authority_in,
  path_in,
  after_scheme,
  is_text_of,
}
use Rattle.reference_model.specs.Resolution.{
  onto_first_segment,
  segments_of,
  is_single_dot,
  is_double_dot,
  with_closing_slash,
  remove_dot_segments,
}
use Rattle.reference_model.proofs.ReferenceCuts.{before_alone, after_none}
use Rattle.ref_resolve.specs.ComponentFaults.{have_no_fault}
use Rattle.ref_resolve.specs.Paths.{path_with, closed_segments}
use Rattle.ref_resolve.specs.PlainPaths.{is_path_alone, with_path_alone, has_no_dot_after_slash}
use Rattle.ref_resolve.proofs.Segments.{segments_after, first_segment, not_leading}
use Rattle.ref_resolve.proofs.KeptSegments.{dots_removed}

-- ---- a path alone

-- an octet that is no character of a path does not stand among them
no_other : (mark : ℕ) (text : List ℕ)
    → is_path_character mark ≡ false
    → list_all is_path_character text ≡ true
    → has_octet mark text ≡ false
no_other mark [] m h = refl
no_other mark (c ∷ cs) m h =
    let parts = and_parts (is_path_character c) (list_all is_path_character cs) h in
    by_mark (c == mark) refl (parts.0) (no_other mark cs m (parts.1))
  where
    by_mark : (b : Bool)
        → (c == mark) ≡ b
        → is_path_character c ≡ true
        → has_octet mark cs ≡ false
        → has_octet mark (c ∷ cs) ≡ false
    by_mark true e here later =
        let same : c ≡ mark = grind (arith, nat_tests, e) in
        absurd (false≢true (sym m ∙ sym (ap is_path_character same) ∙ here))
    by_mark false e here later = rw e later

-- characters of a path need no percent escapes
all_path : (text : List ℕ)
    → list_all is_path_character text ≡ true
    → is_text_of is_path_character text ≡ true
all_path [] h = refl
all_path (c ∷ cs) h =
    let parts = and_parts (is_path_character c) (list_all is_path_character cs) h in
    by_percent (c == percent_sign) refl (parts.0) (all_path cs (parts.1))
  where
    by_percent : (b : Bool)
        → (c == percent_sign) ≡ b
        → is_path_character c ≡ true
        → is_text_of is_path_character cs ≡ true
        → is_text_of is_path_character (c ∷ cs) ≡ true
    by_percent true e here later =
        let same : c ≡ percent_sign = grind (arith, nat_tests, e) in
        absurd (false≢true (sym (ap is_path_character same) ∙ here))
    by_percent false e here later = rw (e, here) later

-- the components, from what is left of a text without its fragment and its query
abbrev pub components_from : List ℕ → Option (List ℕ) → Option (List ℕ) → Components
components_from front query fragment = record {
  scheme = scheme_in front;
  authority = authority_in (after_scheme front);
  path = path_in (after_scheme front);
  query = query;
  fragment = fragment;
}

one_slash_alone : (cs : List ℕ)
    → begins_with slash cs ≡ false
    → components_from (slash ∷ cs) None None ≡ with_path_alone (slash ∷ cs)
unfolding before
one_slash_alone [] s = refl
one_slash_alone (d ∷ ds) s = rw s refl

path_components : (cs : List ℕ)
    → begins_with slash cs ≡ false
    → list_all is_path_character (slash ∷ cs) ≡ true
    → components (slash ∷ cs) ≡ with_path_alone (slash ∷ cs)
unfolding components
path_components cs s h =
    let text : List ℕ = slash ∷ cs in
    let number : has_octet number_sign text ≡ false = no_other number_sign text refl h in
    let question : has_octet question_mark text ≡ false = no_other question_mark text refl h in
    let front : without_fragment text ≡ text = before_alone number_sign text number in
    let whole : without_query text ≡ text =
    ap (before question_mark) front ∙ before_alone question_mark text question in
    let query : after question_mark (without_fragment text) ≡ None =
    ap (after question_mark) front ∙ after_none question_mark text question in
    let fragment : after number_sign text ≡ None = after_none number_sign text number in
    ap (λ (w : List ℕ).
    components_from w (after question_mark (without_fragment text))
    (after number_sign text)) whole
    ∙ ap (λ (q : Option (List ℕ)). components_from text q (after number_sign text)) query
    ∙ ap (λ (f : Option (List ℕ)). components_from text None f) fragment
    ∙ one_slash_alone cs s

-- what is known of a text that is a path alone
pub path_alone : (text : List ℕ)
    → is_path_alone text ≡ true
    → (with_path_alone text ≡ components text) × (have_no_fault (with_path_alone text) ≡ true)
path_alone [] h = absurd (false≢true h)
path_alone (c ∷ cs) h =
    let outer =
    and_parts (c == slash && not (begins_with slash cs)) (list_all is_path_character cs) h in
    let inner = and_parts (c == slash) (not (begins_with slash cs)) (outer.0) in
    let same : c ≡ slash = grind (arith, nat_tests, inner.0) in
    let all : list_all is_path_character (slash ∷ cs) ≡ true = outer.1 in
    let shown : with_path_alone (c ∷ cs) ≡ with_path_alone (slash ∷ cs) =
    ap (λ (x : ℕ). with_path_alone (x ∷ cs)) same in
    let taken : components (slash ∷ cs) ≡ with_path_alone (slash ∷ cs) =
    path_components cs (not-true (begins_with slash cs) (inner.1)) all in
    let sound : is_text_of is_path_character (slash ∷ cs) ≡ true = all_path (slash ∷ cs) all in
    let good : have_no_fault (with_path_alone (slash ∷ cs)) ≡ true = rw sound refl in (
      shown
          ∙ sym taken
          ∙ ap (λ (x : ℕ). components (x ∷ cs)) (sym same),
      ap have_no_fault shown
          ∙ good,
    )

-- ---- a path without full stops after slashes

-- the segment does not begin with a full stop
abbrev pub is_plain : List ℕ → Bool
is_plain segment = not (begins_with full_stop segment)

-- the segments, each after a slash
abbrev pub after_slashes : List (List ℕ) → List ℕ
after_slashes [] = []
after_slashes (segment ∷ segments) = slash ∷ (segment ++ after_slashes segments)

segments_joined : (path : List ℕ) → after_slashes (segments_of path) ≡ slash ∷ path
unfolding segments_of
segments_joined [] = refl
segments_joined (c ∷ cs) = by_slash (c == slash) refl (segments_joined cs)
  where
    onto : (segments : List (List ℕ))
        → after_slashes segments ≡ slash ∷ cs
        → after_slashes (onto_first_segment c segments) ≡ slash ∷ c ∷ cs
    onto [] h = absurd (cc)
    onto (segment ∷ segments) h = ap (λ (t : List ℕ). slash ∷ c ∷ t) (ap (drop 1) h)

    by_slash : (b : Bool)
        → (c == slash) ≡ b
        → after_slashes (segments_of cs) ≡ slash ∷ cs
        → after_slashes (segments_of (c ∷ cs)) ≡ slash ∷ c ∷ cs
    by_slash true e h =
        let same : c ≡ slash = grind (arith, nat_tests, e) in
        rw e (ap (λ (t : List ℕ). slash ∷ t) h ∙ ap (λ (x : ℕ). slash ∷ x ∷ cs) (sym same))
    by_slash false e h = rw e (onto (segments_of cs) h)

first_plain : (path : List ℕ)
    → begins_with full_stop path ≡ false
    → is_plain (before slash path) ≡ true
unfolding before
first_plain [] h = refl
first_plain (c ∷ cs) h = by_slash (c == slash) refl
  where
    by_slash : (b : Bool) → (c == slash) ≡ b → is_plain (before slash (c ∷ cs)) ≡ true
    by_slash true e = rw e refl
    by_slash false e = rw (e, h) refl

rest_plain : (path : List ℕ)
    → has_no_dot_after_slash path ≡ true
    → list_all is_plain (segments_after (from_first slash path)) ≡ true
unfolding from_first has_no_dot_after_slash
rest_plain [] h = refl
rest_plain (c ∷ cs) h =
    let parts =
    and_parts (not (c == slash && begins_with full_stop cs)) (has_no_dot_after_slash cs) h in
    by_slash (c == slash) refl (parts.0) (rest_plain cs (parts.1))
  where
    by_slash : (b : Bool)
        → (c == slash) ≡ b
        → not (c == slash && begins_with full_stop cs) ≡ true
        → list_all is_plain (segments_after (from_first slash cs)) ≡ true
        → list_all is_plain (segments_after (from_first slash (c ∷ cs))) ≡ true
    by_slash true e here later =
        let none : begins_with full_stop cs ≡ false =
        not-true (begins_with full_stop cs) (rw e at here) in
        rw (e, first_segment cs, first_plain cs none) later
    by_slash false e here later = rw e later

plain_segments : (path : List ℕ)
    → begins_with full_stop path ≡ false
    → has_no_dot_after_slash path ≡ true
    → list_all is_plain (segments_of path) ≡ true
plain_segments path s h = rw (first_segment path, first_plain path s) (rest_plain path h)

not_double : (segment : List ℕ) → is_plain segment ≡ true → is_double_dot segment ≡ false
not_double [] h = refl
not_double (c ∷ cs) h = rw (not-true (c == full_stop) h) refl

not_single : (segment : List ℕ) → is_plain segment ≡ true → is_single_dot segment ≡ false
not_single [] h = refl
not_single (c ∷ cs) h = rw (not-true (c == full_stop) h) refl

closing_plain : (segments : List (List ℕ))
    → list_all is_plain segments ≡ true
    → with_closing_slash segments ≡ segments
closing_plain [] h = refl
closing_plain (segment ∷ []) h =
    let plain = (and_parts (is_plain segment) true h).0 in
    rw (not_single segment plain, not_double segment plain) refl
closing_plain (segment ∷ next ∷ segments) h =
    ap (λ (s : List (List ℕ)). segment ∷ s) (closing_plain (next ∷ segments)
    ((and_parts (is_plain segment) (list_all is_plain (next ∷ segments)) h).1))

grown_plain : (path : List ℕ) (segments : List (List ℕ))
    → list_all is_plain segments ≡ true
    → fold path_with path segments ≡ path ++ after_slashes segments
grown_plain path [] h = sym (append-nil path)
grown_plain path (segment ∷ segments) h =
    let parts = and_parts (is_plain segment) (list_all is_plain segments) h in
    let one : path_with path segment ≡ path ++ slash ∷ segment =
    rw (not_double segment (parts.0), not_single segment (parts.0)) refl in
    grown_plain (path_with path segment) segments (parts.1)
    ∙ ap (λ (p : List ℕ). p ++ after_slashes segments) one
    ∙ append_assoc path (slash ∷ segment) (after_slashes segments)

after_a_slash : (cs : List ℕ)
    → has_no_dot_after_slash (slash ∷ cs) ≡ true
    → remove_dot_segments (slash ∷ cs) ≡ slash ∷ cs
unfolding before from_first closed_segments has_no_dot_after_slash
after_a_slash cs h =
    let parts = and_parts (not (begins_with full_stop cs)) (has_no_dot_after_slash cs) h in
    let plain : list_all is_plain (segments_of cs) ≡ true =
    plain_segments cs (not-true (begins_with full_stop cs) (parts.0)) (parts.1) in
    dots_removed (slash ∷ cs) (slash ∷ cs) (not_leading (slash ∷ cs) refl) refl
    ∙ ap (fold path_with []) (closing_plain (segments_of cs) plain)
    ∙ grown_plain [] (segments_of cs) plain
    ∙ segments_joined cs

-- what is known of the octets left, where a full stop stands after a slash and where none does
pub dot_found : (path rest more : List ℕ) (c : ℕ)
    → rest ≡ c ∷ more
    → (c == slash && begins_with full_stop more) ≡ true
    → has_no_dot_after_slash rest ≡ has_no_dot_after_slash path
    → false ≡ has_no_dot_after_slash path
unfolding has_no_dot_after_slash
dot_found path rest more c e d s =
    let here : has_no_dot_after_slash (c ∷ more) ≡ false = rw d refl in
    sym (ap has_no_dot_after_slash e ∙ here) ∙ s

pub no_dot_yet : (path rest more : List ℕ) (c : ℕ)
    → rest ≡ c ∷ more
    → (c == slash && begins_with full_stop more) ≡ false
    → has_no_dot_after_slash rest ≡ has_no_dot_after_slash path
    → has_no_dot_after_slash more ≡ has_no_dot_after_slash path
unfolding has_no_dot_after_slash
no_dot_yet path rest more c e d s =
    let here : has_no_dot_after_slash (c ∷ more) ≡ has_no_dot_after_slash more = rw d refl in
    sym (ap has_no_dot_after_slash e ∙ here) ∙ s

-- nor does one where there is no full stop
not_begun : (mark : ℕ) (text : List ℕ)
    → list_any (λ b. b == mark) text ≡ false
    → begins_with mark text ≡ false
not_begun mark [] h = refl
not_begun mark (c ∷ cs) h = (or_parts (c == mark) (list_any (λ b. b == mark) cs) h).0

pub no_full_stop : (path : List ℕ)
    → list_any (λ b. b == full_stop) path ≡ false
    → has_no_dot_after_slash path ≡ true
unfolding has_no_dot_after_slash
no_full_stop [] h = refl
no_full_stop (c ∷ cs) h =
    let parts = or_parts (c == full_stop) (list_any (λ b. b == full_stop) cs) h in
    rw (not_begun full_stop cs parts.1, and-false (c == slash)) (no_full_stop cs parts.1)

pub none_left : (path rest : List ℕ)
    → length rest ≡ 0
    → has_no_dot_after_slash rest ≡ has_no_dot_after_slash path
    → true ≡ has_no_dot_after_slash path
unfolding has_no_dot_after_slash
none_left path [] h s = s
none_left path (c ∷ cs) h s = absurd (omega (arith, h))

-- nothing is removed of a path that begins with a slash and has no full stop after a slash
pub nothing_removed : (path : List ℕ)
    → (begins_with slash path && has_no_dot_after_slash path) ≡ true
    → remove_dot_segments path ≡ path
nothing_removed [] h = absurd (false≢true h)
nothing_removed (c ∷ cs) h =
    let parts = and_parts (c == slash) (has_no_dot_after_slash (c ∷ cs)) h in
    let same : c ≡ slash = grind (arith, nat_tests, parts.0) in
    ap (λ (x : ℕ). remove_dot_segments (x ∷ cs)) same
    ∙ after_a_slash cs (ap (λ (x : ℕ). has_no_dot_after_slash (x ∷ cs)) (sym same) ∙ parts.1)
    ∙ ap (λ (x : ℕ). x ∷ cs) (sym same)
