-- `reference_fault_at` gives the offset of the first octet that no URI-reference with the same
-- octets before it can have there.
use Rattle.std.proofs.Common.{
  ◌≡◌,
  ℕ,
  suc,
  ◌+◌,
  Bool,
  true,
  false,
  not,
  ◌&&◌,
  ◌||◌,
  List,
  [],
  ◌∷◌,
  ◌++◌,
  take,
  length,
  Option,
  Some,
  None,
  unwrap_or,
  is_some,
  refl,
  sym,
  ap,
  ◌∙◌,
  arith,
}
use Rattle.std.specs.Prelude.{if◌then◌else◌}
use Rattle.std.proofs.lemmas.Bool.{and_parts, true≢false, and_left}
use Rattle.std.proofs.lemmas.List.{length-append}
use Rattle.link_model.specs.Characters.{
  colon,
  slash,
  question_mark,
  number_sign,
  is_path_character,
  is_query_character,
}
use Rattle.reference_model.specs.References.{
  Components,
  IsReference,
  before,
  after,
  has_octet,
  marked,
  without_fragment,
  without_query,
  has_colon_in_first_segment,
  scheme_in,
  after_scheme,
  after_two_slashes,
  authority_in,
  path_in,
  components,
  scheme_text,
  authority_text,
  query_text,
  fragment_text,
  where_present,
  is_text_of,
  is_scheme,
  is_authority,
  path_fits,
  is_allowed,
  reference,
}
use Rattle.reference_model.specs.ReferenceFaults.{
  IsReferenceFault,
  text_prefix,
  authority_prefix,
  prefix_of_parts,
  parts_of,
  reference_fault_at,
}
use Rattle.reference_model.proofs.ReferenceCuts.{cut, from_first_fits}
use Rattle.rd_base.proofs.lemmas.Options.{some_same, none_some}
use Rattle.reference_model.proofs.ReferenceLaws.{
  scheme_and_rest,
  authority_and_path,
  recomposed-components,
}
use Rattle.reference_model.proofs.ReferenceReading.{
  no_end_before_path,
  no_number_sign_in_query,
  no_mark_appended,
  end_question_mark,
  end_number_sign,
  reference_only,
}
use Rattle.reference_model.proofs.LongestPrefixes.{
  IsLongest,
  cut_passes,
  both_pass,
  second_fails,
  front_longest,
  after_longest,
  length-cut,
  longest_at,
}
use Rattle.reference_model.proofs.FaultTexts.{text_longest}
use Rattle.reference_model.proofs.FaultPaths.{rest_passes, rest_prefix, after_slashes_prefix}
use Rattle.reference_model.proofs.FaultSchemes.{front_passes, front_prefix, front_prefix-IsLongest}

-- ---- what is allowed, part by part

pub query_passes : Option (List ℕ) → Bool
query_passes o = where_present (is_text_of is_query_character) o

-- what stands before a fragment
pub hier_passes : List ℕ → Bool
hier_passes text = cut_passes front_passes query_passes question_mark text

pub whole_passes : List ℕ → Bool
whole_passes text = cut_passes hier_passes query_passes number_sign text

-- the path of a text fits beside its scheme and its authority
pub path_fits_beside : (x : List ℕ) (q f : Option (List ℕ))
    → path_fits
    (record {
      scheme = scheme_in x;
      authority = authority_in (after_scheme x);
      path = path_in
          (after_scheme x);
      query = q;
      fragment = f;
    })
    ≡ true
path_fits_beside x q f = by_slashes (after_two_slashes (after_scheme x)) refl
  where
    by_colon : (b : Bool)
        → has_colon_in_first_segment x ≡ b
        → (is_some (if b then Some (before colon x) else None)
        || not (has_colon_in_first_segment (if b then unwrap_or (after colon x) [] else x)))
        ≡ true
    by_colon true e = refl
    by_colon false e = rw e refl

    by_slashes : (o : Option (List ℕ))
        → after_two_slashes (after_scheme x) ≡ o
        → path_fits (record {
          scheme = scheme_in x;
          authority = authority_in (after_scheme x);
          path = path_in
              (after_scheme x);
          query = q;
          fragment = f;
        })
        ≡ true
    by_slashes None e = rw (e, e) (by_colon (has_colon_in_first_segment x) refl)
    by_slashes (Some rest) e = rw e (from_first_fits rest)

regrouped : (s a p t q f : Bool)
    → t ≡ true
    → (((((s && a) && p) && t) && q) && f) ≡ (((s && (a && p)) && q) && f)
regrouped true true true t q f e = rw e refl
regrouped true true false t q f e = refl
regrouped true false p t q f e = refl
regrouped false a p t q f e = refl

pub is_allowed-components : (text : List ℕ) → is_allowed (components text) ≡ whole_passes text
unfolding components whole_passes hier_passes query_passes
is_allowed-components text =
    let x = without_query text in
    regrouped (where_present is_scheme (scheme_in x))
    (where_present is_authority (authority_in (after_scheme x)))
    (is_text_of is_path_character (path_in (after_scheme x))) (path_fits (components text))
    (where_present (is_text_of is_query_character) (after question_mark (without_fragment text)))
    (where_present (is_text_of is_query_character) (after number_sign text))
    (path_fits_beside x (after question_mark (without_fragment text)) (after number_sign text))

-- ---- marks

no_end_in_front : (text : List ℕ)
    → front_passes text ≡ true
    → (has_octet question_mark text ≡ false) × (has_octet number_sign text ≡ false)
no_end_in_front text h =
    let parts =
    and_parts (where_present is_scheme (scheme_in text)) (rest_passes (after_scheme text)) h in
    let rest =
    and_parts (where_present is_authority (authority_in (after_scheme text)))
    (is_text_of is_path_character (path_in (after_scheme text))) (parts.1) in
    let spelled :
    text
    ≡ scheme_text (scheme_in text)
    ++ (authority_text (authority_in (after_scheme text)) ++ path_in (after_scheme
    text)) =
    scheme_and_rest text
    ∙ ap (λ (t : List ℕ). scheme_text (scheme_in text) ++ t)
    (authority_and_path (after_scheme text)) in (
      ap (has_octet question_mark) spelled
          ∙ no_end_before_path question_mark end_question_mark (scheme_in text)
          (authority_in (after_scheme text)) (path_in (after_scheme text)) (parts.0) (rest.0)
          (rest.1),
      ap (has_octet number_sign) spelled
          ∙ no_end_before_path number_sign end_number_sign (scheme_in text)
          (authority_in (after_scheme text)) (path_in (after_scheme text)) (parts.0) (rest.0)
          (rest.1),
    )

no_number_sign_in_hier : (text : List ℕ)
    → hier_passes text ≡ true
    → has_octet number_sign text ≡ false
unfolding hier_passes query_passes
no_number_sign_in_hier text h =
    let parts =
    and_parts (front_passes (before question_mark text))
    (query_passes (after question_mark text)) h in
    ap (has_octet number_sign) (cut question_mark text)
    ∙ no_mark_appended number_sign (before question_mark text)
    (marked question_mark (after question_mark text))
    ((no_end_in_front (before question_mark text) (parts.0)).1)
    (no_number_sign_in_query (after question_mark text) (parts.1))

hier_by_front : (text : List ℕ) (n : ℕ)
    → front_passes (before question_mark text) ≡ false
    → IsLongest front_passes (before question_mark text) n
    → IsLongest hier_passes text n
unfolding hier_passes query_passes
hier_by_front text n e l =
    front_longest front_passes query_passes question_mark (λ t h. (no_end_in_front t h).0) refl text
    n e l

whole_by_hier : (text : List ℕ) (n : ℕ)
    → hier_passes (before number_sign text) ≡ false
    → IsLongest hier_passes (before number_sign text) n
    → IsLongest whole_passes text n
unfolding whole_passes query_passes
whole_by_hier text n e l =
    front_longest hier_passes query_passes number_sign no_number_sign_in_hier refl text n e l

hier_by_query : (text query : List ℕ)
    → front_passes (before question_mark text) ≡ true
    → after question_mark text ≡ Some query
    → IsLongest hier_passes text
    (suc (length (before question_mark text)) + text_prefix is_query_character query)
unfolding hier_passes query_passes
hier_by_query text query e f =
    after_longest front_passes query_passes question_mark text query
    (text_prefix is_query_character query) e f (text_longest is_query_character query)

whole_by_fragment : (text fragment : List ℕ)
    → hier_passes (before number_sign text) ≡ true
    → after number_sign text ≡ Some fragment
    → IsLongest whole_passes text
    (suc (length (before number_sign text)) + text_prefix is_query_character fragment)
unfolding whole_passes query_passes
whole_by_fragment text fragment e f =
    after_longest hier_passes query_passes number_sign text fragment
    (text_prefix is_query_character fragment) e f (text_longest is_query_character fragment)

-- ---- the number of octets

no_authority_count : (r : List ℕ)
    → where_present is_authority (authority_in r) ≡ false
    → rest_prefix r ≡ 2 + authority_prefix (unwrap_or (authority_in r) [])
unfolding rest_prefix after_slashes_prefix
no_authority_count r h = by_slashes (after_two_slashes r) refl h
  where
    by_slashes : (o : Option (List ℕ))
        → after_two_slashes r ≡ o
        → where_present is_authority (authority_in r) ≡ false
        → rest_prefix r ≡ 2 + authority_prefix (unwrap_or (authority_in r) [])
    by_slashes None e k = absurd (true≢false (rw e at k))
    by_slashes (Some rest) e k =
        let a : is_authority (before slash rest) ≡ false = rw e at k in rw e (rw a (omega arith))

path_count : (r : List ℕ)
    → where_present is_authority (authority_in r) ≡ true
    → rest_prefix r
    ≡ length (authority_text (authority_in r)) + text_prefix is_path_character (path_in r)
unfolding rest_prefix after_slashes_prefix
path_count r h = by_slashes (after_two_slashes r) refl h
  where
    by_slashes : (o : Option (List ℕ))
        → after_two_slashes r ≡ o
        → where_present is_authority (authority_in r) ≡ true
        → rest_prefix r
        ≡ length (authority_text (authority_in r)) + text_prefix is_path_character (path_in r)
    by_slashes None e k = rw e (omega arith)
    by_slashes (Some rest) e k =
        let a : is_authority (before slash rest) ≡ true = rw e at k in rw e (rw a (omega arith))

no_scheme_count : (x : List ℕ)
    → where_present is_scheme (scheme_in x) ≡ false
    → front_prefix x ≡ text_prefix is_path_character (unwrap_or (scheme_in x) [])
unfolding front_prefix
no_scheme_count x h = by_colon (has_colon_in_first_segment x) refl h
  where
    by_colon : (b : Bool)
        → has_colon_in_first_segment x ≡ b
        → where_present is_scheme (scheme_in x) ≡ false
        → front_prefix x ≡ text_prefix is_path_character (unwrap_or (scheme_in x) [])
    by_colon false e k = absurd (true≢false (rw e at k))
    by_colon true e k = let a : is_scheme (before colon x) ≡ false = rw e at k in rw (e, a) refl

rest_count : (x : List ℕ)
    → where_present is_scheme (scheme_in x) ≡ true
    → front_prefix x ≡ length (scheme_text (scheme_in x)) + rest_prefix (after_scheme x)
unfolding front_prefix
rest_count x h = by_colon (has_colon_in_first_segment x) refl h
  where
    by_colon : (b : Bool)
        → has_colon_in_first_segment x ≡ b
        → where_present is_scheme (scheme_in x) ≡ true
        → front_prefix x ≡ length (scheme_text (scheme_in x)) + rest_prefix (after_scheme x)
    by_colon false e k = rw e (omega arith)
    by_colon true e k =
        let a : is_scheme (before colon x) ≡ true = rw e at k in
        let l : length (before colon x ++ colon ∷ []) ≡ length (before colon x) + 1 =
        length-append (before colon x) (colon ∷ []) in
        rw (e, a) (omega arith)

-- the length of what stands before a query
front_count : (x : List ℕ)
    → length x
    ≡ length (scheme_text (scheme_in x))
    + (length (authority_text (authority_in (after_scheme x)))
    + length (path_in (after_scheme x)))
front_count x =
    ap length (scheme_and_rest x) ∙ length-append (scheme_text (scheme_in x)) (after_scheme x)
    ∙ ap (λ (n : ℕ). length (scheme_text (scheme_in x)) + n)
    (ap length (authority_and_path (after_scheme x))
    ∙ length-append (authority_text (authority_in (after_scheme x)))
    (path_in (after_scheme x)))

-- the parts, with what is known of them
parts_count : Bool → Bool → Bool → Bool → Bool → Components → ℕ
parts_count s a p q f c =
    if s then length (scheme_text c.scheme)
    + (if a then length (authority_text c.authority)
    + (if p then length c.path
    + (if q then length (query_text c.query)
    + (if f then length (fragment_text c.fragment)
    + 0 else 1
    + text_prefix is_query_character (unwrap_or c.fragment []))
    else 1 + text_prefix is_query_character (unwrap_or c.query []))
    else text_prefix is_path_character c.path)
    else 2 + authority_prefix (unwrap_or c.authority []))
    else text_prefix is_path_character (unwrap_or c.scheme [])

prefix_of_parts-count : (c : Components)
    → prefix_of_parts (parts_of c)
    ≡ parts_count (where_present is_scheme c.scheme) (where_present is_authority c.authority)
    (is_text_of is_path_character c.path) (query_passes c.query) (query_passes c.fragment) c
unfolding parts_count query_passes
prefix_of_parts-count c = refl

-- the count of the parts is that of the longest prefix, where the text is no reference
fault_longest : (text : List ℕ)
    → whole_passes text ≡ false
    → IsLongest whole_passes text (prefix_of_parts (parts_of (components text)))
unfolding components parts_count hier_passes whole_passes query_passes
fault_longest text h =
    longest_at whole_passes text
    (parts_count (where_present is_scheme s) (where_present is_authority a)
    (is_text_of is_path_character p) (query_passes q) (query_passes f) (components text))
    (prefix_of_parts (parts_of (components text)))
    (sym (prefix_of_parts-count (components text)))
    (by_parts (where_present is_scheme s) refl (where_present is_authority a) refl
    (is_text_of is_path_character p) refl (query_passes q) refl (query_passes f) refl)
  where
    front : List ℕ
    front = without_fragment text

    x : List ℕ
    x = without_query text

    s : Option (List ℕ)
    s = scheme_in x

    a : Option (List ℕ)
    a = authority_in (after_scheme x)

    p : List ℕ
    p = path_in (after_scheme x)

    q : Option (List ℕ)
    q = after question_mark front

    f : Option (List ℕ)
    f = after number_sign text

    r : List ℕ
    r = after_scheme x

    in_front : front_passes x ≡ false → (n : ℕ) → front_prefix x ≡ n → IsLongest whole_passes text n
    in_front e n c =
        whole_by_hier text n (and_left (front_passes x) (query_passes q) e)
        (hier_by_front front n e
        (longest_at front_passes x (front_prefix x) n c (front_prefix-IsLongest x)))

    front_holds : where_present is_scheme s ≡ true
        → where_present is_authority a ≡ true
        → is_text_of is_path_character p ≡ true
        → front_passes x ≡ true
    front_holds es ea ep =
        both_pass (where_present is_scheme s) (rest_passes r) es
        (both_pass (where_present is_authority a) (is_text_of is_path_character p) ea ep)

    in_query : front_passes x ≡ true → (o : Option (List ℕ)) → q ≡ o → query_passes o ≡ false
        → IsLongest whole_passes text (length (scheme_text s)
        + (length (authority_text a)
        + (length p + (1 + text_prefix is_query_character (unwrap_or q [])))))
    in_query holds None e k = absurd (true≢false k)
    in_query holds (Some query) e k =
        let n : ℕ = suc (length x) + text_prefix is_query_character query in
        let fails : hier_passes front ≡ false =
        second_fails (front_passes x) (query_passes q) holds (ap query_passes e ∙ k) in
        let l : IsLongest whole_passes text n =
        whole_by_hier text n fails (hier_by_query front query holds e) in
        let count = front_count x in
        let same :
        text_prefix is_query_character (unwrap_or q []) ≡ text_prefix is_query_character query =
        ap (λ (o : Option (List ℕ)). text_prefix is_query_character (unwrap_or o [])) e in
        longest_at whole_passes text n (length (scheme_text s)
        + (length (authority_text a)
        + (length p + (1 + text_prefix is_query_character (unwrap_or q [])))))
        (omega arith) l

    in_fragment : hier_passes front ≡ true → (o : Option (List ℕ)) → f ≡ o → query_passes o ≡ false
        → IsLongest whole_passes text (length (scheme_text s)
        + (length (authority_text a)
        + (length p
        + (length (query_text q)
        + (1 + text_prefix is_query_character (unwrap_or f []))))))
    in_fragment holds None e k = absurd (true≢false k)
    in_fragment holds (Some fragment) e k =
        let n : ℕ = suc (length front) + text_prefix is_query_character fragment in
        let l : IsLongest whole_passes text n = whole_by_fragment text fragment holds e in
        let count = front_count x in
        let cut_count = length-cut question_mark front in
        let same :
        text_prefix is_query_character (unwrap_or f [])
        ≡ text_prefix is_query_character fragment =
        ap (λ (o : Option (List ℕ)). text_prefix is_query_character (unwrap_or o [])) e in
        longest_at whole_passes text n (length (scheme_text s)
        + (length (authority_text a)
        + (length p
        + (length (query_text q)
        + (1 + text_prefix is_query_character (unwrap_or f []))))))
        (omega arith) l

    by_parts : (bs : Bool)
        → where_present is_scheme s ≡ bs
        → (ba : Bool)
        → where_present is_authority a ≡ ba
        → (bp : Bool)
        → is_text_of is_path_character p ≡ bp
        → (bq : Bool)
        → query_passes q ≡ bq
        → (bf : Bool)
        → query_passes f ≡ bf
        → IsLongest whole_passes text (parts_count bs ba bp bq bf (components text))
    by_parts false es ba ea bp ep bq eq bf ef =
        in_front (and_left (where_present is_scheme s) (rest_passes r) es)
        (text_prefix is_path_character (unwrap_or s [])) (no_scheme_count x es)
    by_parts true es false ea bp ep bq eq bf ef =
        in_front (second_fails (where_present is_scheme s) (rest_passes r) es
        (and_left (where_present is_authority a) (is_text_of is_path_character p) ea))
        (length (scheme_text s) + (2 + authority_prefix (unwrap_or a [])))
        (rest_count x es ∙ ap (λ (n : ℕ). length (scheme_text s) + n) (no_authority_count r ea))
    by_parts true es true ea false ep bq eq bf ef =
        in_front (second_fails (where_present is_scheme s) (rest_passes r) es
        (second_fails (where_present is_authority a) (is_text_of is_path_character p) ea
        ep))
        (length (scheme_text s) + (length (authority_text a) + text_prefix is_path_character p))
        (rest_count x es ∙ ap (λ (n : ℕ). length (scheme_text s) + n) (path_count r ea))
    by_parts true es true ea true ep false eq bf ef = in_query (front_holds es ea ep) q refl eq
    by_parts true es true ea true ep true eq false ef =
        in_fragment (both_pass (front_passes x) (query_passes q) (front_holds es ea ep) eq) f refl
        ef
    by_parts true es true ea true ep true eq true ef =
        absurd (true≢false (sym (both_pass (hier_passes front) (query_passes f)
        (both_pass (front_passes x) (query_passes q) (front_holds es ea ep) eq) ef)
        ∙ h))

-- ---- the offset

fault_by_test : (bytes : List ℕ) (n : ℕ)
    → reference_fault_at bytes ≡ Some n
    → (is_allowed (components bytes) ≡ false) × (prefix_of_parts (parts_of (components bytes)) ≡ n)
unfolding reference_fault_at
fault_by_test bytes n h = by_test (is_allowed (components bytes)) refl h
  where
    by_test : (b : Bool)
        → is_allowed (components bytes) ≡ b
        → (if b then None else Some (prefix_of_parts (parts_of (components bytes)))) ≡ Some n
        → (is_allowed (components bytes) ≡ false)
        × (prefix_of_parts (parts_of (components bytes)) ≡ n)
    by_test true e k = absurd (none_some k)
    by_test false e k = (e, some_same k)

-- a text whose components may not stand there is no reference
is_allowed-reference : (bytes : List ℕ) (c : Components)
    → IsReference bytes c
    → is_allowed (components bytes) ≡ true
unfolding reference
is_allowed-reference bytes c r = by_test (is_allowed (components bytes)) refl
  where
    by_test : (b : Bool) → is_allowed (components bytes) ≡ b → b ≡ true
    by_test true e = refl
    by_test false e = absurd (none_some (rw e at (reference_only bytes c r)))

-- where `reference_fault_at` gives an offset, the octets are no reference and it is the place of
-- the fault
pub reference_fault_at-IsReferenceFault : (bytes : List ℕ) (n : ℕ)
    → reference_fault_at bytes ≡ Some n
    → IsReferenceFault bytes n
reference_fault_at-IsReferenceFault bytes n h =
    let test = fault_by_test bytes n h in
    let refused : whole_passes bytes ≡ false = sym (is_allowed-components bytes) ∙ test.0 in
    let l : IsLongest whole_passes bytes n =
    longest_at whole_passes bytes (prefix_of_parts (parts_of (components bytes))) n (test.1)
    (fault_longest bytes refused) in
    let begun : List ℕ = take n bytes ++ l.begins.0 in
    record {
      refused = λ c r. true≢false (sym (is_allowed-reference bytes c r) ∙ test.0);
      within = l.within;
      begins = (
        l.begins.0,
        components begun,
        record {
          spelled = sym (recomposed-components begun);
          allowed = is_allowed-components begun
              ∙ l.begins.1;
        },
      );
      longest =
          λ m x k d.
          true≢false (sym (is_allowed-reference (take m bytes ++ d.0) (d.1) (d.2))
          ∙ is_allowed-components (take m bytes ++ d.0)
          ∙ l.longest m x k (d.0));
    }

-- where it gives none, the octets are a reference
-- An end theorem: nothing here cites it.
pub reference_fault_at-none : (bytes : List ℕ)
    → reference_fault_at bytes ≡ None
    → IsReference bytes (components bytes)
unfolding reference_fault_at
reference_fault_at-none bytes h = by_test (is_allowed (components bytes)) refl h
  where
    by_test : (b : Bool)
        → is_allowed (components bytes) ≡ b
        → (if b then None else Some (prefix_of_parts (parts_of (components bytes)))) ≡ None
        → IsReference bytes (components bytes)
    by_test true e k = record { spelled = sym (recomposed-components bytes); allowed = e }
    by_test false e k = absurd (none_some (sym k))
