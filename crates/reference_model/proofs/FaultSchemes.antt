-- The longest prefixes of what stands before a query, with its scheme.
use Rattle.std.proofs.Common.{
  ◌≡◌,
  ℕ,
  zero,
  suc,
  ◌+◌,
  ◌<◌,
  ◌≤◌,
  Bool,
  true,
  false,
  cond,
  ◌&&◌,
  ◌||◌,
  List,
  [],
  ◌∷◌,
  ◌++◌,
  take,
  length,
  Option,
  Some,
  None,
  unwrap_or,
  refl,
  sym,
  ap,
  ◌∙◌,
  subst,
  ◌⊎◌,
  inl,
  inr,
  append_assoc,
  arith,
}
use Rattle.std.specs.Prelude.{◌==◌, if◌then◌else◌}
use Rattle.std.specs.List.{list_all}
use Rattle.std.specs.Char.{is_ascii_alphabetic}
use Rattle.std.proofs.lemmas.Bool.{and_parts, true≢false, false≢true, and_left}
use Rattle.std.proofs.lemmas.Bool.Decides.{nat_tests}
use Rattle.link_model.specs.Characters.{
  percent_sign,
  colon,
  slash,
  is_path_character,
  is_scheme_character,
}
use Rattle.reference_model.specs.References.{
  before,
  after,
  has_octet,
  marked,
  where_present,
  is_text_of,
  is_scheme,
  has_colon_in_first_segment,
  scheme_in,
  after_scheme,
  after_two_slashes,
}
use Rattle.reference_model.specs.ReferenceFaults.{text_prefix}
use Rattle.reference_model.proofs.ReferenceCuts.{
  cut,
  after_some,
  has_octet-before,
  before-marked,
  after-marked,
  has_octet-append,
  has_octet-before_other,
  before_alone,
}
use Rattle.rd_base.proofs.lemmas.Options.{some_same}
use Rattle.reference_model.proofs.ReferenceReading.{before-append, no_mark_appended}
use Rattle.reference_model.proofs.LongestPrefixes.{
  IsLongest,
  both_pass,
  second_fails,
  length-cut,
  take_front,
  take_within,
  EndsBeforeMark,
  PastMark,
  mark_cases,
  has_octet-take,
}
use Rattle.reference_model.proofs.FaultTexts.{text_longest, text_begins, zeros}
use Rattle.reference_model.proofs.FaultPaths.{
  rest_passes,
  rest_alone,
  rest_prefix,
  IsLongestRest,
  rest_longest,
  none_after_other,
}

-- what stands before a query: a scheme or none, and the rest
abbrev pub front_passes : List ℕ → Bool
front_passes text = where_present is_scheme (scheme_in text) && rest_passes (after_scheme text)

front_with_scheme : (text : List ℕ)
    → has_colon_in_first_segment text ≡ true
    → front_passes text
    ≡ (is_scheme (before colon text) && rest_passes (unwrap_or (after colon text) []))
front_with_scheme text e = rw e refl

front_alone : (text : List ℕ)
    → has_colon_in_first_segment text ≡ false
    → front_passes text ≡ rest_passes text
front_alone text e = rw e refl

-- ---- schemes are paths

scheme_character : (c : ℕ)
    → is_scheme_character c ≡ true
    → (is_path_character c ≡ true) × ((c == percent_sign) ≡ false)
scheme_character c h = grind (arith, nat_tests)

letter : (c : ℕ) → is_ascii_alphabetic c ≡ true → is_scheme_character c ≡ true
letter c h = grind (arith, nat_tests)

characters_are_path : (cs : List ℕ)
    → list_all is_scheme_character cs ≡ true
    → is_text_of is_path_character cs ≡ true
characters_are_path [] h = refl
characters_are_path (c ∷ cs) h =
    let parts = and_parts (is_scheme_character c) (list_all is_scheme_character cs) h in
    let both = scheme_character c (parts.0) in
    rw (both.1, both.0) (characters_are_path cs (parts.1))

scheme_is_path : (text : List ℕ) → is_scheme text ≡ true → is_text_of is_path_character text ≡ true
scheme_is_path [] h = refl
scheme_is_path (c ∷ cs) h =
    let parts = and_parts (is_ascii_alphabetic c) (list_all is_scheme_character cs) h in
    characters_are_path (c ∷ cs)
    (both_pass (is_scheme_character c) (list_all is_scheme_character cs) (letter c (parts.0))
    (parts.1))

-- ---- colons in the first segment

no_slash_before_colon : (text : List ℕ)
    → has_colon_in_first_segment text ≡ true
    → has_octet slash (before colon text) ≡ false
unfolding before
no_slash_before_colon [] h = refl
no_slash_before_colon (c ∷ cs) h =
    by_colon (c == colon) refl (c == slash) refl h (λ x. no_slash_before_colon cs x)
  where
    by_colon : (b : Bool)
        → (c == colon) ≡ b
        → (d : Bool)
        → (c == slash) ≡ d
        → has_octet colon (cond d [] (c ∷ before slash cs)) ≡ true
        → (has_octet colon (before slash cs) ≡ true → has_octet slash (before colon cs) ≡ false)
        → has_octet slash (cond b [] (c ∷ before colon cs)) ≡ false
    by_colon true e d g x f = refl
    by_colon false e true g x f = absurd (false≢true x)
    by_colon false e false g x f = rw g (f (rw e at x))

colon_is_first : (text rest : List ℕ)
    → has_octet slash text ≡ false
    → has_colon_in_first_segment (text ++ colon ∷ rest) ≡ true
unfolding before
colon_is_first text rest h =
    rw (before-append slash text (colon ∷ rest) h)
    (has_octet-append colon text (colon ∷ before slash rest) ∙ grind (arith, nat_tests))

colon_found : (text rest : List ℕ)
    → after colon text ≡ Some rest
    → has_octet slash (before colon text) ≡ false
    → has_colon_in_first_segment text ≡ true
colon_found text rest e h =
    ap has_colon_in_first_segment
    (cut colon text ∙ ap (λ (o : Option (List ℕ)). before colon text ++ marked colon o) e)
    ∙ colon_is_first (before colon text) rest h

-- ---- with a scheme

scheme_longest : (text rest : List ℕ)
    → has_colon_in_first_segment text ≡ true
    → is_scheme (before colon text) ≡ true
    → after colon text ≡ Some rest
    → IsLongest front_passes text (suc (length (before colon text)) + rest_prefix rest)
scheme_longest text rest c u e = record {
  within =
      let a = length-cut colon text in
      let b : length (marked colon (after colon text)) ≡ suc (length rest) = rw e refl in
      let d = l.within in omega arith;
  begins = (
    l.begins.0,
    ap (λ (t : List ℕ). front_passes (t ++ l.begins.0)) taken
        ∙ ap front_passes (append_assoc front (colon ∷ take n rest) (l.begins.0))
        ∙ with_scheme begun ended (before-marked colon front (Some ended) no_mark)
        (after-marked colon front (Some ended) no_mark)
        ∙ both_pass (is_scheme front) (rest_passes ended) u (l.begins.1),
  );
  longest = λ m h k more. at_mark m h more (mark_cases colon text m more k);
}
  where
    front : List ℕ
    front = before colon text

    n : ℕ
    n = rest_prefix rest

    l : IsLongest rest_passes rest n
    l = (rest_longest rest).prefix

    no_mark : has_octet colon front ≡ false
    no_mark = has_octet-before colon text

    ended : List ℕ
    ended = take n rest ++ l.begins.0

    begun : List ℕ
    begun = front ++ colon ∷ ended

    with_scheme : (t r : List ℕ)
        → before colon t ≡ front
        → after colon t ≡ Some r
        → front_passes t ≡ (is_scheme front && rest_passes r)
    with_scheme t r f g =
        let slashless : has_octet slash (before colon t) ≡ false =
        ap (has_octet slash) f ∙ no_slash_before_colon text c in
        front_with_scheme t (colon_found t r g slashless)
        ∙ ap (λ (x : List ℕ). is_scheme x && rest_passes (unwrap_or (after colon t) [])) f
        ∙ ap (λ (o : Option (List ℕ)). is_scheme front && rest_passes (unwrap_or o [])) g

    taken : take (suc (length front) + n) text ≡ front ++ colon ∷ take n rest
    taken =
        let count : suc (length front) + n ≡ length front + suc n = omega arith in
        ap (λ (i : ℕ). take i text) count
        ∙ ap (take (length front + suc n))
        (cut colon text ∙ ap (λ (o : Option (List ℕ)). front ++ marked colon o) e)
        ∙ take_front front (colon ∷ rest) (suc n)

    at_mark : (m : ℕ)
        → suc (length front) + n < m
        → (more : List ℕ)
        → EndsBeforeMark colon text m more ⊎ PastMark colon text m more
        → front_passes (take m text ++ more) ≡ false
    at_mark m h more (inl x) = let y = x.0 in absurd (omega arith)
    at_mark m h more (inr p) =
        let same : rest ≡ p.rest = some_same (sym e ∙ p.is_after) in
        let w = p.whole in
        let fails : rest_passes (take p.count rest ++ more) ≡ false =
        l.longest p.count (omega arith)
        (subst (λ (r : List ℕ). p.count ≤ length r) (sym same) p.short) more in
        with_scheme (take m text ++ more) (take p.count p.rest ++ more) p.same_front p.same_after
        ∙ second_fails (is_scheme front) (rest_passes (take p.count p.rest ++ more)) u
        (ap (λ (r : List ℕ). rest_passes (take p.count r ++ more)) (sym same) ∙ fails)

-- ---- with what is no scheme before a colon

no_mark_in_zeros : (mark : ℕ) → (48 == mark) ≡ false → (k : ℕ) → has_octet mark (zeros k) ≡ false
no_mark_in_zeros mark e zero = refl
no_mark_in_zeros mark e (suc k) = rw e (no_mark_in_zeros mark e k)

first_is_no_mark : (mark c : ℕ) (cs : List ℕ)
    → has_octet mark (c ∷ cs) ≡ false
    → (c == mark) ≡ false
first_is_no_mark mark c cs h = by_first (c == mark) h
  where
    by_first : (b : Bool) → (b || has_octet mark cs) ≡ false → b ≡ false
    by_first true e = e
    by_first false e = refl

none_without_slash : (text : List ℕ) → has_octet slash text ≡ false → after_two_slashes text ≡ None
none_without_slash [] h = refl
none_without_slash (c ∷ cs) h = none_after_other c cs (first_is_no_mark slash c cs h)

none_first : (front : List ℕ) (m : ℕ) (more : List ℕ)
    → has_octet slash front ≡ false
    → 0 < m
    → m ≤ length front
    → after_two_slashes (take m front ++ more) ≡ None
none_first front zero more h l k = absurd (omega arith)
none_first [] (suc m) more h l k = absurd (omega arith)
none_first (c ∷ cs) (suc m) more h l k =
    none_after_other c (take m cs ++ more) (first_is_no_mark slash c cs h)

no_scheme_longest : (text : List ℕ)
    → has_colon_in_first_segment text ≡ true
    → is_scheme (before colon text) ≡ false
    → IsLongest front_passes text (text_prefix is_path_character (before colon text))
no_scheme_longest text c u = record {
  within = let a = length-cut colon text in let b = l.within in omega arith;
  begins = (
    zeros (b.0),
    ap (λ (t : List ℕ). front_passes (t ++ zeros (b.0))) taken
        ∙ front_alone y without_colon
        ∙ rest_alone y (none_without_slash y slashless)
        ∙ b.1,
  );
  longest = λ m h k more. at_mark m h more (mark_cases colon text m more k);
}
  where
    front : List ℕ
    front = before colon text

    n : ℕ
    n = text_prefix is_path_character front

    l : IsLongest (is_text_of is_path_character) front n
    l = text_longest is_path_character front

    no_slash : has_octet slash front ≡ false
    no_slash = no_slash_before_colon text c

    b : (k : ℕ) × (is_text_of is_path_character (take n front ++ zeros k) ≡ true)
    b = text_begins is_path_character 0 front

    y : List ℕ
    y = take n front ++ zeros (b.0)

    taken : take n text ≡ take n front
    taken =
        ap (take n) (cut colon text)
        ∙ take_within front (marked colon (after colon text)) n l.within

    slashless : has_octet slash y ≡ false
    slashless =
        no_mark_appended slash (take n front) (zeros (b.0)) (has_octet-take slash front n no_slash)
        (no_mark_in_zeros slash refl (b.0))

    without_colon : has_colon_in_first_segment y ≡ false
    without_colon =
        ap (has_octet colon) (before_alone slash y slashless)
        ∙ no_mark_appended colon (take n front) (zeros (b.0))
        (has_octet-take colon front n (has_octet-before colon text))
        (no_mark_in_zeros colon refl (b.0))

    at_mark : (m : ℕ)
        → n < m
        → (more : List ℕ)
        → EndsBeforeMark colon text m more ⊎ PastMark colon text m more
        → front_passes (take m text ++ more) ≡ false
    at_mark m h more (inl x) = by_colon (has_colon_in_first_segment (take m text ++ more)) refl
      where
        whole : List ℕ
        whole = take m text ++ more

        fails : (other : List ℕ) → is_text_of is_path_character (take m front ++ other) ≡ false
        fails other = l.longest m h (x.0) other

        by_scheme : (d : Bool) → is_scheme (before colon whole) ≡ d → d ≡ false
        by_scheme true e =
            absurd (true≢false (sym (scheme_is_path (before colon whole) e)
            ∙ ap (is_text_of is_path_character) (x.2)
            ∙ fails (before colon more)))
        by_scheme false e = refl

        by_colon : (d : Bool) → has_colon_in_first_segment whole ≡ d → front_passes whole ≡ false
        by_colon true e =
            front_with_scheme whole e
            ∙ and_left (is_scheme (before colon whole))
            (rest_passes (unwrap_or (after colon whole) []))
            (by_scheme (is_scheme (before colon whole)) refl)
        by_colon false e =
            front_alone whole e
            ∙ ap (λ (t : List ℕ). rest_passes (t ++ more)) (x.1)
            ∙ rest_alone (take m front ++ more)
            (none_first front m more no_slash (omega arith) (x.0))
            ∙ fails more
    at_mark m h more (inr p) =
        let slashless : has_octet slash (before colon (take m text ++ more)) ≡ false =
        ap (has_octet slash) p.same_front ∙ no_slash in
        front_with_scheme (take m text ++ more)
        (colon_found (take m text ++ more) (take p.count p.rest ++ more) p.same_after slashless)
        ∙ and_left (is_scheme (before colon (take m text ++ more)))
        (rest_passes (unwrap_or (after colon (take m text ++ more)) []))
        (ap is_scheme p.same_front ∙ u)

-- ---- with no colon in the first segment

no_colon_taken : (text : List ℕ) (m : ℕ) (more : List ℕ)
    → has_colon_in_first_segment (take m text ++ more) ≡ true
    → has_colon_in_first_segment text ≡ false
    → has_octet colon (take m text) ≡ false
unfolding before
no_colon_taken [] zero more h k = refl
no_colon_taken [] (suc m) more h k = refl
no_colon_taken (c ∷ cs) zero more h k = refl
no_colon_taken (c ∷ cs) (suc m) more h k =
    by_slash (c == slash) h k (λ x y. no_colon_taken cs m more x y)
  where
    by_slash : (b : Bool)
        → has_octet colon (cond b [] (c ∷ before slash (take m cs ++ more))) ≡ true
        → has_octet colon (cond b [] (c ∷ before slash cs)) ≡ false
        → (has_octet colon (before slash (take m cs ++ more)) ≡ true
        → has_octet colon (before slash cs) ≡ false
        → has_octet colon (take m cs) ≡ false)
        → has_octet colon (c ∷ take m cs) ≡ false
    by_slash true x y f = absurd (false≢true x)
    by_slash false x y f = by_colon (c == colon) x y
      where
        by_colon : (d : Bool)
            → (d || has_octet colon (before slash (take m cs ++ more))) ≡ true
            → (d || has_octet colon (before slash cs)) ≡ false
            → (d || has_octet colon (take m cs)) ≡ false
        by_colon true v w = absurd (true≢false w)
        by_colon false v w = f v w

alone_longest : (text : List ℕ)
    → has_colon_in_first_segment text ≡ false
    → IsLongest front_passes text (rest_prefix text)
alone_longest text c = record {
  within = l.within;
  begins = (
    l.begins.0,
    front_alone (take (rest_prefix text) text ++ l.begins.0) (r.no_colon c)
        ∙ l.begins.1,
  );
  longest = λ m h k more. at_count m h k more;
}
  where
    r : IsLongestRest text (rest_prefix text)
    r = rest_longest text

    l : IsLongest rest_passes text (rest_prefix text)
    l = r.prefix

    at_count : (m : ℕ)
        → rest_prefix text < m
        → m ≤ length text
        → (more : List ℕ)
        → front_passes (take m text ++ more) ≡ false
    at_count m h k more = by_colon (has_colon_in_first_segment whole) refl
      where
        whole : List ℕ
        whole = take m text ++ more

        by_scheme : has_colon_in_first_segment whole ≡ true
            → (d : Bool)
            → is_scheme (before colon whole) ≡ d
            → d ≡ false
        by_scheme e false f = refl
        by_scheme e true f =
            let same : before colon whole ≡ take m text ++ before colon more =
            before-append colon (take m text) more (no_colon_taken text m more e c) in
            let none : after_two_slashes (before colon whole) ≡ None =
            none_without_slash (before colon whole) (no_slash_before_colon whole e) in
            absurd (true≢false (sym (rest_alone (before colon whole) none
            ∙ scheme_is_path (before colon whole) f)
            ∙ ap rest_passes same
            ∙ l.longest m h k (before colon more)))

        by_colon : (d : Bool) → has_colon_in_first_segment whole ≡ d → front_passes whole ≡ false
        by_colon true e =
            front_with_scheme whole e
            ∙ and_left (is_scheme (before colon whole))
            (rest_passes (unwrap_or (after colon whole) []))
            (by_scheme e (is_scheme (before colon whole)) refl)
        by_colon false e = front_alone whole e ∙ l.longest m h k more

-- of what stands before a query
unfoldable pub front_prefix : List ℕ → ℕ
front_prefix text =
    if has_colon_in_first_segment text
    then (if is_scheme (before colon text)
    then suc (length (before colon text)) + rest_prefix (unwrap_or (after colon text) [])
    else text_prefix is_path_character (before colon text))
    else rest_prefix text

pub front_prefix-IsLongest : (text : List ℕ) → IsLongest front_passes text (front_prefix text)
unfolding front_prefix
front_prefix-IsLongest text =
    by_colon (has_colon_in_first_segment text) refl (is_scheme (before colon text)) refl
  where
    by_colon : (b : Bool)
        → has_colon_in_first_segment text ≡ b
        → (d : Bool)
        → is_scheme (before colon text) ≡ d
        → IsLongest front_passes text (if b
        then (if d
        then suc (length (before colon text))
        + rest_prefix (unwrap_or (after colon text) [])
        else text_prefix is_path_character (before colon text))
        else rest_prefix text)
    by_colon false e d f = alone_longest text e
    by_colon true e false f = no_scheme_longest text e f
    by_colon true e true f =
        scheme_longest text (unwrap_or (after colon text) []) e f
        (after_some colon text (has_octet-before_other slash colon text e))
