-- The longest prefixes of what stands before a query: a scheme or none, an authority or none, and a
-- path.
use Rattle.std.proofs.Common.{
  ◌≡◌,
  ℕ,
  zero,
  suc,
  ◌+◌,
  ◌<◌,
  ◌≤◌,
  Bool,
  true,
  false,
  cond,
  ◌&&◌,
  ◌||◌,
  List,
  [],
  ◌∷◌,
  ◌++◌,
  take,
  length,
  Option,
  Some,
  None,
  refl,
  sym,
  ap,
  ◌∙◌,
  subst,
  arith,
}
use Rattle.std.specs.Prelude.{◌==◌, if◌then◌else◌}
use Rattle.std.proofs.lemmas.Bool.{true≢false, eqb-true, and_left}
use Rattle.link_model.specs.Characters.{percent_sign, colon, slash, is_path_character}
use Rattle.reference_model.specs.References.{
  before,
  after,
  from_first,
  has_octet,
  marked,
  where_present,
  is_text_after_digits,
  is_text_of,
  digits_after,
  is_authority,
  has_colon_in_first_segment,
  after_two_slashes,
  authority_in,
  path_in,
}
use Rattle.reference_model.specs.ReferenceFaults.{
  text_prefix,
  authority_prefix,
  prefix_after_digits,
}
use Rattle.rd_base.proofs.lemmas.Options.{none_some}
use Rattle.reference_model.proofs.ReferenceLaws.{two_slashes}
use Rattle.reference_model.proofs.ReferenceMarks.{no_mark_in_authority}
use Rattle.reference_model.proofs.LongestPrefixes.{
  IsLongest,
  cut_passes,
  both_pass,
  front_longest,
  after_longest,
  whole_longest,
  cons_longest,
  longest_at,
  from_first-after,
  length-cut,
}
use Rattle.reference_model.proofs.FaultTexts.{text_longest, text_begins, zeros}
use Rattle.reference_model.proofs.FaultHosts.{authority_longest}

-- ---- authorities and paths

path_after : Option (List ℕ) → Bool
path_after o = is_text_of is_path_character (marked slash o)

no_slash : (text : List ℕ) → is_authority text ≡ true → has_octet slash text ≡ false
no_slash text h =
    no_mark_in_authority slash (record {
      host = record {
        name =
            refl;
        literal =
            refl;
        digit =
            refl;
        hexdigit =
            refl;
        percent =
            refl;
        colon_octet = refl;
        left = refl;
        right = refl;
      };
      userinfo = refl;
      at = refl;
    }) text h

-- of an authority and a path
unfoldable pub after_slashes_prefix : List ℕ → ℕ
after_slashes_prefix text =
    if is_authority (before slash text)
    then length (before slash text) + text_prefix is_path_character (from_first slash text)
    else authority_prefix (before slash text)

after_slashes_longest : (text : List ℕ)
    → IsLongest (cut_passes is_authority path_after slash) text (after_slashes_prefix text)
unfolding path_after after_slashes_prefix
after_slashes_longest text = by_authority (is_authority (before slash text)) refl
  where
    front : List ℕ
    front = before slash text

    by_authority : (b : Bool)
        → is_authority front ≡ b
        → IsLongest (cut_passes is_authority path_after slash) text
        (if b
        then length front + text_prefix is_path_character (from_first slash text)
        else authority_prefix front)
    by_authority false e =
        front_longest is_authority path_after slash no_slash refl text (authority_prefix front) e
        (authority_longest front)
    by_authority true e = by_path (after slash text) refl
      where
        by_path : (o : Option (List ℕ))
            → after slash text ≡ o
            → IsLongest (cut_passes is_authority path_after slash) text
            (length front + text_prefix is_path_character (from_first slash text))
        by_path None f =
            let a = length-cut slash text in
            let b : length (marked slash (after slash text)) ≡ 0 = rw f refl in
            let p : text_prefix is_path_character (from_first slash text) ≡ 0 =
            ap (text_prefix is_path_character) (from_first-after slash text) ∙ rw f refl in
            longest_at (cut_passes is_authority path_after slash) text (length text)
            (length front + text_prefix is_path_character (from_first slash text)) (omega arith)
            (whole_longest (cut_passes is_authority path_after slash) text
            (both_pass (is_authority front) (path_after (after slash text)) e
            (ap path_after f)))
        by_path (Some rest) f =
            let p :
            text_prefix is_path_character (from_first slash text)
            ≡ suc (text_prefix is_path_character rest) =
            ap (text_prefix is_path_character) (from_first-after slash text) ∙ rw f refl in
            longest_at (cut_passes is_authority path_after slash) text
            (suc (length front) + text_prefix is_path_character rest)
            (length front + text_prefix is_path_character (from_first slash text)) (omega arith)
            (after_longest is_authority path_after slash text rest
            (text_prefix is_path_character rest) e f (text_longest is_path_character rest))

-- what stands after a scheme, or all of it: an authority or none, and a path
abbrev pub rest_passes : List ℕ → Bool
rest_passes text =
    where_present is_authority (authority_in text) && is_text_of is_path_character (path_in text)

rest_after_slashes : (text : List ℕ)
    → rest_passes (slash ∷ slash ∷ text) ≡ cut_passes is_authority path_after slash text
unfolding path_after
rest_after_slashes text =
    ap (λ (x : List ℕ). is_authority (before slash text) && is_text_of is_path_character x)
    (from_first-after slash text)

pub slashes_longest : (text : List ℕ)
    → IsLongest rest_passes (slash ∷ slash ∷ text) (suc (suc (after_slashes_prefix text)))
slashes_longest text =
    cons_longest (λ t. rest_passes (slash ∷ t)) rest_passes slash (λ t. refl) (slash ∷ text)
    (suc (after_slashes_prefix text))
    (cons_longest (cut_passes is_authority path_after slash) (λ t. rest_passes (slash ∷ t)) slash
    rest_after_slashes text (after_slashes_prefix text) (after_slashes_longest text))

-- ---- paths alone

pub rest_alone : (text : List ℕ)
    → after_two_slashes text ≡ None
    → rest_passes text ≡ is_text_of is_path_character text
rest_alone text e = rw e refl

not_two : (c d : ℕ) (cs : List ℕ)
    → after_two_slashes (c ∷ d ∷ cs) ≡ None
    → (c == slash && d == slash) ≡ false
not_two c d cs e = by_test (c == slash && d == slash) e
  where
    by_test : (b : Bool) → (if b then Some cs else None) ≡ None → b ≡ false
    by_test true f = absurd (none_some (sym f))
    by_test false f = refl

are_not_two : (c d : ℕ) (cs : List ℕ)
    → (c == slash && d == slash) ≡ false
    → after_two_slashes (c ∷ d ∷ cs) ≡ None
are_not_two c d cs e = rw e refl

second_no_slash : (c d : ℕ) → (d == slash) ≡ false → (c == slash && d == slash) ≡ false
second_no_slash c d e = by_first (c == slash)
  where
    by_first : (b : Bool) → (b && (d == slash)) ≡ false
    by_first true = e
    by_first false = refl

none_in_zeros : (k : ℕ) → after_two_slashes (zeros k) ≡ None
none_in_zeros zero = refl
none_in_zeros (suc zero) = refl
none_in_zeros (suc (suc k)) = refl

none_with_zeros : (c k : ℕ) → after_two_slashes (c ∷ zeros k) ≡ None
none_with_zeros c zero = refl
none_with_zeros c (suc k) = are_not_two c 48 (zeros k) (second_no_slash c 48 refl)

pub none_begun : (text : List ℕ)
    → after_two_slashes text ≡ None
    → (n k : ℕ)
    → after_two_slashes (take n text ++ zeros k) ≡ None
none_begun [] e zero k = none_in_zeros k
none_begun [] e (suc n) k = none_in_zeros k
none_begun (c ∷ cs) e zero k = none_in_zeros k
none_begun (c ∷ []) e (suc zero) k = none_with_zeros c k
none_begun (c ∷ []) e (suc (suc n)) k = none_with_zeros c k
none_begun (c ∷ d ∷ cs) e (suc zero) k = none_with_zeros c k
none_begun (c ∷ d ∷ cs) e (suc (suc n)) k =
    are_not_two c d (take n cs ++ zeros k) (not_two c d cs e)

bad_first : (c : ℕ) (cs : List ℕ)
    → text_prefix is_path_character (c ∷ cs) < 1
    → (c == percent_sign || is_path_character c) ≡ false
bad_first c cs h = by_test (c == percent_sign || is_path_character c) h
  where
    by_test : (b : Bool)
        → cond b (suc (prefix_after_digits is_path_character (digits_after c) cs)) 0 < 1
        → b ≡ false
    by_test true x = absurd (omega arith)
    by_test false x = refl

bad_is_no_slash : (c : ℕ)
    → (c == percent_sign || is_path_character c) ≡ false
    → (c == slash) ≡ false
bad_is_no_slash c h = by_test (c == slash) refl
  where
    by_test : (b : Bool) → (c == slash) ≡ b → b ≡ false
    by_test true e =
        absurd (true≢false
        (sym (ap (λ (d : ℕ). d == percent_sign || is_path_character d) (eqb-true c slash e))
        ∙ h))
    by_test false e = refl

pub none_after_other : (c : ℕ) (more : List ℕ)
    → (c == slash) ≡ false
    → after_two_slashes (c ∷ more) ≡ None
none_after_other c [] e = refl
none_after_other c (d ∷ more) e = are_not_two c d more (rw e refl)

bad_ends : (c : ℕ) (more : List ℕ)
    → (c == percent_sign || is_path_character c) ≡ false
    → rest_passes (c ∷ more) ≡ false
bad_ends c more h =
    rest_alone (c ∷ more) (none_after_other c more (bad_is_no_slash c h))
    ∙ and_left (c == percent_sign || is_path_character c)
    (is_text_after_digits is_path_character (digits_after c) more) h

path_ends : (text : List ℕ)
    → after_two_slashes text ≡ None
    → (m : ℕ)
    → text_prefix is_path_character text < m
    → m ≤ length text
    → (more : List ℕ)
    → rest_passes (take m text ++ more) ≡ false
path_ends text e zero h k more = absurd (omega arith)
path_ends [] e (suc m) h k more = absurd (omega arith)
path_ends (c ∷ []) e (suc zero) h k more = bad_ends c more (bad_first c [] h)
path_ends (c ∷ []) e (suc (suc m)) h k more = absurd (omega arith)
path_ends (c ∷ d ∷ cs) e (suc zero) h k more = bad_ends c more (bad_first c (d ∷ cs) h)
path_ends (c ∷ d ∷ cs) e (suc (suc m)) h k more =
    rest_alone (take (suc (suc m)) (c ∷ d ∷ cs) ++ more)
    (are_not_two c d (take m cs ++ more) (not_two c d cs e))
    ∙ (text_longest is_path_character (c ∷ d ∷ cs)).longest (suc (suc m)) h k more

-- the longest prefix of a text that may follow a scheme, with an ending that brings no colon into
-- its first segment
pub record IsLongestRest (text : List ℕ) (n : ℕ) : Type 0 where
  pub prefix : IsLongest rest_passes text n
  pub no_colon : has_colon_in_first_segment text ≡ false
      → has_colon_in_first_segment (take n text ++ prefix.begins.0) ≡ false

unfoldable pub rest_prefix : List ℕ → ℕ
rest_prefix text = by_slashes (after_two_slashes text)
  where
    by_slashes : Option (List ℕ) → ℕ
    by_slashes None = text_prefix is_path_character text
    by_slashes (Some rest) = suc (suc (after_slashes_prefix rest))

no_colon_in_zeros : (k : ℕ) → has_colon_in_first_segment (zeros k) ≡ false
unfolding before
no_colon_in_zeros zero = refl
no_colon_in_zeros (suc k) = no_colon_in_zeros k

no_colon_begun : (text : List ℕ) (n k : ℕ)
    → has_colon_in_first_segment text ≡ false
    → has_colon_in_first_segment (take n text ++ zeros k) ≡ false
unfolding before
no_colon_begun [] zero k h = no_colon_in_zeros k
no_colon_begun [] (suc n) k h = no_colon_in_zeros k
no_colon_begun (c ∷ cs) zero k h = no_colon_in_zeros k
no_colon_begun (c ∷ cs) (suc n) k h = by_slash (c == slash) refl h (λ x. no_colon_begun cs n k x)
  where
    by_slash : (b : Bool)
        → (c == slash) ≡ b
        → has_octet colon (cond b [] (c ∷ before slash cs)) ≡ false
        → (has_octet colon (before slash cs) ≡ false
        → has_octet colon (before slash (take n cs ++ zeros k)) ≡ false)
        → has_octet colon (cond b [] (c ∷ before slash (take n cs ++ zeros k))) ≡ false
    by_slash true e x f = refl
    by_slash false e x f = by_colon (c == colon) x
      where
        by_colon : (d : Bool)
            → (d || has_octet colon (before slash cs)) ≡ false
            → (d || has_octet colon (before slash (take n cs ++ zeros k))) ≡ false
        by_colon true y = absurd (true≢false y)
        by_colon false y = f y

pub rest_longest : (text : List ℕ) → IsLongestRest text (rest_prefix text)
unfolding rest_prefix before
rest_longest text = by_slashes (after_two_slashes text) refl
  where
    by_slashes : (o : Option (List ℕ))
        → after_two_slashes text ≡ o
        → IsLongestRest text (rest_prefix text)
    by_slashes None e =
        let b = text_begins is_path_character 0 text in
        let n : ℕ = text_prefix is_path_character text in
        let y : List ℕ = take n text ++ zeros (b.0) in
        rw e (record {
          prefix = record {
            within = (text_longest is_path_character text).within;
            begins = (zeros (b.0), rest_alone y (none_begun text e n (b.0)) ∙ b.1);
            longest = λ m h k more. path_ends text e m h k more;
          };
          no_colon = λ h. no_colon_begun text n (b.0) h;
        })
    by_slashes (Some rest) e =
        subst (λ (t : List ℕ). IsLongestRest t (rest_prefix t)) (sym (two_slashes text rest e))
        (record { prefix = slashes_longest rest; no_colon = λ h. refl })
