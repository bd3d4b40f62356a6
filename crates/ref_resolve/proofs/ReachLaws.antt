-- One octet more of a text with percent escapes.
use Rattle.std.proofs.Common.{
  ◌≡◌,
  ℕ,
  zero,
  suc,
  ◌+◌,
  Bool,
  true,
  false,
  not,
  ◌&&◌,
  ◌||◌,
  List,
  [],
  ◌∷◌,
  Some,
  None,
  is_some,
  length,
  refl,
  sym,
  ap,
  ◌∙◌,
  max,
  arith,
  sub-one,
  add-zero,
}
use Rattle.std.specs.Prelude.{◌==◌}
use Rattle.std.proofs.lemmas.Bool.Decides.{nat_tests}
use Rattle.std.specs.List.{list_all, prefix_len}
use Rattle.std.specs.Char.{is_ascii_alphabetic, is_ascii_digit, is_ascii_hexdigit}
use Rattle.link_model.specs.Characters.{
  percent_sign,
  colon,
  at_sign,
  is_userinfo_character,
  left_bracket,
  is_run_of,
  is_scheme_character,
}
use Rattle.reference_model.specs.References.{
  before,
  after,
  begins_with,
  has_octet,
  is_text_of,
  is_text_after_digits,
  digits_after,
  is_scheme,
  is_port_text,
  is_literal_and_port,
  is_name_and_port,
  is_host_and_port,
}
use Rattle.reference_model.specs.ReferenceFaults.{
  text_prefix,
  prefix_after_digits,
  port_prefix,
  literal_prefix,
  name_prefix,
  host_prefix,
  authority_prefix,
}
use Rattle.rd_base.proofs.lemmas.Options.{some_same, none_some}
use Rattle.ref_resolve.specs.Classes.{next_digits}

some_digit : (n : ℕ) → (suc n == 0) ≡ false
some_digit n = grind (arith, nat_tests)

-- an octet that may not stand there ends the text
pub stops : (test : ℕ → Bool) (digits c : ℕ) (cs : List ℕ) → next_digits test digits c ≡ None
    → (is_text_after_digits test digits (c ∷ cs) ≡ false)
    × (prefix_after_digits test digits (c ∷ cs) ≡ 0)
stops test zero c cs h = by_test (c == percent_sign || test c) refl
  where
    by_test : (b : Bool)
        → (c == percent_sign || test c) ≡ b
        → (is_text_after_digits test zero (c ∷ cs) ≡ false)
        × (prefix_after_digits test zero (c ∷ cs) ≡ 0)
    by_test true e = absurd (none_some (sym (rw e at h)))
    by_test false e = (rw e refl, rw e refl)
stops test (suc n) c cs h = by_test (is_ascii_hexdigit c) refl
  where
    by_test : (b : Bool)
        → is_ascii_hexdigit c ≡ b
        → (is_text_after_digits test (suc n) (c ∷ cs) ≡ false)
        × (prefix_after_digits test (suc n) (c ∷ cs) ≡ 0)
    by_test true e = absurd (none_some (sym (rw (some_digit n, e) at h)))
    by_test false e = (rw e refl, rw e refl)

-- another is one octet more of it
pub goes_on : (test : ℕ → Bool) (digits c missing : ℕ) (cs : List ℕ)
    → next_digits test digits c ≡ Some missing
    → (is_text_after_digits test digits (c ∷ cs) ≡ is_text_after_digits test missing cs)
    × (prefix_after_digits test digits (c ∷ cs) ≡ suc (prefix_after_digits test missing cs))
goes_on test zero c missing cs h = by_test (c == percent_sign || test c) refl
  where
    by_test : (b : Bool)
        → (c == percent_sign || test c) ≡ b
        → (is_text_after_digits test zero (c ∷ cs) ≡ is_text_after_digits test missing cs)
        × (prefix_after_digits test zero (c ∷ cs) ≡ suc (prefix_after_digits test missing cs))
    by_test true e =
        let same : digits_after c ≡ missing = some_same (rw e at h) in
        (rw (e, same) refl, rw (e, same) refl)
    by_test false e = absurd (none_some (rw e at h))
goes_on test (suc n) c missing cs h = by_test (is_ascii_hexdigit c) refl
  where
    by_test : (b : Bool)
        → is_ascii_hexdigit c ≡ b
        → (is_text_after_digits test (suc n) (c ∷ cs) ≡ is_text_after_digits test missing cs)
        × (prefix_after_digits test (suc n) (c ∷ cs)
        ≡ suc (prefix_after_digits test missing cs))
    by_test true e =
        let same : n ≡ missing = sym (sub-one (suc n)) ∙ some_same (rw (some_digit n, e) at h) in
        (rw (e, same) refl, rw (e, same) refl)
    by_test false e = absurd (none_some (rw (some_digit n, e) at h))

-- what is known of the octets left, where the next one ends the text
pub ended : (test : ℕ → Bool) (digits at c : ℕ) (rest cs text : List ℕ)
    → rest ≡ c ∷ cs
    → next_digits test digits c ≡ None
    → is_text_after_digits test digits rest ≡ is_text_of test text
    → at + prefix_after_digits test digits rest ≡ text_prefix test text
    → (false ≡ is_text_of test text) × (at ≡ text_prefix test text)
ended test digits at c rest cs text e h whole offset =
    let last = stops test digits c cs h in
    let none : prefix_after_digits test digits rest ≡ 0 =
    ap (prefix_after_digits test digits) e ∙ last.1 in (
      sym (ap (is_text_after_digits test digits) e ∙ last.0)
          ∙ whole,
      sym (add-zero at)
          ∙ ap (λ n. at + n) (sym none)
          ∙ offset,
    )

-- what is known of the octets left, one octet later
pub one_more : (test : ℕ → Bool) (digits at c missing : ℕ) (rest cs text : List ℕ)
    → rest ≡ c ∷ cs
    → next_digits test digits c ≡ Some missing
    → is_text_after_digits test digits rest ≡ is_text_of test text
    → at + prefix_after_digits test digits rest ≡ text_prefix test text
    → (is_text_after_digits test missing cs ≡ is_text_of test text)
    × (at + 1 + prefix_after_digits test missing cs ≡ text_prefix test text)
one_more test digits at c missing rest cs text e h whole offset =
    let more = goes_on test digits c missing cs h in
    let next : prefix_after_digits test digits rest ≡ suc (prefix_after_digits test missing cs) =
    ap (prefix_after_digits test digits) e ∙ more.1 in
    (sym (ap (is_text_after_digits test digits) e ∙ more.0) ∙ whole, omega (arith, next, offset))

-- ---- hosts and ports

-- a mark stands in a text where something is after it
pub octet_after : (mark : ℕ) (text : List ℕ) → has_octet mark text ≡ is_some (after mark text)
unfolding after
octet_after mark [] = refl
octet_after mark (c ∷ cs) = grind (arith, nat_tests, octet_after mark cs)

-- all of a text passes where its front that passes is all of it
all_in_front : (test : ℕ → Bool) (text : List ℕ)
    → (prefix_len test text == length text) ≡ list_all test text
all_in_front test [] = refl
all_in_front test (c ∷ cs) = grind (arith, nat_tests, all_in_front test cs)

-- some octets pass where there are some and the front that passes is all of them
pub run_of : (test : ℕ → Bool) (text : List ℕ)
    → is_run_of test text ≡ (not (length text == 0) && (prefix_len test text == length text))
run_of test [] = refl
run_of test (c ∷ cs) = grind (arith, nat_tests, all_in_front test (c ∷ cs))

-- a port is a colon and digits
pub port_after_colon : (text digits : List ℕ)
    → text ≡ colon ∷ digits
    → (is_port_text text ≡ (prefix_len is_ascii_digit digits == length digits))
    × (port_prefix text ≡ 1 + prefix_len is_ascii_digit digits)
port_after_colon text digits e =
    (ap is_port_text e ∙ sym (all_in_front is_ascii_digit digits), ap port_prefix e ∙ omega arith)

-- what begins otherwise is no port, unless it is empty
pub no_port : (text : List ℕ)
    → begins_with colon text ≡ false
    → (is_port_text text ≡ (length text == 0)) × (port_prefix text ≡ 0)
no_port [] h = (refl, refl)
no_port (c ∷ cs) h = (rw h (grind (arith, nat_tests)), rw h refl)

-- a host that begins with a bracket is an IP literal
pub host_in_brackets : (text rest : List ℕ)
    → text ≡ left_bracket ∷ rest
    → (is_host_and_port text ≡ is_literal_and_port (left_bracket ∷ rest))
    × (host_prefix text ≡ literal_prefix (left_bracket ∷ rest))
unfolding before
host_in_brackets text rest e =
    (ap is_host_and_port e ∙ or_false (is_literal_and_port (left_bracket ∷ rest)), ap host_prefix e)
  where
    or_false : (b : Bool) → (b || false) ≡ b
    or_false true = refl
    or_false false = refl

-- another is a registered name
pub host_of_name : (text : List ℕ)
    → begins_with left_bracket text ≡ false
    → (is_host_and_port text ≡ is_name_and_port text) × (host_prefix text ≡ name_prefix text)
host_of_name [] h = (refl, refl)
host_of_name (c ∷ cs) h = (rw h refl, rw h refl)

-- a scheme is a letter and what follows it
pub scheme_cons : (text cs : List ℕ) (c : ℕ)
    → text ≡ c ∷ cs
    → is_scheme text ≡ (is_ascii_alphabetic c && list_all is_scheme_character cs)
scheme_cons text cs c e = ap is_scheme e

-- without an `@` an authority begins as user information does or as a host does
pub no_at_sign : (text : List ℕ)
    → after at_sign text ≡ None
    → authority_prefix text
    ≡ max (text_prefix is_userinfo_character (before at_sign text))
    (host_prefix (before at_sign text))
unfolding authority_prefix
no_at_sign text h = by_user (is_text_of is_userinfo_character (before at_sign text)) refl
  where
    none : has_octet at_sign text ≡ false
    none = octet_after at_sign text ∙ ap is_some h

    by_user : (b : Bool)
        → is_text_of is_userinfo_character (before at_sign text) ≡ b
        → authority_prefix text
        ≡ max (text_prefix is_userinfo_character (before at_sign text))
        (host_prefix (before at_sign text))
    by_user true e = rw (e, none) refl
    by_user false e = rw e refl
