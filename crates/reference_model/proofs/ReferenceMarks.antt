-- Which marks cannot stand in the components of a reference.
use Rattle.std.proofs.Common.{
  ◌≡◌,
  ℕ,
  zero,
  suc,
  Bool,
  true,
  false,
  not,
  ◌||◌,
  List,
  [],
  ◌∷◌,
  Option,
  Some,
  None,
  unwrap_or,
  refl,
  ap,
  ◌∙◌,
  ◌⊎◌,
  inl,
  inr,
  arith,
}
use Rattle.std.specs.Prelude.{◌==◌}
use Rattle.std.specs.List.{list_all}
use Rattle.std.specs.Char.{is_ascii_hexdigit, is_ascii_digit}
use Rattle.std.proofs.lemmas.Bool.{and_parts, or_cases, eqb-true}
use Rattle.std.proofs.lemmas.Bool.Decides.{nat_tests}
use Rattle.link_model.specs.Characters.{
  colon,
  percent_sign,
  at_sign,
  left_bracket,
  right_bracket,
  is_run_of,
  is_empty,
  is_literal_character,
  is_name_character,
  is_userinfo_character,
}
use Rattle.reference_model.specs.References.{
  before,
  after,
  from_first,
  has_octet,
  marked,
  is_text_after_digits,
  is_text_of,
  digits_after,
  where_present,
  userinfo_of,
  after_userinfo,
  is_port_text,
  is_literal_and_port,
  is_name_and_port,
  is_host_and_port,
  is_authority,
}
use Rattle.rd_base.proofs.lemmas.Numbers.{other_octet}
use Rattle.reference_model.proofs.ReferenceCuts.{
  cut,
  cut_from,
  after_some,
  after_none,
  has_octet-append,
}
use Rattle.rd_base.proofs.lemmas.Booleans.{and_four}

-- an octet that fails a test does not stand in a text of octets that pass it
pub no_mark_in_run : (test : ℕ → Bool) (mark : ℕ)
    → test mark ≡ false
    → (text : List ℕ)
    → list_all test text ≡ true
    → has_octet mark text ≡ false
no_mark_in_run test mark t [] h = refl
no_mark_in_run test mark t (c ∷ cs) h = grind (arith, nat_tests, no_mark_in_run test mark t cs)

pub no_mark_first : (mark c : ℕ) (cs : List ℕ)
    → (c == mark) ≡ false
    → has_octet mark cs ≡ false
    → has_octet mark (c ∷ cs) ≡ false
no_mark_first mark c cs h k = rw (h, k) refl

-- nor in one with percent escapes
pub no_mark_in_text : (test : ℕ → Bool) (mark : ℕ)
    → test mark ≡ false
    → (mark == percent_sign) ≡ false
    → is_ascii_hexdigit mark ≡ false
    → (n : ℕ) (text : List ℕ)
    → is_text_after_digits test n text ≡ true
    → has_octet mark text ≡ false
no_mark_in_text test mark t p x n [] h = refl
no_mark_in_text test mark t p x zero (c ∷ cs) h =
    let parts =
    and_parts (c == percent_sign || test c) (is_text_after_digits test (digits_after c) cs) h in
    let passes : ℕ → Bool = λ d. d == percent_sign || test d in
    let fails : passes mark ≡ false = rw (p, t) refl in
    no_mark_first mark c cs (other_octet passes c mark (parts.0) fails)
    (no_mark_in_text test mark t p x (digits_after c) cs (parts.1))
no_mark_in_text test mark t p x (suc n) (c ∷ cs) h =
    let parts = and_parts (is_ascii_hexdigit c) (is_text_after_digits test n cs) h in
    no_mark_first mark c cs (other_octet is_ascii_hexdigit c mark (parts.0) x)
    (no_mark_in_text test mark t p x n cs (parts.1))

-- ---- authorities

-- what a mark must not be, so that it cannot stand in a host with its port
pub record IsNoHostMark (mark : ℕ) : Type 0 where
  pub name : is_name_character mark ≡ false
  pub literal : is_literal_character mark ≡ false
  pub digit : is_ascii_digit mark ≡ false
  pub hexdigit : is_ascii_hexdigit mark ≡ false
  pub percent : (mark == percent_sign) ≡ false
  pub colon_octet : (colon == mark) ≡ false
  pub left : (left_bracket == mark) ≡ false
  pub right : (right_bracket == mark) ≡ false

-- the same of an authority
pub record IsNoAuthorityMark (mark : ℕ) : Type 0 where
  pub host : IsNoHostMark mark
  pub userinfo : is_userinfo_character mark ≡ false
  pub at : (at_sign == mark) ≡ false

no_mark_in_port : (mark : ℕ)
    → IsNoHostMark mark
    → (text : List ℕ)
    → is_port_text text ≡ true
    → has_octet mark text ≡ false
no_mark_in_port mark m [] h = refl
no_mark_in_port mark m (c ∷ cs) h =
    let parts = and_parts (c == colon) (list_all is_ascii_digit cs) h in
    let same : c ≡ colon = eqb-true c colon (parts.0) in
    no_mark_first mark c cs (rw same m.colon_octet)
    (no_mark_in_run is_ascii_digit mark m.digit cs (parts.1))

-- a mark that stands neither before another, nor is it, nor after it, does not stand in the text
no_mark_in_cut : (mark other : ℕ) (text : List ℕ)
    → has_octet mark (before other text) ≡ false
    → has_octet mark (marked other (after other text)) ≡ false
    → has_octet mark text ≡ false
no_mark_in_cut mark other text h k =
    ap (has_octet mark) (cut other text)
    ∙ has_octet-append mark (before other text) (marked other (after other text))
    ∙ rw (h, k) refl

no_mark_in_cut_from : (mark other : ℕ) (text : List ℕ)
    → has_octet mark (before other text) ≡ false
    → has_octet mark (from_first other text) ≡ false
    → has_octet mark text ≡ false
no_mark_in_cut_from mark other text h k =
    ap (has_octet mark) (cut_from other text)
    ∙ has_octet-append mark (before other text) (from_first other text)
    ∙ rw (h, k) refl

no_mark_marked : (mark other : ℕ) (test : List ℕ → Bool)
    → (other == mark) ≡ false
    → ((text : List ℕ) → test text ≡ true → has_octet mark text ≡ false)
    → (o : Option (List ℕ))
    → where_present test o ≡ true
    → has_octet mark (marked other o) ≡ false
no_mark_marked mark other test e f None h = refl
no_mark_marked mark other test e f (Some text) h = no_mark_first mark other text e (f text h)

no_mark_in_literal : (mark : ℕ)
    → IsNoHostMark mark
    → (text : List ℕ)
    → is_literal_and_port text ≡ true
    → has_octet mark text ≡ false
no_mark_in_literal mark m [] h = refl
no_mark_in_literal mark m (c ∷ cs) h =
    let inside = before right_bracket cs in
    let all =
    and_four (c == left_bracket) (is_run_of is_literal_character inside)
    (where_present is_port_text (after right_bracket cs)) (has_octet right_bracket cs) h in
    let run = and_parts (not (is_empty inside)) (list_all is_literal_character inside) (all.1) in
    let first : (c == mark) ≡ false = rw (eqb-true c left_bracket (all.0)) m.left in
    no_mark_first mark c cs first
    (no_mark_in_cut mark right_bracket cs
    (no_mark_in_run is_literal_character mark m.literal inside (run.1))
    (no_mark_marked mark right_bracket is_port_text m.right (no_mark_in_port mark m)
    (after right_bracket cs) (all.2)))

no_mark_in_name : (mark : ℕ)
    → IsNoHostMark mark
    → (text : List ℕ)
    → is_name_and_port text ≡ true
    → has_octet mark text ≡ false
no_mark_in_name mark m text h =
    let a =
    and_parts (is_text_of is_name_character (before colon text))
    (is_port_text (from_first colon text)) h in
    no_mark_in_cut_from mark colon text
    (no_mark_in_text is_name_character mark m.name m.percent m.hexdigit 0 (before colon text)
    (a.0)) (no_mark_in_port mark m (from_first colon text) (a.1))

pub no_mark_in_host : (mark : ℕ)
    → IsNoHostMark mark
    → (text : List ℕ)
    → is_host_and_port text ≡ true
    → has_octet mark text ≡ false
no_mark_in_host mark m text h =
    by_kind (or_cases (is_literal_and_port text) (is_name_and_port text) h)
  where
    by_kind : (is_literal_and_port text ≡ true) ⊎ (is_name_and_port text ≡ true)
        → has_octet mark text ≡ false
    by_kind (inl l) = no_mark_in_literal mark m text l
    by_kind (inr n) = no_mark_in_name mark m text n

-- a mark that cannot stand in any part of an authority does not stand in one
pub no_mark_in_authority : (mark : ℕ)
    → IsNoAuthorityMark mark
    → (text : List ℕ)
    → is_authority text ≡ true
    → has_octet mark text ≡ false
no_mark_in_authority mark m text h =
    let parts =
    and_parts (where_present (is_text_of is_userinfo_character) (userinfo_of text))
    (is_host_and_port (after_userinfo text)) h in
    by_at (has_octet at_sign text) refl (parts.0) (parts.1)
  where
    by_at : (b : Bool)
        → has_octet at_sign text ≡ b
        → where_present (is_text_of is_userinfo_character) (userinfo_of text) ≡ true
        → is_host_and_port (after_userinfo text) ≡ true
        → has_octet mark text ≡ false
    by_at true e u r =
        let user : is_text_of is_userinfo_character (before at_sign text) ≡ true = rw e at u in
        let some = after_some at_sign text e in
        let rest : has_octet mark (unwrap_or (after at_sign text) []) ≡ false =
        no_mark_in_host mark m.host (unwrap_or (after at_sign text) []) (rw some at r) in
        no_mark_in_cut mark at_sign text
        (no_mark_in_text is_userinfo_character mark m.userinfo m.host.percent m.host.hexdigit 0
        (before at_sign text) user)
        (rw some (no_mark_first mark at_sign (unwrap_or (after at_sign text) []) m.at rest))
    by_at false e u r = no_mark_in_host mark m.host text (rw (after_none at_sign text e) at r)
