-- What stands before and after an octet, from where a search finds it.
use Rattle.std.proofs.Common.{
  ◌≡◌,
  ℕ,
  zero,
  suc,
  ◌+◌,
  ◌-◌,
  ◌<◌,
  false,
  not,
  ◌&&◌,
  List,
  [],
  ◌∷◌,
  ◌++◌,
  Option,
  Some,
  None,
  length,
  get_or,
  take,
  drop,
  option_map,
  is_some,
  refl,
  sym,
  ap,
  ◌∙◌,
  arith,
}
use Rattle.std.proofs.lemmas.Bool.Decides.{nat_tests}
use Rattle.std.specs.List.{slice_range}
use Rattle.std.specs.Option.{MatchOption}
use denote.Ref.{Bor}
use mathlib.Core.Logic.{◌≢◌}
use Rattle.link_model.specs.Characters.{colon, slash}
use Rattle.reference_model.specs.References.{
  before,
  after,
  begins_with,
  from_first,
  through,
  has_octet,
  has_colon_in_first_segment,
  after_two_slashes,
}
use Rattle.reference_model.proofs.ReferenceCuts.{before-marked, after-marked}

-- an octet that stands at no offset does not stand in the text
pub octet_nowhere : (mark : ℕ) (text : List ℕ)
    → ((i : ℕ) → i < length text → get_or text i 0 ≢ mark)
    → has_octet mark text ≡ false
octet_nowhere mark [] h = refl
octet_nowhere mark (c ∷ cs) h =
    let here : c ≢ mark = h 0 (omega arith) in
    let rest : has_octet mark cs ≡ false =
    octet_nowhere mark cs (λ i l. h (suc i) (omega (arith, l))) in
    grind (arith, nat_tests, here, rest)

pub from_nowhere : (mark : ℕ) (text : List ℕ)
    → has_octet mark text ≡ false
    → from_first mark text ≡ []
unfolding from_first
from_nowhere mark [] h = refl
from_nowhere mark (c ∷ cs) h = grind (arith, nat_tests, from_nowhere mark cs)

-- the parts of a text round its first mark
pub before_parts : (mark : ℕ) (text front back : List ℕ)
    → text ≡ front ++ (mark ∷ back)
    → ((i : ℕ) → i < length front → get_or front i 0 ≢ mark)
    → before mark text ≡ front
before_parts mark text front back e h =
    ap (before mark) e ∙ before-marked mark front (Some back) (octet_nowhere mark front h)

pub after_parts : (mark : ℕ) (text front back : List ℕ)
    → text ≡ front ++ (mark ∷ back)
    → ((i : ℕ) → i < length front → get_or front i 0 ≢ mark)
    → after mark text ≡ Some back
after_parts mark text front back e h =
    ap (after mark) e ∙ after-marked mark front (Some back) (octet_nowhere mark front h)

-- the parts of a text at the offset of its first mark
pub before_offset : (mark offset : ℕ) (text : List ℕ)
    → offset < length text
    → get_or text offset 0 ≡ mark
    → ((i : ℕ) → i < offset → get_or text i 0 ≢ mark)
    → before mark text ≡ take offset text
unfolding before
before_offset mark offset [] l e h = absurd (omega (arith, l))
before_offset mark zero (c ∷ cs) l e h = grind (arith, nat_tests, e)
before_offset mark (suc offset) (c ∷ cs) l e h =
    let here : c ≢ mark = h 0 (omega arith) in
    let rest : before mark cs ≡ take offset cs =
    before_offset mark offset cs (omega (arith, l)) e (λ i k. h (suc i) (omega (arith, k))) in
    grind (arith, nat_tests, here, rest)

pub from_offset : (mark offset : ℕ) (text : List ℕ)
    → offset < length text
    → get_or text offset 0 ≡ mark
    → ((i : ℕ) → i < offset → get_or text i 0 ≢ mark)
    → from_first mark text ≡ drop offset text
unfolding from_first
from_offset mark offset [] l e h = absurd (omega (arith, l))
from_offset mark zero (c ∷ cs) l e h = grind (arith, nat_tests, e)
from_offset mark (suc offset) (c ∷ cs) l e h =
    let here : c ≢ mark = h 0 (omega arith) in
    let rest : from_first mark cs ≡ drop offset cs =
    from_offset mark offset cs (omega (arith, l)) e (λ i k. h (suc i) (omega (arith, k))) in
    grind (arith, nat_tests, here, rest)

-- what stands before the first mark, and that mark
pub through_offset : (mark offset : ℕ) (text : List ℕ)
    → offset < length text
    → get_or text offset 0 ≡ mark
    → ((i : ℕ) → i < offset → get_or text i 0 ≢ mark)
    → through mark text ≡ take (suc offset) text
unfolding through
through_offset mark offset [] l e h = absurd (omega (arith, l))
through_offset mark zero (c ∷ cs) l e h = grind (arith, nat_tests, e)
through_offset mark (suc offset) (c ∷ cs) l e h =
    let here : c ≢ mark = h 0 (omega arith) in
    let rest : through mark cs ≡ take (suc offset) cs =
    through_offset mark offset cs (omega (arith, l)) e (λ i k. h (suc i) (omega (arith, k))) in
    grind (arith, nat_tests, here, rest)

pub front_range : (text : List ℕ) (offset : ℕ)
    → slice_range text 0 (offset + 1) ≡ take (suc offset) text
front_range text offset =
    let same : offset + 1 - 0 ≡ suc offset = omega arith in ap (λ n. take n text) same

pub through_nowhere : (mark : ℕ) (text : List ℕ)
    → has_octet mark text ≡ false
    → through mark text ≡ text
unfolding through
through_nowhere mark [] h = refl
through_nowhere mark (c ∷ cs) h = grind (arith, nat_tests, through_nowhere mark cs)

-- a colon stands in the first segment where one stands in the text, and no slash before the first
pub colon_before_slash : (text : List ℕ)
    → has_colon_in_first_segment text
    ≡ (is_some (after colon text) && not (has_octet slash (before colon text)))
unfolding before after
colon_before_slash [] = refl
colon_before_slash (c ∷ cs) = grind (arith, nat_tests, colon_before_slash cs)

-- one slash, and no other after it
pub not_two_slashes : (text : List ℕ)
    → ((rest : List ℕ) → text ≢ slash ∷ rest)
    → after_two_slashes text ≡ None
not_two_slashes [] h = refl
not_two_slashes (c ∷ []) h = refl
not_two_slashes (c ∷ d ∷ cs) h =
    let here : c ≢ slash = λ e. h (d ∷ cs) (ap (λ x. x ∷ d ∷ cs) e) in
    grind (arith, nat_tests, here)

pub one_slash : (text rest : List ℕ)
    → text ≡ slash ∷ rest
    → ((more : List ℕ) → rest ≢ slash ∷ more)
    → after_two_slashes text ≡ None
one_slash text [] e h = rw e refl
one_slash text (d ∷ cs) e h =
    let here : d ≢ slash = λ k. h cs (ap (λ x. x ∷ cs) k) in
    let none : after_two_slashes (slash ∷ d ∷ cs) ≡ None = grind (arith, nat_tests, here) in
    ap after_two_slashes e ∙ none

pub two_slashes : (text rest more : List ℕ)
    → text ≡ slash ∷ rest
    → rest ≡ slash ∷ more
    → after_two_slashes text ≡ Some more
two_slashes text rest more e f = ap after_two_slashes (e ∙ ap (λ x. slash ∷ x) f)

-- what a second slash leaves, as a search after the first finds it
pub after_one_slash : (text rest : List ℕ) (found : Option (Bor (List ℕ)))
    → text ≡ slash ∷ rest
    → MatchOption found ((more : List ℕ) → rest ≢ slash ∷ more) (λ x. rest ≡ slash ∷ x.now)
    → option_map (λ x. x.now) found ≡ after_two_slashes text
after_one_slash text rest None e h = sym (one_slash text rest e h)
after_one_slash text rest (Some more) e h = sym (two_slashes text rest more.now e h)

-- a text that begins with the mark, and one that does not
no_first : (mark : ℕ) (text : List ℕ)
    → ((rest : List ℕ) → text ≢ mark ∷ rest)
    → begins_with mark text ≡ false
no_first mark [] h = refl
no_first mark (c ∷ cs) h =
    let here : c ≢ mark = λ e. h cs (ap (λ x. x ∷ cs) e) in
    grind (arith, nat_tests, here)

pub stripped : (mark : ℕ) (text : List ℕ) (found : Option (Bor (List ℕ)))
    → MatchOption found ((rest : List ℕ) → text ≢ mark ∷ rest) (λ x. text ≡ mark ∷ x.now)
    → MatchOption found (begins_with mark text ≡ false) (λ x. text ≡ mark ∷ x.now)
stripped mark text None h = no_first mark text h
stripped mark text (Some rest) h = h
