-- The last slash of a text, looked for from its end.
use Rattle.std.proofs.Common.{
  ◌≡◌,
  ℕ,
  ◌+◌,
  ◌-◌,
  Bool,
  true,
  false,
  ◌||◌,
  List,
  [],
  ◌∷◌,
  ◌++◌,
  length,
  take,
  drop,
  refl,
  sym,
  ap,
  ◌∙◌,
  append_assoc,
  length-drop,
  arith,
}
use Rattle.std.proofs.Math.Seq.{take-append_seam, take-length}
use Rattle.std.proofs.lemmas.List.{drop-take}
use Rattle.std.proofs.lemmas.Bool.Decides.{nat_tests}
use mathlib.Core.Logic.{◌≢◌}
use Rattle.link_model.specs.Characters.{slash}
use Rattle.reference_model.specs.References.{has_octet}
use Rattle.reference_model.proofs.ReferenceCuts.{has_octet-append}
use Rattle.ref_resolve.specs.Paths.{before_last}
use Rattle.ref_resolve.proofs.KeptSegments.{before_last-slash}

-- another octet at the end changes nothing
ends_otherwise : (front : List ℕ) (c : ℕ)
    → c ≢ slash
    → before_last slash (front ++ c ∷ []) ≡ before_last slash front
unfolding before_last
ends_otherwise [] c h = refl
ends_otherwise (x ∷ xs) c h =
    let last : has_octet slash (c ∷ []) ≡ false = grind (arith, nat_tests, h) in
    let same : has_octet slash (xs ++ c ∷ []) ≡ has_octet slash xs =
    has_octet-append slash xs (c ∷ []) ∙ rw last (or_false (has_octet slash xs)) in
    rw (same, ends_otherwise xs c h) refl
  where
    or_false : (b : Bool) → (b || false) ≡ b
    or_false true = refl
    or_false false = refl

-- an octet moves from the end of one list to the beginning of the next
pub moved : (text rest front after : List ℕ) (c : ℕ)
    → text ≡ rest ++ after
    → rest ≡ front ++ c ∷ []
    → text ≡ front ++ (c ∷ after)
moved text rest front after c e h =
    e ∙ ap (λ (r : List ℕ). r ++ after) h ∙ append_assoc front (c ∷ []) after

pub last_found : (text rest front after : List ℕ) (c : ℕ)
    → text ≡ rest ++ after
    → rest ≡ front ++ c ∷ []
    → c ≡ slash
    → before_last slash rest ≡ before_last slash text
    → before_last slash text ≡ take (length front) text
last_found text rest front after c e h k b =
    let cut : before_last slash rest ≡ front =
    ap (before_last slash) h
    ∙ ap (λ (x : ℕ). before_last slash (front ++ x ∷ [])) k
    ∙ before_last-slash front [] refl in
    let taken : take (length front) text ≡ front =
    ap (take (length front)) (moved text rest front after c e h)
    ∙ take-append_seam front (c ∷ after) in
    sym b ∙ cut ∙ sym taken

pub last_farther : (text rest front : List ℕ) (c : ℕ)
    → rest ≡ front ++ c ∷ []
    → c ≢ slash
    → before_last slash rest ≡ before_last slash text
    → before_last slash front ≡ before_last slash text
last_farther text rest front c h k b =
    sym (ends_otherwise front c k) ∙ sym (ap (before_last slash) h) ∙ b

pub last_nowhere : (text rest : List ℕ)
    → length rest ≡ 0
    → before_last slash rest ≡ before_last slash text
    → before_last slash text ≡ []
unfolding before_last
last_nowhere text [] h b = sym b
last_nowhere text (c ∷ cs) h b = absurd (omega (arith, h))

-- what is after an offset, cut at an offset of its own
pub cut_at_offset : (old bytes new : List ℕ) (start offset : ℕ)
    → bytes ≡ old
    → before_last slash (take (length bytes - start) (drop start bytes))
    ≡ take offset (take (length bytes - start) (drop start bytes))
    → new ≡ take (start + offset) old
    → drop start new ≡ before_last slash (drop start old)
cut_at_offset old bytes new start offset e b n =
    let whole : take (length bytes - start) (drop start bytes) ≡ drop start bytes =
    ap (λ (k : ℕ). take k (drop start bytes)) (sym (length-drop start bytes))
    ∙ take-length (drop start bytes) in
    let same : take (length bytes - start) (drop start bytes) ≡ drop start old =
    whole ∙ ap (drop start) e in
    ap (drop start) n
    ∙ drop-take start offset old
    ∙ ap (take offset) (sym same)
    ∙ sym b
    ∙ ap (before_last slash) same
