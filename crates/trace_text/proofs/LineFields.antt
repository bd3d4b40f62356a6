-- What fields say, by their number, and that what is said is a line.
use Rattle.std.proofs.Common.{
  ◌≡◌,
  ℕ,
  ◌<◌,
  ◌≤◌,
  List,
  [],
  ◌∷◌,
  length,
  None,
  Ok,
  refl,
  sym,
  ap,
  subst,
  inl,
  inr,
  ◌∙◌,
  arith,
}
use Rattle.std.proofs.lemmas.List.Splits.{length-slice_split}
use Rattle.std.specs.Prelude.{◌==◌}
use Rattle.hex.specs.Hex.{IsBytes}
use Rattle.hex.proofs.HexLemmas.{decode_of-ok}
use Rattle.line_model.specs.declared.lines.Line.{Line}
use Rattle.line_model.specs.Datagrams.{max_datagram, IsDatagramText}
use Rattle.line_model.specs.Lines.{
  space,
  fields,
  said_by,
  line_of,
  line_text,
  IsLine,
  come,
  go,
  tick,
  begin,
  AreFieldsOf,
  comes,
  comes_alone,
  goes,
  ticks,
  ticks_alone,
  begins,
}
use Rattle.line_model.proofs.PrintedLines.{line_of-line_text}

module _ (text : List ℕ) where
  -- one field
  pub one_says_nothing : fields text ≡ text ∷ [] → said_by (fields text) ≡ None
  unfolding said_by
  one_says_nothing e = ap (λ fs. said_by fs) e

  -- two fields
  pub two_say_nothing : (first rest : List ℕ)
      → fields text ≡ first ∷ fields rest
      → fields rest ≡ rest ∷ []
      → said_by (fields text) ≡ None
  unfolding said_by
  two_say_nothing first rest e h = ap (λ fs. said_by fs) (e ∙ ap (λ fs. first ∷ fs) h)

-- a text has a field
has_field : (text : List ℕ) → 0 < length (fields text)
has_field text = omega (arith, length-slice_split (λ b. b == space) text)

seven : (a b c d e f : List ℕ) (more : List (List ℕ))
    → 0 < length more
    → said_by (a ∷ b ∷ c ∷ d ∷ e ∷ f ∷ more) ≡ None
unfolding said_by
seven a b c d e f [] h = absurd (omega (arith, h))
seven a b c d e f (g ∷ more) h = refl

-- seven fields or more
pub seven_say_nothing :
    (text a text1 b text2 c text3 d text4 e text5 f text6 : List ℕ)
    → fields text ≡ a ∷ fields text1
    → fields text1 ≡ b ∷ fields text2
    → fields text2 ≡ c ∷ fields text3
    → fields text3 ≡ d ∷ fields text4
    → fields text4 ≡ e ∷ fields text5
    → fields text5 ≡ f ∷ fields text6
    → said_by (fields text) ≡ None
seven_say_nothing text a text1 b text2 c text3 d text4 e text5 f text6 ea eb ec ed ee ef =
    ap (λ fs. said_by fs) (ea
    ∙ ap (λ fs. a ∷ fs)
    (eb
    ∙ ap (λ fs. b ∷ fs)
    (ec ∙ ap (λ fs. c ∷ fs) (ed ∙ ap (λ fs. d ∷ fs) (ee ∙ ap (λ fs. e ∷ fs) ef)))))
    ∙ seven a b c d e f (fields text6) (has_field text6)

-- what a text writes is octets, and not too many
datagram_fits : (text octets : List ℕ)
    → IsDatagramText text octets
    → (length octets ≤ max_datagram) × IsBytes octets
datagram_fits text octets (inl h) = (
  subst (λ (xs : List ℕ). length xs ≤ max_datagram) (sym h.1) (omega arith),
  subst IsBytes
      (sym h.1) (λ k. omega arith),
)
datagram_fits text octets (inr h) = (h.2, (decode_of-ok text octets h.0).3)

-- what fields spell is a line
pub spelled_line : (parts : List (List ℕ)) (l : Line) → AreFieldsOf parts l → IsLine l
spelled_line _ _ (comes {w} {m} {p} {d} {x} {worker} {moment} {peer} {octets} hw hm hp hd hx) =
    let fits = datagram_fits d octets hd in
    come hw.within hm.within hp.fits fits.0 fits.1 hx.within
spelled_line _ _ (comes_alone {w} {m} {p} {d} {worker} {moment} {peer} {octets} hw hm hp hd) =
    let fits = datagram_fits d octets hd in
    come hw.within hm.within hp.fits fits.0 fits.1 (omega arith)
spelled_line _ _ (goes hw hm) = go hw.within hm.within
spelled_line _ _ (ticks hw hm hx) = tick hw.within hm.within hx.within
spelled_line _ _ (ticks_alone hw hm) = tick hw.within hm.within (omega arith)
spelled_line _ _ (begins hw hm hn) = begin hw.within hm.within hn.within

-- what is printed is read back
pub read_back : (text : List ℕ) (l : Line) → IsLine l → text ≡ line_text l → line_of text ≡ Ok l
read_back text l h e = ap line_of e ∙ line_of-line_text l h
