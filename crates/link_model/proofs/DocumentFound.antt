-- What is read from a point on is what the octets there spell.
use Rattle.std.proofs.Common.{
  ◌≡◌,
  ℕ,
  true,
  List,
  [],
  ◌∷◌,
  Option,
  Some,
  None,
  option_map,
  option_and_then,
  refl,
  ap,
  ◌∙◌,
  subst,
}
use Rattle.link_model.specs.Documents.{Link}
use Rattle.link_model.specs.DocumentReading.{
  Point,
  at_beginning,
  at_link,
  at_target,
  after_part,
  at_name,
  within_name,
  after_name,
  at_value,
  in_token,
  in_quotes,
  after_backslash,
  point_after,
  with_octet,
  links_at_end,
  links_from,
}
use Rattle.rd_base.proofs.lemmas.Options.{some_same, none_some}
use Rattle.link_model.proofs.DocumentPoints.{text_at, fits_at}
use Rattle.link_model.proofs.DocumentSteps.{each_step}

-- what is read spells the octets, and is of the grammar
abbrev pub Spells : Point → List ℕ → List Link → Type 0
Spells point bytes links = (bytes ≡ text_at point links) × (fits_at point links ≡ true)

spells_end : (point : Point) (links : List Link)
    → links_at_end point ≡ Some links
    → Spells point [] links
unfolding links_at_end
spells_end at_beginning links h = subst (Spells at_beginning []) (some_same h) (refl, refl)
spells_end at_link links h = absurd (none_some h)
spells_end at_target links h = absurd (none_some h)
spells_end after_part links h = subst (Spells after_part []) (some_same h) (refl, refl)
spells_end at_name links h = absurd (none_some h)
spells_end within_name links h = subst (Spells within_name []) (some_same h) (refl, refl)
spells_end after_name links h = subst (Spells after_name []) (some_same h) (refl, refl)
spells_end at_value links h = absurd (none_some h)
spells_end in_token links h = subst (Spells in_token []) (some_same h) (refl, refl)
spells_end in_quotes links h = absurd (none_some h)
spells_end after_backslash links h = absurd (none_some h)

spells_step : (point : Point) (c : ℕ) (cs : List ℕ) (links : List Link)
    → ((q : Point) (rest : List Link) → links_from q cs ≡ Some rest → Spells q cs rest)
    → option_and_then (λ next. option_map (with_octet point c) (links_from next cs))
    (point_after point c)
    ≡ Some links
    → Spells point (c ∷ cs) links
spells_step point c cs links again = at_next (point_after point c) refl
  where
    at_rest : (q : Point)
        → point_after point c ≡ Some q
        → (r : Option (List Link))
        → links_from q cs ≡ r
        → option_map (with_octet point c) r ≡ Some links
        → Spells point (c ∷ cs) links
    at_rest q e None f h = absurd (none_some h)
    at_rest q e (Some rest) f h =
        let further = again q rest f in
        let step = each_step point c q e rest (further.1) in
        subst (Spells point (c ∷ cs)) (some_same h)
        (ap (λ (x : List ℕ). c ∷ x) (further.0) ∙ step.0, step.1)

    at_next : (o : Option Point)
        → point_after point c ≡ o
        → option_and_then (λ next. option_map (with_octet point c) (links_from next cs)) o
        ≡ Some links
        → Spells point (c ∷ cs) links
    at_next None e h = absurd (none_some h)
    at_next (Some q) e h = at_rest q e (links_from q cs) refl h

-- the links that are read from a point on
pub links_from_found : (point : Point) (bytes : List ℕ) (links : List Link)
    → links_from point bytes ≡ Some links
    → Spells point bytes links
unfolding links_from
links_from_found point [] links h = spells_end point links h
links_from_found point (c ∷ cs) links h =
    spells_step point c cs links (λ q rest e. links_from_found q cs rest e) h
