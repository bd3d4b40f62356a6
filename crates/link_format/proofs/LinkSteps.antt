-- One step over the links of a text, by the parts of its first link.
use Rattle.std.proofs.Common.{
  ◌≡◌,
  ℕ,
  true,
  List,
  [],
  ◌∷◌,
  Option,
  Some,
  None,
  is_some,
  refl,
  sym,
  ap,
  ◌∙◌,
  subst,
}
use Rattle.std.specs.List.{list_all}
use Rattle.std.proofs.lemmas.Bool.{and_parts, false≢true}
use Rattle.link_model.specs.Documents.{Parameter, Link, parameters_text, is_parameter, is_link}
use Rattle.link_model.proofs.DocumentPoints.{links_text}
use Rattle.rd_base.proofs.lemmas.Options.{some_same, none_some}
use Rattle.link_format.specs.Parts.{link_parts}
use Rattle.link_format.specs.LinksOfText.{listed, links_of, links_in, parameters_of, parameters_in}
use Rattle.link_format.proofs.LinkLaws.{
  link_of-alike,
  links_spelled,
  parameters_of-alike,
  first_parts,
  no_parts,
}

-- what the parts of the first link say of a text
pub record NextLink (text target params rest : List ℕ) : Type 0 where
  pub first :
      links_in text ≡ record { target = target; parameters = parameters_in params } ∷ links_in rest
  pub left : is_some (links_of rest) ≡ true
  pub readable : is_some (parameters_of params) ≡ true

of_spelled : (l : Link) (links : List Link)
    → list_all is_parameter l.parameters ≡ true
    → list_all is_link links ≡ true
    → (text : List ℕ)
    → links_of text ≡ Some (l ∷ links)
    → NextLink text l.target (parameters_text l.parameters) (links_text links)
of_spelled l links h g text e =
    let rest : links_of (links_text links) ≡ Some links = link_of-alike links g in
    let inner : parameters_of (parameters_text l.parameters) ≡ Some l.parameters =
    parameters_of-alike l.parameters h in
    record {
      first =
          ap listed e
          ∙ ap (λ (ps : List Parameter). record { target = l.target; parameters = ps } ∷ links)
          (sym (ap listed inner))
          ∙ ap (λ (ls : List Link).
          record {
            target =
                l.target;
            parameters = parameters_in (parameters_text l.parameters);
          }
          ∷ ls) (sym (ap listed rest));
      left = ap is_some rest;
      readable = ap is_some inner;
    }

same_parts : (a b c x y z : List ℕ)
    → ◌≡◌ {A = Option (List ℕ × List ℕ × List ℕ)} (Some (a, b, c)) (Some (x, y, z))
    → (a ≡ x) × (b ≡ y) × (c ≡ z)
same_parts a b c x y z e =
    let s = some_same e in (
      ap (λ (p : List ℕ × List ℕ × List ℕ). p.0) s,
      ap (λ (p : List ℕ × List ℕ × List ℕ). p.1) s,
      ap
          (λ (p : List ℕ × List ℕ × List ℕ). p.2) s,
    )

pub next_link : (text target params rest : List ℕ)
    → is_some (links_of text) ≡ true
    → link_parts text ≡ Some (target, params, rest)
    → NextLink text target params rest
next_link text target params rest h e = by_links (links_of text) refl h
  where
    by_links : (o : Option (List Link))
        → links_of text ≡ o
        → is_some o ≡ true
        → NextLink text target params rest
    by_links None f h = absurd (false≢true h)
    by_links (Some []) f h =
        absurd
        (none_some (sym no_parts ∙ ap link_parts (sym ((links_spelled text [] f).text_is)) ∙ e))
    by_links (Some (l ∷ links)) f h =
        let s = links_spelled text (l ∷ links) f in
        let parts = and_parts (is_link l) (list_all is_link links) s.each in
        let more = and_parts _ (list_all is_parameter l.parameters) parts.0 in
        let same =
        same_parts l.target (parameters_text l.parameters) (links_text links) target params rest
        (sym (first_parts l links parts.0) ∙ ap link_parts (sym s.text_is) ∙ e) in
        subst (λ (t : List ℕ). NextLink text t params rest) same.0
        (subst (λ (t : List ℕ). NextLink text l.target t rest) same.1
        (subst (λ (t : List ℕ). NextLink text l.target (parameters_text l.parameters) t)
        same.2 (of_spelled l links more.1 parts.1 text f)))

pub no_link : (text : List ℕ)
    → is_some (links_of text) ≡ true
    → link_parts text ≡ None
    → links_in text ≡ []
no_link text h e = by_links (links_of text) refl h
  where
    by_links : (o : Option (List Link))
        → links_of text ≡ o
        → is_some o ≡ true
        → listed (links_of text) ≡ []
    by_links None f h = absurd (false≢true h)
    by_links (Some []) f h = ap listed f
    by_links (Some (l ∷ links)) f h =
        let s = links_spelled text (l ∷ links) f in
        let parts = and_parts (is_link l) (list_all is_link links) s.each in
        absurd (none_some (sym e ∙ ap link_parts s.text_is ∙ first_parts l links parts.0))
