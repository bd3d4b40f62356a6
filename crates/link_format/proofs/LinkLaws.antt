-- The first link of a text is what its parts say.
use Rattle.std.proofs.Common.{
  ◌≡◌,
  ℕ,
  true,
  ◌&&◌,
  List,
  [],
  ◌∷◌,
  ◌++◌,
  Option,
  Some,
  None,
  option_and_then,
  refl,
  ap,
  ◌∙◌,
  subst,
  append_assoc,
  append-nil,
}
use Rattle.std.specs.Prelude.{◌==◌, not}
use Rattle.std.specs.Char.{is_ascii}
use Rattle.std.specs.List.{list_all}
use Rattle.std.proofs.lemmas.Bool.{and_parts}
use Rattle.link_model.specs.Characters.{
  comma,
  less_than_sign,
  greater_than_sign,
  is_empty,
  is_not_control,
  is_target_character,
}
use Rattle.link_model.specs.Documents.{
  Parameter,
  Link,
  parameters_text,
  link_text,
  is_parameter,
  is_link,
}
use Rattle.link_model.specs.DocumentReading.{at_beginning, after_part, links_from}
use Rattle.link_model.proofs.DocumentPoints.{further, links_text}
use Rattle.link_model.proofs.DocumentFound.{Spells, links_from_found}
use Rattle.link_model.proofs.DocumentLaws.{links_from_only}
use Rattle.rd_base.proofs.lemmas.Options.{some_same, none_some}
use Rattle.link_format.specs.declared.cuts.Quotes.TheVariants.{Unread, Outside}
use Rattle.link_format.specs.Cuts.{cut}
use Rattle.link_format.specs.Parts.{text_or_empty, parts_after, parts_opened, link_parts}
use Rattle.link_format.specs.LinksOfText.{links_of, lone_parameters, parameters_of}
use Rattle.link_format.proofs.PassedTexts.{
  onto_front,
  cut_there,
  cut_end,
  passes_unread,
  passes_parameters,
}

-- ---- the text of links

pub link_of-alike : (links : List Link)
    → list_all is_link links ≡ true
    → links_of (links_text links) ≡ Some links
link_of-alike [] h = links_from_only [] at_beginning [] refl refl
link_of-alike (l ∷ links) h =
    links_from_only (links_text (l ∷ links)) at_beginning (l ∷ links) h refl

-- what a text that spells links is
pub record Spelled (text : List ℕ) (links : List Link) : Type 0 where
  pub text_is : text ≡ links_text links
  pub each : list_all is_link links ≡ true

pub links_spelled : (text : List ℕ) (links : List Link)
    → links_of text ≡ Some links
    → Spelled text links
links_spelled text [] e = let s = links_from_found at_beginning text [] e in record {
  text_is = s.0;
  each = refl;
}
links_spelled text (l ∷ links) e =
    let s = links_from_found at_beginning text (l ∷ links) e in record {
      text_is = s.0;
      each = s.1;
    }

-- ---- the text of parameters

pub parameters_of-alike : (parameters : List Parameter)
    → list_all is_parameter parameters ≡ true
    → parameters_of (parameters_text parameters) ≡ Some parameters
unfolding parameters_of
parameters_of-alike parameters h =
    let l : Link = record { target = []; parameters = parameters } in
    ap (option_and_then lone_parameters)
    (links_from_only (parameters_text parameters) after_part (l ∷ []) (rw h refl)
    (append-nil (parameters_text parameters)))

-- what a text that spells parameters is
pub record SpelledParameters (text : List ℕ) (parameters : List Parameter) : Type 0 where
  pub text_is : text ≡ parameters_text parameters
  pub each : list_all is_parameter parameters ≡ true

pub parameters_spelled : (text : List ℕ) (parameters : List Parameter)
    → parameters_of text ≡ Some parameters
    → SpelledParameters text parameters
unfolding parameters_of
parameters_spelled text parameters e = by_links (links_from after_part text) refl e
  where
    by_one : (l : Link)
        → Spells after_part text (l ∷ [])
        → Some l.parameters ≡ Some parameters
        → SpelledParameters text parameters
    by_one l s e =
        let same : l.parameters ≡ parameters = some_same e in
        let whole : text ≡ parameters_text l.parameters =
        s.0 ∙ append-nil (parameters_text l.parameters) in
        let parts = and_parts (is_empty l.target && list_all is_parameter l.parameters) true s.1 in
        let more = and_parts (is_empty l.target) (list_all is_parameter l.parameters) parts.0 in
        subst (λ (ps : List Parameter). SpelledParameters text ps) same
        (record { text_is = whole; each = more.1 })

    by_links : (o : Option (List Link))
        → links_from after_part text ≡ o
        → option_and_then lone_parameters o ≡ Some parameters
        → SpelledParameters text parameters
    by_links None f e = absurd (none_some e)
    by_links (Some []) f e = absurd (none_some e)
    by_links (Some (l ∷ [])) f e = by_one l (links_from_found after_part text (l ∷ []) f) e
    by_links (Some (l ∷ m ∷ links)) f e = absurd (none_some e)

-- ---- the parts of the first link

no_greater_than : (target : List ℕ)
    → list_all is_target_character target ≡ true
    → list_all (λ b. not (b == greater_than_sign)) target ≡ true
no_greater_than [] h = refl
no_greater_than (b ∷ target) h =
    let parts = and_parts (is_target_character b) (list_all is_target_character target) h in
    let last = and_parts (is_ascii b && is_not_control b) (not (b == greater_than_sign)) parts.0 in
    rw (last.1, no_greater_than target parts.1) refl

cut_target : (target closed : List ℕ)
    → list_all is_target_character target ≡ true
    → cut greater_than_sign Unread (target ++ greater_than_sign ∷ closed) ≡ (target, Some closed)
cut_target target closed h =
    (passes_unread greater_than_sign target (no_greater_than target h)).on
    (greater_than_sign ∷ closed)
    ∙ ap (onto_front target) (cut_there greater_than_sign Unread greater_than_sign closed refl)
    ∙ ap (λ (t : List ℕ). (t, Some closed)) (append-nil target)

cut_further : (links : List Link)
    → (cut comma Outside (further links)).0 ≡ []
    × (text_or_empty (cut comma Outside (further links)).1 ≡ links_text links)
cut_further [] = let e = cut_end comma Outside in (rw e refl, rw e refl)
cut_further (l ∷ links) =
    let e = cut_there comma Outside comma (link_text l ++ further links) refl in
    (rw e refl, rw e refl)

parts_of_rest : (target : List ℕ) (parameters : List Parameter) (links : List Link)
    → list_all is_parameter parameters ≡ true
    → parts_after target (parameters_text parameters ++ further links)
    ≡ (target, parameters_text parameters, links_text links)
parts_of_rest target parameters links h =
    let rest = cut_further links in
    ap (λ (p : List ℕ × Option (List ℕ)). (target, p.0, text_or_empty p.1))
    ((passes_parameters parameters h).on (further links))
    ∙ ap (λ (t : List ℕ). (
      target,
      parameters_text parameters
          ++ t,
      text_or_empty (cut comma Outside (further links)).1,
    )) rest.0
    ∙ ap (λ (t : List ℕ). (target, t, text_or_empty (cut comma Outside (further links)).1))
    (append-nil (parameters_text parameters))
    ∙ ap (λ (t : List ℕ). (target, parameters_text parameters, t)) rest.1

opened_parts : (target closed : List ℕ)
    → list_all is_target_character target ≡ true
    → parts_opened (target ++ greater_than_sign ∷ closed) ≡ Some (parts_after target closed)
opened_parts target closed h =
    ap (λ (p : List ℕ × Option (List ℕ)).
    option_and_then (λ (c : List ℕ). Some (parts_after p.0 c)) p.1)
    (cut_target target closed h)

pub first_parts : (l : Link) (links : List Link)
    → is_link l ≡ true
    → link_parts (links_text (l ∷ links))
    ≡ Some (l.target, parameters_text l.parameters, links_text links)
unfolding link_parts
first_parts l links h =
    let parts =
    and_parts (list_all is_target_character l.target) (list_all is_parameter l.parameters) h in
    let opened : List ℕ =
    (l.target ++ greater_than_sign ∷ parameters_text l.parameters) ++ further links in
    ap (λ (p : List ℕ × Option (List ℕ)). option_and_then parts_opened p.1)
    (cut_there less_than_sign Unread less_than_sign opened refl)
    ∙ ap parts_opened
    (append_assoc l.target (greater_than_sign ∷ parameters_text l.parameters) (further links))
    ∙ opened_parts l.target (parameters_text l.parameters ++ further links) parts.0
    ∙ ap (λ (p : List ℕ × List ℕ × List ℕ). Some p)
    (parts_of_rest l.target l.parameters links parts.1)

pub no_parts : link_parts [] ≡ None
unfolding link_parts
no_parts =
    ap (λ (p : List ℕ × Option (List ℕ)). option_and_then parts_opened p.1)
    (cut_end less_than_sign Unread)
