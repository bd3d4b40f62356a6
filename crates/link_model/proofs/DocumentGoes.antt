-- What is left at a point ends there, or goes on with an octet that may stand there: so links of
-- the grammar are read from what spells them.
use Rattle.std.proofs.Common.{
  ◌≡◌,
  ℕ,
  Bool,
  true,
  false,
  ◌&&◌,
  ◌||◌,
  List,
  [],
  ◌∷◌,
  Option,
  Some,
  None,
  refl,
  sym,
  subst,
  ◌⊎◌,
  inl,
  inr,
}
use Rattle.std.specs.Prelude.{◌==◌}
use Rattle.std.specs.List.{list_all}
use Rattle.std.proofs.lemmas.Bool.{false≢true, eqb-true}
use Rattle.link_model.specs.Characters.{
  quote_mark,
  asterisk,
  comma,
  backslash,
  semicolon,
  less_than_sign,
  equals_sign,
  greater_than_sign,
  is_not_control,
  is_attribute_name_character,
  is_token_character,
  is_target_character,
}
use Rattle.link_model.specs.Documents.{
  Parameter,
  Link,
  are_name_characters,
  closes_quotes,
  is_value,
  is_parameter,
  is_link,
}
use Rattle.link_model.specs.DocumentReading.{
  Point,
  at_beginning,
  at_link,
  at_target,
  after_part,
  at_name,
  within_name,
  after_name,
  at_value,
  in_token,
  in_quotes,
  after_backslash,
  point_after,
  link_of,
  with_octet,
  links_at_end,
}
use Rattle.rd_base.proofs.lemmas.Numbers.{other_octet}
use Rattle.link_model.proofs.DocumentPoints.{text_at, fits_at}
use Rattle.link_model.proofs.DocumentSteps.{link_with, each_form}

-- nothing is left, and the document may end
abbrev pub Ends : Point → List Link → Type 0
Ends point links = (text_at point links ≡ []) × (links_at_end point ≡ Some links)

-- an octet is left, and what is left after it
pub record Goes (point : Point) (links : List Link) : Type 0 where
  pub octet : ℕ
  pub next : Point
  pub rest : List Link
  pub follows : point_after point octet ≡ Some next
  pub made : with_octet point octet rest ≡ links
  pub fits : fits_at next rest ≡ true

abbrev EndsOrGoes : Point → List Link → Type 0
EndsOrGoes point links = Ends point links ⊎ Goes point links

-- the octet, with its test, and what is left after it
tested : (a b c d : Bool) → ((a && b) && c) && d ≡ true → (a ≡ true) × ((b && c) && d ≡ true)
tested true b c d h = (refl, h)
tested false b c d h = absurd (false≢true h)

tested_name : (a b v c d : Bool)
    → (((a && b) && v) && c) && d ≡ true
    → (a ≡ true) × (((b && v) && c) && d ≡ true)
tested_name true b v c d h = (refl, h)
tested_name false b v c d h = absurd (false≢true h)

or_nothing : (a c d : Bool) → ((a || false) && c) && d ≡ true → (a && c) && d ≡ true
or_nothing true c d h = h
or_nothing false c d h = absurd (false≢true h)

-- where a part has ended: the end of the document, a further link, or a further parameter
over : (point : Point) (link : List Parameter → Link)
    → Ends point (link [] ∷ [])
    → point_after point comma ≡ Some at_link
    → point_after point semicolon ≡ Some at_name
    → ((m : Link) (links : List Link) → with_octet point comma (m ∷ links) ≡ link [] ∷ m ∷ links)
    → ((p : Parameter) (ps : List Parameter) (links : List Link)
    → with_octet point semicolon (link_of (p ∷ ps) ∷ links) ≡ link (p ∷ ps) ∷ links)
    → (ps : List Parameter) (links : List Link)
    → list_all is_parameter ps && list_all is_link links ≡ true
    → EndsOrGoes point (link ps ∷ links)
over point link ends c s f g [] [] h = inl ends
over point link ends c s f g [] (m ∷ links) h =
    inr (record {
      octet = comma;
      next = at_link;
      rest = m
          ∷ links;
      follows = c;
      made = f m links;
      fits = h;
    })
over point link ends c s f g (p ∷ ps) links h =
    inr (record {
      octet = semicolon;
      next = at_name;
      rest = link_of (p ∷ ps)
          ∷ links;
      follows = s;
      made = g p ps links;
      fits = h;
    })

-- the first octet is this mark or another: what is left ends or goes on in either case
where_mark : (c mark : ℕ) (point : Point) (links : ℕ → List Link)
    → ((fits_at point (links mark) ≡ true) → EndsOrGoes point (links mark))
    → fits_at point (links c) ≡ true
    → ((c == mark) ≡ false → EndsOrGoes point (links c))
    → EndsOrGoes point (links c)
where_mark c mark point links at_mark h other = by (c == mark) refl
  where
    by : (b : Bool) → (c == mark) ≡ b → EndsOrGoes point (links c)
    by true e =
        subst (λ (d : ℕ). fits_at point (links d) ≡ true → EndsOrGoes point (links d))
        (sym (eqb-true c mark e)) at_mark h
    by false e = other e

target_goes : (t : List ℕ) (ps : List Parameter) (links : List Link)
    → fits_at at_target (record { target = t; parameters = ps } ∷ links) ≡ true
    → EndsOrGoes at_target (record { target = t; parameters = ps } ∷ links)
unfolding point_after with_octet
target_goes [] ps links h =
    inr (record {
      octet = greater_than_sign;
      next = after_part;
      rest = link_of ps
          ∷ links;
      follows = refl;
      made = refl;
      fits = h;
    })
target_goes (c ∷ t) ps links h =
    let first =
    tested (is_target_character c) (list_all is_target_character t) (list_all is_parameter ps)
    (list_all is_link links) h in
    let other : (c == greater_than_sign) ≡ false =
    other_octet is_target_character c greater_than_sign (first.0) refl in
    inr (record {
      octet = c;
      next = at_target;
      rest = record { target = t; parameters = ps }
          ∷ links;
      follows = rw (first.0, other) refl;
      made = rw other refl;
      fits = first.1;
    })

name_goes : (n : List ℕ) (v : Option (List ℕ)) (ps : List Parameter) (links : List Link)
    → fits_at at_name (link_with n v ps ∷ links) ≡ true
    → EndsOrGoes at_name (link_with n v ps ∷ links)
unfolding point_after with_octet
name_goes [] v ps links h = absurd (false≢true h)
name_goes (c ∷ n) v ps links h =
    let first =
    tested_name (is_attribute_name_character c) (are_name_characters n) (is_value v)
    (list_all is_parameter ps) (list_all is_link links) h in
    inr (record {
      octet = c;
      next = within_name;
      rest = link_with n v ps
          ∷ links;
      follows = rw (first.0) refl;
      made = refl;
      fits = first.1;
    })

within_name_goes : (n : List ℕ) (v : Option (List ℕ)) (ps : List Parameter) (links : List Link)
    → fits_at within_name (link_with n v ps ∷ links) ≡ true
    → EndsOrGoes within_name (link_with n v ps ∷ links)
unfolding point_after with_octet links_at_end
within_name_goes [] None ps links h =
    over within_name (λ ps. link_with [] None ps) (refl, refl) refl refl (λ m links. refl)
    (λ p ps links. refl) ps links h
within_name_goes [] (Some v) ps links h =
    inr (record {
      octet = equals_sign;
      next = at_value;
      rest = link_with [] (Some v) ps
          ∷ links;
      follows = refl;
      made = refl;
      fits = h;
    })
within_name_goes (c ∷ n) v ps links h =
    where_mark c asterisk within_name (λ d. link_with (d ∷ n) v ps ∷ links) (at_asterisk n) h
    at_other
  where
    at_asterisk : (m : List ℕ)
        → fits_at within_name (link_with (asterisk ∷ m) v ps ∷ links) ≡ true
        → EndsOrGoes within_name (link_with (asterisk ∷ m) v ps ∷ links)
    at_asterisk [] k =
        inr (record {
          octet = asterisk;
          next = after_name;
          rest = link_with [] v ps
              ∷ links;
          follows = refl;
          made = refl;
          fits = k;
        })
    at_asterisk (x ∷ m) k = absurd (false≢true k)

    at_other : (c == asterisk) ≡ false → EndsOrGoes within_name (link_with (c ∷ n) v ps ∷ links)
    at_other e =
        let first =
        tested_name (is_attribute_name_character c) (are_name_characters n) (is_value v)
        (list_all is_parameter ps) (list_all is_link links) (rw e at h) in
        inr (record {
          octet = c;
          next = within_name;
          rest = link_with n v ps
              ∷ links;
          follows =
              rw (first.0) refl;
          made = rw (first.0) refl;
          fits = first.1;
        })

after_name_goes : (v : Option (List ℕ)) (ps : List Parameter) (links : List Link)
    → fits_at after_name (link_with [] v ps ∷ links) ≡ true
    → EndsOrGoes after_name (link_with [] v ps ∷ links)
unfolding point_after with_octet links_at_end
after_name_goes None ps links h =
    over after_name (λ ps. link_with [] None ps) (refl, refl) refl refl (λ m links. refl)
    (λ p ps links. refl) ps links h
after_name_goes (Some v) ps links h =
    inr (record {
      octet = equals_sign;
      next = at_value;
      rest = link_with [] (Some v) ps
          ∷ links;
      follows = refl;
      made = refl;
      fits = h;
    })

value_goes : (v : List ℕ) (ps : List Parameter) (links : List Link)
    → fits_at at_value (link_with [] (Some v) ps ∷ links) ≡ true
    → EndsOrGoes at_value (link_with [] (Some v) ps ∷ links)
unfolding point_after with_octet
value_goes [] ps links h = absurd (false≢true h)
value_goes (c ∷ v) ps links h =
    where_mark c quote_mark at_value (λ d. link_with [] (Some (d ∷ v)) ps ∷ links)
    (λ k.
    inr (record {
      octet = quote_mark;
      next = in_quotes;
      rest = link_with [] (Some v) ps
          ∷ links;
      follows = refl;
      made = refl;
      fits = k;
    })) h
    (λ e.
    let first =
    tested (is_token_character c) (list_all is_token_character v) (list_all is_parameter ps)
    (list_all is_link links)
    (or_nothing (is_token_character c && list_all is_token_character v) (list_all
    is_parameter ps) (list_all is_link links) (rw e at h)) in
    inr (record {
      octet = c;
      next = in_token;
      rest = link_with [] (Some v) ps
          ∷ links;
      follows = rw (e, first.0) refl;
      made = refl;
      fits = first.1;
    }))

token_goes : (v : List ℕ) (ps : List Parameter) (links : List Link)
    → fits_at in_token (link_with [] (Some v) ps ∷ links) ≡ true
    → EndsOrGoes in_token (link_with [] (Some v) ps ∷ links)
unfolding point_after with_octet links_at_end
token_goes [] ps links h =
    over in_token (λ ps. link_with [] (Some []) ps) (refl, refl) refl refl (λ m links. refl)
    (λ p ps links. refl) ps links h
token_goes (c ∷ v) ps links h =
    let first =
    tested (is_token_character c) (list_all is_token_character v) (list_all is_parameter ps)
    (list_all is_link links) h in
    inr (record {
      octet = c;
      next = in_token;
      rest = link_with [] (Some v) ps
          ∷ links;
      follows = rw (first.0) refl;
      made = rw (first.0) refl;
      fits = first.1;
    })

quotes_goes : (v : List ℕ) (ps : List Parameter) (links : List Link)
    → fits_at in_quotes (link_with [] (Some v) ps ∷ links) ≡ true
    → EndsOrGoes in_quotes (link_with [] (Some v) ps ∷ links)
unfolding point_after with_octet
quotes_goes [] ps links h = absurd (false≢true h)
quotes_goes (c ∷ v) ps links h =
    where_mark c quote_mark in_quotes (λ d. link_with [] (Some (d ∷ v)) ps ∷ links) (at_quote v) h
    (λ q. where_mark c backslash in_quotes (λ d. link_with [] (Some (d ∷ v)) ps ∷ links)
    (λ k.
    inr (record {
      octet = backslash;
      next = after_backslash;
      rest = link_with [] (Some v) ps
          ∷ links;
      follows = refl;
      made = refl;
      fits = k;
    })) h (at_other q))
  where
    at_quote : (w : List ℕ)
        → fits_at in_quotes (link_with [] (Some (quote_mark ∷ w)) ps ∷ links) ≡ true
        → EndsOrGoes in_quotes (link_with [] (Some (quote_mark ∷ w)) ps ∷ links)
    at_quote [] k =
        inr (record {
          octet = quote_mark;
          next = after_part;
          rest = link_of ps
              ∷ links;
          follows = refl;
          made = refl;
          fits = k;
        })
    at_quote (x ∷ w) k = absurd (false≢true k)

    at_other : (c == quote_mark) ≡ false
        → (c == backslash) ≡ false
        → EndsOrGoes in_quotes (link_with [] (Some (c ∷ v)) ps ∷ links)
    at_other q b =
        let first =
        tested (is_not_control c) (closes_quotes false v) (list_all is_parameter ps)
        (list_all is_link links) (rw (q, b) at h) in
        inr (record {
          octet = c;
          next = in_quotes;
          rest = link_with [] (Some v) ps
              ∷ links;
          follows = rw (q, b, first.0) refl;
          made = rw q refl;
          fits = first.1;
        })

escaped_goes : (v : List ℕ) (ps : List Parameter) (links : List Link)
    → fits_at after_backslash (link_with [] (Some v) ps ∷ links) ≡ true
    → EndsOrGoes after_backslash (link_with [] (Some v) ps ∷ links)
unfolding point_after with_octet
escaped_goes [] ps links h = absurd (false≢true h)
escaped_goes (c ∷ v) ps links h =
    let first =
    tested (is_not_control c) (closes_quotes false v) (list_all is_parameter ps)
    (list_all is_link links) h in
    inr (record {
      octet = c;
      next = in_quotes;
      rest = link_with [] (Some v) ps
          ∷ links;
      follows = rw (first.0) refl;
      made = refl;
      fits = first.1;
    })

-- what may be left at a point is nothing, where the document may end, or has a first octet that may
-- stand there
pub ends_or_goes : (point : Point) (links : List Link)
    → fits_at point links ≡ true
    → EndsOrGoes point links
unfolding point_after with_octet links_at_end
ends_or_goes at_beginning =
    each_form at_beginning (EndsOrGoes at_beginning) (
      inl (refl, refl),
      λ l links h.
          inr (record {
            octet = less_than_sign;
            next = at_target;
            rest = l
                ∷ links;
            follows = refl;
            made = refl;
            fits = h;
          }),
    )
ends_or_goes at_link =
    each_form at_link (EndsOrGoes at_link) (λ l links h.
    inr (record {
      octet = less_than_sign;
      next = at_target;
      rest = l
          ∷ links;
      follows = refl;
      made = refl;
      fits = h;
    }))
ends_or_goes at_target = each_form at_target (EndsOrGoes at_target) target_goes
ends_or_goes after_part =
    each_form after_part (EndsOrGoes after_part) (λ ps links h.
    over after_part (λ ps. link_of ps) (refl, refl) refl refl (λ m links. refl)
    (λ p ps links. refl) ps links h)
ends_or_goes at_name = each_form at_name (EndsOrGoes at_name) name_goes
ends_or_goes within_name = each_form within_name (EndsOrGoes within_name) within_name_goes
ends_or_goes after_name = each_form after_name (EndsOrGoes after_name) after_name_goes
ends_or_goes at_value = each_form at_value (EndsOrGoes at_value) value_goes
ends_or_goes in_token = each_form in_token (EndsOrGoes in_token) token_goes
ends_or_goes in_quotes = each_form in_quotes (EndsOrGoes in_quotes) quotes_goes
ends_or_goes after_backslash = each_form after_backslash (EndsOrGoes after_backslash) escaped_goes
