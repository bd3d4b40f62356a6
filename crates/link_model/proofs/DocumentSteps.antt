-- The moves of the grammar: an octet in front of what is left at the next point gives what is left
-- at this one.
use Rattle.std.proofs.Common.{
  ◌≡◌,
  ℕ,
  Bool,
  true,
  false,
  ◌&&◌,
  ◌||◌,
  List,
  [],
  ◌∷◌,
  Option,
  Some,
  None,
  refl,
  sym,
  ◌∙◌,
  subst,
}
use Rattle.std.specs.Prelude.{◌==◌, if◌then◌else◌}
use Rattle.std.specs.List.{list_all}
use Rattle.std.proofs.lemmas.Bool.{and_parts, false≢true, eqb-true}
use Rattle.link_model.specs.Characters.{
  quote_mark,
  asterisk,
  comma,
  backslash,
  semicolon,
  less_than_sign,
  equals_sign,
  greater_than_sign,
  is_not_control,
  is_attribute_name_character,
  is_token_character,
  is_target_character,
}
use Rattle.link_model.specs.Documents.{Parameter, Link, closes_quotes, is_parameter, is_link}
use Rattle.link_model.specs.DocumentReading.{
  Point,
  at_beginning,
  at_link,
  at_target,
  after_part,
  at_name,
  within_name,
  after_name,
  at_value,
  in_token,
  in_quotes,
  after_backslash,
  point_if,
  point_after_part,
  point_after_name,
  point_after,
  link_of,
  with_octet,
}
use Rattle.rd_base.proofs.lemmas.Numbers.{other_octet}
use Rattle.rd_base.proofs.lemmas.Options.{some_same, none_some}
use Rattle.link_model.proofs.DocumentPoints.{text_at, fits_link, fits_at, is_beginning}

-- a link with nothing left of its target, and this left of its parameters
abbrev pub link_with : List ℕ → Option (List ℕ) → List Parameter → Link
link_with name value parameters = link_of (record { name = name; value = value } ∷ parameters)

-- ---- the forms of what is left

-- it holds of each form that what is left may have at a point
abbrev pub EachForm : Point → (List Link → Type 0) → Type 0
EachForm at_beginning P =
    P []
    × ((l : Link) (links : List Link) → fits_at at_beginning (l ∷ links) ≡ true → P (l ∷ links))
EachForm at_link P =
    (l : Link) (links : List Link) → fits_at at_link (l ∷ links) ≡ true → P (l ∷ links)
EachForm at_target P =
    (t : List ℕ) (ps : List Parameter) (links : List Link)
    → fits_at at_target (record { target = t; parameters = ps } ∷ links) ≡ true
    → P (record { target = t; parameters = ps } ∷ links)
EachForm after_part P =
    (ps : List Parameter) (links : List Link)
    → fits_at after_part (link_of ps ∷ links) ≡ true
    → P (link_of ps ∷ links)
EachForm after_name P =
    (v : Option (List ℕ)) (ps : List Parameter) (links : List Link)
    → fits_at after_name (link_with [] v ps ∷ links) ≡ true
    → P (link_with [] v ps ∷ links)
EachForm at_name P =
    (n : List ℕ) (v : Option (List ℕ)) (ps : List Parameter) (links : List Link)
    → fits_at at_name (link_with n v ps ∷ links) ≡ true
    → P (link_with n v ps ∷ links)
EachForm within_name P =
    (n : List ℕ) (v : Option (List ℕ)) (ps : List Parameter) (links : List Link)
    → fits_at within_name (link_with n v ps ∷ links) ≡ true
    → P (link_with n v ps ∷ links)
EachForm point P =
    (v : List ℕ) (ps : List Parameter) (links : List Link)
    → fits_at point (link_with [] (Some v) ps ∷ links) ≡ true
    → P (link_with [] (Some v) ps ∷ links)

-- a link of whose target nothing may be left
each_past_target : (point : Point)
    → is_beginning point ≡ false
    → ((c : ℕ) (t : List ℕ) (ps : List Parameter)
    → fits_link point (record { target = c ∷ t; parameters = ps }) ≡ false)
    → (P : List Link → Type 0)
    → ((ps : List Parameter) (links : List Link)
    → fits_at point (link_of ps ∷ links) ≡ true
    → P (link_of ps ∷ links))
    → (links : List Link)
    → fits_at point links ≡ true
    → P links
each_past_target point first past P each [] h = absurd (false≢true (sym first ∙ h))
each_past_target point first past P each (l ∷ links) h = go l.target h
  where
    go : (t : List ℕ)
        → fits_at point (record { target = t; parameters = l.parameters } ∷ links) ≡ true
        → P (record { target = t; parameters = l.parameters } ∷ links)
    go [] k = each l.parameters links k
    go (c ∷ t) k =
        absurd (false≢true (sym (past c t l.parameters)
        ∙ (and_parts
        (fits_link point (record { target = c ∷ t; parameters = l.parameters }))
        (list_all is_link links) k).0))

-- a link of which a parameter is left
each_parameter : (point : Point) → fits_link point (link_of []) ≡ false → (P : List Link → Type 0)
    → ((n : List ℕ) (v : Option (List ℕ)) (ps : List Parameter) (links : List Link)
    → fits_at point (link_with n v ps ∷ links) ≡ true
    → P (link_with n v ps ∷ links))
    → (ps : List Parameter) (links : List Link)
    → fits_at point (link_of ps ∷ links) ≡ true
    → P (link_of ps ∷ links)
each_parameter point none P each [] links h =
    absurd (false≢true
    (sym none ∙ (and_parts (fits_link point (link_of [])) (list_all is_link links) h).0))
each_parameter point none P each (p ∷ ps) links h = each p.name p.value ps links h

-- a parameter of whose name nothing may be left
each_past_name : (point : Point)
    → ((c : ℕ) (n : List ℕ) (v : Option (List ℕ)) (ps : List Parameter)
    → fits_link point (link_with (c ∷ n) v ps) ≡ false)
    → (P : List Link → Type 0)
    → ((v : Option (List ℕ)) (ps : List Parameter) (links : List Link)
    → fits_at point (link_with [] v ps ∷ links) ≡ true
    → P (link_with [] v ps ∷ links))
    → (n : List ℕ) (v : Option (List ℕ)) (ps : List Parameter) (links : List Link)
    → fits_at point (link_with n v ps ∷ links) ≡ true
    → P (link_with n v ps ∷ links)
each_past_name point past P each [] v ps links h = each v ps links h
each_past_name point past P each (c ∷ n) v ps links h =
    absurd (false≢true (sym (past c n v ps)
    ∙ (and_parts (fits_link point (link_with (c ∷ n) v ps)) (list_all is_link links) h).0))

-- a parameter of which a value is left
each_value : (point : Point)
    → ((ps : List Parameter) → fits_link point (link_with [] None ps) ≡ false)
    → (P : List Link → Type 0)
    → ((v : List ℕ) (ps : List Parameter) (links : List Link)
    → fits_at point (link_with [] (Some v) ps ∷ links) ≡ true
    → P (link_with [] (Some v) ps ∷ links))
    → (v : Option (List ℕ)) (ps : List Parameter) (links : List Link)
    → fits_at point (link_with [] v ps ∷ links) ≡ true
    → P (link_with [] v ps ∷ links)
each_value point none P each None ps links h =
    absurd (false≢true (sym (none ps)
    ∙ (and_parts (fits_link point (link_with [] None ps)) (list_all is_link links) h).0))
each_value point none P each (Some v) ps links h = each v ps links h

-- what holds of each form holds of all that may be left at the point
pub each_form : (point : Point) (P : List Link → Type 0)
    → EachForm point P
    → (links : List Link)
    → fits_at point links ≡ true
    → P links
each_form at_beginning P f [] h = f.0
each_form at_beginning P f (l ∷ links) h = f.1 l links h
each_form at_link P f [] h = absurd (false≢true h)
each_form at_link P f (l ∷ links) h = f l links h
each_form at_target P f [] h = absurd (false≢true h)
each_form at_target P f (l ∷ links) h = f l.target l.parameters links h
each_form after_part P f links h = each_past_target after_part refl (λ c t ps. refl) P f links h
each_form at_name P f links h =
    each_past_target at_name refl (λ c t ps. refl) P (each_parameter at_name refl P f) links h
each_form within_name P f links h =
    each_past_target within_name refl (λ c t ps. refl) P (each_parameter within_name refl P f) links
    h
each_form after_name P f links h =
    each_past_target after_name refl (λ c t ps. refl) P
    (each_parameter after_name refl P (each_past_name after_name (λ c n v ps. refl) P f)) links
    h
each_form at_value P f links h =
    each_past_target at_value refl (λ c t ps. refl) P (each_parameter at_value refl P
    (each_past_name at_value (λ c n v ps. refl) P (each_value at_value (λ ps. refl) P f)))
    links h
each_form in_token P f links h =
    each_past_target in_token refl (λ c t ps. refl) P (each_parameter in_token refl P
    (each_past_name in_token (λ c n v ps. refl) P (each_value in_token (λ ps. refl) P f)))
    links h
each_form in_quotes P f links h =
    each_past_target in_quotes refl (λ c t ps. refl) P (each_parameter in_quotes refl P
    (each_past_name in_quotes (λ c n v ps. refl) P (each_value in_quotes (λ ps. refl) P f)))
    links h
each_form after_backslash P f links h =
    each_past_target after_backslash refl (λ c t ps. refl) P
    (each_parameter after_backslash refl P (each_past_name after_backslash (λ c n v ps. refl) P
    (each_value after_backslash (λ ps. refl) P f))) links h

-- ---- the moves

-- with the octet in front, what is left at the next point is what is left at this one
abbrev Leads : Point → ℕ → Point → List Link → Type 0
Leads point c next links =
    (c ∷ text_at next links ≡ text_at point (with_octet point c links))
    × (fits_at point (with_octet point c links) ≡ true)

-- so it is for all that may be left at the next point
abbrev pub Step : Point → ℕ → Point → Type 0
Step point c next = (links : List Link) → fits_at next links ≡ true → Leads point c next links

-- so it is for each form of it
abbrev Move : Point → ℕ → Point → Type 0
Move point c next = EachForm next (Leads point c next)

-- a test that the octet passes at the point, and that leads to the next
step_if : (b : Bool) (point : Point) (c : ℕ) (next q : Point)
    → point_if b next ≡ Some q
    → (b ≡ true → Move point c next)
    → Step point c q
step_if true point c next q h f =
    subst (Step point c) (some_same h) (each_form next (Leads point c next) (f refl))
step_if false point c next q h f = absurd (none_some h)

step_or : (b : Bool) (point : Point) (c : ℕ) (next q : Point) (o : Option Point)
    → (if b then Some next else o) ≡ Some q
    → (b ≡ true → Move point c next)
    → (b ≡ false → o ≡ Some q → Step point c q)
    → Step point c q
step_or true point c next q o h f g =
    subst (Step point c) (some_same h) (each_form next (Leads point c next) (f refl))
step_or false point c next q o h f g = g refl h

move_at : (point : Point) (octet c : ℕ) (next : Point)
    → Move point octet next
    → (c == octet) ≡ true
    → Move point c next
move_at point octet c next s e = subst (λ (d : ℕ). Move point d next) (sym (eqb-true c octet e)) s

step_after_part : (point : Point) (c : ℕ) (q : Point)
    → Move point semicolon at_name
    → Move point comma at_link
    → point_after_part c ≡ Some q
    → Step point c q
step_after_part point c q s t h =
    step_or (c == semicolon) point c at_name q (point_if (c == comma) at_link) h
    (move_at point semicolon c at_name s)
    (λ _ k. step_if (c == comma) point c at_link q k (move_at point comma c at_link t))

step_after_name : (point : Point) (c : ℕ) (q : Point)
    → Move point equals_sign at_value
    → Move point semicolon at_name
    → Move point comma at_link
    → point_after_name c ≡ Some q
    → Step point c q
step_after_name point c q r s t h =
    step_or (c == equals_sign) point c at_value q (point_after_part c) h
    (move_at point equals_sign c at_value r) (λ _ k. step_after_part point c q s t k)

further_name : (c : ℕ) → is_attribute_name_character c ≡ true → Move within_name c within_name
unfolding with_octet
further_name c e n v ps links h =
    let other : (c == asterisk) ≡ false =
    other_octet is_attribute_name_character c asterisk e refl in
    (rw e refl, rw (e, other, e) h)

further_target : (c : ℕ) → is_target_character c ≡ true → Move at_target c at_target
unfolding with_octet
further_target c e t ps links h =
    let other : (c == greater_than_sign) ≡ false =
    other_octet is_target_character c greater_than_sign e refl in
    (rw other refl, rw (other, e) h)

or_first : (a b c d : Bool) → (a && c && d) ≡ true → ((a || b) && c && d) ≡ true
or_first true b c d h = h
or_first false b c d h = absurd (false≢true h)

first_of_token : (c : ℕ) → is_token_character c ≡ true → Move at_value c in_token
unfolding with_octet
first_of_token c e v ps links h = (
  refl,
  rw e (or_first (list_all is_token_character v) (c == quote_mark && closes_quotes false v)
      (list_all is_parameter ps) (list_all is_link links) h),
)

-- each octet that may stand at a point is a step
pub each_step : (point : Point) (c : ℕ) (q : Point) → point_after point c ≡ Some q → Step point c q
unfolding point_after with_octet
each_step at_beginning c q h =
    step_if (c == less_than_sign) at_beginning c at_target q h
    (move_at at_beginning less_than_sign c at_target (λ t ps links h. (refl, h)))
each_step at_link c q h =
    step_if (c == less_than_sign) at_link c at_target q h
    (move_at at_link less_than_sign c at_target (λ t ps links h. (refl, h)))
each_step at_target c q h =
    step_or (c == greater_than_sign) at_target c after_part q
    (point_if (is_target_character c) at_target) h
    (move_at at_target greater_than_sign c after_part (λ ps links h. (refl, h)))
    (λ _ k. step_if (is_target_character c) at_target c at_target q k (further_target c))
each_step after_part c q h =
    step_after_part after_part c q (λ n v ps links h. (refl, h)) (λ l links h. (refl, h)) h
each_step at_name c q h =
    step_if (is_attribute_name_character c) at_name c within_name q h
    (λ e n v ps links h. (refl, rw e h))
each_step within_name c q h =
    step_or (is_attribute_name_character c) within_name c within_name q
    (if c == asterisk then Some after_name else point_after_name c) h (further_name c)
    (λ _ k. step_or (c == asterisk) within_name c after_name q (point_after_name c) k
    (move_at within_name asterisk c after_name (λ v ps links h. (refl, h)))
    (λ _ l. step_after_name within_name c q (λ v ps links h. (refl, h))
    (λ n v ps links h. (refl, h)) (λ l links h. (refl, h)) l))
each_step after_name c q h =
    step_after_name after_name c q (λ v ps links h. (refl, h)) (λ n v ps links h. (refl, h))
    (λ l links h. (refl, h)) h
each_step at_value c q h =
    step_or (c == quote_mark) at_value c in_quotes q (point_if (is_token_character c) in_token) h
    (move_at at_value quote_mark c in_quotes (λ v ps links h. (refl, h)))
    (λ _ k. step_if (is_token_character c) at_value c in_token q k (first_of_token c))
each_step in_token c q h =
    step_or (is_token_character c) in_token c in_token q (point_after_part c) h
    (λ e v ps links h. (rw e refl, rw (e, e) h))
    (λ _ k. step_after_part in_token c q (λ n v ps links h. (refl, h)) (λ l links h. (refl, h)) k)
each_step in_quotes c q h =
    step_or (c == quote_mark) in_quotes c after_part q
    (if c == backslash then Some after_backslash else point_if (is_not_control c) in_quotes) h
    (move_at in_quotes quote_mark c after_part (λ ps links h. (refl, h)))
    (λ no_quote k. step_or (c == backslash) in_quotes c after_backslash q
    (point_if (is_not_control c) in_quotes) k
    (move_at in_quotes backslash c after_backslash (λ v ps links h. (refl, h)))
    (λ no_backslash l. step_if (is_not_control c) in_quotes c in_quotes q l
    (λ e v ps links h. (rw no_quote refl, rw (no_quote, no_quote, e, no_backslash) h))))
each_step after_backslash c q h =
    step_if (is_not_control c) after_backslash c in_quotes q h (λ e v ps links h. (refl, rw e h))
