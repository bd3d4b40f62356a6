-- The parts of a link at which no cut is made.
use Rattle.std.proofs.Common.{
  ◌≡◌,
  ℕ,
  Bool,
  true,
  false,
  ◌&&◌,
  ◌||◌,
  List,
  [],
  ◌∷◌,
  ◌++◌,
  Option,
  Some,
  None,
  refl,
  sym,
  ap,
  ◌∙◌,
  subst,
  append_assoc,
}
use Rattle.std.specs.Prelude.{◌==◌, not, if◌then◌else◌}
use Rattle.std.specs.List.{list_all}
use Rattle.std.proofs.lemmas.Bool.{and_parts, false≢true, eqb-true}
use Rattle.std.proofs.Math.Bool.{and-false}
use Rattle.link_model.specs.Characters.{
  quote_mark,
  asterisk,
  comma,
  backslash,
  semicolon,
  equals_sign,
  is_empty,
  is_not_control,
  is_attribute_name_character,
  is_token_character,
}
use Rattle.link_model.specs.Documents.{
  Parameter,
  value_text,
  parameter_text,
  parameters_text,
  are_name_characters,
  is_parameter_name,
  closes_quotes,
  is_quoted_string,
  is_token,
  is_value,
  is_parameter,
}
use Rattle.rd_base.proofs.lemmas.Numbers.{other_octet}
use Rattle.link_format.specs.declared.cuts.Quotes.{Quotes}
use Rattle.link_format.specs.declared.cuts.Quotes.TheVariants.{
  Unread,
  Leading,
  Outside,
  Inside,
  Escaped,
}
use Rattle.link_format.specs.Cuts.{quotes_after, is_separator, onto_before, cut}

-- octets in front of the first of two texts
abbrev pub onto_front : List ℕ → List ℕ × Option (List ℕ) → List ℕ × Option (List ℕ)
onto_front xs parts = (xs ++ parts.0, parts.1)

-- no cut is made in the octets, and what follows them is read so
pub record Passes (separator : ℕ) (quotes : Quotes) (xs : List ℕ) (then_quotes : Quotes) : Type 0
  where
    pub on : (ys : List ℕ)
        → cut separator quotes (xs ++ ys) ≡ onto_front xs (cut separator then_quotes ys)

pub passes_none : (separator : ℕ) (quotes : Quotes) → Passes separator quotes [] quotes
passes_none separator quotes = record { on = λ ys. refl }

pub passes_both : (separator : ℕ) (q r s : Quotes) (xs ys : List ℕ)
    → Passes separator q xs r
    → Passes separator r ys s
    → Passes separator q (xs ++ ys) s
passes_both separator q r s xs ys p o = record {
  on =
      λ zs.
      ap (cut separator q) (append_assoc xs ys zs)
      ∙ p.on (ys ++ zs)
      ∙ ap (onto_front xs) (o.on zs)
      ∙ ap (λ (t : List ℕ). (t, (cut separator s zs).1))
      (sym (append_assoc xs ys (cut separator s zs).0));
}

cut_step : (separator : ℕ) (quotes : Quotes) (b : ℕ) (bs : List ℕ)
    → is_separator separator quotes b ≡ false
    → cut separator quotes (b ∷ bs) ≡ onto_before b (cut separator (quotes_after quotes b) bs)
unfolding cut
cut_step separator quotes b bs e = rw e refl

pub cut_there : (separator : ℕ) (quotes : Quotes) (b : ℕ) (bs : List ℕ)
    → is_separator separator quotes b ≡ true
    → cut separator quotes (b ∷ bs) ≡ ([], Some bs)
unfolding cut
cut_there separator quotes b bs e = rw e refl

pub cut_end : (separator : ℕ) (quotes : Quotes) → cut separator quotes [] ≡ ([], None)
unfolding cut
cut_end separator quotes = refl

-- one octet, and then others
pub passes_octet : (separator : ℕ) (q r s : Quotes) (b : ℕ) (xs : List ℕ)
    → is_separator separator q b ≡ false
    → quotes_after q b ≡ r
    → Passes separator r xs s
    → Passes separator q (b ∷ xs) s
passes_octet separator q r s b xs e f p = record {
  on =
      λ ys.
      cut_step separator q b (xs ++ ys) e
      ∙ ap (λ (o : Quotes). onto_before b (cut separator o (xs ++ ys))) f
      ∙ ap (onto_before b) (p.on ys);
}

no_separator : (separator : ℕ) (quotes : Quotes) (b : ℕ)
    → (b == separator) ≡ false
    → is_separator separator quotes b ≡ false
no_separator separator quotes b e = rw e refl

-- where quotation marks mean nothing: octets other than the separator
pub passes_unread : (separator : ℕ) (xs : List ℕ)
    → list_all (λ b. not (b == separator)) xs ≡ true
    → Passes separator Unread xs Unread
passes_unread separator [] h = passes_none separator Unread
passes_unread separator (b ∷ xs) h =
    let parts = and_parts (not (b == separator)) (list_all (λ b. not (b == separator)) xs) h in
    passes_octet separator Unread Unread Unread b xs
    (no_separator separator Unread b (from_not (b == separator) parts.0)) refl
    (passes_unread separator xs parts.1)
  where
    from_not : (t : Bool) → not t ≡ true → t ≡ false
    from_not true e = cc
    from_not false e = refl

-- a separator that is no mark of the parts of a parameter
pub record Separates (separator : ℕ) : Type 0 where
  pub no_name : is_attribute_name_character separator ≡ false
  pub no_token : is_token_character separator ≡ false
  pub no_asterisk : (asterisk == separator) ≡ false
  pub no_quote : (quote_mark == separator) ≡ false
  pub no_equals : (equals_sign == separator) ≡ false

plain_octet : (separator b : ℕ) (xs : List ℕ)
    → (b == separator) ≡ false
    → (b == quote_mark) ≡ false
    → Passes separator Outside xs Outside
    → Passes separator Outside (b ∷ xs) Outside
plain_octet separator b xs e f p =
    passes_octet separator Outside Outside Outside b xs (no_separator separator Outside b e)
    (rw f refl) p

passes_name_rest : (separator : ℕ) (name : List ℕ)
    → Separates separator
    → are_name_characters name ≡ true
    → Passes separator Outside name Outside
passes_name_rest separator [] s h = passes_none separator Outside
passes_name_rest separator (b ∷ name) s h =
    by_test (λ k. passes_name_rest separator name s k) (b == asterisk) refl h
  where
    no_more : (rest : List ℕ) → is_empty rest ≡ true → rest ≡ []
    no_more [] e = refl
    no_more (c ∷ cs) e = absurd (false≢true e)

    by_test : (are_name_characters name ≡ true → Passes separator Outside name Outside)
        → (t : Bool)
        → (b == asterisk) ≡ t
        → (if t then is_empty name else is_attribute_name_character b && are_name_characters name)
        ≡ true
        → Passes separator Outside (b ∷ name) Outside
    by_test again true e h =
        let is : b ≡ asterisk = eqb-true b asterisk e in
        plain_octet separator b name (ap (λ (x : ℕ). x == separator) is ∙ s.no_asterisk)
        (ap (λ (x : ℕ). x == quote_mark) is)
        (subst (λ (r : List ℕ). Passes separator Outside r Outside) (sym (no_more name h))
        (passes_none separator Outside))
    by_test again false e h =
        let parts = and_parts (is_attribute_name_character b) (are_name_characters name) h in
        plain_octet separator b name
        (other_octet is_attribute_name_character b separator parts.0 s.no_name)
        (other_octet is_attribute_name_character b quote_mark parts.0 refl) (again parts.1)

pub passes_name : (separator : ℕ) (name : List ℕ)
    → Separates separator
    → is_parameter_name name ≡ true
    → Passes separator Outside name Outside
passes_name separator [] s h = absurd (false≢true h)
passes_name separator (b ∷ name) s h =
    let parts = and_parts (is_attribute_name_character b) (are_name_characters name) h in
    plain_octet separator b name
    (other_octet is_attribute_name_character b separator parts.0 s.no_name)
    (other_octet is_attribute_name_character b quote_mark parts.0 refl)
    (passes_name_rest separator name s parts.1)

passes_token : (separator : ℕ) (value : List ℕ)
    → Separates separator
    → list_all is_token_character value ≡ true
    → Passes separator Outside value Outside
passes_token separator [] s h = passes_none separator Outside
passes_token separator (b ∷ value) s h =
    let parts = and_parts (is_token_character b) (list_all is_token_character value) h in
    plain_octet separator b value (other_octet is_token_character b separator parts.0 s.no_token)
    (other_octet is_token_character b quote_mark parts.0 refl)
    (passes_token separator value s parts.1)

-- how a string is read where a backslash stands before, or not
abbrev quotes_at : Bool → Quotes
quotes_at true = Escaped
quotes_at false = Inside

passes_closing : (separator : ℕ) (escaped : Bool) (value : List ℕ)
    → closes_quotes escaped value ≡ true
    → Passes separator (quotes_at escaped) value Outside
passes_closing separator true [] h = absurd (false≢true h)
passes_closing separator false [] h = absurd (false≢true h)
passes_closing separator true (b ∷ value) h =
    let parts = and_parts (is_not_control b) (closes_quotes false value) h in
    passes_octet separator Escaped Inside Outside b value (and-false (b == separator)) refl
    (passes_closing separator false value parts.1)
passes_closing separator false (b ∷ value) h =
    by_test (λ t k. passes_closing separator t value k) (b == quote_mark) refl h
  where
    no_more : (rest : List ℕ) → is_empty rest ≡ true → rest ≡ []
    no_more [] e = refl
    no_more (c ∷ cs) e = absurd (false≢true e)

    to_quotes : (t : Bool) → (if t then Escaped else Inside) ≡ quotes_at t
    to_quotes true = refl
    to_quotes false = refl

    by_test :
        ((u : Bool) → closes_quotes u value ≡ true → Passes separator (quotes_at u) value Outside)
        → (t : Bool)
        → (b == quote_mark) ≡ t
        → (if t then is_empty value else is_not_control b && closes_quotes (b == backslash) value)
        ≡ true
        → Passes separator Inside (b ∷ value) Outside
    by_test again true e h =
        passes_octet separator Inside Outside Outside b value (and-false (b == separator))
        (rw e refl)
        (subst (λ (r : List ℕ). Passes separator Outside r Outside) (sym (no_more value h))
        (passes_none separator Outside))
    by_test again false e h =
        let parts = and_parts (is_not_control b) (closes_quotes (b == backslash) value) h in
        passes_octet separator Inside (quotes_at (b == backslash)) Outside b value
        (and-false (b == separator)) (rw e (to_quotes (b == backslash)))
        (again (b == backslash) parts.1)

passes_quoted : (separator : ℕ) (value : List ℕ)
    → Separates separator
    → is_quoted_string value ≡ true
    → Passes separator Outside value Outside
passes_quoted separator [] s h = absurd (false≢true h)
passes_quoted separator (b ∷ value) s h =
    let parts = and_parts (b == quote_mark) (closes_quotes false value) h in
    let is : b ≡ quote_mark = eqb-true b quote_mark parts.0 in
    passes_octet separator Outside Inside Outside b value
    (no_separator separator Outside b (ap (λ (x : ℕ). x == separator) is ∙ s.no_quote))
    (rw parts.0 refl) (passes_closing separator false value parts.1)

passes_token_or_quoted : (separator : ℕ) (value : List ℕ) (t u : Bool)
    → Separates separator
    → is_token value ≡ t
    → is_quoted_string value ≡ u
    → (t || u) ≡ true
    → Passes separator Outside value Outside
passes_token_or_quoted separator value true u s e f h =
    passes_token separator value s
    ((and_parts (not (is_empty value)) (list_all is_token_character value) e).1)
passes_token_or_quoted separator value false true s e f h = passes_quoted separator value s f
passes_token_or_quoted separator value false false s e f h = absurd (false≢true h)

passes_value : (separator : ℕ) (value : Option (List ℕ))
    → Separates separator
    → is_value value ≡ true
    → Passes separator Outside (value_text value) Outside
passes_value separator None s h = passes_none separator Outside
passes_value separator (Some value) s h =
    plain_octet separator equals_sign value s.no_equals refl
    (passes_token_or_quoted separator value (is_token value) (is_quoted_string value) s refl
    refl h)

-- a parameter after its semicolon
pub passes_parameter : (separator : ℕ) (p : Parameter)
    → Separates separator
    → is_parameter p ≡ true
    → Passes separator Outside (p.name ++ value_text p.value) Outside
passes_parameter separator p s h =
    let parts = and_parts (is_parameter_name p.name) (is_value p.value) h in
    passes_both separator Outside Outside Outside p.name (value_text p.value)
    (passes_name separator p.name s parts.0) (passes_value separator p.value s parts.1)

pub comma_separates : Separates comma
comma_separates = record {
  no_name = refl;
  no_token = refl;
  no_asterisk = refl;
  no_quote = refl;
  no_equals = refl;
}

pub semicolon_separates : Separates semicolon
semicolon_separates = record {
  no_name = refl;
  no_token = refl;
  no_asterisk = refl;
  no_quote = refl;
  no_equals = refl;
}

-- all parameters of a link, at a comma
pub passes_parameters : (parameters : List Parameter)
    → list_all is_parameter parameters ≡ true
    → Passes comma Outside (parameters_text parameters) Outside
passes_parameters [] h = passes_none comma Outside
passes_parameters (p ∷ parameters) h =
    let parts = and_parts (is_parameter p) (list_all is_parameter parameters) h in
    passes_both comma Outside Outside Outside (parameter_text p) (parameters_text parameters)
    (plain_octet comma semicolon (p.name ++ value_text p.value) refl refl
    (passes_parameter comma p comma_separates parts.0))
    (passes_parameters parameters parts.1)

-- one parameter from its semicolon on, at the next semicolon
pub passes_leading : (p : Parameter)
    → is_parameter p ≡ true
    → Passes semicolon Leading (parameter_text p) Outside
passes_leading p h =
    passes_octet semicolon Leading Outside Outside semicolon (p.name ++ value_text p.value) refl
    refl (passes_parameter semicolon p semicolon_separates h)
