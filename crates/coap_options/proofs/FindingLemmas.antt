-- What is found with one option more.
use Rattle.std.proofs.Common.{
  ◌≡◌,
  ℕ,
  Bool,
  true,
  false,
  not,
  ◌&&◌,
  ◌||◌,
  cond,
  List,
  [],
  ◌∷◌,
  ◌++◌,
  length,
  Option,
  Some,
  None,
  refl,
  sym,
  ap,
  subst,
  ◌∙◌,
}
use Rattle.std.specs.Prelude.{◌==◌}
use Rattle.std.specs.Option.{option_or}
use Rattle.std.proofs.lemmas.List.{append-nil}
use Rattle.std.proofs.lemmas.List.Folds.{list_any-append}
use Rattle.std.proofs.Math.Bool.{or-false}
use Rattle.std.proofs.lemmas.Bool.{and_left}
use Rattle.message_model.specs.Message.{Opt}
use Rattle.message_model.specs.OptionTable as table
use Rattle.message_model.specs.OptionTable.{
  definition_of,
  stands_in,
  is_allowed_by,
  is_recognized,
  is_critical,
  recognized_options,
  first_bad_option,
  values,
  first_of,
}
use Rattle.message_model.proofs.OrderLemmas.{end_number-push}
use Rattle.message_model.proofs.TableLemmas.{
  recognized_options-push,
  first_bad_option-push,
  values-push,
}
use Rattle.coap_options.specs.declared.findings.Found.{Found}
use Rattle.coap_options.specs.Segments.{AreSegments}
use Rattle.coap_options.specs.Findings.{last_number, is_last, IsFound, or_value, IsFoundWith}

-- ---- parts

last_number-push : (options : List Opt) (option : Opt)
    → Some option.0 ≡ last_number (options ++ option ∷ [])
last_number-push [] option = refl
last_number-push (first ∷ options) option =
    ap (λ (n : ℕ). Some n) (sym (end_number-push first.0 options option))

first_of-append : (xs ys : List (List ℕ))
    → first_of (xs ++ ys) ≡ option_or (first_of xs) (first_of ys)
first_of-append [] ys = refl
first_of-append (x ∷ xs) ys = refl

first_of_one : (b : Bool) (value : List ℕ)
    → first_of (cond b (value ∷ []) []) ≡ cond b (Some value) None
first_of_one true value = refl
first_of_one false value = refl

-- the values of a number, and the first of them, with an option that is recognized
values_with : (number : ℕ) (options : List Opt) (option : Opt)
    → is_recognized options option.0 (length option.1) ≡ true
    → values number (options ++ option ∷ [])
    ≡ values number options ++ cond (option.0 == number) (option.1 ∷ []) []
values_with number options option good =
    values-push number options option
    ∙ ap
    (λ (b : Bool). values number options ++ cond (b && (option.0 == number)) (option.1 ∷ []) [])
    good

first_with : (number : ℕ) (options : List Opt) (option : Opt)
    → is_recognized options option.0 (length option.1) ≡ true
    → or_value (first_of (values number options)) number option
    ≡ first_of (values number (options ++ option ∷ []))
first_with number options option good =
    ap (option_or (first_of (values number options)))
    (sym (first_of_one (option.0 == number) option.1))
    ∙ sym (first_of-append (values number options) (cond (option.0 == number) (option.1 ∷ []) []))
    ∙ ap first_of (sym (values_with number options option good))

first_found : (number : ℕ) (options : List Opt) (option : Opt) (found more : Option (List ℕ))
    → is_recognized options option.0 (length option.1) ≡ true
    → found ≡ first_of (values number options)
    → more ≡ or_value found number option
    → more ≡ first_of (values number (options ++ option ∷ []))
first_found number options option found more good before e =
    e
    ∙ ap (λ (o : Option (List ℕ)). or_value o number option) before
    ∙ first_with number options option good

-- the same with one that is not
values_without : (number : ℕ) (options : List Opt) (option : Opt)
    → is_recognized options option.0 (length option.1) ≡ false
    → values number (options ++ option ∷ []) ≡ values number options
values_without number options option other =
    values-push number options option
    ∙ ap
    (λ (b : Bool). values number options ++ cond (b && (option.0 == number)) (option.1 ∷ []) [])
    other
    ∙ append-nil (values number options)

stands_with : (number : ℕ) (options : List Opt) (option : Opt)
    → is_recognized options option.0 (length option.1) ≡ true
    → stands_in number (recognized_options (options ++ option ∷ []))
    ≡ (stands_in number (recognized_options options) || (option.0 == number))
stands_with number options option good =
    ap (stands_in number) (recognized_options-push options option
    ∙ ap (λ (b : Bool). recognized_options options ++ cond b (option ∷ []) []) good)
    ∙ list_any-append (λ (o : Opt). o.0 == number) (recognized_options options) (option ∷ [])
    ∙ ap (λ (b : Bool). stands_in number (recognized_options options) || b)
    (or-false (option.0 == number))

or_four : (a b c d : Bool) → ((a || b) || (c || d)) ≡ ((a || c) || (b || d))
or_four true b c d = refl
or_four false true true d = refl
or_four false true false d = refl
or_four false false c d = refl

recognized_without : (options : List Opt) (option : Opt)
    → is_recognized options option.0 (length option.1) ≡ false
    → recognized_options (options ++ option ∷ []) ≡ recognized_options options
recognized_without options option other =
    recognized_options-push options option
    ∙ ap (λ (b : Bool). recognized_options options ++ cond b (option ∷ []) []) other
    ∙ append-nil (recognized_options options)

good_kept : (options : List Opt) (option : Opt)
    → first_bad_option options ≡ None
    → (is_critical option.0 && not (is_recognized options option.0 (length option.1))) ≡ false
    → first_bad_option (options ++ option ∷ []) ≡ None
good_kept options option good fine =
    first_bad_option-push options option
    ∙ ap (λ (o : Option ℕ).
    option_or o (cond
    (is_critical option.0 && not (is_recognized options option.0 (length option.1)))
    (Some option.0) None)) good
    ∙ ap (λ (b : Bool). cond b (Some option.0) None) fine

and_not : (a b : Bool) → b ≡ true → (a && not b) ≡ false
and_not true true e = refl
and_not false true e = refl
and_not a false e = absurd cc

-- ---- the three cases

-- An option that is recognized.
pub found_more : (options : List Opt) (option : Opt) (found more : Found)
    → IsFound options found
    → is_recognized options option.0 (length option.1) ≡ true
    → IsFoundWith found option more
    → IsFound (options ++ option ∷ []) more
found_more options option found more so good with = record {
  last = with.last ∙ last_number-push options option;
  good =
      good_kept options option so.good
      (and_not (is_critical option.0) (is_recognized options option.0 (length option.1)) good);
  segments =
      subst (λ (segments : List (List ℕ)). AreSegments more.segments segments)
      (sym (values_with table.uri_path options option good))
      (with.segments (values table.uri_path options) so.segments);
  observe = first_found table.observe options option _ _ good so.observe with.observe;
  accept = first_found table.accept options option _ _ good so.accept with.accept;
  format = first_found table.content_format options option _ _ good so.format with.format;
  block1 = first_found table.block1 options option _ _ good so.block1 with.block1;
  block2 = first_found table.block2 options option _ _ good so.block2 with.block2;
  echo = first_found table.echo options option _ _ good so.echo with.echo;
  proxy =
      with.proxy
      ∙ ap (λ (b : Bool). b || (option.0 == table.proxy_uri || option.0 == table.proxy_scheme))
      so.proxy
      ∙ or_four (stands_in table.proxy_uri (recognized_options options))
      (stands_in table.proxy_scheme (recognized_options options)) (option.0 == table.proxy_uri)
      (option.0 == table.proxy_scheme)
      ∙ ap (λ (b : Bool).
      b
      || (stands_in table.proxy_scheme (recognized_options options) || option.0
      == table.proxy_scheme))
      (sym (stands_with table.proxy_uri options option good))
      ∙ ap (λ (b : Bool).
      stands_in table.proxy_uri (recognized_options (options ++ option ∷ [])) || b)
      (sym (stands_with table.proxy_scheme options option good));
}

-- An elective one that is not.
pub found_passed : (options : List Opt) (option : Opt) (found more : Found)
    → IsFound options found
    → is_recognized options option.0 (length option.1) ≡ false
    → is_critical option.0 ≡ false
    → more ≡ record found { last = Some option.0 }
    → IsFound (options ++ option ∷ []) more
found_passed options option found more so other elective e =
    subst (λ (f : Found). IsFound (options ++ option ∷ []) f) (sym e) (record {
      last = last_number-push options option;
      good =
          good_kept options option so.good (and_left (is_critical option.0)
          (not (is_recognized options option.0 (length option.1))) elective);
      segments =
          subst (λ (segments : List (List ℕ)). AreSegments found.segments segments)
          (sym (values_without table.uri_path options option other)) so.segments;
      observe = so.observe ∙ ap first_of (sym (values_without table.observe options option other));
      accept = so.accept ∙ ap first_of (sym (values_without table.accept options option other));
      format =
          so.format ∙ ap first_of (sym (values_without table.content_format options option other));
      block1 = so.block1 ∙ ap first_of (sym (values_without table.block1 options option other));
      block2 = so.block2 ∙ ap first_of (sym (values_without table.block2 options option other));
      echo = so.echo ∙ ap first_of (sym (values_without table.echo options option other));
      proxy =
          so.proxy
          ∙ ap (λ (os : List Opt). stands_in table.proxy_uri os || stands_in table.proxy_scheme os)
          (sym (recognized_without options option other));
    })

-- A critical one that is not.
pub bad_found : (options : List Opt) (option : Opt)
    → first_bad_option options ≡ None
    → is_recognized options option.0 (length option.1) ≡ false
    → is_critical option.0 ≡ true
    → first_bad_option (options ++ option ∷ []) ≡ Some option.0
bad_found options option good other critical =
    first_bad_option-push options option
    ∙ ap (λ (o : Option ℕ).
    option_or o (cond
    (is_critical option.0 && not (is_recognized options option.0 (length option.1)))
    (Some option.0) None)) good
    ∙ ap (λ (b : Bool).
    cond (b && not (is_recognized options option.0 (length option.1))) (Some option.0) None)
    critical
    ∙ ap (λ (b : Bool). cond (not b) (Some option.0) None) other

-- ---- whether one of its number stands before, by the number of the last

recognized_by : (b c : Bool) (o : Option table.Definition) (size : ℕ) (r : Bool)
    → b ≡ c
    → r ≡ is_allowed_by o c size
    → is_allowed_by o b size ≡ r
recognized_by b c o size r e f = ap (λ (d : Bool). is_allowed_by o d size) e ∙ sym f

-- What is recognized by the number of the last option is recognized there.
pub recognized_there : (options : List Opt) (number size : ℕ) (further r : Bool) (last : Option ℕ)
    → stands_in number options ≡ is_last last number
    → further ≡ is_last last number
    → r ≡ is_allowed_by (definition_of number) further size
    → is_recognized options number size ≡ r
recognized_there options number size further r last e f g =
    recognized_by (stands_in number options) further (definition_of number) size r (e ∙ sym f) g
