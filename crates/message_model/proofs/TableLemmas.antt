-- The options of a message from the left: what one more option adds.
use Rattle.std.proofs.Common.{
  ◌≡◌,
  ℕ,
  Bool,
  true,
  false,
  not,
  ◌&&◌,
  cond,
  List,
  [],
  ◌∷◌,
  ◌++◌,
  map,
  length,
  Option,
  Some,
  None,
  refl,
  ap,
  ◌∙◌,
}
use Rattle.std.specs.Prelude.{filter, find, option_map, ◌==◌, if◌then◌else◌}
use Rattle.std.specs.Option.{option_or}
use Rattle.std.proofs.lemmas.List.{map-append}
use Rattle.std.proofs.lemmas.List.Elements.{filter-append}
use Rattle.std.proofs.lemmas.List.Folds.{find-append}
use Rattle.message_model.specs.Message.{Opt}
use Rattle.message_model.specs.OptionTable.{
  is_recognized,
  is_critical,
  Preceded,
  preceded_options,
  is_recognized_there,
  recognized_options,
  first_bad_option,
  values,
}

-- an option with one more before it
abbrev with_earlier : Opt → Preceded → Preceded
with_earlier option p = (option ∷ p.0, p.1)

pub preceded_options-push : (options : List Opt) (option : Opt)
    → preceded_options (options ++ option ∷ []) ≡ preceded_options options ++ (options, option) ∷ []
unfolding preceded_options
preceded_options-push [] option = refl
preceded_options-push (first ∷ options) option =
    ap (λ (ps : List Preceded). ([], first) ∷ map (with_earlier first) ps)
    (preceded_options-push options option)
    ∙ ap (λ (ps : List Preceded). ([], first) ∷ ps)
    (map-append (with_earlier first) (preceded_options options) ((options, option) ∷ []))

picked : (b : Bool) (p : Preceded)
    → map (λ (q : Preceded). q.1) (cond b (p ∷ []) []) ≡ cond b (p.1 ∷ []) []
picked true p = refl
picked false p = refl

-- The recognized options with one more option at the end.
pub recognized_options-push : (options : List Opt) (option : Opt)
    → recognized_options (options ++ option ∷ [])
    ≡ recognized_options options
    ++ (if is_recognized options option.0 (length option.1) then option ∷ [] else [])
unfolding recognized_options
recognized_options-push options option =
    ap (λ (ps : List Preceded). map (λ (q : Preceded). q.1) (filter is_recognized_there ps))
    (preceded_options-push options option)
    ∙ ap (λ (ps : List Preceded). map (λ (q : Preceded). q.1) ps)
    (filter-append is_recognized_there (preceded_options options) ((options, option) ∷ []))
    ∙ map-append (λ (q : Preceded). q.1) (filter is_recognized_there (preceded_options options))
    (filter is_recognized_there ((options, option) ∷ []))
    ∙ ap (λ (os : List Opt).
    map (λ (q : Preceded). q.1) (filter is_recognized_there (preceded_options options))
    ++ os) (picked (is_recognized options option.0 (length option.1)) (options, option))

valued : (number : ℕ) (b : Bool) (option : Opt)
    → map (λ (o : Opt). o.1) (filter (λ (o : Opt). o.0 == number) (cond b (option ∷ []) []))
    ≡ cond (b && (option.0 == number)) (option.1 ∷ []) []
valued number true option =
    elim (option.0 == number) as
    (λ t. map (λ (o : Opt). o.1) (cond t (option ∷ []) []) ≡ cond t (option.1 ∷ []) [])
    [ true ↦ refl | false ↦ refl ]
valued number false option = refl

-- The values of a number with one more option at the end.
pub values-push : (number : ℕ) (options : List Opt) (option : Opt)
    → values number (options ++ option ∷ [])
    ≡ values number options
    ++ (if is_recognized options option.0 (length option.1)
    && (option.0 == number) then option.1 ∷ [] else [])
unfolding values
values-push number options option =
    let b : Bool = is_recognized options option.0 (length option.1) in
    ap (λ (os : List Opt). map (λ (o : Opt). o.1) (filter (λ (o : Opt). o.0 == number) os))
    (recognized_options-push options option)
    ∙ ap (λ (os : List Opt). map (λ (o : Opt). o.1) os)
    (filter-append (λ (o : Opt). o.0 == number) (recognized_options options)
    (cond (is_recognized options option.0 (length option.1)) (option ∷ []) []))
    ∙ map-append (λ (o : Opt). o.1)
    (filter (λ (o : Opt). o.0 == number) (recognized_options options))
    (filter (λ (o : Opt). o.0 == number)
    (cond (is_recognized options option.0 (length option.1)) (option ∷ []) []))
    ∙ ap (λ (vs : List (List ℕ)).
    map (λ (o : Opt). o.1)
    (filter (λ (o : Opt). o.0 == number) (recognized_options options))
    ++ vs) (valued number (is_recognized options option.0 (length option.1)) option)

-- an option where it stands is critical and not recognized
abbrev is_bad_there : Preceded → Bool
is_bad_there p = is_critical p.1.0 && not (is_recognized_there p)

map_or : (o : Option Preceded) (b : Bool) (p : Preceded)
    → option_map (λ (q : Preceded). q.1.0) (option_or o (cond b (Some p) None))
    ≡ option_or (option_map (λ (q : Preceded). q.1.0) o) (cond b (Some p.1.0) None)
map_or None true p = refl
map_or None false p = refl
map_or (Some q) b p = refl

-- The first unrecognized critical option with one more option at the end.
pub first_bad_option-push : (options : List Opt) (option : Opt)
    → first_bad_option (options ++ option ∷ [])
    ≡ option_or (first_bad_option options)
    (if is_critical option.0 && not (is_recognized options option.0 (length option.1))
    then Some option.0
    else None)
unfolding first_bad_option
first_bad_option-push options option =
    ap (λ (ps : List Preceded). option_map (λ (q : Preceded). q.1.0) (find is_bad_there ps))
    (preceded_options-push options option)
    ∙ ap (λ (o : Option Preceded). option_map (λ (q : Preceded). q.1.0) o)
    (find-append is_bad_there (preceded_options options) ((options, option) ∷ []))
    ∙ map_or (find is_bad_there (preceded_options options)) (is_bad_there (options, option))
    (options, option)
