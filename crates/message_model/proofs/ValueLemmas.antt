-- The values of a number that the table has: each has a length that the table allows.
use Rattle.std.proofs.Common.{
  ◌≡◌,
  ℕ,
  ◌≤◌,
  Bool,
  true,
  not,
  ◌&&◌,
  ◌||◌,
  leb,
  List,
  length,
  Option,
  Some,
  None,
  ap,
  subst,
  ◌∙◌,
}
use Rattle.std.specs.Prelude.{filter, ◌==◌}
use Rattle.std.specs.List.{AllByRecursion}
use Rattle.std.proofs.lemmas.Bool.{and_parts, leb-true, eqb-true}
use Rattle.std.proofs.lemmas.Option.{same_Some}
use Rattle.rd_base.proofs.lemmas.Each.{each_weaker, each_both, each_map, each_filter, each_passes}
use Rattle.message_model.specs.Message.{Opt}
use Rattle.message_model.specs.OptionTable.{
  Definition,
  definition_of,
  stands_in,
  is_allowed_by,
  Preceded,
  preceded_options,
  is_recognized_there,
  recognized_options,
  values,
}

-- A length that a definition allows.
pub record HasSize (d : Definition) (size : ℕ) : Type 0 where
  pub least : d.least ≤ size
  pub most : size ≤ d.most

-- an option has a length that the table allows
abbrev HasGoodSize : Opt → Type 0
HasGoodSize option =
    (d : Definition) → definition_of option.0 ≡ Some d → HasSize d (length option.1)

-- what the table allows has a length that it allows
size_allowed : (o : Option Definition) (is_further : Bool) (size : ℕ)
    → is_allowed_by o is_further size ≡ true
    → (d : Definition)
    → o ≡ Some d
    → HasSize d size
size_allowed None is_further size e d same = absurd cc
size_allowed (Some c) is_further size e d same =
    let h = and_parts (leb c.least size && leb size c.most) (c.repeatable || not is_further) e in
    let k = and_parts (leb c.least size) (leb size c.most) h.0 in
    subst (λ (k : Definition). HasSize k size) (same_Some c d same)
    (record { least = leb-true _ _ k.0; most = leb-true _ _ k.1 })

-- so each recognized option does
recognized_sizes : (options : List Opt) → AllByRecursion HasGoodSize (recognized_options options)
unfolding recognized_options
recognized_sizes options =
    each_map HasGoodSize (λ (p : Preceded). p.1)
    (filter is_recognized_there (preceded_options options))
    (each_weaker (λ (p : Preceded). is_recognized_there p ≡ true)
    (λ (p : Preceded). HasGoodSize p.1)
    (λ p good. size_allowed (definition_of p.1.0) (stands_in p.1.0 p.0) (length p.1.1) good)
    (filter is_recognized_there (preceded_options options))
    (each_passes is_recognized_there (preceded_options options)))

-- Each value of a number has a length that the number's definition allows.
pub values_sizes : (number : ℕ) (d : Definition) (options : List Opt)
    → definition_of number ≡ Some d
    → AllByRecursion (λ value. HasSize d (length value)) (values number options)
unfolding values
values_sizes number d options e =
    let has_number : Opt → Bool = λ o. o.0 == number in
    each_map (λ value. HasSize d (length value)) (λ (o : Opt). o.1)
    (filter has_number (recognized_options options))
    (each_both (λ (o : Opt). has_number o ≡ true) HasGoodSize (λ (o : Opt). HasSize d (length o.1))
    (λ o same good. good d (ap definition_of (eqb-true o.0 number same) ∙ e))
    (filter has_number (recognized_options options))
    (each_passes has_number (recognized_options options))
    (each_filter HasGoodSize has_number (recognized_options options)
    (recognized_sizes options)))
