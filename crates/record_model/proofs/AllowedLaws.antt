-- Parameters without a fault are allowed (RFC 9176 sections 5 and 5.3.1).
use Rattle.std.proofs.Common.{
  ◌≡◌,
  ℕ,
  ◌<◌,
  Bool,
  true,
  false,
  not,
  ◌&&◌,
  ◌||◌,
  List,
  [],
  ◌∷◌,
  length,
  filter,
  find,
  bytes_eq,
  Option,
  Some,
  None,
  option_map,
  Result,
  Ok,
  Err,
  refl,
  sym,
  subst,
  arith,
}
use Rattle.std.specs.Prelude.{if◌then◌else◌, IfSome, nat_lt, nat_le, unwrap_or}
use Rattle.std.specs.List.{AllByRecursion, list_all}
use Rattle.std.specs.Char.{is_ascii_digit}
use Rattle.std.specs.Str.{is_utf8}
use Rattle.std.proofs.lemmas.Bool.{and_parts, or_parts, true≢false}
use Rattle.std.proofs.lemmas.Bool.Decides.{nat_tests}
use Rattle.std.proofs.lemmas.Slice.Eq.{bytes_eq-Decides}
use Rattle.std.proofs.lemmas.Result.{IfOk-at_ok}
use Rattle.rd_base.proofs.lemmas.Options.{none_some}
use Rattle.rd_base.proofs.lemmas.Each.{each_weaker, each_both, each_map, each_filter, each_passes}
use Rattle.rd_base.specs.declared.parameters.RegParams.{RegParams}
use Rattle.rd_base.specs.declared.parameters.UpdateParams.{UpdateParams}
use Rattle.record_model.specs.declared.readings.Reading.{Reading}
use Rattle.record_model.specs.declared.readings.Reading.TheVariants as reading
use Rattle.record_model.specs.declared.readings.Why.{Why}
use Rattle.record_model.specs.declared.readings.Why.TheVariants as why
use Rattle.link_model.specs.Characters.{is_empty}
use Rattle.record_model.specs.Faults.{Fault, or_else, first_reason, first_fault_after}
use Rattle.record_model.specs.Options.{
  option_name,
  option_value,
  is_named,
  has_named,
  value_named,
  is_among,
  is_number,
  number_of,
  max_digits,
  max_number,
}
use Rattle.record_model.specs.Parameters.{
  ep,
  sector,
  lifetime,
  base,
  own_names,
  max_name,
  has_control,
  is_lifetime,
  is_base,
  is_link_local,
  is_extra_name,
  is_update,
  name_reasons,
  lifetime_reasons,
  base_reasons,
  extra_reasons,
  reasons_of_name,
  parameter_fault,
  missing_fault,
  parameters_fault,
  pair_of_option,
  extra_attributes,
  given_lifetime,
  default_lifetime,
  unless_fault,
  registration_values,
  update_values,
  registration_parameters,
  update_parameters,
}
use Rattle.record_model.specs.AllowedParameters.{
  IsAllowedName,
  IsAllowedLifetime,
  IsAllowedAttribute,
  AreAllowed,
  IsAllowedChange,
}

-- ---- reasons

-- no reason of a list holds
no_first : (b : Bool) (why : Why) (rest : Option Why)
    → (if b then Some why else rest) ≡ None
    → (b ≡ false) × (rest ≡ None)
no_first true why rest h = absurd (none_some (sym h))
no_first false why rest h = (refl, h)

none_holds : (rows : List (Bool × Why))
    → first_reason rows ≡ None
    → AllByRecursion (λ row. row.0 ≡ false) rows
none_holds [] h = tt
none_holds (row ∷ rows) h =
    let first = no_first row.0 row.1 (first_reason rows) h in
    (first.0, none_holds rows first.1)

not_false : (b : Bool) → not b ≡ false → b ≡ true
not_false true h = refl
not_false false h = absurd (true≢false h)

filled_length : (text : List ℕ) → is_empty text ≡ false → 0 < length text
filled_length [] h = absurd (true≢false h)
filled_length (c ∷ text) h = omega arith

-- a name, without a reason against it
good_name : (kind : Reading) (others : List (List ℕ)) (query : List ℕ)
    → has_control (option_value query) ≡ false
    → first_reason (name_reasons kind others query) ≡ None
    → IsAllowedName (option_value query)
good_name kind others query printable h =
    let none = none_holds (name_reasons kind others query) h in
    let few : nat_lt max_name (length (option_value query)) ≡ false = none.1.1.1.0 in
    record {
      filled = filled_length (option_value query) none.1.1.0;
      short = grind (arith, nat_tests, few);
      printable = printable;
    }

good_lifetime : (others : List (List ℕ)) (query : List ℕ)
    → first_reason (lifetime_reasons others query) ≡ None
    → IsAllowedLifetime (number_of (option_value query))
good_lifetime others query h =
    let none = none_holds (lifetime_reasons others query) h in
    let value = option_value query in
    let written : is_lifetime value ≡ true = not_false (is_lifetime value) none.1.0 in
    let parts = and_parts (is_number value) (nat_lt 0 (number_of value)) written in
    let lasting : nat_lt 0 (number_of value) ≡ true = parts.1 in
    let small : nat_le (number_of value) max_number ≡ true =
    (and_parts (not (is_empty value) && nat_le (length value) max_digits && list_all is_ascii_digit
    value) (nat_le (number_of value) max_number) parts.0).1 in
    record { lasting = grind (arith, nat_tests, lasting); small = grind (arith, nat_tests, small) }

-- a base, and none of a link-local address
record IsGoodBase (value : List ℕ) : Type 0 where
  base : is_base value ≡ true
  global : is_link_local value ≡ false

good_base : (kind : Reading) (others : List (List ℕ)) (query : List ℕ)
    → first_reason (base_reasons kind others query) ≡ None
    → IsGoodBase (option_value query)
good_base kind others query h =
    let none = none_holds (base_reasons kind others query) h in
    record { base = not_false (is_base (option_value query)) none.1.1.0; global = none.1.1.1.0 }

-- ---- one parameter

-- which reasons count, by the name
by_name : (e s l b : Bool) (n lr br xr : List (Bool × Why))
    → first_reason (if e || s then n else (if l then lr else (if b then br else xr))) ≡ None
    → (e ≡ true → first_reason n ≡ None)
    × (s ≡ true → first_reason n ≡ None)
    × (e ≡ false → s ≡ false → l ≡ true → first_reason lr ≡ None)
    × (e ≡ false → s ≡ false → l ≡ false → b ≡ true → first_reason br ≡ None)
    × (e ≡ false → s ≡ false → l ≡ false → b ≡ false → first_reason xr ≡ None)
by_name true s l b n lr br xr h = (
  λ _. h,
  λ _. h,
  λ e. absurd (true≢false e),
  λ e. absurd (true≢false e),
  λ e. absurd (true≢false e),
)
by_name false true l b n lr br xr h = (
  λ _. h,
  λ _.
      h,
  λ _ e.
      absurd (true≢false e),
  λ _ e. absurd (true≢false e),
  λ _ e. absurd (true≢false e),
)
by_name false false true b n lr br xr h = (
  λ e. absurd (true≢false (sym e)),
  λ e.
      absurd (true≢false (sym e)),
  λ _ _ _. h,
  λ _ _ e. absurd (true≢false e),
  λ _ _ e. absurd (true≢false e),
)
by_name false false false true n lr br xr h = (
  λ e. absurd (true≢false (sym e)),
  λ e.
      absurd (true≢false (sym e)),
  λ _ _ e.
      absurd (true≢false (sym e)),
  λ _ _ _ _. h,
  λ _ _ _ e. absurd (true≢false e),
)
by_name false false false false n lr br xr h = (
  λ e. absurd (true≢false (sym e)),
  λ e.
      absurd (true≢false (sym e)),
  λ _ _ e.
      absurd (true≢false (sym e)),
  λ _ _ _ e. absurd (true≢false (sym e)),
  λ _ _ _ _. h,
)

-- where an option has one of the names with a meaning of their own, it has no other one
named_alone : (query name other : List ℕ)
    → is_named name query ≡ true
    → bytes_eq name other ≡ false
    → is_named other query ≡ false
named_alone query name other h apart =
    subst (λ (n : List ℕ). bytes_eq n other ≡ false)
    (sym ((bytes_eq-Decides (option_name query) name).0 h)) apart

-- what is known of one parameter without a fault
record IsGood (kind : Reading) (query : List ℕ) : Type 0 where
  others : List (List ℕ)
  printable : has_control (option_value query) ≡ false
  reasons : first_reason (reasons_of_name kind others query) ≡ None

is_good : (kind : Reading) (others : List (List ℕ)) (query : List ℕ)
    → parameter_fault kind others query ≡ None
    → IsGood kind query
unfolding parameter_fault
is_good kind others query h =
    let utf8 =
    no_first (not (is_utf8 query)) why.Utf8
    (first_reason ((has_control (option_value query), why.Control)
    ∷ reasons_of_name kind others query)) h in
    let control =
    no_first (has_control (option_value query)) why.Control
    (first_reason (reasons_of_name kind others query)) utf8.1 in
    record { others = others; printable = control.0; reasons = control.1 }

-- which of its reasons count, by its name
module _ (kind : Reading) (query : List ℕ) (good : IsGood kind query) where
  Rules : Type 0
  Rules =
      (is_named ep query ≡ true → first_reason (name_reasons kind good.others query) ≡ None)
      × (is_named sector query ≡ true
      → first_reason (name_reasons kind good.others query) ≡ None)
      × (is_named ep query ≡ false
      → is_named sector query ≡ false
      → is_named lifetime query ≡ true
      → first_reason (lifetime_reasons good.others query) ≡ None)
      × (is_named ep query ≡ false
      → is_named sector query ≡ false
      → is_named lifetime query ≡ false
      → is_named base query ≡ true
      → first_reason (base_reasons kind good.others query) ≡ None)
      × (is_named ep query ≡ false
      → is_named sector query ≡ false
      → is_named lifetime query ≡ false
      → is_named base query ≡ false
      → first_reason (extra_reasons query) ≡ None)

  rules_of : Rules
  unfolding Rules
  rules_of =
      by_name (is_named ep query) (is_named sector query) (is_named lifetime query)
      (is_named base query)
      (name_reasons kind good.others query) (lifetime_reasons good.others query)
      (base_reasons kind good.others query) (extra_reasons query) good.reasons

  at_ep : is_named ep query ≡ true → IsAllowedName (option_value query)
  unfolding Rules
  at_ep h = good_name kind good.others query good.printable (rules_of.0 h)

  at_sector : is_named sector query ≡ true → IsAllowedName (option_value query)
  unfolding Rules
  at_sector h = good_name kind good.others query good.printable (rules_of.1 h)

  at_lifetime : is_named lifetime query ≡ true → IsAllowedLifetime (number_of (option_value query))
  unfolding Rules
  at_lifetime h =
      good_lifetime good.others query (rules_of.2 (named_alone query lifetime ep h refl)
      (named_alone query lifetime sector h refl) h)

  at_base : is_named base query ≡ true → IsGoodBase (option_value query)
  unfolding Rules
  at_base h =
      good_base kind good.others query
      (rules_of.3 (named_alone query base ep h refl) (named_alone query base sector h refl)
      (named_alone query base lifetime h refl) h)

  at_extra : is_among own_names (option_name query) ≡ false
      → IsAllowedAttribute (pair_of_option query)
  unfolding Rules
  at_extra h =
      let first =
      or_parts (is_named ep query)
      (is_named sector query || (is_named lifetime query || (is_named base query || false)))
      h in
      let second =
      or_parts (is_named sector query)
      (is_named lifetime query || (is_named base query || false)) first.1 in
      let third = or_parts (is_named lifetime query) (is_named base query || false) second.1 in
      let fourth = or_parts (is_named base query) false third.1 in
      let name = none_holds (extra_reasons query) (rules_of.4 first.0 second.0 third.0 fourth.0) in
      record {
        name = not_false (is_extra_name (option_name query)) name.0;
        extra = h;
        printable = good.printable;
      }

-- ---- all parameters

-- of options without a fault each is judged good, where some stand before it
each_judged : (kind : Reading) (others queries : List (List ℕ))
    → first_fault_after (parameter_fault kind) (missing_fault kind) others queries ≡ None
    → AllByRecursion (IsGood kind) queries
each_judged kind others [] h = tt
each_judged kind others (query ∷ queries) h =
    by_first (parameter_fault kind others query) refl (each_judged kind (query ∷ others) queries) h
  where
    by_first : (o : Option Why) → parameter_fault kind others query ≡ o
        → (first_fault_after (parameter_fault kind) (missing_fault kind) (query ∷ others) queries
        ≡ None
        → AllByRecursion (IsGood kind) queries)
        → or_else (option_map (λ why. (length others, why)) o)
        (first_fault_after (parameter_fault kind) (missing_fault kind) (query ∷ others)
        queries)
        ≡ None
        → AllByRecursion (IsGood kind) (query ∷ queries)
    by_first None e later h = (is_good kind others query e, later h)
    by_first (Some why) e later h = absurd (none_some (sym h))

-- and the endpoint is named, before them or among them
swapped : (a b c : Bool) → ((a || b) || c) ≡ true → (b || (a || c)) ≡ true
swapped true true c h = refl
swapped true false c h = refl
swapped false true c h = refl
swapped false false c h = h

named_or_not : (b : Bool) (n : ℕ)
    → option_map {U = Fault} (λ why. (n, why)) (if b then None else Some why.NoEp) ≡ None
    → b ≡ true
named_or_not true n h = refl
named_or_not false n h = absurd (none_some (sym h))

none_missing : (kind : Reading) (others queries : List (List ℕ))
    → is_update kind ≡ false
    → first_fault_after (parameter_fault kind) (missing_fault kind) others queries ≡ None
    → (has_named ep others || has_named ep queries) ≡ true
none_missing kind others [] u h =
    let named : (is_update kind || has_named ep others) ≡ true =
    named_or_not (is_update kind || has_named ep others) (length others) h in
    let before : has_named ep others ≡ true = rw u at named in
    rw before refl
none_missing kind others (query ∷ queries) u h =
    by_first (parameter_fault kind others query) (none_missing kind (query ∷ others) queries u) h
  where
    by_first : (o : Option Why)
        → (first_fault_after (parameter_fault kind) (missing_fault kind) (query ∷ others) queries
        ≡ None
        → (has_named ep (query ∷ others) || has_named ep queries) ≡ true)
        → or_else (option_map (λ why. (length others, why)) o)
        (first_fault_after (parameter_fault kind) (missing_fault kind) (query ∷ others)
        queries)
        ≡ None
        → (has_named ep others || has_named ep (query ∷ queries)) ≡ true
    by_first None later h =
        swapped (is_named ep query) (has_named ep others) (has_named ep queries) (later h)
    by_first (Some why) later h = absurd (none_some (sym h))

-- ---- the first value of a name

module _ (name : List ℕ) (P : List ℕ → Type 0) where
  -- it is so where each option of the name is
  abbrev EachNamed : List (List ℕ) → Type 0
  EachNamed queries =
      AllByRecursion (λ query. is_named name query ≡ true → P (option_value query)) queries

  if_given : (queries : List (List ℕ)) → EachNamed queries → IfSome (value_named name queries) P
  unfolding value_named
  if_given [] each = tt
  if_given (query ∷ queries) each =
      by_test (is_named name query) refl (if_given queries each.1)
    where
      by_test : (b : Bool)
          → is_named name query ≡ b
          → IfSome (option_map option_value (find (is_named name) queries)) P
          → IfSome
          (option_map option_value (if b then Some query else find (is_named name) queries)) P
      by_test true e later = each.0 e
      by_test false e later = later

  as_given : (queries : List (List ℕ))
      → EachNamed queries
      → has_named name queries ≡ true
      → P (unwrap_or (value_named name queries) [])
  unfolding value_named
  as_given [] each h = absurd (true≢false (sym h))
  as_given (query ∷ queries) each h =
      by_test (is_named name query) refl (as_given queries each.1) h
    where
      by_test : (b : Bool)
          → is_named name query ≡ b
          → (has_named name queries ≡ true
          → P (unwrap_or (option_map option_value (find (is_named name) queries)) []))
          → (b || has_named name queries) ≡ true
          → P (unwrap_or
          (option_map option_value (if b then Some query else find (is_named name) queries))
          [])
      by_test true e later h = each.0 e
      by_test false e later h = later h

-- ---- what they give

not_true : (b : Bool) → not b ≡ true → b ≡ false
not_true true h = absurd (true≢false (sym h))
not_true false h = refl

if_mapped : {A B : Type 0} (f : A → B) (P : B → Type 0) (o : Option A)
    → IfSome o (λ x. P (f x))
    → IfSome (option_map f o) P
if_mapped f P None h = tt
if_mapped f P (Some x) h = h

if_weaker : {A : Type 0} (P Q : A → Type 0)
    → ((x : A) → P x → Q x)
    → (o : Option A)
    → IfSome o P
    → IfSome o Q
if_weaker P Q f None h = tt
if_weaker P Q f (Some x) h = f x h

or_default : (P : ℕ → Type 0) (n : ℕ) (o : Option ℕ) → P n → IfSome o P → P (unwrap_or o n)
or_default P n None d h = d
or_default P n (Some m) d h = h

module _ (kind : Reading) (queries : List (List ℕ)) (good : AllByRecursion (IsGood kind) queries)
  where
    sector_allowed : IfSome (value_named sector queries) IsAllowedName
    sector_allowed =
        if_given sector IsAllowedName queries (each_weaker _ _ (at_sector kind) queries good)

    ep_allowed : has_named ep queries ≡ true → IsAllowedName (unwrap_or (value_named ep queries) [])
    ep_allowed h = as_given ep IsAllowedName queries (each_weaker _ _ (at_ep kind) queries good) h

    lifetime_allowed : IfSome (given_lifetime queries) IsAllowedLifetime
    lifetime_allowed =
        if_mapped number_of IsAllowedLifetime (value_named lifetime queries)
        (if_given lifetime (λ value. IsAllowedLifetime (number_of value)) queries
        (each_weaker _ _ (at_lifetime kind) queries good))

    base_allowed : IfSome (value_named base queries) IsGoodBase
    base_allowed = if_given base IsGoodBase queries (each_weaker _ _ (at_base kind) queries good)

    attributes_allowed : AllByRecursion IsAllowedAttribute (extra_attributes queries)
    attributes_allowed =
        let test : List ℕ → Bool = λ query. not (is_among own_names (option_name query)) in
        each_map IsAllowedAttribute pair_of_option (filter test queries)
        (each_both (IsGood kind) (λ query. test query ≡ true)
        (λ query. IsAllowedAttribute (pair_of_option query))
        (λ query good extra.
        at_extra kind query good (not_true (is_among own_names (option_name query)) extra))
        (filter test queries) (each_filter (IsGood kind) test queries good)
        (each_passes test queries))

registration_so : (kind : Reading) (queries : List (List ℕ))
    → is_update kind ≡ false
    → parameters_fault kind queries ≡ None
    → AreAllowed (registration_values queries)
unfolding parameters_fault registration_values
registration_so kind queries u h =
    let good = each_judged kind [] queries h in
    record {
      ep = ep_allowed kind queries good (none_missing kind [] queries u h);
      sector = sector_allowed kind queries good;
      lt =
          or_default IsAllowedLifetime default_lifetime (given_lifetime queries)
          (record { lasting = omega arith; small = omega arith })
          (lifetime_allowed kind queries good);
      base =
          if_weaker IsGoodBase (λ base. is_base base ≡ true) (λ _ h. h.base)
          (value_named base queries) (base_allowed kind queries good);
      global =
          if_weaker IsGoodBase (λ base. is_link_local base ≡ false) (λ _ h. h.global)
          (value_named base queries) (base_allowed kind queries good);
      attrs = attributes_allowed kind queries good;
    }

change_so : (queries : List (List ℕ))
    → parameters_fault reading.Update queries ≡ None
    → IsAllowedChange (update_values queries)
unfolding parameters_fault update_values
change_so queries h =
    let good = each_judged reading.Update [] queries h in
    record {
      lt = lifetime_allowed reading.Update queries good;
      base =
          if_weaker IsGoodBase (λ base. is_base base ≡ true) (λ _ h. h.base)
          (value_named base queries) (base_allowed reading.Update queries good);
      global =
          if_weaker IsGoodBase (λ base. is_link_local base ≡ false) (λ _ h. h.global)
          (value_named base queries) (base_allowed reading.Update queries good);
      attrs = attributes_allowed reading.Update queries good;
    }

err_ok : {A : Type 0} {fault : Fault} {x : A} → ◌≡◌ {A = Result A Fault} (Err fault) (Ok x) → ⊥
err_ok h = cc

-- a value that is no fault
no_fault : {A : Type 0} (P : A → Type 0) (o : Option Fault) (meant value : A)
    → (o ≡ None → P meant)
    → unless_fault o meant ≡ Ok value
    → P value
no_fault P None meant value good h = IfOk-at_ok P h (good refl)
no_fault P (Some fault) meant value good h = absurd (err_ok h)

-- the parameters of a registration are allowed
pub registration_allowed : (kind : Reading) (queries : List (List ℕ)) (params : RegParams)
    → is_update kind ≡ false
    → registration_parameters kind queries ≡ Ok params
    → AreAllowed params
unfolding registration_parameters
registration_allowed kind queries params u h =
    no_fault AreAllowed (parameters_fault kind queries) (registration_values queries) params
    (registration_so kind queries u) h

-- and so is what an update gives
pub update_allowed : (queries : List (List ℕ)) (change : UpdateParams)
    → update_parameters queries ≡ Ok change
    → IsAllowedChange change
unfolding update_parameters
update_allowed queries change h =
    no_fault IsAllowedChange (parameters_fault reading.Update queries) (update_values queries)
    change (change_so queries) h
