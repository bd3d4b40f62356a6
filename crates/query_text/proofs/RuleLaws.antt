-- What an option is refused for is what the definition says of it and those before it.
use Rattle.std.proofs.Common.{
  ◌≡◌,
  ℕ,
  Bool,
  true,
  false,
  not,
  ◌||◌,
  List,
  [],
  ◌∷◌,
  length,
  bytes_eq,
  Option,
  Some,
  refl,
  sym,
  ap,
  ◌∙◌,
  add-one,
}
use Rattle.std.specs.Prelude.{if◌then◌else◌}
use Rattle.std.specs.Str.{is_utf8}
use Rattle.std.proofs.lemmas.Slice.Eq.{bytes_eq-Decides}
use Rattle.record_model.specs.declared.readings.Reading.{Reading}
use Rattle.record_model.specs.declared.readings.Reading.TheVariants as reading
use Rattle.record_model.specs.declared.readings.Why.{Why}
use Rattle.record_model.specs.declared.readings.Why.TheVariants as why
use Rattle.record_model.specs.Faults.{Fault, or_else, first_reason, first_fault_after}
use Rattle.record_model.specs.Options.{option_name, option_value, has_named}
use Rattle.record_model.specs.Parameters.{
  ep,
  sector,
  lifetime,
  base,
  has_control,
  name_reasons,
  lifetime_reasons,
  base_reasons,
  extra_reasons,
  reasons_of_name,
  parameter_fault,
  missing_fault,
  parameters_fault,
}
use Rattle.record_model.specs.Criteria.{
  page,
  count,
  cut_reasons,
  criterion_reasons,
  option_fault,
  page_fault,
  lookup_fault,
  fault_of,
}
use Rattle.query_text.specs.declared.walks.Walk.{Walk}
use Rattle.query_text.specs.Occurrences.{occurred_of}
use Rattle.query_text.specs.Rules.{
  is_lookup,
  name_fault,
  cut_fault,
  parameter_rules,
  option_rules,
  named_fault,
  fault_after,
  missing_after,
}
use Rattle.query_text.specs.Walks.{start_of, walk_past, at_index, faults_from}

-- choosing among reasons, and then the first of them
chosen : (e s l b : Bool) (n lr br xr : List (Bool × Why)) (ne ns : Option Why)
    → (e ≡ true → ne ≡ first_reason n)
    → (s ≡ true → ns ≡ first_reason n)
    → (if e then ne else (if s then ns else
    (if l then first_reason lr else (if b then first_reason br else first_reason xr))))
    ≡ first_reason (if e || s then n else (if l then lr else (if b then br else xr)))
chosen true s l b n lr br xr ne ns h k = h refl
chosen false true l b n lr br xr ne ns h k = k refl
chosen false false true b n lr br xr ne ns h k = refl
chosen false false false true n lr br xr ne ns h k = refl
chosen false false false false n lr br xr ne ns h k = refl

chosen_cut : (p c : Bool) (n xr : List (Bool × Why)) (ne ns : Option Why)
    → (p ≡ true → ne ≡ first_reason n)
    → (c ≡ true → ns ≡ first_reason n)
    → (if p then ne else (if c then ns else first_reason xr))
    ≡ first_reason (if p || c then n else xr)
chosen_cut true c n xr ne ns h k = h refl
chosen_cut false true n xr ne ns h k = k refl
chosen_cut false false n xr ne ns h k = refl

not_utf8 : (b : Bool) (rest : Option Why)
    → (if b then rest else Some why.Utf8) ≡ (if not b then Some why.Utf8 else rest)
not_utf8 true rest = refl
not_utf8 false rest = refl

module _ (others : List (List ℕ)) (query : List ℕ) where
  -- a name that occurred before
  same_name : (kind : Reading) (name : List ℕ)
      → bytes_eq (option_name query) name ≡ true
      → name_fault kind (has_named name others) (option_value query)
      ≡ first_reason (name_reasons kind others query)
  same_name kind name h =
      ap (λ (n : List ℕ). name_fault kind (has_named n others) (option_value query))
      (sym ((bytes_eq-Decides (option_name query) name).0 h))

  same_cut : (name : List ℕ)
      → bytes_eq (option_name query) name ≡ true
      → cut_fault (has_named name others) (option_value query)
      ≡ first_reason (cut_reasons others query)
  same_cut name h =
      ap (λ (n : List ℕ). cut_fault (has_named n others) (option_value query))
      (sym ((bytes_eq-Decides (option_name query) name).0 h))

  same_parameter_rules : (kind : Reading)
      → parameter_rules kind (occurred_of others) (option_name query) (option_value query)
      ≡ first_reason (reasons_of_name kind others query)
  unfolding parameter_rules
  same_parameter_rules kind =
      chosen (bytes_eq (option_name query) ep) (bytes_eq (option_name query) sector)
      (bytes_eq (option_name query) lifetime) (bytes_eq (option_name query) base)
      (name_reasons kind others query) (lifetime_reasons others query)
      (base_reasons kind others query) (extra_reasons query) _ _ (same_name kind ep)
      (same_name kind sector)

  same_option_rules :
      option_rules (occurred_of others) (option_name query) (option_value query)
      ≡ first_reason (if bytes_eq (option_name query) page || bytes_eq (option_name query) count
      then cut_reasons others query
      else criterion_reasons query)
  unfolding option_rules
  same_option_rules =
      chosen_cut (bytes_eq (option_name query) page) (bytes_eq (option_name query) count)
      (cut_reasons others query) (criterion_reasons query) _ _ (same_cut page) (same_cut count)

  pub same_parameter : (kind : Reading)
      → is_lookup kind ≡ false
      → fault_after kind (occurred_of others) query ≡ parameter_fault kind others query
  unfolding fault_after named_fault parameter_fault
  same_parameter kind h =
      rw h (ap (λ (o : Option Why).
      if is_utf8 query
      then (if has_control (option_value query) then Some why.Control else o)
      else Some why.Utf8) (same_parameter_rules kind)
      ∙ not_utf8 (is_utf8 query)
      (if has_control (option_value query) then Some why.Control else first_reason
      (reasons_of_name kind others query)))

  pub same_option :
      fault_after reading.Lookup (occurred_of others) query ≡ option_fault others query
  unfolding fault_after named_fault option_fault
  same_option =
      ap (λ (o : Option Why). if is_utf8 query then o else Some why.Utf8) same_option_rules
      ∙ not_utf8 (is_utf8 query) _

-- what is known after these options
abbrev walk_of : Reading → List (List ℕ) → Walk
walk_of kind others = record { kind = kind; occurred = occurred_of others; index = length others }

one_more : (kind : Reading) (others : List (List ℕ)) (query : List ℕ)
    → walk_past (walk_of kind others) query ≡ walk_of kind (query ∷ others)
one_more kind others query =
    ap (λ (n : ℕ). record { kind = kind; occurred = occurred_of (query ∷ others); index = n })
    (add-one (length others))

same_missing : (kind : Reading)
    → is_lookup kind ≡ false
    → (others : List (List ℕ))
    → missing_after kind (occurred_of others) ≡ missing_fault kind others
unfolding missing_after
same_missing kind h others = rw h refl

same_page : (others : List (List ℕ))
    → missing_after reading.Lookup (occurred_of others) ≡ page_fault others
unfolding missing_after
same_page others = refl

same_faults_after : (kind : Reading) (judge : List (List ℕ) → List ℕ → Option Why)
    (at_end : List (List ℕ) → Option Why)
    → ((others : List (List ℕ)) (query : List ℕ)
    → fault_after kind (occurred_of others) query ≡ judge others query)
    → ((others : List (List ℕ)) → missing_after kind (occurred_of others) ≡ at_end others)
    → (others queries : List (List ℕ))
    → faults_from (walk_of kind others) queries ≡ first_fault_after judge at_end others queries
unfolding faults_from
same_faults_after kind judge at_end h k others [] = ap (at_index (length others)) (k others)
same_faults_after kind judge at_end h k others (query ∷ queries) =
    ap (λ (o : Option Why).
    or_else (at_index (length others) o)
    (faults_from (walk_past (walk_of kind others) query) queries)) (h others query)
    ∙ ap (λ (o : Option Fault). or_else (at_index (length others) (judge others query)) o)
    (ap (λ w. faults_from w queries) (one_more kind others query)
    ∙ same_faults_after kind judge at_end h k (query ∷ others) queries)

pub of_parameters : (kind : Reading)
    → is_lookup kind ≡ false
    → (queries : List (List ℕ))
    → faults_from (start_of kind) queries ≡ parameters_fault kind queries
unfolding parameters_fault
of_parameters kind h queries =
    same_faults_after kind (parameter_fault kind) (missing_fault kind)
    (λ others query. same_parameter others query kind h) (same_missing kind h) [] queries

-- the first fault of all options
pub same_fault : (kind : Reading) (queries : List (List ℕ))
    → faults_from (start_of kind) queries ≡ fault_of kind queries
unfolding fault_of lookup_fault
same_fault reading.Lookup queries =
    same_faults_after reading.Lookup option_fault page_fault same_option same_page [] queries
same_fault reading.Register queries = of_parameters reading.Register refl queries
same_fault reading.Simple queries = of_parameters reading.Simple refl queries
same_fault reading.Update queries = of_parameters reading.Update refl queries
