-- Options without a fault: each is text and good, and so are the others after it.
use Rattle.std.proofs.Common.{
  ◌≡◌,
  ℕ,
  Bool,
  true,
  false,
  List,
  ◌∷◌,
  Option,
  Some,
  None,
  Ok,
  refl,
  sym,
  ap,
  ◌∙◌,
}
use Rattle.std.specs.Str.{IsUtf8}
use Rattle.rd_base.specs.declared.parameters.RegParams.{RegParams}
use Rattle.rd_base.specs.declared.parameters.UpdateParams.{UpdateParams}
use Rattle.record_model.specs.declared.readings.Reading.{Reading}
use Rattle.record_model.specs.declared.readings.Reading.TheVariants as reading
use Rattle.record_model.specs.declared.readings.Why.{Why}
use Rattle.record_model.specs.Criteria.{fault_of}
use Rattle.record_model.specs.Faults.{Fault, or_else}
use Rattle.record_model.specs.Options.{option_name, option_value}
use Rattle.record_model.specs.Parameters.{
  is_update,
  unless_fault,
  registration_values,
  registration_parameters,
  update_values,
  update_parameters,
}
use Rattle.query_text.specs.declared.rules.Named.{Named}
use Rattle.query_text.specs.declared.walks.Walk.{Walk}
use Rattle.query_text.specs.Faultless.{AreFaultless, Follows}
use Rattle.query_text.specs.Outcomes.{registering}
use Rattle.query_text.specs.Rules.{is_lookup, fault_after}
use Rattle.query_text.specs.Walks.{start_of, walk_past, at_index, faults_from}
use Rattle.query_text.proofs.OctetFaults.{bad_text}
use Rattle.query_text.proofs.RuleLaws.{same_fault}

-- the first is good, and no fault comes after it
first_good : (walk : Walk) (left : List (List ℕ)) (query : List ℕ) (rest : List (List ℕ))
    → left ≡ query ∷ rest
    → faults_from walk left ≡ None
    → (fault_after walk.kind walk.occurred query ≡ None)
    × (faults_from (walk_past walk query) rest ≡ None)
unfolding faults_from
first_good walk left query rest e none =
    by (fault_after walk.kind walk.occurred query) (faults_from (walk_past walk query) rest)
    (sym (ap (faults_from walk) e) ∙ none)
  where
    by : (reason : Option Why) (later : Option Fault)
        → or_else (at_index walk.index reason) later ≡ None
        → (reason ≡ None) × (later ≡ None)
    by None later h = (refl, h)
    by (Some why) later h = cc

-- so it is text
pub first_text : (of_lookup : Bool) (left : List (List ℕ)) (query : List ℕ)
    (rest : List (List ℕ))
    → AreFaultless of_lookup left
    → left ≡ query ∷ rest
    → ¬ (IsUtf8 query)
    → ⊥
first_text of_lookup left query rest good e no_text =
    refuted (fault_after good.walk.kind good.walk.occurred query)
    (first_good good.walk left query rest e good.none).0
    (bad_text good.walk.kind good.walk.occurred query no_text)
  where
    refuted : {why : Why} (reason : Option Why) → reason ≡ None → reason ≡ Some why → ⊥
    refuted None none some = cc
    refuted (Some why) none some = cc

-- and it is read so
pub followed : (walk : Walk) (left : List (List ℕ)) (query : List ℕ) (rest : List (List ℕ))
    (text : List ℕ) (named : Named)
    → left ≡ query ∷ rest
    → text ≡ query
    → named.name.now ≡ option_name text
    → named.value.now ≡ option_value text
    → faults_from walk left ≡ None
    → Follows walk left rest (Some named)
followed walk left query rest text named e same name value none =
    let first = first_good walk left query rest e none in
    record {
      now = walk_past walk query;
      past = record {
        query = query;
        first = e;
        good = first.0;
        name = name ∙ ap option_name same;
        value = value ∙ ap option_value same;
        past = refl;
      };
      none = first.1;
    }

-- the others after the first have no fault either
pub others_faultless : (of_lookup : Bool) (walk : Walk) (left rest : List (List ℕ)) (named : Named)
    → is_lookup walk.kind ≡ of_lookup
    → Follows walk left rest (Some named)
    → AreFaultless of_lookup rest
others_faultless of_lookup walk left rest named kind h = record {
  walk = h.now;
  kind = ap (λ (w : Walk). is_lookup w.kind) h.past.past ∙ kind;
  none = h.none;
}

-- ---- from the first option on

pub options_faultless : (kind : Reading) (of_lookup : Bool) (queries : List (List ℕ))
    → is_lookup kind ≡ of_lookup
    → fault_of kind queries ≡ None
    → AreFaultless of_lookup queries
options_faultless kind of_lookup queries is none = record {
  walk = start_of kind;
  kind = is;
  none = same_fault kind queries ∙ none;
}

pub registering_no_lookup : (simple : Bool) → is_lookup (registering simple) ≡ false
registering_no_lookup true = refl
registering_no_lookup false = refl

pub registering_no_update : (simple : Bool) → is_update (registering simple) ≡ false
registering_no_update true = refl
registering_no_update false = refl

-- the kind of options that a lookup has
pub lookup_kind : (kind : Reading) → is_lookup kind ≡ true → kind ≡ reading.Lookup
lookup_kind reading.Lookup h = refl
lookup_kind _ h = cc

-- what a registration without a fault gives
pub registration_read : (simple : Bool) (queries : List (List ℕ)) (params : RegParams)
    → fault_of (registering simple) queries ≡ None
    → params ≡ registration_values queries
    → registration_parameters (registering simple) queries ≡ Ok params
unfolding fault_of registration_parameters
registration_read true queries params none is =
    ap (λ (f : Option Fault). unless_fault f (registration_values queries)) none
    ∙ ap (λ (v : RegParams). Ok v) (sym is)
registration_read false queries params none is =
    ap (λ (f : Option Fault). unless_fault f (registration_values queries)) none
    ∙ ap (λ (v : RegParams). Ok v) (sym is)

-- what an update without a fault gives
pub update_read : (queries : List (List ℕ)) (change : UpdateParams)
    → fault_of reading.Update queries ≡ None
    → change ≡ update_values queries
    → update_parameters queries ≡ Ok change
unfolding fault_of update_parameters
update_read queries change none is =
    ap (λ (f : Option Fault). unless_fault f (update_values queries)) none
    ∙ ap (λ (v : UpdateParams). Ok v) (sym is)
