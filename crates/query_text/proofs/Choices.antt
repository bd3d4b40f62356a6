-- Choices carried through functions, and what no fault says.
use Rattle.std.proofs.Common.{
  ◌≡◌,
  ℕ,
  Bool,
  true,
  false,
  not,
  List,
  [],
  ◌∷◌,
  bytes_eq,
  map,
  Option,
  Some,
  None,
  refl,
  sym,
  ap,
  subst,
  ◌∙◌,
}
use Rattle.std.specs.Prelude.{if◌then◌else◌, option_map, find}
use Rattle.std.specs.Str.{is_utf8}
use Rattle.std.proofs.lemmas.Slice.Eq.{bytes_eq-Decides}
use Rattle.rd_base.proofs.lemmas.Options.{none_some}
use Rattle.record_model.specs.declared.readings.Reading.{Reading}
use Rattle.record_model.specs.declared.readings.Reading.TheVariants as reading
use Rattle.record_model.specs.declared.readings.Why.{Why}
use Rattle.record_model.specs.declared.readings.Why.TheVariants as why
use Rattle.record_model.specs.Faults.{or_else, first_reason}
use Rattle.record_model.specs.Options.{option_name, option_value, value_named, is_number, number_of}
use Rattle.record_model.specs.Parameters.{lifetime, has_control, is_lifetime}
use Rattle.record_model.specs.Criteria.{page, count}
use Rattle.query_text.specs.declared.occurrences.Occurred.{Occurred}
use Rattle.query_text.specs.Numbers.{number_in, lifetime_in}
use Rattle.query_text.specs.Rules.{
  is_lookup,
  parameter_rules,
  option_rules,
  named_fault,
  fault_after,
}

module _ {A B : Type 0} (f : A → B) (x : A) where
  pub if_map : (b : Bool) (o : Option A)
      → option_map f (if b then Some x else o) ≡ (if b then Some (f x) else option_map f o)
  if_map true o = refl
  if_map false o = refl

  pub if_filter : (b : Bool) (xs : List A)
      → map f (if not b then x ∷ xs else xs) ≡ (if b then map f xs else f x ∷ map f xs)
  if_filter true xs = refl
  if_filter false xs = refl

-- the first of three
pub first_of : {A : Type 0} (o : Option A) (x : A) (rest : Option A)
    → or_else (or_else o (Some x)) rest ≡ or_else o (Some x)
first_of None x rest = refl
first_of (Some y) x rest = refl

pub or_nothing : {A : Type 0} (o : Option A) → or_else o None ≡ o
or_nothing None = refl
or_nothing (Some y) = refl

-- the value of a name where an option stands before others
pub value_before : (name query : List ℕ) (rest : List (List ℕ))
    → value_named name (query ∷ rest)
    ≡ (if bytes_eq (option_name query) name then Some (option_value query) else value_named name
    rest)
unfolding value_named
value_before name query rest =
    if_map option_value query (bytes_eq (option_name query) name)
    (find (λ q. bytes_eq (option_name q) name) rest)

-- and a number of it
pub number_before : (name query : List ℕ) (rest : List (List ℕ))
    → option_map number_of (value_named name (query ∷ rest))
    ≡ (if bytes_eq (option_name query) name then Some (number_of (option_value query)) else
    option_map number_of (value_named name rest))
number_before name query rest =
    ap (option_map number_of) (value_before name query rest)
    ∙ if_map number_of (option_value query) (bytes_eq (option_name query) name)
    (value_named name rest)

-- a text without a fault
good_text : (b : Bool) (x : Option Why) → (if b then x else Some why.Utf8) ≡ None → x ≡ None
good_text true x h = h
good_text false x h = absurd (none_some (sym h))

good_characters : (b : Bool) (x : Option Why)
    → (if b then Some why.Control else x) ≡ None
    → x ≡ None
good_characters true x h = absurd (none_some (sym h))
good_characters false x h = h

good_once : (s l : Bool) (w : Why)
    → first_reason ((s, why.Repeated) ∷ (not l, w) ∷ []) ≡ None
    → l ≡ true
good_once true l w h = absurd (none_some (sym h))
good_once false true w h = refl
good_once false false w h = absurd (none_some (sym h))

named_good : (kind : Reading) (occurred : Occurred) (query : List ℕ)
    → fault_after kind occurred query ≡ None
    → named_fault kind occurred (option_name query) (option_value query) ≡ None
unfolding fault_after
named_good kind occurred query h =
    good_text (is_utf8 query) (named_fault kind occurred (option_name query) (option_value query)) h

parameter_good : (kind : Reading) (occurred : Occurred) (name value : List ℕ)
    → is_lookup kind ≡ false
    → named_fault kind occurred name value ≡ None
    → parameter_rules kind occurred name value ≡ None
unfolding named_fault
parameter_good kind occurred name value l h =
    good_characters (has_control value) (parameter_rules kind occurred name value) (rw l at h)

option_good : (occurred : Occurred) (name value : List ℕ)
    → named_fault reading.Lookup occurred name value ≡ None
    → option_rules occurred name value ≡ None
unfolding named_fault
option_good occurred name value h = h

at_lifetime : (kind : Reading) (occurred : Occurred) (value : List ℕ)
    → parameter_rules kind occurred lifetime value ≡ None
    → is_lifetime value ≡ true
unfolding parameter_rules
at_lifetime kind occurred value h = good_once occurred.lifetime (is_lifetime value) why.Lt h

at_page : (occurred : Occurred) (value : List ℕ)
    → option_rules occurred page value ≡ None
    → is_number value ≡ true
unfolding option_rules
at_page occurred value h = good_once occurred.page (is_number value) why.Number h

at_count : (occurred : Occurred) (value : List ℕ)
    → option_rules occurred count value ≡ None
    → is_number value ≡ true
unfolding option_rules
at_count occurred value h = good_once occurred.count (is_number value) why.Number h

chosen_some : (b : Bool) (n : ℕ) → b ≡ true → (if b then Some n else None) ≡ Some n
chosen_some true n h = refl
chosen_some false n h =
    let clash : ◌≡◌ {A = Option Bool} None (Some true) =
    ap (λ (b : Bool). if b then Some true else None) h in
    absurd (none_some clash)

-- a lifetime without a fault writes a number
pub good_lifetime : (kind : Reading) (occurred : Occurred) (query : List ℕ)
    → is_lookup kind ≡ false
    → fault_after kind occurred query ≡ None
    → bytes_eq (option_name query) lifetime ≡ true
    → lifetime_in (option_value query) ≡ Some (number_of (option_value query))
good_lifetime kind occurred query l h e =
    let rules =
    parameter_good kind occurred (option_name query) (option_value query) l
    (named_good kind occurred query h) in
    let at =
    subst (λ (n : List ℕ). parameter_rules kind occurred n (option_value query) ≡ None)
    ((bytes_eq-Decides (option_name query) lifetime).0 e) rules in
    chosen_some (is_lifetime (option_value query)) (number_of (option_value query))
    (at_lifetime kind occurred (option_value query) at)

-- and so do a page and a count
pub good_page : (occurred : Occurred) (query : List ℕ)
    → fault_after reading.Lookup occurred query ≡ None
    → bytes_eq (option_name query) page ≡ true
    → number_in (option_value query) ≡ Some (number_of (option_value query))
good_page occurred query h e =
    let rules =
    option_good occurred (option_name query) (option_value query)
    (named_good reading.Lookup occurred query h) in
    let at =
    subst (λ (n : List ℕ). option_rules occurred n (option_value query) ≡ None)
    ((bytes_eq-Decides (option_name query) page).0 e) rules in
    chosen_some (is_number (option_value query)) (number_of (option_value query))
    (at_page occurred (option_value query) at)

pub good_count : (occurred : Occurred) (query : List ℕ)
    → fault_after reading.Lookup occurred query ≡ None
    → bytes_eq (option_name query) count ≡ true
    → number_in (option_value query) ≡ Some (number_of (option_value query))
good_count occurred query h e =
    let rules =
    option_good occurred (option_name query) (option_value query)
    (named_good reading.Lookup occurred query h) in
    let at =
    subst (λ (n : List ℕ). option_rules occurred n (option_value query) ≡ None)
    ((bytes_eq-Decides (option_name query) count).0 e) rules in
    chosen_some (is_number (option_value query)) (number_of (option_value query))
    (at_count occurred (option_value query) at)
