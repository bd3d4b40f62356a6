-- What the options of a lookup ask for, one after another.
use Rattle.std.proofs.Common.{
  ◌≡◌,
  ℕ,
  Bool,
  true,
  false,
  not,
  ◌||◌,
  List,
  [],
  ◌∷◌,
  ◌++◌,
  bytes_eq,
  Option,
  Some,
  None,
  refl,
  sym,
  ap,
  subst,
  ◌∙◌,
  append_assoc,
}
use Rattle.std.proofs.lemmas.List.{append-nil}
use Rattle.std.specs.Prelude.{if◌then◌else◌, filter}
use Rattle.std.proofs.lemmas.Slice.Eq.{bytes_eq-Decides}
use Rattle.rd_base.specs.declared.queries.Criterion.{Criterion}
use Rattle.record_model.specs.declared.readings.Reading.TheVariants as reading
use Rattle.record_model.specs.Faults.{or_else}
use Rattle.record_model.specs.Options.{option_name, option_value, number_of, value_named}
use Rattle.record_model.specs.Criteria.{page, count, is_cut, criterion_of}
use Rattle.query_text.specs.declared.rules.Named.{Named}
use Rattle.query_text.specs.declared.walks.Walk.{Walk}
use Rattle.query_text.specs.Numbers.{number_in}
use Rattle.query_text.specs.Walks.{IsPast}
use Rattle.query_text.specs.Rules.{fault_after}
use Rattle.query_text.specs.AskedOptions.{Wanted, wanted_of, wanted_with}
use Rattle.query_text.proofs.Choices.{
  if_filter,
  first_of,
  or_nothing,
  number_before,
  good_page,
  good_count,
}

-- what is asked for first and then
abbrev pub joined : Wanted → Wanted → Wanted
joined w v = record {
  criteria = w.criteria ++ v.criteria;
  page = or_else w.page v.page;
  count = or_else w.count v.count;
}

abbrev criterion : List ℕ → List ℕ → Criterion
criterion name value = record { name = name; pattern = value }

-- an option before others
abbrev before : List ℕ → List ℕ → Wanted → Wanted
before name value v = record {
  criteria =
      if bytes_eq name page || bytes_eq name count
      then v.criteria
      else criterion name value ∷ v.criteria;
  page = if bytes_eq name page then Some (number_of value) else v.page;
  count = if bytes_eq name count then Some (number_of value) else v.count;
}

same_wanted : {c c' : List Criterion} {p p' n n' : Option ℕ}
    → c ≡ c'
    → p ≡ p'
    → n ≡ n'
    → ◌≡◌ {A = Wanted} record { criteria = c; page = p; count = n } record
    { criteria = c'; page = p'; count = n' }
same_wanted h1 h2 h3 = cc

one_before : (query : List ℕ) (rest : List (List ℕ))
    → wanted_of (query ∷ rest) ≡ before (option_name query) (option_value query) (wanted_of rest)
unfolding wanted_of
one_before query rest =
    same_wanted (if_filter criterion_of query (is_cut query) (filter (λ q. not (is_cut q)) rest))
    (number_before page query rest) (number_before count query rest)

module _ (w v : Wanted) where
  at_page : (value : List ℕ)
      → number_in value ≡ Some (number_of value)
      → joined (wanted_with w page value) v ≡ joined w (before page value v)
  unfolding wanted_with
  at_page value good =
      same_wanted refl (ap (λ (o : Option ℕ). or_else (or_else w.page o) v.page) good
      ∙ first_of w.page (number_of value) v.page) refl

  at_count : (value : List ℕ)
      → number_in value ≡ Some (number_of value)
      → joined (wanted_with w count value) v ≡ joined w (before count value v)
  unfolding wanted_with
  at_count value good =
      same_wanted refl refl (ap (λ (o : Option ℕ). or_else (or_else w.count o) v.count) good
      ∙ first_of w.count (number_of value) v.count)

  at_other : (name value : List ℕ)
      → bytes_eq name page ≡ false
      → bytes_eq name count ≡ false
      → joined (wanted_with w name value) v ≡ joined w (before name value v)
  unfolding wanted_with
  at_other name value e1 e2 =
      rw (e1, e2)
      (same_wanted (append_assoc w.criteria (criterion name value ∷ []) v.criteria) refl refl)

  kept : (name value : List ℕ)
      → (bytes_eq name page ≡ true → number_in value ≡ Some (number_of value))
      → (bytes_eq name count ≡ true → number_in value ≡ Some (number_of value))
      → joined (wanted_with w name value) v ≡ joined w (before name value v)
  kept name value good_p good_c = by_page (bytes_eq name page) refl
    where
      by_count : (b : Bool)
          → bytes_eq name count ≡ b
          → bytes_eq name page ≡ false
          → joined (wanted_with w name value) v ≡ joined w (before name value v)
      by_count true e e1 =
          subst (λ n. joined (wanted_with w n value) v ≡ joined w (before n value v))
          (sym ((bytes_eq-Decides name count).0 e)) (at_count value (good_c e))
      by_count false e e1 = at_other name value e1 e

      by_page : (b : Bool)
          → bytes_eq name page ≡ b
          → joined (wanted_with w name value) v ≡ joined w (before name value v)
      by_page true e =
          subst (λ n. joined (wanted_with w n value) v ≡ joined w (before n value v))
          (sym ((bytes_eq-Decides name page).0 e)) (at_page value (good_p e))
      by_page false e = by_count (bytes_eq name count) refl e

-- an option that was read and kept
pub asked_more : (walk : Walk) (left : List (List ℕ)) (now : Walk) (rest : List (List ℕ))
    (named : Named) (w w' : Wanted)
    → IsPast walk left now rest named
    → walk.kind ≡ reading.Lookup
    → w' ≡ wanted_with w named.name.now named.value.now
    → joined w' (wanted_of rest) ≡ joined w (wanted_of left)
asked_more walk left now rest named w w' h l is =
    let named_so :
    wanted_with w named.name.now named.value.now
    ≡ wanted_with w (option_name h.query) (option_value h.query) =
    ap (λ (n : List ℕ). wanted_with w n named.value.now) h.name
    ∙ ap (λ (v : List ℕ). wanted_with w (option_name h.query) v) h.value in
    let good : fault_after reading.Lookup walk.occurred h.query ≡ None =
    subst (λ k. fault_after k walk.occurred h.query ≡ None) l h.good in
    ap (λ (s : Wanted). joined s (wanted_of rest)) (is ∙ named_so)
    ∙ (kept w (wanted_of rest) (option_name h.query) (option_value h.query)
    (good_page walk.occurred h.query good) (good_count walk.occurred h.query good)
    ∙ ap (joined w) (sym (ap wanted_of h.first ∙ one_before h.query rest)))

-- nothing is left
pub asked_all : (w : Wanted) (left : List (List ℕ)) → left ≡ [] → joined w (wanted_of left) ≡ w
unfolding wanted_of value_named
asked_all w left e =
    ap (λ (l : List (List ℕ)). joined w (wanted_of l)) e
    ∙ same_wanted (append-nil w.criteria) (or_nothing w.page) (or_nothing w.count)
