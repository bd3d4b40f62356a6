-- What parameters give, one after another.
use Rattle.std.proofs.Common.{
  ◌≡◌,
  ℕ,
  Bool,
  true,
  false,
  not,
  List,
  [],
  ◌∷◌,
  ◌++◌,
  bytes_eq,
  Option,
  Some,
  refl,
  sym,
  ap,
  subst,
  ◌∙◌,
  append_assoc,
}
use Rattle.std.proofs.lemmas.List.{append-nil}
use Rattle.std.specs.Prelude.{if◌then◌else◌, filter}
use Rattle.std.proofs.lemmas.Slice.Eq.{bytes_eq-Decides}
use Rattle.rd_base.specs.declared.attributes.Pair.{Pair}
use Rattle.record_model.specs.Faults.{or_else}
use Rattle.record_model.specs.Options.{option_name, option_value, is_among, number_of, value_named}
use Rattle.record_model.specs.Parameters.{ep, sector, lifetime, base, own_names, pair_of_option}
use Rattle.query_text.specs.declared.rules.Named.{Named}
use Rattle.query_text.specs.declared.walks.Walk.{Walk}
use Rattle.query_text.specs.Numbers.{lifetime_in}
use Rattle.query_text.specs.Rules.{is_lookup}
use Rattle.query_text.specs.Walks.{IsPast}
use Rattle.query_text.specs.GivenParameters.{GivenValues, values_of, given_with}
use Rattle.query_text.proofs.Choices.{
  if_filter,
  first_of,
  or_nothing,
  value_before,
  number_before,
  good_lifetime,
}

-- what is given first and then
abbrev pub joined : GivenValues → GivenValues → GivenValues
joined g h = record {
  ep = or_else g.ep h.ep;
  sector = or_else g.sector h.sector;
  lifetime = or_else g.lifetime h.lifetime;
  base = or_else g.base h.base;
  attributes = g.attributes ++ h.attributes;
}

abbrev pair_of : List ℕ → List ℕ → Pair
pair_of name value = record { name = name; value = value }

-- a parameter given before others
abbrev before : List ℕ → List ℕ → GivenValues → GivenValues
before name value h = record {
  ep = if bytes_eq name ep then Some value else h.ep;
  sector = if bytes_eq name sector then Some value else h.sector;
  lifetime = if bytes_eq name lifetime then Some (number_of value) else h.lifetime;
  base = if bytes_eq name base then Some value else h.base;
  attributes = if is_among own_names name then h.attributes else pair_of name value ∷ h.attributes;
}

same_seen : {e e' s s' b b' : Option (List ℕ)} {l l' : Option ℕ} {a a' : List Pair}
    → e ≡ e'
    → s ≡ s'
    → l ≡ l'
    → b ≡ b'
    → a ≡ a'
    → ◌≡◌ {A = GivenValues} record { ep = e; sector = s; lifetime = l; base = b; attributes = a }
    record { ep = e'; sector = s'; lifetime = l'; base = b'; attributes = a' }
same_seen h1 h2 h3 h4 h5 = cc

one_before : (query : List ℕ) (rest : List (List ℕ))
    → values_of (query ∷ rest) ≡ before (option_name query) (option_value query) (values_of rest)
unfolding values_of
one_before query rest =
    same_seen (value_before ep query rest) (value_before sector query rest)
    (number_before lifetime query rest) (value_before base query rest)
    (if_filter pair_of_option query (is_among own_names (option_name query))
    (filter (λ q. not (is_among own_names (option_name q))) rest))

module _ (g h : GivenValues) where
  at_ep : (value : List ℕ) → joined (given_with g ep value) h ≡ joined g (before ep value h)
  unfolding given_with
  at_ep value = same_seen (first_of g.ep value h.ep) refl refl refl refl

  at_sector : (value : List ℕ)
      → joined (given_with g sector value) h ≡ joined g (before sector value h)
  unfolding given_with
  at_sector value = same_seen refl (first_of g.sector value h.sector) refl refl refl

  at_lifetime : (value : List ℕ)
      → lifetime_in value ≡ Some (number_of value)
      → joined (given_with g lifetime value) h ≡ joined g (before lifetime value h)
  unfolding given_with
  at_lifetime value good =
      same_seen refl refl (ap (λ (o : Option ℕ). or_else (or_else g.lifetime o) h.lifetime) good
      ∙ first_of g.lifetime (number_of value) h.lifetime) refl refl

  at_base : (value : List ℕ) → joined (given_with g base value) h ≡ joined g (before base value h)
  unfolding given_with
  at_base value = same_seen refl refl refl (first_of g.base value h.base) refl

  at_other : (name value : List ℕ)
      → bytes_eq name ep ≡ false
      → bytes_eq name sector ≡ false
      → bytes_eq name lifetime ≡ false
      → bytes_eq name base ≡ false
      → joined (given_with g name value) h ≡ joined g (before name value h)
  unfolding given_with
  at_other name value e1 e2 e3 e4 =
      rw (e1, e2, e3, e4) (same_seen refl refl refl refl
      (append_assoc g.attributes (pair_of name value ∷ []) h.attributes))

  kept : (name value : List ℕ)
      → (bytes_eq name lifetime ≡ true → lifetime_in value ≡ Some (number_of value))
      → joined (given_with g name value) h ≡ joined g (before name value h)
  kept name value good = by_ep (bytes_eq name ep) refl
    where
      by_base : (b : Bool)
          → bytes_eq name base ≡ b
          → bytes_eq name ep ≡ false
          → bytes_eq name sector ≡ false
          → bytes_eq name lifetime ≡ false
          → joined (given_with g name value) h ≡ joined g (before name value h)
      by_base true e e1 e2 e3 =
          subst (λ n. joined (given_with g n value) h ≡ joined g (before n value h))
          (sym ((bytes_eq-Decides name base).0 e)) (at_base value)
      by_base false e e1 e2 e3 = at_other name value e1 e2 e3 e

      by_lifetime : (b : Bool)
          → bytes_eq name lifetime ≡ b
          → bytes_eq name ep ≡ false
          → bytes_eq name sector ≡ false
          → joined (given_with g name value) h ≡ joined g (before name value h)
      by_lifetime true e e1 e2 =
          subst (λ n. joined (given_with g n value) h ≡ joined g (before n value h))
          (sym ((bytes_eq-Decides name lifetime).0 e)) (at_lifetime value (good e))
      by_lifetime false e e1 e2 = by_base (bytes_eq name base) refl e1 e2 e

      by_sector : (b : Bool)
          → bytes_eq name sector ≡ b
          → bytes_eq name ep ≡ false
          → joined (given_with g name value) h ≡ joined g (before name value h)
      by_sector true e e1 =
          subst (λ n. joined (given_with g n value) h ≡ joined g (before n value h))
          (sym ((bytes_eq-Decides name sector).0 e)) (at_sector value)
      by_sector false e e1 = by_lifetime (bytes_eq name lifetime) refl e1 e

      by_ep : (b : Bool)
          → bytes_eq name ep ≡ b
          → joined (given_with g name value) h ≡ joined g (before name value h)
      by_ep true e =
          subst (λ n. joined (given_with g n value) h ≡ joined g (before n value h))
          (sym ((bytes_eq-Decides name ep).0 e)) (at_ep value)
      by_ep false e = by_sector (bytes_eq name sector) refl e

-- a parameter that was read and kept
pub gathered_more : (walk : Walk) (left : List (List ℕ)) (now : Walk) (rest : List (List ℕ))
    (named : Named) (g g' : GivenValues)
    → IsPast walk left now rest named
    → is_lookup walk.kind ≡ false
    → g' ≡ given_with g named.name.now named.value.now
    → joined g' (values_of rest) ≡ joined g (values_of left)
gathered_more walk left now rest named g g' h l is =
    let named_so :
    given_with g named.name.now named.value.now
    ≡ given_with g (option_name h.query) (option_value h.query) =
    ap (λ (n : List ℕ). given_with g n named.value.now) h.name
    ∙ ap (λ (v : List ℕ). given_with g (option_name h.query) v) h.value in
    ap (λ (s : GivenValues). joined s (values_of rest)) (is ∙ named_so)
    ∙ (kept g (values_of rest) (option_name h.query) (option_value h.query)
    (good_lifetime walk.kind walk.occurred h.query l h.good)
    ∙ ap (joined g) (sym (ap values_of h.first ∙ one_before h.query rest)))

-- nothing is left
pub gathered_all : (g : GivenValues) (left : List (List ℕ))
    → left ≡ []
    → joined g (values_of left) ≡ g
unfolding values_of value_named
gathered_all g left e =
    ap (λ (l : List (List ℕ)). joined g (values_of l)) e
    ∙ same_seen (or_nothing g.ep) (or_nothing g.sector) (or_nothing g.lifetime) (or_nothing g.base)
    (append-nil g.attributes)
