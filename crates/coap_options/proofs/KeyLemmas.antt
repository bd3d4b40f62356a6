-- The key of a request: how it begins, and that a query option's length fits an octet.
use Rattle.std.proofs.Common.{
  ◌≡◌,
  ℕ,
  ◌≤◌,
  Bool,
  true,
  false,
  ◌&&◌,
  leb,
  eqb,
  List,
  [],
  ◌∷◌,
  ◌++◌,
  length,
  refl,
  subst,
  ◌∙◌,
  sym,
  inl,
  inr,
}
use Rattle.std.specs.Prelude.{flat_map}
use Rattle.std.proofs.lemmas.Bool.{cases_Bool, leb-true}
use Rattle.message_model.specs.declared.requests.Path.{Path}
use Rattle.message_model.specs.Message.{Opt}
use Rattle.message_model.specs.OptionTable as table
use Rattle.message_model.specs.OptionTable.{definition_of, is_allowed_by}
use Rattle.message_model.specs.RequestKey.{path_bytes, query_bytes, key_of}
use Rattle.coap_options.specs.ValuesLeft.{values_left}
use Rattle.coap_options.proofs.ValuesLemmas.{is_value, values_left-first, values_left-passed}

-- The code and the path, with the query options after them, are the key.
pub key_begun : (none coded begun : List ℕ) (code : ℕ) (path : Path) (queries same : List (List ℕ))
    → none ≡ []
    → coded ≡ none ++ code ∷ []
    → begun ≡ coded ++ path_bytes path
    → same ≡ queries
    → begun ++ flat_map query_bytes same ≡ key_of code path queries
unfolding key_of
key_begun none coded begun code path queries same e f g h = rw (g, f, e, h) refl

and_last : (a b c : Bool) → (a && ((b && c) && true)) ≡ true → c ≡ true
and_last true true true e = refl
and_last true true false e = absurd cc
and_last true false c e = absurd cc
and_last false b c e = absurd cc

query_fits : (option : Opt) → is_value table.uri_query option ≡ true → length option.1 ≤ 255
unfolding definition_of
query_fits option e =
    leb-true _ _
    (and_last (eqb option.0 15) (leb 0 (length option.1)) (leb (length option.1) 255) e)

same_first : (a b : List ℕ) (xs ys : List (List ℕ)) → a ∷ xs ≡ b ∷ ys → a ≡ b
same_first a b xs ys e = cc

no_first : (b : List ℕ) (ys : List (List ℕ)) → [] ≡ b ∷ ys → ⊥
no_first b ys e = cc

-- A query option has at most 255 octets.
pub query_short : (options : List Opt) (query : List ℕ) (others : List (List ℕ))
    → values_left table.uri_query options ≡ query ∷ others
    → length query ≤ 255
query_short [] query others e = absurd (no_first query others e)
query_short (option ∷ options) query others e =
    elim (cases_Bool (is_value table.uri_query option)) [
      | inl good ↦
          let same =
          same_first option.1 query (values_left table.uri_query options) others
          (sym (values_left-first table.uri_query option options good) ∙ e) in
          subst (λ (t : List ℕ). length t ≤ 255) same (query_fits option good)
      | inr other ↦ query_short options query others
          (sym (values_left-passed table.uri_query option options other) ∙ e)
    ]
