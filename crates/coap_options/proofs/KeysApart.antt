-- Equal keys are those of requests with the same method, path and query options.
use Rattle.std.proofs.Common.{
  ◌≡◌,
  ℕ,
  ◌^◌,
  ◌<◌,
  Bool,
  true,
  false,
  List,
  [],
  ◌∷◌,
  codes,
  refl,
  sym,
  subst,
  ap,
  ◌∙◌,
  arith,
  bytes_eq,
}
use Rattle.std.specs.Prelude.{Result, Ok, Err, IfOk, if◌then◌else◌}
use Rattle.message_model.specs.declared.requests.Path.{Path}
use Rattle.message_model.specs.declared.requests.Path.TheVariants as path
use Rattle.message_model.specs.Message.{Message}
use Rattle.message_model.specs.Request.{
  location_of,
  lookup_of,
  path_in,
  path_of,
  path_of_two,
  queries_in,
  well_known_of,
}
use Rattle.message_model.specs.RequestKey.{key_of, key_in}
use Rattle.message_model.proofs.KeyLaws.{FitsKey, key_of_once}
use Rattle.message_model.proofs.LocationLaws.{location_found}
use Rattle.coap_message.specs.Views.{message_in}
use Rattle.coap_options.specs.declared.meanings.Meaning.{Meaning}
use Rattle.coap_options.specs.Meanings.{IsMeaning}

-- the number of a location that is read fits a key
location_fits : (text : List ℕ) → FitsKey (location_of text)
location_fits text = by_path (location_of text) refl
  where
    by_path : (p : Path) → location_of text ≡ p → FitsKey p
    by_path (path.Location n) e = let small = (location_found text n e).1 in omega arith
    by_path path.Core e = tt
    by_path path.SimpleRd e = tt
    by_path path.Rd e = tt
    by_path path.Res e = tt
    by_path path.Ep e = tt
    by_path path.Other e = tt

either_fits : (b : Bool) (p q : Path) → FitsKey p → FitsKey q → FitsKey (if b then p else q)
either_fits true p q f g = f
either_fits false p q f g = g

-- so does each path that segments name
path_fits : (segments : List (List ℕ)) → FitsKey (path_of segments)
unfolding path_of
path_fits [] = tt
path_fits (first ∷ []) = either_fits (bytes_eq first (codes "rd")) path.Rd path.Other tt tt
path_fits (first ∷ second ∷ []) =
    either_fits (bytes_eq first (codes ".well-known")) (well_known_of second) _
    (either_fits (bytes_eq second (codes "core")) path.Core _ tt
    (either_fits (bytes_eq second (codes "rd")) path.SimpleRd path.Other tt tt))
    (either_fits (bytes_eq first (codes "rd")) (location_of second) _ (location_fits second)
    (either_fits (bytes_eq first (codes "rd-lookup")) (lookup_of second) path.Other
    (either_fits (bytes_eq second (codes "res")) path.Res _ tt
    (either_fits (bytes_eq second (codes "ep")) path.Ep path.Other tt tt)) tt))
path_fits (first ∷ second ∷ third ∷ others) = tt

-- two messages with one key have the same method, path and query options
keys_apart : (m other : Message)
    → key_in m ≡ key_in other
    → (m.code ≡ other.code) × (path_in m ≡ path_in other) × (queries_in m ≡ queries_in other)
keys_apart m other e =
    let same =
    key_of_once m.code (path_in m) (queries_in m) other.code (path_in other) (queries_in other)
    (path_fits _) (path_fits _) e in
    (same.method, same.path, same.queries)

-- the key that is spelled of a meaning is that of its message
spelled : (m : Message) (meaning : Meaning)
    → IsMeaning m meaning
    → key_of meaning.view.code meaning.path (queries_in (message_in meaning.view)) ≡ key_in m
spelled m meaning means =
    ap (λ (p : Path). key_of meaning.view.code p (queries_in (message_in meaning.view))) means.path
    ∙ ap (λ (w : Message). key_of w.code (path_in m) (queries_in w)) means.view

-- so a key that is spelled says what the method, the path and the query options are
pub key_says : (meaning : Meaning) {E : Type 0} (result : Result (List ℕ) E)
    → IfOk result
    (λ key. key ≡ key_of meaning.view.code meaning.path (queries_in (message_in meaning.view)))
    → (m other : Message) → IsMeaning m meaning
    → IfOk result (λ key.
    key ≡ key_in other
    → (m.code ≡ other.code)
    × (path_in m ≡ path_in other)
    × (queries_in m ≡ queries_in other))
key_says meaning (Ok key) e m other means =
    λ same. keys_apart m other (sym (spelled m meaning means) ∙ sym e ∙ same)
key_says meaning (Err starved) e m other means = tt
