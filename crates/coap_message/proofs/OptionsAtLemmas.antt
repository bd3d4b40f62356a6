-- The options that bytes begin with come one by one, and where the bytes are a tail they are the
-- tail's.
use Rattle.std.proofs.Common.{
  ◌≡◌,
  ℕ,
  zero,
  suc,
  ◌<◌,
  ◌≤◌,
  List,
  [],
  ◌∷◌,
  length,
  Option,
  Some,
  None,
  refl,
  ap,
  ◌∙◌,
  arith,
}
use Rattle.std.specs.Option.{option_map_or}
use Rattle.message_model.specs.Message.{Opt}
use Rattle.message_model.specs.Reading.{option_at}
use Rattle.message_model.proofs.TailLemmas.{option_shortens}
use Rattle.coap_message.specs.OptionsAt.{few_options, options_at}

-- ---- one option more

few_none : (n before : ℕ) (bytes : List ℕ)
    → option_at before bytes ≡ None
    → few_options n before bytes ≡ []
unfolding few_options
few_none zero before bytes e = refl
few_none (suc n) before bytes e = rw e refl

few_some : (n before : ℕ) (bytes : List ℕ) (x : Opt × List ℕ)
    → option_at before bytes ≡ Some x
    → few_options (suc n) before bytes ≡ x.0 ∷ few_options n x.0.0 x.1
unfolding few_options
few_some n before bytes x e = rw e refl

map_or_same : {A B : Type 0} (f g : A → B) (o : Option A) (d : B)
    → ((x : A) → o ≡ Some x → f x ≡ g x)
    → option_map_or f o d ≡ option_map_or g o d
map_or_same f g None d h = refl
map_or_same f g (Some x) d h = h x refl

few_turns : (n k before : ℕ) (bytes : List ℕ)
    → length bytes ≤ n
    → length bytes ≤ k
    → few_options n before bytes ≡ few_options k before bytes
unfolding few_options option_at
few_turns zero zero before bytes h i = refl
few_turns zero (suc k) before [] h i = refl
few_turns zero (suc k) before (b ∷ bytes) h i = absurd (omega arith)
few_turns (suc n) zero before [] h i = refl
few_turns (suc n) zero before (b ∷ bytes) h i = absurd (omega arith)
few_turns (suc n) (suc k) before bytes h i =
    map_or_same _ _ (option_at before bytes) [] (λ x e.
    let less : length x.1 < length bytes = option_shortens before bytes x e in
    ap (λ (options : List Opt). x.0 ∷ options)
    (few_turns n k x.0.0 x.1 (omega arith) (omega arith)))

pub options_at-none : (before : ℕ) (bytes : List ℕ)
    → option_at before bytes ≡ None
    → options_at before bytes ≡ []
unfolding options_at
options_at-none before bytes e = few_none (length bytes) before bytes e

few_more : (n before : ℕ) (bytes : List ℕ) (x : Opt × List ℕ)
    → length bytes ≡ n
    → option_at before bytes ≡ Some x
    → few_options n before bytes ≡ x.0 ∷ few_options (length x.1) x.0.0 x.1
few_more zero before bytes x size e =
    let less : length x.1 < length bytes = option_shortens before bytes x e in
    absurd (omega arith)
few_more (suc n) before bytes x size e =
    let less : length x.1 < length bytes = option_shortens before bytes x e in
    few_some n before bytes x e
    ∙ ap (λ (options : List Opt). x.0 ∷ options)
    (few_turns n (length x.1) x.0.0 x.1 (omega arith) (omega arith))

pub options_at-some : (before : ℕ) (bytes : List ℕ) (x : Opt × List ℕ)
    → option_at before bytes ≡ Some x
    → options_at before bytes ≡ x.0 ∷ options_at x.0.0 x.1
unfolding options_at
options_at-some before bytes x e = few_more (length bytes) before bytes x refl e

-- ---- how many they are

size_more : (o : Option (Opt × List ℕ)) (rest : Opt × List ℕ → List Opt) (n : ℕ)
    → ((x : Opt × List ℕ) → length (rest x) ≤ n)
    → length (option_map_or (λ x. x.0 ∷ rest x) o []) ≤ suc n
size_more None rest n h = omega arith
size_more (Some x) rest n h = let few = h x in omega (arith, few)

few_size : (n before : ℕ) (bytes : List ℕ) → length (few_options n before bytes) ≤ n
unfolding few_options
few_size zero before bytes = omega arith
few_size (suc n) before bytes =
    size_more (option_at before bytes) (λ x. few_options n x.0.0 x.1) n (λ x. few_size n x.0.0 x.1)

-- They are no more than the bytes.
pub options_at_size : (before : ℕ) (bytes : List ℕ)
    → length (options_at before bytes) ≤ length bytes
unfolding options_at
options_at_size before bytes = few_size (length bytes) before bytes
