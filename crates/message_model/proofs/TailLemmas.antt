-- A tail goes on by one option at a time, and what is read of one is its spelling.
use Rattle.std.proofs.Common.{
  ◌≡◌,
  ℕ,
  zero,
  suc,
  ◌+◌,
  ◌*◌,
  ◌/◌,
  ◌%◌,
  ◌<◌,
  ◌≤◌,
  cond,
  ltb,
  eqb,
  List,
  [],
  ◌∷◌,
  ◌++◌,
  length,
  take,
  drop,
  Option,
  Some,
  None,
  refl,
  sym,
  ap,
  subst,
  ◌∙◌,
  append_assoc,
  arith,
  inl,
  inr,
}
use Rattle.std.specs.Prelude.{⊤}
use Rattle.std.proofs.lemmas.Bool.{eqb-true, ne_eqb}
use Rattle.std.proofs.lemmas.List.{length-drop}
use Rattle.std.proofs.lemmas.Option.{same_Some, none-some}
use Rattle.message_model.specs.Numbers.{AreBytes}
use Rattle.message_model.specs.Message.{Opt, AreOptionsAfter, last_number, longest_value}
use Rattle.message_model.specs.Spelling.{
  marker,
  option_spelling,
  options_spelling,
  payload_spelling,
}
use Rattle.message_model.specs.Reading.{
  ◌>>=◌,
  byte_at,
  bytes_at,
  extended_at,
  option_at,
  Tail,
  payload_at,
  with_option,
  short_tail,
  tail_at,
}
use Rattle.message_model.proofs.ByteLemmas.{bind_some, Takes}
use Rattle.message_model.proofs.OptionLemmas.{IsOptionAfter, option_takes, option_in_order}
use Rattle.rd_base.proofs.lemmas.Choices.{either_of, not_refused}

-- ---- an option leaves fewer bytes

byte_shortens : (bytes : List ℕ) (x : ℕ × List ℕ)
    → byte_at bytes ≡ Some x
    → length bytes ≡ suc (length x.1)
byte_shortens [] x e = absurd cc
byte_shortens (b ∷ bytes) x e =
    subst (λ (y : ℕ × List ℕ). suc (length bytes) ≡ suc (length y.1)) (same_Some (b, bytes) x e)
    refl

bytes_shorten : (n : ℕ) (bytes : List ℕ) (x : List ℕ × List ℕ)
    → bytes_at n bytes ≡ Some x
    → length x.1 ≤ length bytes
bytes_shorten n bytes x e =
    let p = not_refused (ltb (length bytes) n) (Some (take n bytes, drop n bytes)) x e in
    subst (λ (y : List ℕ × List ℕ). length y.1 ≤ length bytes)
    (same_Some (take n bytes, drop n bytes) x p.1) (omega (arith, length-drop n bytes))

extended_shortens : (nibble : ℕ) (bytes : List ℕ) (x : ℕ × List ℕ)
    → extended_at nibble bytes ≡ Some x
    → length x.1 ≤ length bytes
unfolding extended_at
extended_shortens nibble bytes x e =
    elim (either_of (ltb nibble 13) (Some (nibble, bytes)) _ (Some x) e) [
      | inl short ↦ subst (λ (y : ℕ × List ℕ). length y.1 ≤ length bytes)
          (same_Some (nibble, bytes) x short.1) (omega arith)
      | inr longer ↦ elim (either_of (eqb nibble 13) _ _ (Some x) longer.1) [
        | inl middle ↦
            let a = bind_some (byte_at bytes) _ x middle.1 in
            let less = byte_shortens bytes a.0 a.1 in
            subst (λ (y : ℕ × List ℕ). length y.1 ≤ length bytes)
            (same_Some (13 + a.0.0, a.0.1) x a.2) (omega arith)
        | inr other ↦ elim (either_of (eqb nibble 14) _ _ (Some x) other.1) [
          | inl long ↦
              let a = bind_some (byte_at bytes) _ x long.1 in
              let b = bind_some (byte_at a.0.1) _ x a.2 in
              let less = byte_shortens bytes a.0 a.1 in
              let more = byte_shortens a.0.1 b.0 b.1 in
              subst (λ (y : ℕ × List ℕ). length y.1 ≤ length bytes)
              (same_Some (269 + (a.0.0 * 256 + b.0.0), b.0.1) x b.2) (omega arith)
          | inr none ↦ absurd (none-some x none.1)
        ]
      ]
    ]

pub option_shortens : (before : ℕ) (bytes : List ℕ) (x : Opt × List ℕ)
    → option_at before bytes ≡ Some x
    → length x.1 < length bytes
unfolding option_at
option_shortens before bytes x e =
    let a = bind_some (byte_at bytes) _ x e in
    let b = bind_some (extended_at (a.0.0 / 16) a.0.1) _ x a.2 in
    let c = bind_some (extended_at (a.0.0 % 16) b.0.1) _ x b.2 in
    let d = bind_some (bytes_at c.0.0 c.0.1) _ x c.2 in
    let p =
    not_refused (ltb 65535 (before + b.0.0)) (Some ((before + b.0.0, d.0.0), d.0.1)) x d.2 in
    let h1 : length bytes ≡ suc (length a.0.1) = byte_shortens bytes a.0 a.1 in
    let h2 : length b.0.1 ≤ length a.0.1 = extended_shortens (a.0.0 / 16) a.0.1 b.0 b.1 in
    let h3 : length c.0.1 ≤ length b.0.1 = extended_shortens (a.0.0 % 16) b.0.1 c.0 c.1 in
    let h4 : length d.0.1 ≤ length c.0.1 = bytes_shorten c.0.0 c.0.1 d.0 d.1 in
    subst (λ (y : Opt × List ℕ). length y.1 < length bytes)
    (same_Some ((before + b.0.0, d.0.0), d.0.1) x p.1) (omega arith)

-- no option begins with the marker
pub marker_is_no_option : (before : ℕ) (bytes : List ℕ) → option_at before (marker ∷ bytes) ≡ None
unfolding option_at extended_at
marker_is_no_option before bytes = refl

-- ---- a tail goes on by one option

bind_same : {A B : Type 0} (o : Option A) (f g : A → Option B)
    → ((x : A) → o ≡ Some x → f x ≡ g x)
    → (o >>= f) ≡ (o >>= g)
bind_same (Some x) f g h = h x refl
bind_same None f g h = refl

short_tail_turns : (n k before : ℕ) (bytes : List ℕ)
    → length bytes ≤ n
    → length bytes ≤ k
    → short_tail n before bytes ≡ short_tail k before bytes
unfolding short_tail
short_tail_turns n k before [] h i = refl
short_tail_turns zero k before (b ∷ bytes) h i = absurd (omega arith)
short_tail_turns (suc n) zero before (b ∷ bytes) h i = absurd (omega arith)
short_tail_turns (suc n) (suc k) before (b ∷ bytes) h i =
    ap (λ (o : Option Tail). cond (eqb b 255) (payload_at bytes) o)
    (bind_same (option_at before (b ∷ bytes)) _ _ (λ x e.
    let less : length x.1 < suc (length bytes) = option_shortens before (b ∷ bytes) x e in
    ap (λ (o : Option Tail). o >>= λ tail. Some (with_option x.0 tail))
    (short_tail_turns n k x.0.0 x.1 (omega arith) (omega arith))))

pub tail_at-nil : (before : ℕ) → tail_at before [] ≡ Some ([], [])
unfolding tail_at short_tail
tail_at-nil before = refl

pub tail_at-payload : (before : ℕ) (bytes : List ℕ)
    → tail_at before (marker ∷ bytes) ≡ payload_at bytes
unfolding tail_at short_tail
tail_at-payload before bytes = refl

pub tail_at-option : (before b : ℕ) (bytes : List ℕ)
    → (b ≡ marker → ⊥)
    → tail_at before (b ∷ bytes)
    ≡ (option_at before (b ∷ bytes) >>=
    λ option. tail_at option.0.0 option.1 >>= λ tail. Some (with_option option.0 tail))
unfolding tail_at short_tail
tail_at-option before b bytes other =
    let one : cond (eqb b 255) (payload_at bytes) (option_at before (b ∷ bytes) >>= λ option.
    short_tail (length bytes) option.0.0 option.1 >>=
    λ tail. Some (with_option option.0 tail))
    ≡ (option_at before (b ∷ bytes) >>= λ option. short_tail (length bytes) option.0.0 option.1 >>=
    λ tail. Some (with_option option.0 tail)) =
    rw (ne_eqb b 255 other) refl in
    one ∙ bind_same (option_at before (b ∷ bytes)) _ _ (λ x e.
    let less : length x.1 < suc (length bytes) = option_shortens before (b ∷ bytes) x e in
    ap (λ (o : Option Tail). o >>= λ tail. Some (with_option x.0 tail))
    (short_tail_turns (length bytes) (length x.1) x.0.0 x.1 (omega arith) (omega arith)))

-- ---- what is read of a tail

-- what was read of a tail
pub record IsTail (before : ℕ) (bytes : List ℕ) (tail : Tail) : Type 0 where
  pub parts : bytes ≡ options_spelling before tail.0 ++ payload_spelling tail.1
  pub options : AreOptionsAfter before tail.0
  pub payload : AreBytes tail.1

payload_taken : (before : ℕ) (bytes : List ℕ) (tail : Tail)
    → AreBytes bytes
    → payload_at bytes ≡ Some tail
    → IsTail before (marker ∷ bytes) tail
unfolding options_spelling payload_spelling
payload_taken before [] tail fits e = absurd cc
payload_taken before (b ∷ bytes) tail fits e =
    subst (λ (t : Tail). IsTail before (marker ∷ b ∷ bytes) t) (same_Some ([], b ∷ bytes) tail e)
    (record { parts = refl; options = tt; payload = fits })

with_option_taken : (before : ℕ) (bytes : List ℕ) (option : Opt) (rest : List ℕ) (tail : Tail)
    → Takes bytes (option_spelling before option) rest
    → IsOptionAfter before option
    → IsTail option.0 rest tail
    → IsTail before bytes (with_option option tail)
unfolding options_spelling
with_option_taken before bytes option rest tail taken fits others = record {
  parts =
      taken.parts
      ∙ ap (λ (t : List ℕ). option_spelling before option ++ t) others.parts
      ∙ sym (append_assoc (option_spelling before option) (options_spelling option.0 tail.0)
      (payload_spelling tail.1));
  options = (fits.ascends, fits.number, fits.size, fits.value, others.options);
  payload = others.payload;
}

pub short_tail_taken : (n before : ℕ) (bytes : List ℕ) (tail : Tail)
    → AreBytes bytes
    → short_tail n before bytes ≡ Some tail
    → IsTail before bytes tail
unfolding short_tail options_spelling payload_spelling
short_tail_taken n before [] tail fits e =
    subst (λ (t : Tail). IsTail before [] t) (same_Some ([], []) tail e)
    (record { parts = refl; options = tt; payload = tt })
short_tail_taken zero before (b ∷ bytes) tail fits e =
    elim (either_of (eqb b 255) (payload_at bytes) None (Some tail) e) [
      | inl ends ↦ subst (λ (k : ℕ). IsTail before (k ∷ bytes) tail) (sym (eqb-true _ _ ends.0))
          (payload_taken before bytes tail fits.1 ends.1)
      | inr none ↦ absurd (none-some tail none.1)
    ]
short_tail_taken (suc n) before (b ∷ bytes) tail fits e =
    elim (either_of (eqb b 255) (payload_at bytes) _ (Some tail) e) [
      | inl ends ↦ subst (λ (k : ℕ). IsTail before (k ∷ bytes) tail) (sym (eqb-true _ _ ends.0))
          (payload_taken before bytes tail fits.1 ends.1)
      | inr more ↦
          let a = bind_some (option_at before (b ∷ bytes)) _ tail more.1 in
          let c = bind_some (short_tail n a.0.0.0 a.0.1) _ tail a.2 in
          let first = option_takes before (b ∷ bytes) a.0 fits a.1 in
          let others = short_tail_taken n a.0.0.0 a.0.1 c.0 first.0.rest_fits c.1 in
          subst (λ (t : Tail). IsTail before (b ∷ bytes) t)
          (same_Some (with_option a.0.0 c.0) tail c.2)
          (with_option_taken before (b ∷ bytes) a.0.0 a.0.1 c.0 first.0 first.1 others)
    ]

pub tail_taken : (before : ℕ) (bytes : List ℕ) (tail : Tail)
    → AreBytes bytes
    → tail_at before bytes ≡ Some tail
    → IsTail before bytes tail
unfolding tail_at
tail_taken before bytes tail fits e = short_tail_taken (length bytes) before bytes tail fits e

-- ---- what is spelled is read again

-- Options in order whose numbers and lengths can be written, whatever the octets of their values
-- are.
abbrev pub AreInOrder : ℕ → List Opt → Type 0
AreInOrder before [] = ⊤
AreInOrder before (option ∷ options) =
    (before ≤ option.0)
    × (option.0 ≤ last_number)
    × (length option.1 ≤ longest_value)
    × AreInOrder option.0 options

-- Options that can stand after an option of a number are in order after it.
pub are_in_order : (before : ℕ) (options : List Opt)
    → AreOptionsAfter before options
    → AreInOrder before options
are_in_order before [] fits = tt
are_in_order before (option ∷ options) fits =
    (fits.0, fits.1, fits.2, are_in_order option.0 options fits.4)

-- A tail that begins with an option goes on after it.
pub tail_step : (before : ℕ) (bytes : List ℕ) (option : Opt) (rest : List ℕ)
    → option_at before bytes ≡ Some (option, rest)
    → tail_at before bytes ≡ (tail_at option.0 rest >>= λ tail. Some (with_option option tail))
unfolding option_at
tail_step before [] option rest first = absurd cc
tail_step before (b ∷ bytes) option rest first =
    let other : b ≡ marker → ⊥ =
    λ same.
    none-some (option, rest)
    (sym (ap (λ (k : ℕ). option_at before (k ∷ bytes)) same ∙ marker_is_no_option before
    bytes) ∙ first) in
    tail_at-option before b bytes other ∙ rw first refl

-- A payload alone is read again.
payload_again : (before : ℕ) (payload : List ℕ)
    → tail_at before (payload_spelling payload) ≡ Some ([], payload)
unfolding tail_at short_tail payload_spelling
payload_again before [] = refl
payload_again before (b ∷ bytes) = refl

-- Options in order and a payload are read again.
pub tail_in_order : (before : ℕ) (options : List Opt) (payload : List ℕ)
    → AreInOrder before options
    → tail_at before (options_spelling before options ++ payload_spelling payload)
    ≡ Some (options, payload)
unfolding options_spelling
tail_in_order before [] payload fits = payload_again before payload
tail_in_order before (option ∷ options) payload fits =
    let regrouped =
    append_assoc (option_spelling before option) (options_spelling option.0 options)
    (payload_spelling payload) in
    ap (tail_at before) regrouped
    ∙ tail_step before (option_spelling before option
    ++ (options_spelling option.0 options ++ payload_spelling payload)) option
    (options_spelling option.0 options ++ payload_spelling payload)
    (option_in_order before option (options_spelling option.0 options ++ payload_spelling payload)
    fits.0 fits.1 fits.2)
    ∙ ap (λ (o : Option Tail). o >>= λ tail. Some (with_option option tail))
    (tail_in_order option.0 options payload fits.3)

-- So are the options and the payload of a message.
pub tail_again : (before : ℕ) (options : List Opt) (payload : List ℕ)
    → AreOptionsAfter before options
    → tail_at before (options_spelling before options ++ payload_spelling payload)
    ≡ Some (options, payload)
tail_again before options payload fits =
    tail_in_order before options payload (are_in_order before options fits)
