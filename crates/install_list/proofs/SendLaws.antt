-- A request can be sent if and only if it passes the test.
use Rattle.std.proofs.Common.{
  ◌≡◌,
  ◌⊎◌,
  ◌≤◌,
  ◌&&◌,
  ◌||◌,
  ◌==◌,
  inl,
  inr,
  ℕ,
  Bool,
  true,
  false,
  nat_le,
  List,
  [],
  ◌∷◌,
  length,
  refl,
  arith,
}
use Rattle.std.proofs.lemmas.Bool.{le-leb, eqb-true}
use Rattle.message_model.specs.declared.messages.TheConstants.{MAX_MESSAGE_SIZE}
use Rattle.message_model.specs.Codes as codes_of
use Rattle.message_model.specs.Message.{Opt, last_number, longest_value}
use Rattle.client_model.specs.declared.asks.Ask.{Ask}
use Rattle.client_model.specs.Requests.{CanFollow, CanBeSent, ask_size}
use Rattle.install_list.specs.Sendable.{can_follow, can_be_sent}

and_parts : (a b : Bool) → (a && b) ≡ true → (a ≡ true) × (b ≡ true)
and_parts true b e = (refl, e)
and_parts false b e = absurd cc

and_both : (a b : Bool) → a ≡ true → b ≡ true → (a && b) ≡ true
and_both a b e f = rw (e, f) refl

or_parts : (a b : Bool) → (a || b) ≡ true → (a ≡ true) ⊎ (b ≡ true)
or_parts true b e = inl refl
or_parts false b e = inr e

or_right : (a : Bool) → (a || true) ≡ true
or_right true = refl
or_right false = refl

le_of : (n m : ℕ) → nat_le n m ≡ true → n ≤ m
le_of n m e = grind arith

follow_test : (before : ℕ) (options : List Opt)
    → CanFollow before options
    → can_follow before options ≡ true
follow_test before [] follow = refl
follow_test before (option ∷ options) follow =
    and_both (nat_le before option.0) _ (le-leb before option.0 follow.0)
    (and_both (nat_le option.0 last_number) _ (le-leb option.0 last_number follow.1)
    (and_both (nat_le (length option.1) longest_value) _
    (le-leb (length option.1) longest_value follow.2)
    (follow_test option.0 options follow.3)))

follow_of : (before : ℕ) (options : List Opt)
    → can_follow before options ≡ true
    → CanFollow before options
follow_of before [] e = tt
follow_of before (option ∷ options) e =
    let first = and_parts (nat_le before option.0) _ e in
    let second = and_parts (nat_le option.0 last_number) _ first.1 in
    let third = and_parts (nat_le (length option.1) longest_value) _ second.1 in (
      le_of before option.0 first.0,
      le_of option.0 last_number second.0,
      le_of (length option.1) longest_value third.0,
      follow_of option.0 options third.1,
    )

code_test : (code : ℕ)
    → (code ≡ codes_of.post) ⊎ (code ≡ codes_of.delete)
    → (code == codes_of.post || code == codes_of.delete) ≡ true
code_test code (inl e) = rw e refl
code_test code (inr e) = rw e refl

code_by : (code : ℕ)
    → ((code == codes_of.post) ≡ true) ⊎ ((code == codes_of.delete) ≡ true)
    → (code ≡ codes_of.post) ⊎ (code ≡ codes_of.delete)
code_by code (inl e) = inl (eqb-true code codes_of.post e)
code_by code (inr e) = inr (eqb-true code codes_of.delete e)

pub sent_test : (ask : Ask) → CanBeSent ask → can_be_sent ask ≡ true
sent_test ask sent =
    and_both (ask.code == codes_of.post || ask.code == codes_of.delete) _
    (code_test ask.code sent.code)
    (and_both (can_follow 0 ask.options) _ (follow_test 0 ask.options sent.options)
    (le-leb (ask_size ask) MAX_MESSAGE_SIZE sent.size))

pub sent_of : (ask : Ask) → can_be_sent ask ≡ true → CanBeSent ask
sent_of ask e =
    let first = and_parts (ask.code == codes_of.post || ask.code == codes_of.delete) _ e in
    let second = and_parts (can_follow 0 ask.options) _ first.1 in
    record {
      code =
          code_by ask.code
          (or_parts (ask.code == codes_of.post) (ask.code == codes_of.delete) first.0);
      options = follow_of 0 ask.options second.0;
      size = le_of (ask_size ask) MAX_MESSAGE_SIZE second.1;
    }
