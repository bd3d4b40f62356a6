-- What is known of a message that is read of any octets, be they bytes or not: its header, and that
-- its token is short enough.
use Rattle.std.proofs.Common.{
  ◌≡◌,
  ℕ,
  ◌+◌,
  ◌*◌,
  ◌≤◌,
  ◌||◌,
  Bool,
  false,
  ltb,
  List,
  ◌∷◌,
  length,
  take,
  drop,
  Some,
  Ok,
  refl,
  sym,
  ap,
  subst,
  ◌∙◌,
  arith,
}
use Rattle.std.proofs.lemmas.Bool.{ltb-false}
use Rattle.std.proofs.lemmas.List.{length-take}
use Rattle.std.proofs.lemmas.Option.{same_Some}
use Rattle.message_model.specs.Codes.{is_reserved}
use Rattle.message_model.specs.Message.{Message, longest_token}
use Rattle.message_model.specs.Reading.{
  bytes_at,
  Header,
  header_at,
  tail_at,
  is_bad_header,
  message_of,
  body_at,
  reading,
}
use Rattle.message_model.proofs.ByteLemmas.{bind_some}
use Rattle.message_model.proofs.HeaderLemmas.{header_taken}
use Rattle.message_model.proofs.MessageLaws.{body_ok}
use Rattle.rd_base.proofs.lemmas.Choices.{not_refused}

-- What the header of a message that was read says.
pub record HeaderRead (octets : List ℕ) (m : Message) : Type 0 where
  pub first : ℕ
  pub high : ℕ
  pub low : ℕ
  pub rest : List ℕ
  pub octets_are : octets ≡ first ∷ m.code ∷ high ∷ low ∷ rest
  pub mid_is : m.mid ≡ high * 256 + low
  pub token : length m.token ≤ longest_token

-- so many octets were taken
bytes_length : (n : ℕ) (bytes : List ℕ) (x : List ℕ × List ℕ)
    → bytes_at n bytes ≡ Some x
    → length x.0 ≡ n
bytes_length n bytes x e =
    let p = not_refused (ltb (length bytes) n) (Some (take n bytes, drop n bytes)) x e in
    let long : n ≤ length bytes = ltb-false _ _ p.0 in
    subst (λ (y : List ℕ × List ℕ). length y.0 ≡ n) (same_Some (take n bytes, drop n bytes) x p.1)
    (omega (arith, length-take n bytes))

-- what the body of a message that was read says of its header
record BodyRead (header : Header) (m : Message) : Type 0 where
  code : m.code ≡ header.code
  mid : m.mid ≡ header.mid
  token : length m.token ≤ 8

-- the second of three faults is none
good_token : (a b c : Bool) → (a || b || c) ≡ false → b ≡ false
good_token a b c e = grind arith

-- what was read after a header has its code, its Message ID, and a token that is short enough
body_read : (header : Header) (bytes : List ℕ) (m : Message)
    → body_at header bytes ≡ Some m
    → BodyRead header m
unfolding body_at
body_read header bytes m e =
    let p = not_refused (is_bad_header header bytes) _ m e in
    let a = bind_some (bytes_at header.token_length bytes) _ m p.1 in
    let b = bind_some (tail_at 0 a.0.1) _ m a.2 in
    let size : length a.0.0 ≡ header.token_length =
    bytes_length header.token_length bytes a.0 a.1 in
    let short : header.token_length ≤ 8 =
    ltb-false _ _
    (good_token (is_reserved header.code) (ltb longest_token header.token_length) _ p.0) in
    subst (λ (n : Message). BodyRead header n) (same_Some (message_of header a.0.0 b.0) m b.2)
    (record { code = refl; mid = refl; token = omega (arith, size, short) })

-- The header of a message that was read of any octets.
pub header_read : (octets : List ℕ) (m : Message) → reading octets ≡ Ok m → HeaderRead octets m
unfolding reading
header_read octets m e =
    let r = body_ok (header_at octets) m e in
    let header = header_taken octets r.0 r.1 in
    let body = body_read r.0.0 r.0.1 m r.2 in
    let code_is : header.code ≡ m.code =
    ap (λ (h : Header). h.code) header.header_is ∙ sym body.code in
    record {
      first = header.first;
      high = header.high;
      low = header.low;
      rest = r.0.1;
      octets_are =
          header.parts
          ∙ ap (λ (c : ℕ). header.first ∷ c ∷ header.high ∷ header.low ∷ r.0.1) code_is;
      mid_is = body.mid ∙ sym (ap (λ (h : Header). h.mid) header.header_is);
      token = body.token;
    }
