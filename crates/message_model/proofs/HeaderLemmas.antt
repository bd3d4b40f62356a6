-- A header that is read is spelled so, and a header that is spelled is read again.
use Rattle.std.proofs.Common.{
  ◌≡◌,
  ℕ,
  zero,
  suc,
  ◌+◌,
  ◌*◌,
  ◌/◌,
  ◌%◌,
  ◌<◌,
  ◌≤◌,
  eqb,
  List,
  [],
  ◌∷◌,
  ◌++◌,
  length,
  Result,
  Ok,
  Err,
  refl,
  subst,
  arith,
  inl,
  inr,
}
use Rattle.std.proofs.lemmas.Bool.{eqb-true}
use Rattle.message_model.specs.declared.messages.Kind4.{Kind4}
use Rattle.message_model.specs.declared.messages.Kind4.TheVariants.{Con, Non, Ack, Rst}
use Rattle.message_model.specs.declared.messages.Unread.{Unread}
use Rattle.message_model.specs.declared.messages.Unread.TheVariants as unread
use Rattle.message_model.specs.Message.{Message, longest_token}
use Rattle.message_model.specs.Spelling.{version, kind_number, header_spelling}
use Rattle.message_model.specs.Reading.{kind_of, Header, header_of, header_at}
use Rattle.rd_base.proofs.lemmas.Choices.{either_of}

-- ---- types

pub kind_number-kind_of : (n : ℕ) → n < 4 → kind_number (kind_of n) ≡ n
kind_number-kind_of zero h = refl
kind_number-kind_of (suc zero) h = refl
kind_number-kind_of (suc (suc zero)) h = refl
kind_number-kind_of (suc (suc (suc zero))) h = refl
kind_number-kind_of (suc (suc (suc (suc n)))) h = absurd (omega arith)

pub kind_of-kind_number : (kind : Kind4) → kind_of (kind_number kind) ≡ kind
kind_of-kind_number Con = refl
kind_of-kind_number Non = refl
kind_of-kind_number Ack = refl
kind_of-kind_number Rst = refl

-- A type has two bits.
kind_number-lt : (kind : Kind4) → kind_number kind < 4
kind_number-lt Con = omega arith
kind_number-lt Non = omega arith
kind_number-lt Ack = omega arith
kind_number-lt Rst = omega arith

-- ---- when a header is read

-- An end theorem: nothing here cites it.
pub header_at-short : (bytes : List ℕ) → length bytes < 4 → header_at bytes ≡ Err unread.Short
unfolding header_at
header_at-short [] h = refl
header_at-short (a ∷ []) h = refl
header_at-short (a ∷ b ∷ []) h = refl
header_at-short (a ∷ b ∷ c ∷ []) h = refl
header_at-short (a ∷ b ∷ c ∷ d ∷ bytes) h = absurd (omega arith)

-- what was read of a header
pub record IsHeader (bytes : List ℕ) (x : Header × List ℕ) : Type 0 where
  pub first : ℕ
  pub code : ℕ
  pub high : ℕ
  pub low : ℕ
  pub parts : bytes ≡ first ∷ code ∷ high ∷ low ∷ x.1
  pub version_is : first / 64 ≡ version
  pub header_is : header_of first code high low ≡ x.0

ok_same : (x y : Header × List ℕ) → ◌≡◌ {A = Result (Header × List ℕ) Unread} (Ok x) (Ok y) → x ≡ y
ok_same x y e = cc

err_is_no_ok : (fault : Unread) (x : Header × List ℕ)
    → ◌≡◌ {A = Result (Header × List ℕ) Unread} (Err fault) (Ok x)
    → ⊥
err_is_no_ok fault x e = cc

pub header_taken : (bytes : List ℕ) (x : Header × List ℕ)
    → header_at bytes ≡ Ok x
    → IsHeader bytes x
unfolding header_at
header_taken [] x e = absurd (err_is_no_ok unread.Short x e)
header_taken (a ∷ []) x e = absurd (err_is_no_ok unread.Short x e)
header_taken (a ∷ b ∷ []) x e = absurd (err_is_no_ok unread.Short x e)
header_taken (a ∷ b ∷ c ∷ []) x e = absurd (err_is_no_ok unread.Short x e)
header_taken (first ∷ code ∷ high ∷ low ∷ bytes) x e =
    elim (either_of (eqb (first / 64) 1) _ _ (Ok x) e) [
      | inl good ↦ subst (λ (y : Header × List ℕ). IsHeader (first ∷ code ∷ high ∷ low ∷ bytes) y)
          (ok_same (header_of first code high low, bytes) x good.1)
          (record {
            first = first;
            code = code;
            high = high;
            low = low;
            parts = refl;
            version_is =
                eqb-true _ _ good.0;
            header_is = refl;
          })
      | inr other ↦ absurd (err_is_no_ok unread.Version x other.1)
    ]

-- ---- what is spelled is read again

-- the header of a message
abbrev pub header_in : Message → Header
header_in m = record { kind = m.kind; token_length = length m.token; code = m.code; mid = m.mid }

-- The header of a message whose token is short enough is read again.
pub header_again : (m : Message) (rest : List ℕ)
    → length m.token ≤ longest_token
    → header_at (header_spelling m ++ rest) ≡ Ok (header_in m, rest)
unfolding header_at header_spelling
header_again m rest short =
    let small : kind_number m.kind < 4 = kind_number-lt m.kind in
    let first : (1 * 64 + kind_number m.kind * 16 + length m.token) / 64 ≡ 1 = omega arith in
    let kind : (1 * 64 + kind_number m.kind * 16 + length m.token) / 16 % 4 ≡ kind_number m.kind =
    omega arith in
    let size : (1 * 64 + kind_number m.kind * 16 + length m.token) % 16 ≡ length m.token =
    omega arith in
    let mid : m.mid / 256 * 256 + m.mid % 256 ≡ m.mid = omega arith in
    rw (first, kind, size, mid, kind_of-kind_number m.kind) refl
