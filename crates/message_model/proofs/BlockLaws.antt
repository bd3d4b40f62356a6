-- Numbers and block values are read as they are written, and the blocks of a body are its parts.
use Rattle.std.proofs.Common.{
  ◌≡◌,
  ℕ,
  zero,
  suc,
  ◌+◌,
  ◌*◌,
  ◌/◌,
  ◌%◌,
  ◌^◌,
  ◌<◌,
  ◌≤◌,
  Bool,
  true,
  false,
  ◌&&◌,
  ltb,
  leb,
  eqb,
  List,
  [],
  ◌∷◌,
  ◌++◌,
  length,
  take,
  drop,
  Some,
  None,
  refl,
  sym,
  ap,
  subst,
  ◌∙◌,
  append-nil,
  arith,
  inl,
  inr,
}
use Rattle.std.proofs.lemmas.Bool.{
  cases_lt,
  cases_eq,
  ltb-true,
  ltb-false,
  lt-ltb,
  le-ltb,
  eqb-false,
  ne_eqb,
  and_parts,
  le-leb,
  leb-true,
}
use Rattle.std.proofs.lemmas.List.{take-append-drop, length-take, length-drop, drop-drop, drop_all}
use Rattle.std.proofs.Math.Nat.{add-mul, one-mul}
use Rattle.std.proofs.lemmas.Option.{same_Some, none-some}
use Rattle.message_model.specs.declared.blocks.Block.{Block}
use Rattle.message_model.specs.Numbers.{AreBytes, uint_of, uint_bytes}
use Rattle.message_model.specs.Blocks.{
  IsBlock,
  block_size,
  block_from,
  block_read,
  more_bit,
  block_value,
  block_of,
  IsPiece,
}
use Rattle.rd_base.proofs.lemmas.Choices.{either_of, not_refused}

-- ---- numbers

-- what is written of a number
pub record IsWritten (n : ℕ) (bytes : List ℕ) : Type 0 where
  pub value : uint_of bytes ≡ n
  pub few : length bytes ≤ 3
  pub fits : AreBytes bytes

pub uint_written : (n : ℕ) → n < 2 ^ 24 → IsWritten n (uint_bytes n)
unfolding uint_bytes
uint_written n small =
    elim (cases_eq n 0) [
      | inl none ↦ subst (λ (k : ℕ). IsWritten k (uint_bytes k)) (sym none)
          (record { value = refl; few = omega arith; fits = tt })
      | inr some ↦
          let positive : eqb n 0 ≡ false = ne_eqb n 0 some in
          elim (cases_lt n 256) [
            | inl one ↦ rw (positive, lt-ltb n 256 one)
                (record { value = omega arith; few = omega arith; fits = (one, tt) })
            | inr more ↦ elim (cases_lt n 65536) [
              | inl two ↦ rw (positive, le-ltb n 256 more, lt-ltb n 65536 two)
                  (record {
                    value = omega arith;
                    few = omega arith;
                    fits =
                        (omega arith, (omega arith, tt));
                  })
              | inr three ↦ rw (positive, le-ltb n 256 more, le-ltb n 65536 three)
                  (record {
                    value = omega arith;
                    few = omega arith;
                    fits =
                        (omega arith, (omega arith, (omega arith, tt)));
                  })
            ]
          ]
    ]

pub uint_small : (bytes : List ℕ) → AreBytes bytes → length bytes ≤ 3 → uint_of bytes < 2 ^ 24
uint_small [] fits few = omega arith
uint_small (a ∷ []) fits few =
    let small : a < 256 = fits.0 in
    omega arith
uint_small (a ∷ b ∷ []) fits few =
    let small_a : a < 256 = fits.0 in
    let small_b : b < 256 = fits.1.0 in
    omega arith
uint_small (a ∷ b ∷ c ∷ []) fits few =
    let small_a : a < 256 = fits.0 in
    let small_b : b < 256 = fits.1.0 in
    let small_c : c < 256 = fits.1.1.0 in
    omega arith
uint_small (a ∷ b ∷ c ∷ d ∷ bytes) fits few = absurd (omega arith)

-- ---- values of Block options

more_bit-lt : (more : Bool) → more_bit more < 2
more_bit-lt true = omega arith
more_bit-lt false = omega arith

more_bit_is_set : (more : Bool) → eqb (more_bit more) 1 ≡ more
more_bit_is_set true = refl
more_bit_is_set false = refl

more_bit-eqb : (bit : ℕ) → bit < 2 → more_bit (eqb bit 1) ≡ bit
more_bit-eqb zero small = refl
more_bit-eqb (suc zero) small = refl
more_bit-eqb (suc (suc bit)) small = absurd (omega arith)

-- the number of 24 bits that says a block
abbrev pub block_bits : Block → ℕ
block_bits b = b.num * 16 + more_bit b.more * 8 + b.szx

-- A block that is written is read again, from at most three bytes.
pub block_again : (b : Block)
    → IsBlock b
    → (block_read (block_value b) ≡ Some b)
    × (length (block_value b) ≤ 3)
    × AreBytes (block_value b)
unfolding block_read block_value
block_again b fits =
    let num : b.num < 2 ^ 20 = fits.num in
    let szx : b.szx < 7 = fits.szx in
    let bit : more_bit b.more < 2 = more_bit-lt b.more in
    let written = uint_written (block_bits b) (omega arith) in
    let low : block_bits b % 8 ≡ b.szx = omega arith in
    let middle : block_bits b / 8 % 2 ≡ more_bit b.more = omega arith in
    let high : block_bits b / 16 ≡ b.num = omega arith in
    let free : eqb b.szx 7 ≡ false = ne_eqb b.szx 7 (λ same. absurd (omega arith)) in
    let read : block_from (block_bits b) ≡ Some b =
    rw (low, free, middle, high, more_bit_is_set b.more) refl in
    (ap block_from written.value ∙ read, written.few, written.fits)

below_seven : (n : ℕ) → n < 8 → (n ≡ 7 → ⊥) → n < 7
below_seven n small other =
    elim (cases_lt n 7) [ inl below ↦ below | inr above ↦ absurd (other (omega arith)) ]

-- what was read as a block
record IsFound (value : List ℕ) (b : Block) : Type 0 where
  block : IsBlock b
  bits : block_bits b ≡ uint_of value

-- What is read as a block has its number, and is written in the fewest bytes of that number.
pub block_found : (value : List ℕ) (b : Block)
    → AreBytes value
    → length value ≤ 3
    → block_read value ≡ Some b
    → IsBlock b × (block_value b ≡ uint_bytes (uint_of value))
unfolding block_read block_value
block_found value b fits few e =
    let n : ℕ = uint_of value in
    let small : uint_of value < 2 ^ 24 = uint_small value fits few in
    let p = not_refused (eqb (uint_of value % 8) 7) _ b e in
    let free : uint_of value % 8 ≡ 7 → ⊥ = eqb-false (uint_of value % 8) 7 p.0 in
    let bit : more_bit (eqb (uint_of value / 8 % 2) 1) ≡ uint_of value / 8 % 2 =
    more_bit-eqb (uint_of value / 8 % 2) (omega arith) in
    let found : IsFound value
    (record {
      num = uint_of value / 16;
      more = eqb (uint_of value / 8 % 2) 1;
      szx = uint_of
          value % 8;
    }) =
    record {
      block = record {
        num = omega arith;
        szx = below_seven (uint_of value % 8) (omega arith) free;
      };
      bits = omega (arith, bit);
    } in
    let there : IsFound value b =
    subst (λ (c : Block). IsFound value c) (same_Some _ b p.1) found in
    (there.block, ap uint_bytes there.bits)

-- A number is read as it is written, however great it is.
pub uint_again : (n : ℕ) → uint_of (uint_bytes n) ≡ n
unfolding uint_bytes
uint_again n =
    elim (cases_eq n 0) [
      | inl none ↦ subst (λ (k : ℕ). uint_of (uint_bytes k) ≡ k) (sym none) refl
      | inr some ↦
          let positive : eqb n 0 ≡ false = ne_eqb n 0 some in
          elim (cases_lt n 256) [
            | inl one ↦ rw (positive, lt-ltb n 256 one) (omega arith)
            | inr more ↦ elim (cases_lt n 65536) [
              | inl two ↦ rw (positive, le-ltb n 256 more, lt-ltb n 65536 two) (omega arith)
              | inr three ↦ rw (positive, le-ltb n 256 more, le-ltb n 65536 three) (omega arith)
            ]
          ]
    ]

-- So a block is, whatever its number is.
pub block_read_again : (b : Block) → b.szx < 7 → block_read (block_value b) ≡ Some b
unfolding block_read block_value
block_read_again b szx =
    let bit : more_bit b.more < 2 = more_bit-lt b.more in
    let low : block_bits b % 8 ≡ b.szx = omega arith in
    let middle : block_bits b / 8 % 2 ≡ more_bit b.more = omega arith in
    let high : block_bits b / 16 ≡ b.num = omega arith in
    let free : eqb b.szx 7 ≡ false = ne_eqb b.szx 7 (λ same. absurd (omega arith)) in
    let read : block_from (block_bits b) ≡ Some b =
    rw (low, free, middle, high, more_bit_is_set b.more) refl in
    ap block_from (uint_again (block_bits b)) ∙ read

-- The exponent of a block that is read is not the reserved one.
pub block_read-szx : (value : List ℕ) (b : Block) → block_read value ≡ Some b → b.szx < 7
unfolding block_read
block_read-szx value b e =
    let p = not_refused (eqb (uint_of value % 8) 7) _ b e in
    let free : uint_of value % 8 ≡ 7 → ⊥ = eqb-false (uint_of value % 8) 7 p.0 in
    subst (λ (c : Block). c.szx < 7) (same_Some _ b p.1)
    (below_seven (uint_of value % 8) (omega arith) free)

-- A block has at most 1,024 octets.
pub block_size-most : (szx : ℕ) → szx < 7 → block_size szx ≤ 1024
block_size-most zero small = omega arith
block_size-most (suc zero) small = omega arith
block_size-most (suc (suc zero)) small = omega arith
block_size-most (suc (suc (suc zero))) small = omega arith
block_size-most (suc (suc (suc (suc zero)))) small = omega arith
block_size-most (suc (suc (suc (suc (suc zero))))) small = omega arith
block_size-most (suc (suc (suc (suc (suc (suc zero)))))) small = omega arith
block_size-most (suc (suc (suc (suc (suc (suc (suc n))))))) small = absurd (omega (arith, small))

-- ---- blocks of a body

piece_of : (body : List ℕ) (num size : ℕ)
    → IsPiece body num size (take size (drop (num * size) body))
    (ltb ((num + 1) * size) (length body))
piece_of body num size =
    let next : (num + 1) * size ≡ num * size + size =
    add-mul num 1 size ∙ ap (λ (k : ℕ). num * size + k) (one-mul size) in
    let split :
    take size (drop (num * size) body) ++ drop size (drop (num * size) body)
    ≡ drop (num * size) body =
    take-append-drop size (drop (num * size) body) in
    let joined : drop size (drop (num * size) body) ≡ drop ((num + 1) * size) body =
    drop-drop size (num * size) body ∙ ap (λ (k : ℕ). drop k body) (sym next) in
    record {
      offset =
          sym (ap (λ (t : List ℕ). take size (drop (num * size) body) ++ t) (sym joined) ∙ split);
      full = λ more.
          let longer : (num + 1) * size < length body = ltb-true _ _ more in
          omega (
            arith,
            next,
            length-take size (drop (num * size) body),
            length-drop (num * size)
                body,
          );
      last = λ done. drop_all ((num + 1) * size) body (ltb-false _ _ done);
      most = omega (arith, length-take size (drop (num * size) body));
    }

pair_same : (x y : List ℕ × Bool) → Some x ≡ Some y → x ≡ y
pair_same x y e = same_Some x y e

-- A block that there is stands at its offset in the body.
pub block_of_piece : (body : List ℕ) (num szx : ℕ) (x : List ℕ × Bool)
    → block_of body num szx ≡ Some x
    → IsPiece body num (block_size szx) x.0 x.1
unfolding block_of
block_of_piece body num szx x e =
    let p = not_refused (ltb 0 num && leb (length body) (num * block_size szx)) _ x e in
    subst (λ (y : List ℕ × Bool). IsPiece body num (block_size szx) y.0 y.1) (pair_same _ x p.1)
    (piece_of body num (block_size szx))

-- The first block is the whole body where no more follow, and then the body is no longer than a
-- block.
pub block_of_whole : (body : List ℕ) (szx : ℕ) (piece : List ℕ)
    → block_of body 0 szx ≡ Some (piece, false)
    → (piece ≡ body) × (length body ≤ block_size szx)
block_of_whole body szx piece e =
    let p : IsPiece body 0 (block_size szx) piece false =
    block_of_piece body 0 szx (piece, false) e in
    let front : drop (0 * block_size szx) body ≡ body =
    ap (λ (k : ℕ). drop k body) (let none : 0 * block_size szx ≡ 0 = omega arith in none) in
    let same : body ≡ piece =
    sym front
    ∙ (p.offset ∙ (ap (λ (rest : List ℕ). piece ++ rest) (p.last refl) ∙ append-nil piece)) in
    (sym same, subst (λ (b : List ℕ). length b ≤ block_size szx) (sym same) p.most)

-- And a body that is no longer than a block is its first block, which no more follow.
pub block_of_short : (body : List ℕ) (szx : ℕ)
    → length body ≤ block_size szx
    → (piece : List ℕ × Bool)
    → block_of body 0 szx ≡ Some piece
    → piece.1 ≡ false
unfolding block_of
block_of_short body szx short piece e =
    let last : ltb ((0 + 1) * block_size szx) (length body) ≡ false =
    le-ltb ((0 + 1) * block_size szx) (length body)
    (omega (arith, short, one-mul (block_size szx))) in
    subst (λ (x : List ℕ × Bool). x.1 ≡ false) (same_Some _ piece e) last

-- There is none exactly where the number is above 0 and begins at the body's end or past it.
-- An end theorem: nothing here cites it.
pub block_of_none : (body : List ℕ) (num szx : ℕ)
    → 0 < num
    → length body ≤ num * block_size szx
    → block_of body num szx ≡ None
unfolding block_of
block_of_none body num szx above past =
    rw (lt-ltb 0 num above, le-leb (length body) (num * block_size szx) past) refl

-- An end theorem: nothing here cites it.
pub block_of_some : (body : List ℕ) (num szx : ℕ)
    → block_of body num szx ≡ None
    → (0 < num) × (length body ≤ num * block_size szx)
unfolding block_of
block_of_some body num szx e =
    elim (either_of (ltb 0 num && leb (length body) (num * block_size szx)) None _ None e) [
      | inl past ↦
          let h = and_parts (ltb 0 num) (leb (length body) (num * block_size szx)) past.0 in
          (ltb-true _ _ h.0, leb-true _ _ h.1)
      | inr within ↦ absurd (none-some _ (sym within.1))
    ]
