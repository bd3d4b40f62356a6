-- The octets of a message are judged as the message is, and its proper fronts as less than one
-- (RFC 8323 section 3.2).
use Rattle.std.proofs.Common.{
  ◌≡◌,
  ℕ,
  ◌+◌,
  ◌*◌,
  ◌/◌,
  ◌%◌,
  ◌<◌,
  ◌≤◌,
  Bool,
  true,
  false,
  cond,
  nat_lt,
  List,
  [],
  ◌∷◌,
  ◌++◌,
  length,
  drop,
  take,
  refl,
  sym,
  ap,
  ◌∙◌,
  append-nil,
  arith,
}
use Rattle.std.proofs.lemmas.Bool.{ltb-true, ltb-false, lt-ltb, le-ltb}
use Rattle.std.proofs.lemmas.List.{length-append, take_at, drop_at}
use Rattle.stream_model.specs.declared.messages.Judged.TheVariants as judged
use Rattle.stream_model.specs.declared.messages.StreamBad.TheVariants as bad
use Rattle.stream_model.specs.Messages.{
  StreamMessage,
  nibble_of,
  extension_of,
  lengths_spelling,
  stream_spelling,
}
use Rattle.stream_model.specs.Faults.{message_fault, fault_of, known_octets}
use Rattle.stream_model.specs.Judging.{
  judge,
  judge_after,
  judge_lengths,
  judge_body,
  verdict_by,
  extension_size,
}
use Rattle.stream_model.proofs.LengthLemmas.{read_again, high, low}

-- ---- what is known of a message

-- The octets that extend the length of a tail.
abbrev pub extension : StreamMessage → List ℕ
extension m = extension_of (length m.tail)

-- The octets behind the lengths.
abbrev pub body : StreamMessage → List ℕ
body m = m.code ∷ (m.token ++ m.tail)

-- How many octets a message has behind the first one.
pub length-behind : (m : StreamMessage)
    → length (extension m ++ body m) ≡ length (extension m) + length m.token + length m.tail + 1
length-behind m =
    length-append (extension m) (body m)
    ∙ (let parts = length-append m.token m.tail in omega (arith, parts))

pub length-spelling : (m : StreamMessage)
    → length (stream_spelling m) ≡ length (extension m) + length m.token + length m.tail + 2
unfolding lengths_spelling
length-spelling m = let behind = length-behind m in omega (arith, behind)

-- ---- judged

-- Octets behind the first one that begin with what extends its nibble.
pub after_lengths : (is_first : Bool) (m : StreamMessage) (octets : List ℕ)
    → judge_after is_first (nibble_of (length m.tail)) (length m.token) (extension m ++ octets)
    ≡ judge_lengths is_first (length (extension m)) (length m.token) (length m.tail)
    (extension m ++ octets)
after_lengths is_first m octets =
    let read = read_again (length m.tail) in
    let e = extension m in
    let some : length e ≤ length (e ++ octets) = rw (length-append e octets) (omega arith) in
    rw (
      read.size,
      le-ltb (length (e ++ octets)) (length e) some,
      take_at e octets (length e) refl,
      read.said,
    ) refl

-- Octets that begin with the lengths of a message.
pub judged_lengths : (is_first : Bool) (m : StreamMessage) (octets : List ℕ)
    → length m.token < 16
    → judge is_first (lengths_spelling m ++ octets)
    ≡ judge_lengths is_first (length (extension m)) (length m.token) (length m.tail)
    (extension m ++ octets)
unfolding judge lengths_spelling
judged_lengths is_first m octets few =
    rw (
      high (nibble_of (length m.tail)) (length m.token) few,
      low (nibble_of (length m.tail)) (length m.token) few,
    )
    (after_lengths is_first m octets)

-- What the lengths of a message say of any octets behind the first one.
lengths_tests : (is_first : Bool) (m : StreamMessage) (octets : List ℕ)
    → judge_lengths is_first (length (extension m)) (length m.token) (length m.tail) octets
    ≡ cond (nat_lt 8 (length m.token)) (judged.Bad bad.Format)
    (cond (nat_lt 1152 (length (stream_spelling m))) (judged.Bad bad.Size)
    (cond (nat_lt (length octets) (length (extension m) + length m.token + length m.tail + 1))
    judged.More
    (judge_body is_first (length m.token) (drop (length (extension m)) octets))))
lengths_tests is_first m octets = rw (length-spelling m) refl

-- The octets of a message by which it is known whether it is bad are judged by its first fault.
pub known_judged : (is_first : Bool) (m : StreamMessage)
    → length m.token < 16
    → judge is_first (known_octets m) ≡ verdict_by (fault_of is_first m)
known_judged is_first m few =
    by (nat_lt 8 (length m.token)) (nat_lt 1152 (length (stream_spelling m))) refl refl
  where
    bare : judge is_first (lengths_spelling m)
        ≡ judge_lengths is_first (length (extension m)) (length m.token) (length m.tail)
        (extension m ++ [])
    bare =
        ap (judge is_first) (sym (append-nil (lengths_spelling m)))
        ∙ judged_lengths is_first m [] few

    by : (p q : Bool)
        → nat_lt 8 (length m.token) ≡ p
        → nat_lt 1152 (length (stream_spelling m)) ≡ q
        → judge is_first (known_octets m) ≡ verdict_by (fault_of is_first m)
    by true q ep eq =
        rw ep (bare ∙ lengths_tests is_first m (extension m ++ []) ∙ rw ep refl)
    by false true ep eq =
        rw (ep, eq)
        (bare ∙ lengths_tests is_first m (extension m ++ []) ∙ rw (ep, eq) refl)
    by false false ep eq =
        let whole : length (extension m) + length m.token + length m.tail + 1
        ≤ length (extension m ++ body m) = let size = length-behind m in omega (arith, size) in
        rw (ep, eq)
        (judged_lengths is_first m (body m) few
        ∙ lengths_tests is_first m (extension m ++ body m)
        ∙ rw (
          ep,
          eq,
          le-ltb (length (extension m ++ body m)) _ whole,
          drop_at (extension m) (body m) (length (extension m)) refl,
        )
        (ap (λ (t : List ℕ). verdict_by (message_fault is_first m.code t))
        (drop_at m.token m.tail (length m.token) refl)))

-- ---- fronts

pub same_cons : (x y : ℕ) (xs ys : List ℕ) → x ∷ xs ≡ y ∷ ys
    → (x ≡ y) × (xs ≡ ys)
same_cons x y xs ys e = (cc, cc)

front_take : (e front more rest : List ℕ)
    → front ++ more ≡ e ++ rest
    → length e ≤ length front
    → take (length e) front ≡ e
front_take [] front more rest same within = refl
front_take (x ∷ e) [] more rest same within = absurd (omega (arith, within))
front_take (x ∷ e) (y ∷ front) more rest same within =
    let parts = same_cons y x (front ++ more) (e ++ rest) same in
    let tail = front_take e front more rest parts.1 (omega (arith, within)) in
    rw (parts.0, tail) refl

-- Octets behind the first one that are fewer than extend its nibble.
few_more : (is_first : Bool) (nibble token : ℕ) (octets : List ℕ)
    → length octets < extension_size nibble
    → judge_after is_first nibble token octets ≡ judged.More
few_more is_first nibble token octets few =
    rw (lt-ltb (length octets) (extension_size nibble) few) refl

-- A proper front of the lengths.
lengths_front : (is_first : Bool) (m : StreamMessage) (front more : List ℕ)
    → front ++ more ≡ extension m
    → 0 < length more
    → judge_after is_first (nibble_of (length m.tail)) (length m.token) front ≡ judged.More
lengths_front is_first m front more same some =
    let read = read_again (length m.tail) in
    let sizes : length front + length more ≡ length (extension m) =
    sym (length-append front more) ∙ ap (λ (l : List ℕ). length l) same in
    few_more is_first (nibble_of (length m.tail)) (length m.token) front
    (rw read.size (omega (arith, sizes, some)))

-- A proper front of a message whose lengths are good.
spelling_front : (is_first : Bool) (m : StreamMessage) (front more : List ℕ)
    → nat_lt 8 (length m.token) ≡ false
    → nat_lt 1152 (length (stream_spelling m)) ≡ false
    → front ++ more ≡ extension m ++ body m
    → 0 < length more
    → judge_after is_first (nibble_of (length m.tail)) (length m.token) front ≡ judged.More
spelling_front is_first m front more ep eq same some =
    by (nat_lt (length front) (extension_size (nibble_of (length m.tail)))) refl
  where
    by : (b : Bool)
        → nat_lt (length front) (extension_size (nibble_of (length m.tail))) ≡ b
        → judge_after is_first (nibble_of (length m.tail)) (length m.token) front ≡ judged.More
    by true e =
        few_more is_first (nibble_of (length m.tail)) (length m.token) front (ltb-true _ _ e)
    by false e =
        let read = read_again (length m.tail) in
        let within : length (extension m) ≤ length front =
        omega (arith, read.size, ltb-false _ _ e) in
        let taken = front_take (extension m) front more (body m) same within in
        let sizes : length front + length more
        ≡ length (extension m) + length m.token + length m.tail + 1 =
        sym (length-append front more)
        ∙ ap (λ (l : List ℕ). length l) same
        ∙ length-behind m in
        rw (e, read.size, taken, read.said)
        (lengths_tests is_first m front
        ∙ rw (
          ep,
          eq,
          lt-ltb (length front)
              (length (extension m) + length m.token + length m.tail + 1)
              (omega (arith, sizes, some)),
        ) refl)

-- A proper front of the octets of a message by which it is known whether it is bad.
pub front_more : (is_first : Bool) (m : StreamMessage) (front more : List ℕ)
    → length m.token < 16
    → front ++ more ≡ known_octets m
    → 0 < length more
    → judge is_first front ≡ judged.More
unfolding judge lengths_spelling
front_more is_first m [] more few same some = refl
front_more is_first m (b ∷ front) more few same some =
    by (nat_lt 8 (length m.token)) (nat_lt 1152 (length (stream_spelling m))) refl refl
  where
    first : ℕ
    first = nibble_of (length m.tail) * 16 + length m.token

    nibbles : b ≡ first
        → judge_after is_first (nibble_of (length m.tail)) (length m.token) front ≡ judged.More
        → judge_after is_first (b / 16) (b % 16) front ≡ judged.More
    nibbles is after =
        rw (
          is,
          high (nibble_of (length m.tail)) (length m.token) few,
          low (nibble_of (length m.tail)) (length m.token) few,
        ) after

    bare : b ∷ (front ++ more) ≡ first ∷ extension m
        → judge_after is_first (b / 16) (b % 16) front ≡ judged.More
    bare e =
        let parts = same_cons b first (front ++ more) (extension m) e in
        nibbles parts.0 (lengths_front is_first m front more parts.1 some)

    by : (p q : Bool)
        → nat_lt 8 (length m.token) ≡ p
        → nat_lt 1152 (length (stream_spelling m)) ≡ q
        → judge_after is_first (b / 16) (b % 16) front ≡ judged.More
    by true q ep eq = bare (same ∙ rw ep refl)
    by false true ep eq = bare (same ∙ rw (ep, eq) refl)
    by false false ep eq =
        let all : b ∷ (front ++ more) ≡ first ∷ (extension m ++ body m) =
        same ∙ rw (ep, eq) refl in
        let parts = same_cons b first (front ++ more) (extension m ++ body m) all in
        nibbles parts.0 (spelling_front is_first m front more ep eq parts.1 some)
