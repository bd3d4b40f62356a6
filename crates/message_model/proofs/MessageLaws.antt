-- Reading and spelling are inverse: each message has one spelling, and no other bytes are read as
-- it.
use Rattle.std.proofs.Common.{
  ◌≡◌,
  ℕ,
  ◌+◌,
  ◌*◌,
  ◌/◌,
  ◌%◌,
  ◌<◌,
  ◌≤◌,
  Bool,
  true,
  false,
  not,
  ◌&&◌,
  ◌||◌,
  ltb,
  eqb,
  List,
  [],
  ◌∷◌,
  ◌++◌,
  length,
  Option,
  Some,
  None,
  Result,
  Ok,
  Err,
  refl,
  sym,
  ap,
  subst,
  ◌∙◌,
  arith,
  inl,
  inr,
}
use Rattle.std.proofs.lemmas.Bool.{
  cases_Bool,
  le-ltb,
  ltb-false,
  eqb-true,
  eq-eqb,
  and_parts,
  not-false,
}
use Rattle.std.proofs.lemmas.List.{nil_from_length}
use Rattle.std.proofs.lemmas.Option.{same_Some}
use Rattle.std.proofs.Math.Bool.{and-false}
use Rattle.message_model.specs.declared.messages.Unread.{Unread}
use Rattle.message_model.specs.Numbers.{AreBytes}
use Rattle.message_model.specs.Codes.{is_reserved, empty}
use Rattle.message_model.specs.Message.{
  Message,
  Opt,
  IsBare,
  IsMessage,
  AreOptionsAfter,
  longest_token,
}
use Rattle.message_model.specs.Spelling.{
  kind_number,
  header_spelling,
  option_spelling,
  options_spelling,
  payload_spelling,
  spelling,
}
use Rattle.message_model.specs.Reading.{
  Header,
  header_of,
  header_at,
  bytes_at,
  tail_at,
  is_filled,
  is_bad_header,
  message_of,
  body_at,
  or_format,
  with_body,
  reading,
}
use Rattle.message_model.proofs.ByteLemmas.{bind_some, bytes_takes, bytes_again}
use Rattle.message_model.proofs.TailLemmas.{AreInOrder, are_in_order, tail_taken, tail_in_order}
use Rattle.message_model.proofs.HeaderLemmas.{
  kind_number-kind_of,
  header_taken,
  header_in,
  header_again,
}
use Rattle.rd_base.proofs.lemmas.Choices.{not_refused}

-- What stands after the header of a message.
abbrev pub body_spelling : Message → List ℕ
body_spelling m = m.token ++ (options_spelling 0 m.options ++ payload_spelling m.payload)

-- ---- what is read is spelled so

-- what was read after a header
record IsBody (header : Header) (bytes : List ℕ) (m : Message) : Type 0 where
  header_is : header_in m ≡ header
  parts : bytes ≡ body_spelling m
  token : AreBytes m.token
  options : AreOptionsAfter 0 m.options
  payload : AreBytes m.payload
  good : is_bad_header header bytes ≡ false

body_taken : (header : Header) (bytes : List ℕ) (m : Message)
    → AreBytes bytes
    → body_at header bytes ≡ Some m
    → IsBody header bytes m
unfolding body_at
body_taken header bytes m fits e =
    let p = not_refused (is_bad_header header bytes) _ m e in
    let a = bind_some (bytes_at header.token_length bytes) _ m p.1 in
    let b = bind_some (tail_at 0 a.0.1) _ m a.2 in
    let token = bytes_takes header.token_length bytes a.0 fits a.1 in
    let tail = tail_taken 0 a.0.1 b.0 token.0.rest_fits b.1 in
    subst (λ (n : Message). IsBody header bytes n) (same_Some (message_of header a.0.0 b.0) m b.2)
    (record {
      header_is =
          ap (λ (k : ℕ).
          record {
            kind = header.kind;
            token_length = k;
            code = header.code;
            mid = header.mid;
          }) token.1;
      parts = token.0.parts ∙ ap (λ (t : List ℕ). a.0.0 ++ t) tail.parts;
      token = token.0.text_fits;
      options = tail.options;
      payload = tail.payload;
      good = p.0;
    })

header_spelled : (m : Message) (first code high low : ℕ)
    → header_in m ≡ header_of first code high low
    → first / 64 ≡ 1
    → low < 256
    → header_spelling m ≡ first ∷ code ∷ high ∷ low ∷ []
unfolding header_spelling
header_spelled m first code high low e version small =
    let kind : kind_number m.kind ≡ first / 16 % 4 =
    ap (λ (h : Header). kind_number h.kind) e
    ∙ kind_number-kind_of (first / 16 % 4) (omega arith) in
    let size : length m.token ≡ first % 16 = ap (λ (h : Header). h.token_length) e in
    let code_is : m.code ≡ code = ap (λ (h : Header). h.code) e in
    let mid : m.mid ≡ high * 256 + low = ap (λ (h : Header). h.mid) e in
    let first_is : 64 + kind_number m.kind * 16 + length m.token ≡ first = omega arith in
    let high_is : m.mid / 256 ≡ high = omega arith in
    let low_is : m.mid % 256 ≡ low = omega arith in
    rw (first_is, code_is, high_is, low_is) refl

good_parts : (a b c : Bool) → (a || b || c) ≡ false → (a ≡ false) × (b ≡ false) × (c ≡ false)
good_parts true b c e = absurd cc
good_parts false true c e = absurd cc
good_parts false false c e = (refl, refl, e)

nothing_after : (code size n : ℕ)
    → (eqb code 0 && not (eqb size 0 && eqb n 0)) ≡ false
    → code ≡ 0
    → n ≡ 0
nothing_after code size n e none =
    let same : eqb code 0 ≡ true = eq-eqb code 0 none in
    let unfilled : not (eqb size 0 && eqb n 0) ≡ false = rw same at e in
    eqb-true n 0 (and_parts (eqb size 0) (eqb n 0) (not-false _ unfilled)).1

nil_parts : (xs ys : List ℕ) → xs ++ ys ≡ [] → (xs ≡ []) × (ys ≡ [])
nil_parts [] ys e = (refl, e)
nil_parts (x ∷ xs) ys e = absurd cc

no_options : (before : ℕ) (options : List Opt) → options_spelling before options ≡ [] → options ≡ []
unfolding options_spelling option_spelling
no_options before [] e = refl
no_options before (option ∷ options) e = absurd cc

no_payload : (payload : List ℕ) → payload_spelling payload ≡ [] → payload ≡ []
unfolding payload_spelling
no_payload [] e = refl
no_payload (b ∷ bytes) e = absurd cc

bare_of : (m : Message) → body_spelling m ≡ [] → IsBare m
bare_of m e =
    let a = nil_parts m.token (options_spelling 0 m.options ++ payload_spelling m.payload) e in
    let b = nil_parts (options_spelling 0 m.options) (payload_spelling m.payload) a.1 in
    record { token = a.0; options = no_options 0 m.options b.0; payload = no_payload m.payload b.1 }

-- What was read as a message of these parts.
record IsRead (bytes : List ℕ) (m : Message) : Type 0 where
  message : IsMessage m
  spelled : spelling m ≡ bytes

made_of : (m : Message) (first code high low : ℕ) (bytes : List ℕ)
    → AreBytes (first ∷ code ∷ high ∷ low ∷ bytes)
    → first / 64 ≡ 1
    → IsBody (header_of first code high low) bytes m
    → IsRead (first ∷ code ∷ high ∷ low ∷ bytes) m
unfolding spelling
made_of m first code high low bytes fits version body =
    let small_code : code < 256 = fits.1.0 in
    let small_high : high < 256 = fits.1.1.0 in
    let small_low : low < 256 = fits.1.1.1.0 in
    let good =
    good_parts (is_reserved code) (ltb longest_token (first % 16))
    (eqb code 0 && is_filled (header_of first code high low) bytes) body.good in
    let code_is : m.code ≡ code = ap (λ (h : Header). h.code) body.header_is in
    let mid_is : m.mid ≡ high * 256 + low = ap (λ (h : Header). h.mid) body.header_is in
    let size_is : length m.token ≡ first % 16 =
    ap (λ (h : Header). h.token_length) body.header_is in
    let short : first % 16 ≤ 8 = ltb-false _ _ good.1 in
    record {
      message = record {
        code = omega arith;
        class = ap is_reserved code_is ∙ good.0;
        mid = omega arith;
        token_length = omega arith;
        token = body.token;
        options = body.options;
        payload = body.payload;
        empty =
            λ none.
            bare_of m (sym body.parts
            ∙ nil_from_length bytes (nothing_after code (first % 16) (length bytes) good.2
            (sym code_is ∙ none)));
      };
      spelled =
          ap (λ (t : List ℕ). t ++ body_spelling m)
          (header_spelled m first code high low body.header_is version small_low)
          ∙ ap (λ (t : List ℕ). first ∷ code ∷ high ∷ low ∷ t) (sym body.parts);
    }

-- A message that was read after a header was no format error.
format_ok : (header : Header) (o : Option Message) (m : Message)
    → or_format header o ≡ Ok m
    → o ≡ Some m
format_ok header None m e = absurd cc
format_ok header (Some n) m e = cc

-- A message that was read was read after a header.
pub body_ok : (r : Result (Header × List ℕ) Unread) (m : Message)
    → with_body r ≡ Ok m
    → (x : Header × List ℕ) × (r ≡ Ok x) × (body_at x.0 x.1 ≡ Some m)
body_ok (Ok x) m e = (x, refl, format_ok x.0 (body_at x.0 x.1) m e)
body_ok (Err fault) m e = absurd cc

read_of : (bytes : List ℕ) (m : Message) → AreBytes bytes → reading bytes ≡ Ok m → IsRead bytes m
unfolding reading
read_of bytes m fits e =
    let r = body_ok (header_at bytes) m e in
    let header = header_taken bytes r.0 r.1 in
    let all : AreBytes (header.first ∷ header.code ∷ header.high ∷ header.low ∷ r.0.1) =
    subst AreBytes header.parts fits in
    let body : IsBody r.0.0 r.0.1 m = body_taken r.0.0 r.0.1 m all.1.1.1.1 r.2 in
    let body' : IsBody (header_of header.first header.code header.high header.low) r.0.1 m =
    subst (λ (h : Header). IsBody h r.0.1 m) (sym header.header_is) body in
    subst (λ (t : List ℕ). IsRead t m) (sym header.parts)
    (made_of m header.first header.code header.high header.low r.0.1 all header.version_is
    body')

-- What is read of bytes is a message, and they are its spelling.
pub reading_takes : (bytes : List ℕ) (m : Message)
    → AreBytes bytes
    → reading bytes ≡ Ok m
    → IsMessage m × (spelling m ≡ bytes)
reading_takes bytes m fits e =
    let r = read_of bytes m fits e in
    (r.message, r.spelled)

-- ---- what is spelled is read again

-- A message that is read again, whatever its octets are: only the order and the lengths of its
-- options, the length of its token and the class of its code matter, and that an empty message is
-- its header alone.
pub record IsReadable (m : Message) : Type 0 where
  pub class : is_reserved m.code ≡ false
  pub token : length m.token ≤ longest_token
  pub options : AreInOrder 0 m.options
  pub empty : m.code ≡ empty → IsBare m

-- One message is read of octets.
pub ok_is : (m n : Message) → ◌≡◌ {A = Result Message Unread} (Ok m) (Ok n) → m ≡ n
ok_is m n e = cc

unfilled : (m : Message) → IsBare m → is_filled (header_in m) (body_spelling m) ≡ false
unfolding options_spelling payload_spelling
unfilled m bare = rw (bare.token, bare.options, bare.payload) refl

is_good : (m : Message) → IsReadable m → is_bad_header (header_in m) (body_spelling m) ≡ false
is_good m fits =
    let small : ltb 8 (length m.token) ≡ false = le-ltb 8 (length m.token) fits.token in
    let third : (eqb m.code 0 && is_filled (header_in m) (body_spelling m)) ≡ false =
    elim (cases_Bool (eqb m.code 0)) [
      | inl none ↦ rw (unfilled m (fits.empty (eqb-true _ _ none))) (and-false (eqb m.code 0))
      | inr some ↦ rw some refl
    ] in
    rw (fits.class, small, third) refl

body_again : (m : Message) → IsReadable m → body_at (header_in m) (body_spelling m) ≡ Some m
unfolding body_at
body_again m fits =
    rw (
      is_good m fits,
      bytes_again (length m.token) m.token
          (options_spelling 0 m.options ++ payload_spelling m.payload) refl,
      tail_in_order 0
          m.options m.payload fits.options,
    ) refl

-- What spells a message that can be read again is read as it.
pub reading_in_order : (m : Message) → IsReadable m → reading (spelling m) ≡ Ok m
unfolding reading spelling
reading_in_order m fits = rw (header_again m (body_spelling m) fits.token, body_again m fits) refl

-- What spells a message is read as it.
pub reading_again : (m : Message) → IsMessage m → reading (spelling m) ≡ Ok m
reading_again m fits =
    reading_in_order m
    (record {
      class = fits.class;
      token = fits.token_length;
      options = are_in_order 0 m.options
          fits.options;
      empty = fits.empty;
    })

-- Two messages with one spelling are one message.
-- An end theorem: nothing here cites it.
pub spelling_once : (m n : Message) → IsMessage m → IsMessage n → spelling m ≡ spelling n → m ≡ n
spelling_once m n fits fit e =
    let same : ◌≡◌ {A = Result Message Unread} (Ok m) (Ok n) =
    sym (reading_again m fits) ∙ ap reading e ∙ reading_again n fit in
    ok_is m n same

ok_is_no_err : (m : Message) (fault : Unread)
    → ◌≡◌ {A = Result Message Unread} (Ok m) (Err fault)
    → ⊥
ok_is_no_err m fault e = cc

-- Bytes that are refused spell no message.
pub unread_spells_none : (bytes : List ℕ) (fault : Unread) (m : Message)
    → reading bytes ≡ Err fault
    → IsMessage m
    → spelling m ≡ bytes
    → ⊥
unread_spells_none bytes fault m e fits same =
    ok_is_no_err m fault (sym (reading_again m fits) ∙ ap reading same ∙ e)
