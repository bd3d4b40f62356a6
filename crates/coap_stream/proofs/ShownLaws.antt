-- What a good message of a stream shows fits a datagram (RFC 8323 sections 3.2 and 5.3.1).
use Rattle.std.proofs.Common.{
  ◌≡◌,
  ℕ,
  ◌+◌,
  ◌≤◌,
  Bool,
  true,
  false,
  cond,
  nat_lt,
  Option,
  Some,
  None,
  List,
  length,
  refl,
  sym,
  ap,
  subst,
  ◌∙◌,
  arith,
}
use Rattle.std.specs.Prelude.{option_map}
use Rattle.std.proofs.lemmas.Bool.{ltb-false}
use Rattle.std.proofs.lemmas.List.{length-append}
use Rattle.rd_base.proofs.lemmas.Options.{some_same}
use Rattle.message_model.specs.Message.{AreOptionsAfter}
use Rattle.message_model.specs.Codes.{is_request_code}
use Rattle.message_model.specs.Spelling.{options_spelling, payload_spelling}
use Rattle.message_model.specs.Reading.{Tail, tail_at}
use Rattle.message_model.proofs.TailLemmas.{tail_taken}
use Rattle.stream_model.specs.declared.messages.StreamBad.{StreamBad}
use Rattle.stream_model.specs.declared.messages.StreamBad.TheVariants as bad
use Rattle.stream_model.specs.Messages.{StreamMessage, stream_spelling}
use Rattle.stream_model.specs.Faults.{
  first_of,
  lengths_fault,
  message_fault,
  tail_fault,
  is_other_code,
}
use Rattle.stream_model.specs.Streams.{IsGood}
use Rattle.stream_model.proofs.MessageLaws.{length-spelling}
use Rattle.stream_reader.specs.Shown.{Shown, shown_in, shown_by}
use Rattle.stream_reader.proofs.ShownLaws.{spelled_shown}
use Rattle.coap_stream.specs.Requests.{IsRequest}

first_none : (a b : Option StreamBad) → first_of a b ≡ None → (a ≡ None) × (b ≡ None)
first_none None b e = (refl, e)
first_none (Some why) b e = absurd cc

lengths_none : (m : StreamMessage)
    → lengths_fault m ≡ None
    → (length m.token ≤ 8) × (length (stream_spelling m) ≤ 1152)
lengths_none m e =
    by (nat_lt 8 (length m.token)) (nat_lt 1152 (length (stream_spelling m))) refl refl e
  where
    by : (p q : Bool)
        → nat_lt 8 (length m.token) ≡ p
        → nat_lt 1152 (length (stream_spelling m)) ≡ q
        → cond p (Some bad.Format) (cond q (Some bad.Size) None) ≡ None
        → (length m.token ≤ 8) × (length (stream_spelling m) ≤ 1152)
    by true q ep eq e = absurd cc
    by false true ep eq e = absurd cc
    by false false ep eq e =
        let token = ltb-false _ _ ep in
        let whole = ltb-false _ _ eq in (omega (arith, token), omega (arith, whole))

tail_none : (c : ℕ) (o : Option Tail) → tail_fault c o ≡ None → (t : Tail) × (o ≡ Some t)
tail_none c None e = absurd cc
tail_none c (Some t) e = (t, refl)

message_none : (is_first : Bool) (c : ℕ) (tail : List ℕ)
    → message_fault is_first c tail ≡ None
    → (t : Tail) × (tail_at 0 tail ≡ Some t)
unfolding message_fault
message_none is_first c tail e = by _ (is_other_code c) e
  where
    by : (p q : Bool)
        → cond p (Some bad.First) (cond q (Some bad.Code) (tail_fault c (tail_at 0 tail)))
        ≡ None
        → (t : Tail) × (tail_at 0 tail ≡ Some t)
    by true q e = absurd cc
    by false true e = absurd cc
    by false false e = tail_none c (tail_at 0 tail) e

-- What fits a datagram: the parts of a request, whatever its code.
pub record FitsDatagram (s : Shown) : Type 0 where
  pub token : length s.token ≤ 8
  pub options : AreOptionsAfter 0 s.options
  pub fits : length (options_spelling 0 s.options) + length (payload_spelling s.payload) ≤ 1152

pub good_fits : (is_first : Bool) (octets : List ℕ) (s : Shown)
    → IsGood is_first octets
    → shown_in octets ≡ Some s
    → FitsDatagram s
good_fits is_first octets s good shown =
    let m = good.message in
    let none = first_none (lengths_fault m) (message_fault is_first m.code m.tail) good.good in
    let lengths = lengths_none m none.0 in
    let tail = message_none is_first m.code m.tail none.1 in
    let taken = tail_taken 0 m.tail tail.0 good.fits.tail tail.1 in
    let said : shown_in octets ≡ Some (shown_by m.code m.token tail.0) =
    ap shown_in (sym good.spelled)
    ∙ spelled_shown m good.fits.token_length
    ∙ ap (λ (o : Option Tail). option_map (shown_by m.code m.token) o) tail.1 in
    let same : shown_by m.code m.token tail.0 ≡ s = some_same (sym said ∙ shown) in
    let size =
    ap (λ (l : List ℕ). length l) taken.parts
    ∙ length-append (options_spelling 0 tail.0.0) (payload_spelling tail.0.1) in
    let whole = length-spelling m in
    subst (λ (x : Shown). FitsDatagram x) same (record {
      token = lengths.0;
      options = taken.options;
      fits = omega (arith, lengths.1, size, whole);
    })

pub good_request : (s : Shown) → FitsDatagram s → is_request_code s.code ≡ true
    → IsRequest s
good_request s f is =
    record { code = is; token = f.token; options = f.options; fits = f.fits }

-- A good message shows something.
pub good_shown : (is_first : Bool) (octets : List ℕ) → IsGood is_first octets
    → (s : Shown) × (shown_in octets ≡ Some s)
good_shown is_first octets good =
    let m = good.message in
    let none = first_none (lengths_fault m) (message_fault is_first m.code m.tail) good.good in
    let tail = message_none is_first m.code m.tail none.1 in (
      shown_by m.code m.token tail.0,
      ap shown_in (sym good.spelled)
          ∙ spelled_shown m good.fits.token_length
          ∙ ap (λ (o : Option Tail). option_map (shown_by m.code m.token) o) tail.1,
    )
