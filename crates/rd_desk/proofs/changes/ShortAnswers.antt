-- How long an answer is that is kept for repeats of its write: at most 64 octets.
use Rattle.std.proofs.Common.{
  ◌≡◌,
  ℕ,
  ◌+◌,
  ◌-◌,
  ◌^◌,
  ◌<◌,
  ◌≤◌,
  Bool,
  true,
  false,
  List,
  [],
  ◌∷◌,
  ◌++◌,
  length,
  decimal,
  Option,
  Some,
  None,
  nat_lt,
  if◌then◌else◌,
  refl,
  sym,
  subst,
  arith,
}
use Rattle.std.specs.Option.{ForSome}
use Rattle.std.proofs.lemmas.Bool.{ltb-false}
use Rattle.std.proofs.lemmas.Fmt.{length-decimal-le}
use Rattle.rd_base.specs.declared.peers.Peer.{Peer}
use Rattle.message_model.specs.declared.blocks.Block.{Block}
use Rattle.message_model.specs.Blocks.{block_value}
use Rattle.message_model.specs.Message.{Message, longest_token, end_number}
use Rattle.message_model.specs.Numbers.{uint_bytes}
use Rattle.message_model.specs.Refusals.{link_format}
use Rattle.message_model.specs.Spelling.{first_extended, first_long, spelling}
use Rattle.event_model.specs.declared.notes.Note.{Note}
use Rattle.journal_model.specs.declared.steps.Step.{Step}
use Rattle.journal_model.specs.declared.steps.StepKind.TheVariants as step
use Rattle.journal_model.specs.Effects as effects
use Rattle.journal_model.specs.Effects.{answer, answering}
use Rattle.journal_model.specs.MessageSizes.{extension_size, options_size, payload_size}
use Rattle.journal_model.proofs.MessageSizeLaws.{message_size-spelling, options_size-append}
use Rattle.journal_model.proofs.sends.BodyAnswers.{uint_bytes-length, block_value-length}
use Rattle.coap_answers.specs.declared.mids.Mids.{Mids}
use Rattle.coap_answers.specs.declared.replies.Reply.{Reply}
use Rattle.coap_answers.specs.Replies.{
  location_option,
  format_option,
  block1_options,
  options_of,
  reply_said,
}
use Rattle.coap_answers.specs.Sendings.{IsStepOf, Sends}
use Rattle.rd_desk.specs.declared.write.short_replies.ShortReply.{ShortReply}
use Rattle.rd_desk.specs.parts.Replies.{as_reply}

-- an answer without a tag, an Observe value and a body, with a payload of 13 octets at most
pub record IsShort (r : Reply) : Type 0 where
  pub tag : r.tag ≡ None
  pub observe : r.observe ≡ None
  pub block2 : r.block2 ≡ None
  pub payload : length r.payload.now ≤ 13

-- what a write is answered with is one
pub short_is : (r : ShortReply) → IsShort (as_reply r)
short_is r = record { tag = refl; observe = refl; block2 = refl; payload = r.short }

-- few octets extend a small delta or length
extension_none : (n : ℕ) → n < 13 → extension_size n ≡ 0
unfolding extension_size
extension_none n low = by (nat_lt n first_extended) refl
  where
    by : (b : Bool)
        → nat_lt n first_extended ≡ b
        → ◌≡◌ {A = ℕ} (if b then 0 else if nat_lt n first_long then 1 else 2) 0
    by true e = refl
    by false e = absurd (let high = ltb-false n first_extended e in omega (arith, low, high))

extension_one : (n : ℕ) → n < 269 → extension_size n ≤ 1
unfolding extension_size
extension_one n low = by (nat_lt n first_extended) (nat_lt n first_long) refl
  where
    by : (b c : Bool) → nat_lt n first_long ≡ c → (if b then 0 else if c then 1 else 2) ≤ 1
    by true c e = omega arith
    by false true e = omega arith
    by false false e = absurd (let high = ltb-false n first_long e in omega (arith, low, high))

-- the location of a registration
location_size : (before : ℕ) (location : Option ℕ)
    → ForSome location (λ n. n < 2 ^ 64)
    → options_size before (location_option location) ≤ 25
location_size before None small = omega arith
location_size before (Some n) small =
    let digits : length (decimal n) ≤ 20 =
    length-decimal-le 20 n (omega arith) (let h = small n refl in omega (arith, h))
    (small n refl) in
    let first = extension_none (8 - before) (omega arith) in
    let second = extension_one (length (decimal n)) (omega (arith, digits)) in
    let rd = extension_none 2 (omega arith) in
    let same = extension_none (8 - 8) (omega arith) in
    omega (arith, digits, first, second, rd, same)

-- the format of link documents
format_size : (before : ℕ) (format : Bool) → options_size before (format_option format) ≤ 4
format_size before false = omega arith
format_size before true =
    let octets = uint_bytes-length link_format in
    let first = extension_none (12 - before) (omega arith) in
    let second = extension_none (length (uint_bytes link_format)) (omega (arith, octets)) in
    omega (arith, octets, first, second)

-- the block of a request that is answered
block1_size : (before : ℕ) (block : Option Block) → options_size before (block1_options block) ≤ 6
block1_size before None = omega arith
block1_size before (Some b) =
    let octets = block_value-length b in
    let first = extension_one (27 - before) (omega arith) in
    let second = extension_one (length (block_value b)) (omega (arith, octets)) in
    omega (arith, octets, first, second)

-- the options of such an answer
short_options : (r : Reply)
    → IsShort r
    → ForSome r.location (λ n. n < 2 ^ 64)
    → options_size 0 (options_of r) ≤ 35
short_options r short small =
    rw (short.tag, short.observe, short.block2)
    (let location = location_size 0 r.location small in
    let format = format_size (end_number 0 (location_option r.location)) r.format in
    let block1 =
    block1_size
    (end_number (end_number 0 (location_option r.location)) (format_option r.format))
    r.block1 in
    let whole =
    options_size-append 0 (location_option r.location)
    (format_option r.format ++ block1_options r.block1) in
    let rest =
    options_size-append (end_number 0 (location_option r.location)) (format_option r.format)
    (block1_options r.block1) in
    omega (arith, location, format, block1, whole, rest))

payload_most : (payload : List ℕ) → payload_size payload ≤ 1 + length payload
payload_most [] = omega arith
payload_most (b ∷ bytes) = omega arith

-- the answer
pub short_answer : (s : Step) (m : Message) (r : Reply)
    → length m.token ≤ longest_token
    → IsShort r
    → ForSome r.location (λ n. n < 2 ^ 64)
    → length (spelling (answer s m (reply_said r))) ≤ 64
short_answer s m r token short small =
    let size = message_size-spelling (answer s m (reply_said r)) in
    let options = short_options r short small in
    let payload = payload_most r.payload.now in
    let most = short.payload in
    omega (arith, size, options, payload, most, token)

-- the last datagram after an answer was sent is this answer
pub answer_last : (s : Step) (m : Message) (reply : effects.Reply) (notes : List Note)
    (before now : List (Peer × List ℕ)) (mids mids_now : Mids) (last : List ℕ)
    → Sends (answering s m reply notes) before now mids mids_now
    → ((front : List (Peer × List ℕ)) (peer : Peer) (octets : List ℕ)
    → now ≡ front ++ (peer, octets) ∷ []
    → last ≡ octets)
    → last ≡ spelling (answer s m reply)
unfolding answering
answer_last s m reply notes before now mids mids_now last sends is =
    is before s.peer (spelling (answer s m reply)) sends.sent

-- and short
pub last_short : (mids mids_now : Mids) (sender : Peer) (m : Message) (r : Reply)
    (before now : List (Peer × List ℕ)) (last : List ℕ)
    → ((s : Step) (notes : List Note)
    → IsStepOf s sender mids
    → Sends (answering s m (reply_said r) notes) before now mids mids_now)
    → ((front : List (Peer × List ℕ)) (peer : Peer) (octets : List ℕ)
    → now ≡ front ++ (peer, octets) ∷ []
    → last ≡ octets)
    → length m.token ≤ longest_token
    → IsShort r
    → ForSome r.location (λ n. n < 2 ^ 64)
    → length last ≤ 64
last_short mids mids_now sender m r before now last sends is token short small =
    let s : Step = record {
      kind = step.Tick;
      worker = mids.worker;
      handed = record { 0 = 0 };
      word = 0;
      peer = sender;
      datagram = [];
      drawn = mids.drawn;
    } in
    let sent = sends s [] (record { peer_is = refl; worker = refl; drawn = refl }) in
    let same = answer_last s m (reply_said r) [] before now mids mids_now last sent is in
    subst (λ (octets : List ℕ). length octets ≤ 64) (sym same)
    (short_answer s m r token short small)
