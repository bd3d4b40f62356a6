-- What is written to a connection, one after the other.
use Rattle.std.proofs.Common.{
  ◌≡◌,
  ℕ,
  zero,
  suc,
  ◌+◌,
  ◌-◌,
  ◌*◌,
  ◌≤◌,
  Bool,
  true,
  false,
  List,
  [],
  ◌∷◌,
  ◌++◌,
  length,
  take,
  drop,
  Option,
  Some,
  Ok,
  refl,
  sym,
  ap,
  subst,
  ◌∙◌,
  append_assoc,
  append-nil,
  arith,
}
use Rattle.std.specs.Io.KnownBytes.{Appends}
use Rattle.std.proofs.KnownBytes.{Appends-trans, Appends-nil}
use Rattle.std.proofs.lemmas.Bool.{le-ltb}
use Rattle.std.proofs.lemmas.List.{length-append, length-take-le, take-append-le}
use Rattle.std.proofs.Math.Seq.{take-append-add}
use Rattle.std.specs.List.{slice_get}
use Rattle.rd_base.proofs.lemmas.Options.{some_same, none_some}
use Rattle.rd_base.specs.Outside.{Rose}
use Rattle.coap_stream.specs.declared.lines.Line.{Line}
use Rattle.udp_link.specs.Links.{Datagram}
use Rattle.message_model.specs.Message.{Message}
use Rattle.message_model.specs.Spelling.{
  header_spelling,
  options_spelling,
  payload_spelling,
  spelling,
}
use Rattle.message_model.specs.Reading.{reading}
use Rattle.coap_message.specs.PartialMessages.{longest_datagram}
use Rattle.stream_model.specs.Messages.{nibble_of, extension_of, lengths_spelling}
use Rattle.coap_stream.specs.Spoken.{IsPut}
use Rattle.coap_stream.specs.Made.{VoiceSeen, Speaks, SpeaksBy}
use Rattle.coap_stream.specs.Manners.{saying, too_long_in}
use Rattle.coap_stream.specs.Talks.{
  carried,
  carried_in,
  carried_of,
  carried_within,
  is_beyond,
  reply_of,
  replies_to,
}
use Rattle.message_model.specs.Codes as code_named

-- Nothing is said.
pub Speaks-none : (v : VoiceSeen) → Speaks v [] v
Speaks-none v = by v.open_still
  where
    by : (b : Bool) → SpeaksBy b b [] v v
    by true = (Appends-nil v.holds, refl)
    by false = (refl, refl)

-- Octets that are written while no writing failed.
pub Speaks-put : (a b : VoiceSeen) (octets : List ℕ)
    → a.open_still ≡ true
    → IsPut a.holds b.holds a.faults b.faults octets b.open_still
    → Speaks a octets b
Speaks-put a b octets open_still put =
    subst (λ (x : Bool). SpeaksBy x b.open_still octets a b) (sym open_still)
    (by b.open_still put)
  where
    by : (y : Bool)
        → IsPut a.holds b.holds a.faults b.faults octets y
        → SpeaksBy true y octets a b
    by true put = put
    by false put = put

-- Octets, and then more of them.
pub Speaks-then : (a b c : VoiceSeen) (xs ys : List ℕ)
    → Speaks a xs b
    → Speaks b ys c
    → Speaks a (xs ++ ys) c
Speaks-then a b c xs ys r s = by a.open_still b.open_still c.open_still r s
  where
    by : (x y z : Bool)
        → SpeaksBy x y xs a b
        → SpeaksBy y z ys b c
        → SpeaksBy x z (xs ++ ys) a c
    by true true true r s =
        (Appends-trans a.holds b.holds c.holds xs ys r.0 s.0, s.1 ∙ r.1)
    by true true false r s = (
      (
        length xs + s.0.0,
        (let whole = length-append xs ys in
            let few : s.0.0 ≤ length ys = s.0.1 in omega (arith, whole, few)),
        subst (Appends a.holds c.holds) (sym (take-append-add xs ys s.0.0))
            (Appends-trans a.holds b.holds c.holds xs (take s.0.0 ys) r.0 s.0.2),
      ),
      (let least : b.faults ≤ c.faults = s.1 in omega (arith, least, r.1)),
      subst (λ (n : ℕ). Rose n c.faults) r.1 s.2,
    )
    by true false true r s = absurd s
    by true false false r s = (
      (
        r.0.0,
        (let whole = length-append xs ys in
            let few : r.0.0 ≤ length xs = r.0.1 in omega (arith, whole, few)),
        subst (λ (o : Option (List ℕ)). Appends a.holds o (take r.0.0 (xs ++ ys))) (sym s.0)
            (subst (Appends a.holds b.holds) (sym (take-append-le r.0.0 xs ys r.0.1)) r.0.2),
      ),
      (let least : a.faults ≤ b.faults = r.1 in omega (arith, least, s.1)),
      subst (λ (n : ℕ). Rose a.faults n) (sym s.1) r.2,
    )
    by false true z r s = absurd r
    by false false true r s = absurd s
    by false false false r s = (s.0 ∙ r.0, s.1 ∙ r.1)

-- ---- replies

replies-push : (line : Line) (most : ℕ) (ds : List Datagram) (d : Datagram)
    → replies_to line most (ds ++ d ∷ []) ≡ replies_to line most ds ++ reply_of line most d
replies-push line most [] d = append-nil (reply_of line most d)
replies-push line most (e ∷ ds) d =
    ap (λ (l : List ℕ). reply_of line most e ++ l) (replies-push line most ds d)
    ∙ sym (append_assoc (reply_of line most e) (replies_to line most ds) (reply_of line most d))

pub replies-then : (line : Line) (most : ℕ) (xs ys : List Datagram)
    → replies_to line most (xs ++ ys) ≡ replies_to line most xs ++ replies_to line most ys
replies-then line most [] ys = refl
replies-then line most (x ∷ xs) ys =
    ap (λ (l : List ℕ). reply_of line most x ++ l) (replies-then line most xs ys)
    ∙ sym (append_assoc (reply_of line most x) (replies_to line most xs) (replies_to line most ys))

take_more : {A : Type 0} (l : List A) (n : ℕ) (x : A) → slice_get l n ≡ Some x
    → take (suc n) l ≡ take n l ++ x ∷ []
take_more [] n x h = absurd (none_some h)
take_more (y ∷ l) zero x h = ap (λ (z : _). z ∷ []) (some_same h)
take_more (y ∷ l) (suc n) x h = ap (λ (k : List _). y ∷ k) (take_more l n x h)

-- The next datagram of an outbox.
pub Speaks-next : (a b c : VoiceSeen) (line : Line) (most : ℕ) (out : List Datagram) (d : Datagram)
    (index : ℕ)
    → slice_get out index ≡ Some d
    → Speaks a (replies_to line most (take index out)) b
    → Speaks b (reply_of line most d) c
    → Speaks a (replies_to line most (take (index + 1) out)) c
Speaks-next a b c line most out d index at so_far next =
    let step : index + 1 ≡ suc index = omega arith in
    let more : replies_to line most (take (index + 1) out)
    ≡ replies_to line most (take index out) ++ reply_of line most d =
    ap (λ (n : ℕ). replies_to line most (take n out)) step
    ∙ ap (replies_to line most) (take_more out index d at)
    ∙ replies-push line most (take index out) d in
    subst (λ (l : List ℕ). Speaks a l c) (sym more)
    (Speaks-then a b c (replies_to line most (take index out)) (reply_of line most d) so_far next)

-- ---- a datagram

-- What stands behind the header of a message.
abbrev body_of : Message → List ℕ
body_of m = m.token ++ (options_spelling 0 m.options ++ payload_spelling m.payload)

behind_header : (m : Message) (d : List ℕ) → spelling m ≡ d → drop 4 d ≡ body_of m
unfolding spelling header_spelling
behind_header m d spelled = ap (drop 4) (sym spelled)

header_size : (m : Message) (d : List ℕ) → spelling m ≡ d
    → length d ≡ 4 + length (body_of m)
unfolding spelling header_spelling
header_size m d spelled = ap (λ (l : List ℕ). length l) (sym spelled) ∙ omega arith

-- Its lengths, its code, and what stands behind the header of a datagram, are its message.
pub carried_put : (m : Message) (d body octets : List ℕ)
    → spelling m ≡ d
    → body ≡ drop 4 d
    → octets ≡ ((nibble_of (length body - length m.token) * 16 + length m.token)
    ∷ extension_of (length body - length m.token)) ++ (m.code ∷ body)
    → octets ≡ carried m
unfolding lengths_spelling
carried_put m d body octets spelled is put =
    let behind : body ≡ body_of m = is ∙ behind_header m d spelled in
    let tail = options_spelling 0 m.options ++ payload_spelling m.payload in
    let size : length body - length m.token ≡ length tail =
    (let whole = ap (λ (l : List ℕ). length l) behind ∙ length-append m.token tail in
    omega (arith, whole)) in
    put
    ∙ ap (λ (n : ℕ). ((nibble_of n * 16 + length m.token) ∷ extension_of n)
    ++ (m.code ∷ body))
    size
    ∙ ap (λ (l : List ℕ). ((nibble_of (length tail) * 16 + length m.token)
    ∷ extension_of (length tail)) ++ (m.code ∷ l)) behind

pub carried_fits : (m : Message) (d : List ℕ)
    → spelling m ≡ d
    → length d ≤ 1280
    → (4 ≤ length d) × (length m.token ≤ length (drop 4 d)) × (length (drop 4 d) ≤ 1276)
carried_fits m d spelled short =
    let size = header_size m d spelled in
    let behind = ap (λ (l : List ℕ). length l) (behind_header m d spelled) in
    let whole =
    length-append m.token (options_spelling 0 m.options ++ payload_spelling m.payload) in
    (omega (arith, size), omega (arith, behind, whole), omega (arith, size, behind, short))

-- What is carried of a datagram that is read, and is no longer than one may be.
pub carried_of-read : (d : List ℕ) (m : Message)
    → Ok m ≡ reading d
    → length d ≤ longest_datagram
    → carried m ≡ carried_of d
carried_of-read d m is short =
    rw (le-ltb longest_datagram (length d) short) (ap carried_in is)

-- What is written of a datagram, if it is not too long for the peer.
pub within_as : (most : Option ℕ) (d : List ℕ) (size : ℕ) (b : Bool)
    → size ≡ length (carried_of d)
    → b ≡ is_beyond most size
    → b ≡ false
    → carried_of d ≡ carried_within most d
within_as most d size b is by none =
    let e : is_beyond most (length (carried_of d)) ≡ false =
    sym (ap (is_beyond most) is) ∙ sym by ∙ none in
    rw e refl

-- And if it is.
pub beyond_as : (most : Option ℕ) (d : List ℕ) (size : ℕ) (b : Bool) (m : Message)
    → size ≡ length (carried_of d)
    → b ≡ is_beyond most size
    → b ≡ true
    → reading d ≡ Ok m
    → saying code_named.internal_server_error m.token [] ≡ carried_within most d
beyond_as most d size b m is by one read =
    let e : is_beyond most (length (carried_of d)) ≡ true =
    sym (ap (is_beyond most) is) ∙ sym by ∙ one in
    rw e (ap too_long_in (sym read))

-- How many octets are written of a datagram.
pub carried_size : (m : Message) (d octets : List ℕ) (n : ℕ)
    → take n octets ≡ carried m
    → n ≤ length octets
    → Ok m ≡ reading d
    → length d ≤ longest_datagram
    → n ≡ length (carried_of d)
carried_size m d octets n put within read short =
    sym (length-take-le n octets within)
    ∙ ap (λ (l : List ℕ). length l) (put ∙ carried_of-read d m read short)
