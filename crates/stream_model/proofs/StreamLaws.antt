-- A stream as it comes octet by octet is the one that the relation says, and there is one (RFC
-- 8323 sections 3.2 and 3.3).
use Rattle.std.proofs.Common.{
  ◌≡◌,
  ℕ,
  ◌+◌,
  ◌<◌,
  Bool,
  true,
  false,
  Option,
  Some,
  None,
  List,
  [],
  ◌∷◌,
  ◌++◌,
  length,
  refl,
  sym,
  ap,
  subst,
  ◌∙◌,
  append_assoc,
  append-nil,
  arith,
}
use Rattle.std.proofs.lemmas.List.{length-append}
use Rattle.message_model.specs.Numbers.{AreBytes}
use Rattle.message_model.proofs.ByteLemmas.{AreBytes-append}
use Rattle.stream_model.specs.declared.messages.Judged.{Judged}
use Rattle.stream_model.specs.declared.messages.Judged.TheVariants as judged
use Rattle.stream_model.specs.declared.messages.StreamBad.{StreamBad}
use Rattle.stream_model.specs.Judging.{judge, FrontsMore}
use Rattle.stream_model.specs.Streams.{
  Stream,
  IsFront,
  IsEnd,
  AreMessages,
  IsStream,
  partial,
  with_message,
  stream_by,
  stream_from,
  stream_of,
}
use Rattle.stream_model.proofs.MessageLaws.{same_cons}
use Rattle.stream_model.proofs.ReadingLaws.{
  more_front,
  whole_good,
  bad_bad,
  front_judged,
  good_judged,
  good_fronts,
  bad_judged,
  bad_fronts,
}

-- ---- steps

-- One octet more.
pub step : (is_first : Bool) (pending octets : List ℕ) (b : ℕ) (j : Judged)
    → judge is_first (pending ++ b ∷ []) ≡ j
    → stream_from is_first pending (b ∷ octets)
    ≡ stream_by j (pending ++ b ∷ []) (stream_from is_first (pending ++ b ∷ []) octets)
    (stream_from false [] octets)
unfolding stream_from
step is_first pending octets b j e = rw e refl

-- Octets by which a message is known to be whole or bad.
pub reach : (is_first : Bool) (pending more octets : List ℕ) (j : Judged)
    → 0 < length more
    → ((front rest : List ℕ)
    → front ++ rest ≡ more
    → 0 < length rest
    → judge is_first (pending ++ front) ≡ judged.More)
    → judge is_first (pending ++ more) ≡ j
    → stream_from is_first pending (more ++ octets)
    ≡ stream_by j (pending ++ more) (stream_from is_first (pending ++ more) octets)
    (stream_from false [] octets)
reach is_first pending [] octets j some fronts e = absurd (omega (arith, some))
reach is_first pending (b ∷ []) octets j some fronts e = step is_first pending octets b j e
reach is_first pending (b ∷ c ∷ more) octets j some fronts e =
    let one = step is_first pending (c ∷ more ++ octets) b judged.More
    (fronts (b ∷ []) (c ∷ more) refl (omega arith)) in
    let same : (pending ++ b ∷ []) ++ (c ∷ more) ≡ pending ++ b ∷ c ∷ more =
    append_assoc pending (b ∷ []) (c ∷ more) in
    let rest = reach is_first (pending ++ b ∷ []) (c ∷ more) octets j (omega arith)
    (λ front rest split some. ap (judge is_first) (append_assoc pending (b ∷ []) front)
    ∙ fronts (b ∷ front) rest (ap (λ (l : List ℕ). b ∷ l) split) some)
    (ap (judge is_first) same ∙ e) in
    one
    ∙ rest
    ∙ ap (λ (l : List ℕ). stream_by j l (stream_from is_first l octets)
    (stream_from false [] octets))
    same

-- Octets that bring no message to its end.
pub go_on : (is_first : Bool) (pending more octets : List ℕ)
    → ((front rest : List ℕ)
    → front ++ rest ≡ more
    → judge is_first (pending ++ front) ≡ judged.More)
    → stream_from is_first pending (more ++ octets)
    ≡ stream_from is_first (pending ++ more) octets
go_on is_first pending [] octets fronts =
    ap (λ (l : List ℕ). stream_from is_first l octets) (sym (append-nil pending))
go_on is_first pending (b ∷ more) octets fronts =
    reach is_first pending (b ∷ more) octets judged.More (omega arith)
    (λ front rest split some. fronts front rest split)
    (fronts (b ∷ more) [] (append-nil (b ∷ more)))

-- ---- what comes octet by octet is the stream

-- A front of octets with one more is a front of them, or all.
cut_last : (front more pending : List ℕ) (b : ℕ)
    → front ++ more ≡ pending ++ b ∷ []
    → 0 < length more
    → (rest : List ℕ) × (front ++ rest ≡ pending)
cut_last [] more pending b e some = (pending, refl)
cut_last (x ∷ front) more [] b e some =
    let none : front ++ more ≡ [] = (same_cons x b (front ++ more) [] e).1 in
    let sizes : length front + length more ≡ 0 =
    sym (length-append front more) ∙ ap (λ (l : List ℕ). length l) none in
    absurd (omega (arith, some, sizes))
cut_last (x ∷ front) more (y ∷ pending) b e some =
    let parts = same_cons x y (front ++ more) (pending ++ b ∷ []) e in
    let rest = cut_last front more pending b parts.1 some in
    (rest.0, ap (λ (l : List ℕ). x ∷ l) rest.1 ∙ ap (λ (z : ℕ). z ∷ pending) parts.0)

-- Each front is less than a message.
abbrev AllMore : Bool → List ℕ → Type 0
AllMore is_first octets =
    (front rest : List ℕ) → front ++ rest ≡ octets → judge is_first front ≡ judged.More

fronts_push : (is_first : Bool) (pending : List ℕ) (b : ℕ)
    → AllMore is_first pending
    → FrontsMore is_first (pending ++ b ∷ [])
fronts_push is_first pending b all = λ front more same some.
    let rest = cut_last front more pending b same some in all front rest.0 rest.1

all_push : (is_first : Bool) (octets : List ℕ)
    → FrontsMore is_first octets
    → judge is_first octets ≡ judged.More
    → AllMore is_first octets
all_push is_first octets fronts more = λ front rest same. by front rest same
  where
    by : (front rest : List ℕ) → front ++ rest ≡ octets
        → judge is_first front ≡ judged.More
    by front [] same = ap (judge is_first) (sym (append-nil front) ∙ same) ∙ more
    by front (x ∷ rest) same = fronts front (x ∷ rest) same (omega arith)

nothing_more : (is_first : Bool) → AllMore is_first []
unfolding judge
nothing_more is_first [] rest same = refl
nothing_more is_first (x ∷ front) rest same = absurd cc

-- The messages and the end that a stream has.
abbrev AreOf : Bool → Stream → List ℕ → Type 0
AreOf is_first s octets = AreMessages is_first s.messages s.fault s.rest octets

-- One octet more, by what it makes of those before it.
stepped : (is_first : Bool) (pending octets : List ℕ) (b : ℕ) (j : Judged) (same next : Stream)
    → AreBytes (pending ++ b ∷ [])
    → FrontsMore is_first (pending ++ b ∷ [])
    → judge is_first (pending ++ b ∷ []) ≡ j
    → (j ≡ judged.More → AreOf is_first same (pending ++ b ∷ [] ++ octets))
    → AreOf false next octets
    → AreOf is_first (stream_by j (pending ++ b ∷ []) same next) (pending ++ b ∷ octets)
stepped is_first pending octets b judged.More same next bytes fronts e goes_on after =
    subst (AreOf is_first same) (append_assoc pending (b ∷ []) octets) (goes_on refl)
stepped is_first pending octets b judged.Whole same next bytes fronts e goes_on after = (
  whole_good is_first (pending ++ b ∷ []) bytes fronts e,
  octets,
  sym (append_assoc pending (b ∷ []) octets),
  after,
)
stepped is_first pending octets b (judged.Bad why) same next bytes fronts e goes_on after = (
  refl,
  record {
    bad = pending ++ b ∷ [];
    more = octets;
    split = sym (append_assoc pending (b ∷ []) octets);
    is_bad = bad_bad is_first (pending ++ b ∷ []) why bytes fronts e;
  },
)

pub comes_as : (is_first : Bool) (pending octets : List ℕ)
    → AreBytes pending
    → AreBytes octets
    → AllMore is_first pending
    → AreOf is_first (stream_from is_first pending octets) (pending ++ octets)
unfolding stream_from
comes_as is_first pending [] held bytes all =
    let front = more_front is_first pending held (λ front more same some. all front more same)
    (all pending [] (append-nil pending)) in
    (sym (append-nil pending), subst IsFront (sym (append-nil pending)) front)
comes_as is_first pending (b ∷ octets) held bytes all =
    let more : AreBytes (pending ++ b ∷ []) =
    AreBytes-append pending (b ∷ []) held (bytes.0, tt) in
    let fronts = fronts_push is_first pending b all in
    stepped is_first pending octets b (judge is_first (pending ++ b ∷ []))
    (stream_from is_first (pending ++ b ∷ []) octets) (stream_from false [] octets)
    more fronts refl
    (λ e. comes_as is_first (pending ++ b ∷ []) octets more bytes.1
    (all_push is_first (pending ++ b ∷ []) fronts e))
    (comes_as false [] octets tt bytes.1 (nothing_more false))

-- What octets give, octet by octet, is their stream.
pub stream_of-IsStream : (octets : List ℕ) → AreBytes octets
    → IsStream octets (stream_of octets)
stream_of-IsStream octets bytes = comes_as true [] octets tt bytes (nothing_more true)

-- ---- and there is no other

some_of_fronts : (is_first : Bool) (octets : List ℕ) (j : Judged)
    → judge is_first octets ≡ j
    → (j ≡ judged.More → ⊥)
    → 0 < length octets
unfolding judge
some_of_fronts is_first [] j e not_more = absurd (not_more (sym e))
some_of_fronts is_first (b ∷ octets) j e not_more = omega arith

ends_as : (is_first : Bool) (fault : Option StreamBad) (rest octets : List ℕ)
    → IsEnd is_first fault rest octets
    → stream_from is_first [] octets
    ≡ record { messages = []; fault = fault; rest = rest }
unfolding stream_from
ends_as is_first None rest octets e =
    ap (stream_from is_first []) (sym (append-nil octets))
    ∙ go_on is_first [] octets []
    (λ front more same. front_judged is_first octets front more e.1 same)
    ∙ ap partial (sym e.0)
ends_as is_first (Some why) rest octets e =
    let begins = e.1 in
    let known = bad_judged is_first begins.bad why begins.is_bad in
    ap (stream_from is_first []) begins.split
    ∙ reach is_first [] begins.bad begins.more (judged.Bad why)
    (some_of_fronts is_first begins.bad (judged.Bad why) known (λ same. cc))
    (bad_fronts is_first begins.bad why begins.is_bad) known
    ∙ ap (λ (r : List ℕ). record { messages = []; fault = Some why; rest = r }) (sym e.0)

pub is_only : (is_first : Bool) (messages : List (List ℕ)) (fault : Option StreamBad)
    (rest octets : List ℕ)
    → AreMessages is_first messages fault rest octets
    → stream_from is_first [] octets
    ≡ record { messages = messages; fault = fault; rest = rest }
is_only is_first [] fault rest octets e = ends_as is_first fault rest octets e
is_only is_first (m ∷ messages) fault rest octets e =
    let good = e.0 in
    let more = e.1 in
    let whole = good_judged is_first m good in
    ap (stream_from is_first []) e.2
    ∙ reach is_first [] m more judged.Whole
    (some_of_fronts is_first m judged.Whole whole (λ same. cc))
    (good_fronts is_first m good) whole
    ∙ ap (with_message m) (is_only false messages fault rest more e.3)

-- Octets give one stream.
pub IsStream-stream_of : (octets : List ℕ) (s : Stream) → IsStream octets s
    → stream_of octets ≡ s
IsStream-stream_of octets s e = is_only true s.messages s.fault s.rest octets e
