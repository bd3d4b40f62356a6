-- What is sent, one after the other.
use Rattle.std.proofs.Common.{
  ◌≡◌,
  ℕ,
  zero,
  suc,
  ◌+◌,
  ◌≤◌,
  List,
  [],
  ◌∷◌,
  ◌++◌,
  length,
  take,
  Option,
  Some,
  refl,
  sym,
  ap,
  ◌∙◌,
  subst,
  arith,
}
use Rattle.std.specs.List.{slice_get}
use Rattle.std.proofs.lemmas.List.{append_assoc, append-nil, length-append}
use Rattle.rd_base.proofs.lemmas.Options.{some_same, none_some}
use Rattle.udp_link.specs.Links.{Datagram}
use Rattle.udp_link.specs.declared.links.LinkCall.{LinkCall}
use Rattle.udp_link.specs.declared.links.Went.{Went}
use Rattle.udp_link.specs.declared.links.Went.TheVariants as went
use Rattle.rd_seat.proofs.ToldLaws.{told_then, told_same, Stays-then}
use Rattle.rd_server.specs.serving.Sendings.{Sending, all_sent, all_went, number_lost}
use Rattle.rd_server.specs.serving.Sendings.{sendings_order}
use Rattle.rd_server.specs.serving.Workers.{LinkSeen, Goes, Orders, RisesBy, Sends}
use Rattle.rd_server.specs.serving.Sums.{CountsMore, CountsSendings, IsBelow}
use Rattle.rd_server.specs.declared.serving.served.Served.{Served}

-- ---- one after the other

pub Goes-then : (xs ys : List Datagram) (a b c : Option (List Datagram)) → Goes xs a b
    → Goes ys b c → Goes (xs ++ ys) a c
Goes-then xs ys a b c r s = told_then (λ x y z e f. f
    ∙ (ap (λ (l : List Datagram). l ++ ys) e ∙ append_assoc x xs ys)) a b c r s

pub Orders-then : (xs ys : List LinkCall) (a b c : Option (List LinkCall)) → Orders xs a b
    → Orders ys b c → Orders (ys ++ xs) a c
Orders-then xs ys a b c r s = told_then (λ x y z e f. f
    ∙ (ap (λ (l : List LinkCall). ys ++ l) e ∙ sym (append_assoc ys xs x))) a b c r s

pub RisesBy-then : (m n a b c : ℕ) → RisesBy m a b → RisesBy n b c → RisesBy (m + n) a c
RisesBy-then m n a b c r s = record {
  kept = omega (arith, r.kept, s.kept);
  rose = λ below. (let first : a + m ≤ b = r.rose (omega (arith, s.kept, below)) in
      let second : b + n ≤ c = s.rose below in omega (arith, first, second));
}

-- ---- sendings

-- one more went, or was lost
pub went_one : (s : Sending) (sendings : List Sending)
    → all_went (s ∷ sendings) ≡ all_went sendings ++ all_went (s ∷ [])
went_one (d, went.Sent) sendings = refl
went_one (d, went.Failed) sendings = sym (append-nil (all_went sendings))

pub lost_one : (s : Sending) (sendings : List Sending)
    → number_lost (s ∷ sendings) ≡ number_lost sendings + number_lost (s ∷ [])
lost_one (d, went.Sent) sendings = omega arith
lost_one (d, went.Failed) sendings = omega arith

pub Sends-none : (l : LinkSeen) → Sends [] l l
Sends-none l = record {
  gone = told_same (λ old new. new ≡ old ++ []) (λ x. sym (append-nil x)) l.gone;
  order = told_same (λ old new. new ≡ old) (λ x. refl) l.order;
  lost = record { kept = omega arith; rose = λ below. omega arith };
  coming = told_same (λ old new. new ≡ old) (λ x. refl) l.coming;
  received = refl;
}

pub Sends-more : (s : Sending) (sendings : List Sending) (a b c : LinkSeen) → Sends sendings a b
    → Sends (s ∷ []) b c → Sends (s ∷ sendings) a c
Sends-more s sendings a b c r t = record {
  gone = subst (λ (l : List Datagram). Goes l a.gone c.gone) (sym (went_one s sendings))
      (Goes-then (all_went sendings) (all_went (s ∷ [])) a.gone b.gone c.gone r.gone t.gone);
  order = Orders-then (sendings_order sendings) (sendings_order (s ∷ [])) a.order b.order c.order
      r.order t.order;
  lost = subst (λ (n : ℕ). RisesBy n a.send_faults c.send_faults) (sym (lost_one s sendings))
      (RisesBy-then (number_lost sendings) (number_lost (s ∷ [])) a.send_faults b.send_faults
      c.send_faults r.lost t.lost);
  coming = Stays-then a.coming b.coming c.coming r.coming t.coming;
  received = t.received ∙ r.received;
}

-- ---- counts

pub CountsMore-none : (s : Served) → CountsMore 0 0 0 s s
CountsMore-none s = record {
  sent_more = omega arith;
  lost_more = omega arith;
  starved_more =
      omega arith;
  heard = refl;
  too_long = refl;
}

pub CountsMore-then : (x y z u v w : ℕ) (a b c : Served) → CountsMore x y z a b
    → CountsMore u v w b c → CountsMore (x + u) (y + v) (z + w) a c
CountsMore-then x y z u v w a b c r s = record {
  sent_more = omega (arith, r.sent_more, s.sent_more);
  lost_more = omega (arith, r.lost_more, s.lost_more);
  starved_more = omega (arith, r.starved_more, s.starved_more);
  heard = s.heard ∙ r.heard;
  too_long = s.too_long ∙ r.too_long;
}

pub CountsSendings-more : (s : Sending) (sendings : List Sending) (a b c : Served)
    → CountsSendings sendings 0 a b → CountsSendings (s ∷ []) 0 b c
    → CountsSendings (s ∷ sendings) 0 a c
CountsSendings-more s sendings a b c r t =
    let sent : length (all_went (s ∷ sendings)) ≡ length (all_went sendings)
    + length (all_went (s ∷ [])) = ap (λ (l : List Datagram). length l) (went_one s sendings)
    ∙ length-append (all_went sendings) (all_went (s ∷ [])) in
    let both : CountsMore (length (all_went sendings) + length (all_went (s ∷ [])))
    (number_lost sendings + number_lost (s ∷ [])) 0 a c =
    CountsMore-then _ _ 0 _ _ 0 a b c r t in
    record {
      sent_more = both.sent_more ∙ ap (λ (n : ℕ). a.sent + n) (sym sent);
      lost_more = both.lost_more ∙ ap (λ (n : ℕ). a.lost + n) (sym (lost_one s sendings));
      starved_more = both.starved_more;
      heard = both.heard;
      too_long = both.too_long;
    }

-- no more went than there were, and no more were lost
pub went_within : (sendings : List Sending) → length (all_went sendings)
    ≤ length (all_sent sendings)
went_within [] = omega arith
went_within ((d, went.Sent) ∷ sendings) = omega (
  arith,
  went_within sendings,
  length-append (all_went sendings) (d ∷ []),
  length-append (all_sent sendings) (d ∷ []),
)
went_within ((d, went.Failed) ∷ sendings) = omega
    (arith, went_within sendings, length-append (all_sent sendings) (d ∷ []))

pub lost_within : (sendings : List Sending) → number_lost sendings ≤ length (all_sent sendings)
lost_within [] = omega arith
lost_within ((d, went.Sent) ∷ sendings) = omega
    (arith, lost_within sendings, length-append (all_sent sendings) (d ∷ []))
lost_within ((d, went.Failed) ∷ sendings) = omega
    (arith, lost_within sendings, length-append (all_sent sendings) (d ∷ []))

-- ---- the datagrams of an outbox, one after the other

take_more : {A : Type 0} (l : List A) (n : ℕ) (x : A) → slice_get l n ≡ Some x
    → take (suc n) l ≡ take n l ++ x ∷ []
take_more [] n x h = absurd (none_some h)
take_more (y ∷ l) zero x h = ap (λ (z : _). z ∷ []) (some_same h)
take_more (y ∷ l) (suc n) x h = ap (λ (k : List _). y ∷ k) (take_more l n x h)

pub sent_more : (sendings : List Sending) (d : Datagram) (w : Went) (index : ℕ)
    (out : List Datagram) → all_sent sendings ≡ take index out → slice_get out index ≡ Some d
    → all_sent ((d, w) ∷ sendings) ≡ take (index + 1) out
sent_more sendings d w index out e h =
    let next : suc index ≡ index + 1 = omega arith in
    ap (λ (l : List Datagram). l ++ d ∷ []) e
    ∙ (sym (take_more out index d h) ∙ ap (λ (n : ℕ). take n out) next)

-- ---- room

pub IsBelow-more : (m n : ℕ) (s : Served) → IsBelow m s → m ≤ n → IsBelow n s
IsBelow-more m n s b le = record {
  heard = omega (arith, b.heard, le);
  sent = omega (arith, b.sent, le);
  lost = omega (arith, b.lost, le);
  too_long = omega (arith, b.too_long, le);
  starved = omega (arith, b.starved, le);
}

length_take_le : {A : Type 0} (n : ℕ) (l : List A) → length (take n l) ≤ n
length_take_le zero l = omega arith
length_take_le (suc n) [] = omega arith
length_take_le (suc n) (x ∷ l) = omega (arith, length_take_le n l)

-- in the middle of an outbox
pub room_left : (limit index : ℕ) (sendings : List Sending) (out : List Datagram) (a b : Served)
    → IsBelow limit a → CountsSendings sendings 0 a b → all_sent sendings ≡ take index out
    → IsBelow (limit + index) b
room_left limit index sendings out a b r c e =
    let few : length (all_sent sendings) ≤ index =
    omega (arith, ap (λ (l : List Datagram). length l) e, length_take_le index out) in
    record {
      heard = omega (arith, r.heard, c.heard);
      sent = omega (arith, r.sent, c.sent_more, went_within sendings, few);
      lost = omega (arith, r.lost, c.lost_more, lost_within sendings, few);
      too_long = omega (arith, r.too_long, c.too_long);
      starved = omega (arith, r.starved, c.starved_more);
    }
