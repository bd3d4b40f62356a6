-- Values of options in responses are short; what is sent first is kept so; and what is due.
use Rattle.std.proofs.Common.{
  ◌≡◌,
  ℕ,
  ◌+◌,
  ◌*◌,
  ◌^◌,
  ◌≤◌,
  ◌||◌,
  Bool,
  true,
  false,
  cond,
  List,
  [],
  ◌∷◌,
  length,
  ltb,
  Option,
  Some,
  None,
  option_map,
  Bor,
  refl,
  sym,
  ap,
  subst,
  ◌∙◌,
  arith,
}
use Rattle.std.specs.Prelude.{nat_lt, nat_le, IfSome}
use Rattle.std.specs.List.{AllByRecursion}
use Rattle.std.proofs.lemmas.Bool.{ltb-false, ltb-true, le-ltb}
use Rattle.std.proofs.Math.Nat.{mul-one}
use Rattle.rd_base.specs.declared.peers.Peer.{Peer}
use Rattle.message_model.specs.Message.{Opt}
use Rattle.message_model.specs.OptionTable as table
use Rattle.message_model.specs.OptionTable.{Definition, definition_of, values, first_of}
use Rattle.message_model.proofs.ValueLemmas.{HasSize, values_sizes}
use Rattle.event_model.specs.declared.notes.Note.TheVariants as note
use Rattle.event_model.specs.Events.{Event}
use Rattle.event_model.specs.Flights.{
  Retransmission,
  first_wait,
  max_again,
  moment_of_last,
  deadline,
  OctetsSent,
}
use Rattle.event_model.specs.Fetches.{
  Request,
  fetch_asked,
  fetch_deadline,
  is_waiting,
  resendings,
  response_wait,
}
use Rattle.event_model.proofs.NotedLaws.{event_at}
use Rattle.exchange_core.specs.declared.resends.Again.{Again}
use Rattle.exchange_core.specs.declared.resends.Again.TheVariants as again
use Rattle.exchange_core.specs.Retransmissions.{Resends, kept_due}
use Rattle.simple_registration.specs.Running.{due_of}
use Rattle.simple_registration.specs.FetchEvents.{fetch_due}

-- ---- the values of options

-- the first of values is no longer than the table allows
first_most : (vs : List (List ℕ)) (d : Definition)
    → AllByRecursion (λ value. HasSize d (length value)) vs
    → (v : List ℕ)
    → first_of vs ≡ Some v
    → length v ≤ d.most
first_most [] d sizes v e = absurd cc
first_most (w ∷ vs) d sizes v e =
    let same : w ≡ v = cc in subst (λ (t : List ℕ). length t ≤ d.most) same sizes.0.most

-- so it is of a slice
slice_most : (number : ℕ) (d : Definition) (options : List Opt) (found : Option (Bor (List ℕ)))
    → definition_of number ≡ Some d
    → option_map (λ v. v.now) found ≡ first_of (values number options)
    → (x : Bor (List ℕ))
    → found ≡ Some x
    → length x.now ≤ d.most
slice_most number d options found is e x some =
    first_most (values number options) d (values_sizes number d options is) x.now
    (sym e ∙ ap (option_map (λ (v : Bor (List ℕ)). v.now)) some)

-- an entity tag at most eight
pub tag_short : (options : List Opt) (found : Option (Bor (List ℕ)))
    → option_map (λ v. v.now) found ≡ first_of (values table.etag options)
    → IfSome found (λ v. length v.now ≤ 8)
unfolding definition_of
tag_short options None e = tt
tag_short options (Some x) e =
    slice_most table.etag (record { least = 1; most = 8; repeatable = true }) options (Some x) refl
    e x refl

-- ---- what is sent first

retransmission_of : ℕ → ℕ → ℕ → Retransmission
retransmission_of sent wait again = record { sent = sent; wait = wait; again = again }

-- it waits for its first wait
pub sent_is : (now word : ℕ) (r : Retransmission)
    → Resends (event_at 0 now word (note.Failed 0)) [] r
    → r ≡ record {
      sent = now;
      wait = first_wait word;
      again = 0;
    }
unfolding retransmission_of
sent_is now word r h =
    let same : retransmission_of r.sent r.wait r.again ≡ retransmission_of now (first_wait word) 0 =
    rw (h.sent, h.wait, h.again) (rw (mul-one (first_wait word)) refl) in
    same

-- ---- what is due

-- before, or not before
two_ways : (a b : ℕ) (x y : Again) → cond (nat_lt a b) x y ≡ cond (nat_le b a) y x
two_ways a b x y = grind arith

due_cases : (waits : Bool) (now apart wait n : ℕ)
    → cond waits (cond (nat_lt now apart) again.Wait again.GaveUp)
    (cond (nat_lt now wait) again.Wait (cond (nat_lt n max_again) again.Send again.GaveUp))
    ≡ cond (nat_le (cond waits apart wait) now)
    (cond (waits || nat_le max_again n) again.GaveUp again.Send) again.Wait
due_cases true now apart wait n = two_ways now apart again.Wait again.GaveUp
due_cases false now apart wait n =
    two_ways now wait again.Wait (cond (nat_lt n max_again) again.Send again.GaveUp)
    ∙ ap (λ x. cond (nat_le wait now) x again.Wait) (two_ways n max_again again.Send again.GaveUp)

-- what is due of a fetch as it is kept, is what is due of it by events
pub due_is : (octets : OctetsSent) (now : ℕ) (p : Peer) (e : Event) (r : Request)
    (events : List Event)
    → due_of now (fetch_asked octets events p e r) ≡ fetch_due now p e events
unfolding fetch_due fetch_deadline deadline kept_due
due_is octets now p e r events =
    due_cases (is_waiting p events) now (e.moment + response_wait)
    (moment_of_last (resendings p events) e.moment
    + first_wait e.word * 2 ^ length (resendings p events)) (length (resendings p events))
