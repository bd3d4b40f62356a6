-- A talk stands for the events that came, and its answers are those of the verdict.
use Rattle.std.proofs.Common.{
  ◌≡◌,
  ℕ,
  suc,
  ◌+◌,
  ◌*◌,
  ◌^◌,
  ◌||◌,
  ◌&&◌,
  not,
  Bool,
  true,
  false,
  cond,
  nat_le,
  nat_lt,
  List,
  [],
  ◌∷◌,
  length,
  Option,
  Some,
  None,
  refl,
  sym,
  ap,
  subst,
  ◌∙◌,
  arith,
  add-one,
}
use Rattle.std.proofs.lemmas.Bool.{ltb-true, ltb-false, lt-leb, le-leb}
use Rattle.std.proofs.Math.Nat.{pow-suc}
use Rattle.rd_base.specs.declared.moments.Moment.{Moment}
use Rattle.rd_base.specs.declared.peers.Peer.{Peer}
use Rattle.message_model.specs.Reading.{reading}
use Rattle.event_model.specs.Flights.{first_wait, Retransmission}
use Rattle.exchange_core.specs.declared.resends.Again.TheVariants as due
use Rattle.exchange_core.specs.Retransmissions.{kept_due, kept_after}
use Rattle.client_model.specs.declared.events.Event.{Event}
use Rattle.client_model.specs.declared.events.Event.TheVariants as event
use Rattle.client_model.specs.declared.outcomes.Outcome.{Outcome}
use Rattle.client_model.specs.declared.outcomes.Outcome.TheVariants as outcome
use Rattle.registrant.specs.declared.verdicts.TalkHeard.{TalkHeard}
use Rattle.registrant.specs.declared.verdicts.TalkHeard.TheVariants as heard
use Rattle.registrant.specs.declared.verdicts.TalkAgain.{TalkAgain}
use Rattle.registrant.specs.declared.verdicts.TalkAgain.TheVariants as again
use Rattle.event_model.specs.declared.transmission.TheConstants.{MAX_TRANSMIT_WAIT}
use Rattle.message_model.specs.Spelling.{spelling}
use Rattle.client_model.specs.declared.asks.Ask.{Ask}
use Rattle.client_model.specs.declared.asks.Purpose.{Purpose}
use Rattle.client_model.specs.Requests.{Asked, purpose_of, message_of}
use Rattle.client_model.specs.Sending.{acknowledgement_in}
use Rattle.client_model.specs.Verdicts.{
  last_sent,
  readable,
  datagram_decides,
  datagram_quiets,
  is_quiet,
  is_sent_again,
  sent_again,
  tick_decides,
  verdict,
  wait_end,
}
use Rattle.registrant.specs.Talking.{
  Talking,
  StandsFor,
  talking,
  asked_now,
  resent,
  again_by,
  due_by,
  kept_by,
}
use Rattle.registrant.specs.Hearing.{
  hears_by,
  hears,
  IsUnlessStarved,
  kept_after_hearing,
  IsHeard,
  IsDue,
}

-- ---- a datagram

-- a datagram that decides nothing leaves what an acknowledgement changes
pub stands_after_datagram : (a : Asked) (octets : List ℕ) (past : List Event) (now : Moment)
    (peer : Peer) (datagram : List ℕ) (q : Bool) (t : Talking)
    → datagram_decides a.request peer datagram ≡ None
    → datagram_quiets a.request peer datagram ≡ q
    → verdict a past ≡ None
    → t ≡ record (talking a octets past) { quiet = q || is_quiet a past }
    → StandsFor a octets (event.Came now peer datagram ∷ past) t
unfolding is_quiet sent_again verdict
stands_after_datagram a octets past now peer datagram q t none quiets unsaid is = record {
  kept =
      is ∙ ap (λ (b : Bool). record (talking a octets past) { quiet = b || is_quiet a past })
      (sym quiets);
  undecided = rw (unsaid, none) refl;
}

other_of : (D : Option Outcome) (Q : Bool) (ack : Option (List ℕ))
    → heard.Other ≡ hears_by D Q ack
    → (D ≡ None) × (Q ≡ false)
other_of None false ack e = (refl, refl)
other_of None true ack e = absurd cc
other_of (Some o) Q ack e = absurd cc

quiet_of : (D : Option Outcome) (Q : Bool) (ack : Option (List ℕ))
    → heard.Quiet ≡ hears_by D Q ack
    → (D ≡ None) × (Q ≡ true)
quiet_of None true ack e = (refl, refl)
quiet_of None false ack e = absurd cc
quiet_of (Some o) Q ack e = absurd cc

over_of : (D : Option Outcome) (Q : Bool) (ack a : Option (List ℕ)) (o : Outcome)
    → heard.Over o a ≡ hears_by D Q ack
    → (D ≡ Some o) × (a ≡ ack)
over_of None true ack a o e = absurd cc
over_of None false ack a o e = absurd cc
over_of (Some x) Q ack a o e = (cc, cc)

-- what is heard is what the verdict says
pub heard_law : (a : Asked) (octets : List ℕ) (past : List Event) (now : Moment) (peer : Peer)
    (datagram : List ℕ) (r : TalkHeard) (old new : Talking)
    → StandsFor a octets past old
    → IsUnlessStarved r (hears old peer datagram)
    → new ≡ kept_after_hearing r old
    → IsHeard a octets past now peer datagram r old new
heard_law a octets past now peer datagram heard.Starved old new stands same kept = kept
heard_law a octets past now peer datagram heard.Other old new stands same kept =
    let s : heard.Other ≡ hears (talking a octets past) peer datagram =
    subst (λ (t : Talking). heard.Other ≡ hears t peer datagram) stands.kept same in
    let parts =
    other_of (datagram_decides a.request peer datagram)
    (datagram_quiets a.request peer datagram) (acknowledgement_in (readable
    (reading datagram))) s in (
      parts.1,
      stands_after_datagram a octets past now peer datagram false new parts.0 parts.1
          stands.undecided (kept ∙ stands.kept),
    )
heard_law a octets past now peer datagram heard.Quiet old new stands same kept =
    let s : heard.Quiet ≡ hears (talking a octets past) peer datagram =
    subst (λ (t : Talking). heard.Quiet ≡ hears t peer datagram) stands.kept same in
    let parts =
    quiet_of (datagram_decides a.request peer datagram)
    (datagram_quiets a.request peer datagram) (acknowledgement_in (readable
    (reading datagram))) s in (
      parts.1,
      stands_after_datagram a octets past now peer datagram true new parts.0 parts.1
          stands.undecided (kept ∙ ap (λ (t : Talking). record t { quiet = true }) stands.kept),
    )
heard_law a octets past now peer datagram (heard.Over o ack) old new stands same kept =
    let s : heard.Over o ack ≡ hears (talking a octets past) peer datagram =
    subst (λ (t : Talking). heard.Over o ack ≡ hears t peer datagram) stands.kept same in
    over_of (datagram_decides a.request peer datagram) (datagram_quiets a.request peer datagram)
    (acknowledgement_in (readable (reading datagram))) ack o s

-- ---- a tick

times_one : (n : ℕ) → n * 2 ^ 0 ≡ n
times_one n = omega arith

twice : (f n : ℕ) → f * 2 ^ n * 2 ≡ f * 2 ^ suc n
twice f n = rw (pow-suc 2 n) (omega arith)

wait_end-resent : (a : Asked) (sent : List ℕ)
    → wait_end a sent ≡ last_sent a sent + first_wait a.word * 2 ^ length sent
unfolding wait_end
wait_end-resent a sent = refl

-- what is kept after one more sending
sent_once_more : (a : Asked) (now : ℕ) (sent : List ℕ)
    → ◌≡◌ {A = Retransmission} (record {
      sent = now;
      wait = (resent a sent).wait * 2;
      again =
          (resent a sent).again + 1;
    }) (resent a (now ∷ sent))
sent_once_more a now sent =
    ap2 (first_wait a.word * 2 ^ length sent * 2) (first_wait a.word * 2 ^ suc (length sent))
    (length sent + 1) (suc (length sent)) (twice (first_wait a.word) (length sent)) (add-one
    (length sent))
  where
    ap2 : (w x n m : ℕ)
        → w ≡ x
        → n ≡ m
        → ◌≡◌ {A = Retransmission} (record { sent = now; wait = w; again = n })
        (record { sent = now; wait = x; again = m })
    ap2 w x n m e f = rw (e, f) refl

and_false : (b : Bool) → (b && false) ≡ false
and_false true = refl
and_false false = refl

none_both : (b : Bool)
    → ◌≡◌ {A = Option Outcome} (cond (b && false) (Some outcome.GaveUp) None) None
none_both true = refl
none_both false = refl

same_both : (x y : List ℕ) (b : Bool) → cond (b && false) x y ≡ y
same_both x y true = refl
same_both x y false = refl

-- a tick that decides nothing
stands_after_tick : (a : Asked) (octets : List ℕ) (past : List Event) (now : Moment)
    (sent : List ℕ) (t : Talking)
    → tick_decides a (is_quiet a past) now.0 (sent_again a past) ≡ None
    → verdict a past ≡ None
    → cond (is_sent_again a (is_quiet a past) now.0 (sent_again a past))
    (now.0 ∷ sent_again a past) (sent_again a past) ≡ sent
    → t ≡ record (talking a octets past) { resend = resent a sent }
    → StandsFor a octets (event.Tick now ∷ past) t
unfolding is_quiet sent_again verdict
stands_after_tick a octets past now sent t none unsaid sends is = record {
  kept =
      is ∙ ap (λ (s : List ℕ). record (talking a octets past) { resend = resent a s })
      (sym sends);
  undecided = rw (unsaid, none) refl;
}

-- what is due is what the verdict says, of a request that was acknowledged
due_quiet : (a : Asked) (octets : List ℕ) (past : List Event) (now : Moment) (r : TalkAgain)
    (old new : Talking)
    → is_quiet a past ≡ true → old ≡ talking a octets past → verdict a past ≡ None
    → r ≡ due_by true now.0 (talking a octets past)
    → new ≡ talking a octets past
    → IsDue a octets past now r new
due_quiet a octets past now r old new quiet is unsaid same kept =
    by (nat_le (a.at + MAX_TRANSMIT_WAIT) now.0) refl same
  where
    by : (late : Bool)
        → nat_le (a.at + MAX_TRANSMIT_WAIT) now.0 ≡ late
        → r ≡ cond late (again.Over outcome.Silent) again.Wait
        → IsDue a octets past now r new
    by true late e =
        subst (λ (x : TalkAgain). IsDue a octets past now x new) (sym e) (rw (quiet, late) refl)
    by false late e =
        subst (λ (x : TalkAgain). IsDue a octets past now x new) (sym e) (
          rw quiet refl,
          stands_after_tick a octets past now (sent_again a past) new (rw
              (quiet, late) refl) unsaid (rw quiet refl) kept,
        )

-- the same of one that was not
due_loud : (a : Asked) (octets : List ℕ) (past : List Event) (now : Moment) (r : TalkAgain)
    (new : Talking)
    → is_quiet a past ≡ false → verdict a past ≡ None
    → r ≡ due_by false now.0 (talking a octets past)
    → new ≡ kept_by false now.0 (talking a octets past)
    → IsDue a octets past now r new
unfolding kept_due
due_loud a octets past now r new quiet unsaid same kept =
    by (nat_lt now.0 (last_sent a (sent_again a past) + first_wait a.word * 2 ^ length
    (sent_again a past))) (nat_lt (length (sent_again a past)) 4) refl refl same kept
  where
    ended : (w : ℕ)
        → wait_end a (sent_again a past) ≡ w
        → (b : Bool)
        → nat_lt now.0 w ≡ b
        → nat_le (wait_end a (sent_again a past)) now.0 ≡ not b
    ended w e true lt = rw e (lt-leb w now.0 (ltb-true now.0 w lt))
    ended w e false lt = rw e (le-leb w now.0 (ltb-false now.0 w lt))

    few : (b : Bool)
        → nat_lt (length (sent_again a past)) 4 ≡ b
        → nat_le 4 (length (sent_again a past)) ≡ not b
    few true lt = lt-leb 4 (length (sent_again a past)) (ltb-true (length (sent_again a past)) 4 lt)
    few false lt =
        le-leb 4 (length (sent_again a past)) (ltb-false (length (sent_again a past)) 4 lt)

    by : (early few_sent : Bool)
        → nat_lt now.0 (last_sent a (sent_again a past) + first_wait a.word * 2 ^ length
        (sent_again a past)) ≡ early
        → nat_lt (length (sent_again a past)) 4 ≡ few_sent
        → r ≡ again_by (cond early due.Wait (cond few_sent due.Send due.GaveUp))
        → new ≡ record (talking a octets past) {
          resend = kept_after (cond early due.Wait
              (cond few_sent due.Send due.GaveUp)) now.0 (resent a (sent_again a past));
        }
        → IsDue a octets past now r new
    by true f early few_sent e k =
        let late = ended _ (wait_end-resent a (sent_again a past)) true early in
        subst (λ (x : TalkAgain). IsDue a octets past now x new) (sym e) (
          rw (quiet, late) (and_false (nat_lt (length
              (sent_again a past)) 4)),
          stands_after_tick a octets past now (sent_again a past) new
              (rw (quiet, late) (none_both (nat_le 4 (length (sent_again a past))))) unsaid (rw
              (quiet, late) (same_both (now.0 ∷ sent_again a past) (sent_again a past) (nat_lt
              (length (sent_again a past)) 4))) k,
        )
    by false true early few_sent e k =
        let late = ended _ (wait_end-resent a (sent_again a past)) false early in
        let more = few true few_sent in
        subst (λ (x : TalkAgain). IsDue a octets past now x new) (sym e) (
          rw (quiet, late, few_sent) refl,
          stands_after_tick a octets past now
              (now.0 ∷ sent_again a past) new (rw (quiet, late, more) refl) unsaid (rw
              (quiet, late, few_sent) refl) (k ∙ ap (λ (x : Retransmission). record
              (talking a octets past) { resend = x }) (sent_once_more a now.0 (sent_again a past))),
        )
    by false false early few_sent e k =
        let late = ended _ (wait_end-resent a (sent_again a past)) false early in
        let all = few false few_sent in
        subst (λ (x : TalkAgain). IsDue a octets past now x new) (sym e) (rw
        (quiet, late, all) refl)

-- what is due is what the verdict says
pub due_law : (a : Asked) (octets : List ℕ) (past : List Event) (now : Moment) (r : TalkAgain)
    (old new : Talking)
    → StandsFor a octets past old
    → r ≡ due_by old.quiet now.0 old
    → new ≡ kept_by old.quiet now.0 old
    → IsDue a octets past now r new
due_law a octets past now r old new stands same kept =
    by (is_quiet a past) refl (subst (λ (t : Talking). r ≡ due_by t.quiet now.0 t) stands.kept
    same) (subst (λ (t : Talking). new ≡ kept_by t.quiet now.0 t) stands.kept kept)
  where
    by : (b : Bool)
        → is_quiet a past ≡ b
        → r ≡ due_by b now.0 (talking a octets past)
        → new ≡ kept_by b now.0 (talking a octets past)
        → IsDue a octets past now r new
    by true e s k = due_quiet a octets past now r old new e stands.kept stands.undecided s k
    by false e s k = due_loud a octets past now r new e stands.undecided s k

-- ---- the beginning

abbrev waiting : ℕ → ℕ → Retransmission
waiting at wait = record { sent = at; wait = wait; again = 0 }

-- what is kept of a request that was sent once
pub resent_first : (a : Asked)
    → ◌≡◌ {A = Retransmission}
    (record { sent = a.at; wait = first_wait a.word; again = 0 })
    (resent a [])
resent_first a =
    ap
    (waiting a.at)
    (sym (times_one (first_wait a.word)))

abbrev begun : Ask → ℕ → List ℕ → ℕ → Purpose → List ℕ → Retransmission
    → Talking
begun ask mid token now purpose octets r = record {
  request = record { to = ask.to; purpose = purpose; mid = mid; token = token };
  octets = octets;
  at = now;
  resend = r;
  quiet = false;
}

-- a talk that starts stands for no events
pub stands_first : (ask : Ask) (mid : ℕ) (token : List ℕ) (now word : ℕ) (purpose : Purpose)
    (octets : List ℕ) (r : Retransmission)
    → purpose ≡ purpose_of ask
    → octets ≡ spelling (message_of ask mid token)
    → r ≡ record { sent = now; wait = first_wait word; again = 0 }
    → StandsFor (asked_now ask mid token now word) (spelling (message_of ask mid token)) []
    (begun ask mid token now purpose octets r)
unfolding is_quiet sent_again verdict
stands_first ask mid token now word purpose octets r for spelled waits = record {
  kept =
      ap (λ (p : Purpose). begun ask mid token now p octets r) for
      ∙ (ap (λ (o : List ℕ). begun ask mid token now (purpose_of ask) o r) spelled
      ∙ ap
      (begun ask mid token now (purpose_of ask) (spelling (message_of ask mid token)))
      (waits ∙ resent_first (asked_now ask mid token now word)));
  undecided = refl;
}
