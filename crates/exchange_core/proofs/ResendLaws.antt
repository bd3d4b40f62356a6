-- What is due of a message that waits, from what is kept of it.
use Rattle.std.proofs.Common.{
  ◌≡◌,
  ◌≢◌,
  ℕ,
  ◌+◌,
  ◌-◌,
  ◌*◌,
  ◌^◌,
  ◌<◌,
  ◌≤◌,
  List,
  ◌∷◌,
  length,
  refl,
  sym,
  ap,
  ◌∙◌,
  lt-ltb,
  arith,
}
use Rattle.std.proofs.lemmas.Bool.{le-ltb}
use Rattle.std.proofs.Math.Nat.{pow-suc, mul_assoc}
use Rattle.event_model.specs.Events.{Event}
use Rattle.event_model.specs.Flights.{Retransmission, max_again, first_wait, deadline}
use Rattle.exchange_core.specs.declared.resends.Again.{Again}
use Rattle.exchange_core.specs.declared.resends.Again.TheVariants as again
use Rattle.exchange_core.specs.Retransmissions.{Resends, due_at, kept_due, kept_after}

-- ---- what is kept says it

-- before the wait ends
pub due_waits : (now : ℕ) (r : Retransmission) → now - r.sent < r.wait → again.Wait ≡ kept_due now r
unfolding kept_due
due_waits now r before = rw (lt-ltb now (r.sent + r.wait) (omega (arith, before))) refl

-- at its end and after it
pub due_sends : (now : ℕ) (r : Retransmission)
    → r.wait ≤ now - r.sent
    → 0 < r.wait
    → r.again < 4
    → again.Send ≡ kept_due now r
unfolding kept_due
due_sends now r after some few =
    rw (
      le-ltb now (r.sent + r.wait) (omega (arith, after, some)),
      lt-ltb r.again max_again
          (omega (arith, few)),
    ) refl

pub due_ends : (now : ℕ) (r : Retransmission)
    → r.wait ≤ now - r.sent
    → 0 < r.wait
    → r.again ≡ 4
    → again.GaveUp ≡ kept_due now r
unfolding kept_due
due_ends now r after some all =
    rw (
      le-ltb now (r.sent + r.wait) (omega (arith, after, some)),
      le-ltb r.again max_again
          (omega (arith, all)),
    ) refl

-- ---- what is kept, and what events note

-- the deadline
pub deadline-kept : (first : Event) (others : List Event) (r : Retransmission)
    → Resends first others r
    → r.sent + r.wait ≡ deadline first others
unfolding deadline
deadline-kept first others r h = rw (h.sent, h.wait) refl

-- what is due by the deadline is what is due by what is kept
-- An end theorem: nothing here cites it.
pub kept_due-deadline : (now : ℕ) (first : Event) (others : List Event) (r : Retransmission)
    → Resends first others r
    → kept_due now r ≡ due_at now first others
unfolding kept_due due_at
kept_due-deadline now first others r h = rw (deadline-kept first others r h, h.again) refl

-- after a retransmission, that of one event more is kept
-- An end theorem: nothing here cites it.
pub kept_after-sent : (now : ℕ) (first : Event) (others : List Event) (a : Event)
    (r : Retransmission)
    → a.moment ≡ now
    → Resends first others r
    → Resends first (a ∷ others) (kept_after again.Send now r)
kept_after-sent now first others a r at h = record {
  sent = sym at;
  wait =
      ap (λ w. w * 2) h.wait
      ∙ (mul_assoc (first_wait first.word) (2 ^ length others) 2
      ∙ ap (λ w. first_wait first.word * w) (sym (pow-suc 2 (length others))));
  again = let n = h.again in omega (arith, n);
}

-- after anything else, what was kept
-- An end theorem: nothing here cites it.
pub kept_after-unsent : (due : Again) (now : ℕ) (r : Retransmission)
    → due ≢ again.Send
    → kept_after due now r ≡ r
kept_after-unsent again.Send now r other = absurd (other refl)
kept_after-unsent again.Wait now r other = refl
kept_after-unsent again.GaveUp now r other = refl
