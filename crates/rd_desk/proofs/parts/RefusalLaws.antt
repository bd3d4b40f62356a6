-- How a request that is refused for itself is answered.
use Rattle.std.proofs.Common.{
  ◌≡◌,
  ℕ,
  Bool,
  true,
  false,
  [],
  Option,
  Some,
  None,
  refl,
  sym,
  ◌∙◌,
  if◌then◌else◌,
}
use Rattle.message_model.specs.declared.messages.Kind4.{Kind4}
use Rattle.message_model.specs.declared.messages.Kind4.TheVariants.{Con, Non, Ack, Rst}
use Rattle.message_model.specs.declared.requests.Refusal.{Refusal}
use Rattle.message_model.specs.declared.requests.Refusal.TheVariants as refusal
use Rattle.message_model.specs.Message.{Message}
use Rattle.message_model.specs.OptionTable.{first_bad_option}
use Rattle.message_model.specs.Refusals.{refusal_of, refusal_after_options, option_refusal_or}
use Rattle.journal_model.specs.declared.steps.Step.{Step}
use Rattle.journal_model.specs.Effects.{Reply, nothing, answering}
use Rattle.journal_model.specs.Rows.{refusal_answered}
use Rattle.rd_request.specs.declared.requests.Refused.{Refused}
use Rattle.rd_request.specs.declared.requests.Refused.TheVariants as refused
use Rattle.rd_request.specs.Asking.{IsRefusedBy, is_passed_over}

-- the refusals after that of an option are none of an option
after_options : (proxy nowhere method block accept format : Bool) (n : ℕ)
    → (if proxy then Some refusal.Proxy else if nowhere then Some refusal.Path else if method then
    Some refusal.Method else if block then Some refusal.Block
    else if accept then Some refusal.Accept else if format then Some refusal.Format else None)
    ≡ Some (refusal.BadOption n)
    → ⊥
after_options true b c d e f n h = cc
after_options false true c d e f n h = cc
after_options false false true d e f n h = cc
after_options false false false true e f n h = cc
after_options false false false false true f n h = cc
after_options false false false false false true n h = cc
after_options false false false false false false n h = cc

after_options_of : (m : Message) (n : ℕ) → refusal_after_options m ≡ Some (refusal.BadOption n) → ⊥
unfolding refusal_after_options
after_options_of m n h = after_options _ _ _ _ _ _ n h

-- a refusal for an option is that of the first unrecognized critical one
bad_option : (m : Message) (n : ℕ)
    → refusal_of m ≡ Some (refusal.BadOption n)
    → first_bad_option m.options ≡ Some n
unfolding refusal_of
bad_option m n h = by (first_bad_option m.options) refl h where
  by : (o : Option ℕ)
      → first_bad_option m.options ≡ o
      → option_refusal_or o (refusal_after_options m) ≡ Some (refusal.BadOption n)
      → first_bad_option m.options ≡ Some n
  by None e h = absurd (after_options_of m n h)
  by (Some k) e h = e ∙ cc

-- where another refusal comes, or none, there is no such option
none_bad : (m : Message) (r : Option Refusal)
    → refusal_of m ≡ r
    → ((n : ℕ) → r ≡ Some (refusal.BadOption n) → ⊥)
    → first_bad_option m.options ≡ None
unfolding refusal_of
none_bad m r h other = by (first_bad_option m.options) refl h where
  by : (o : Option ℕ)
      → first_bad_option m.options ≡ o
      → option_refusal_or o (refusal_after_options m) ≡ r
      → first_bad_option m.options ≡ None
  by None e h = e
  by (Some k) e h = absurd (other k (sym h))

-- nothing is answered where it is skipped
pub passed_over : (m : Message) (s : Step) (reply : Reply) (kind : Kind4) (why : Refused)
    → IsRefusedBy why m
    → is_passed_over kind why ≡ true
    → refusal_answered kind (first_bad_option m.options) s m reply ≡ nothing
passed_over m s reply Con why by e = cc
passed_over m s reply Ack why by e = cc
passed_over m s reply Rst why by e = cc
passed_over m s reply Non (refused.Request (refusal.BadOption n)) by e = rw (bad_option m n by) refl
passed_over m s reply Non (refused.Request refusal.Proxy) by e = cc
passed_over m s reply Non (refused.Request refusal.Path) by e = cc
passed_over m s reply Non (refused.Request refusal.Method) by e = cc
passed_over m s reply Non (refused.Request refusal.Block) by e = cc
passed_over m s reply Non (refused.Request refusal.Accept) by e = cc
passed_over m s reply Non (refused.Request refusal.Format) by e = cc
passed_over m s reply Non refused.Query by e = cc
passed_over m s reply Non refused.Payload by e = cc

-- and else the refusal
pub answered : (m : Message) (s : Step) (reply : Reply) (kind : Kind4) (why : Refused)
    → IsRefusedBy why m
    → is_passed_over kind why ≡ false
    → refusal_answered kind (first_bad_option m.options) s m reply ≡ answering s m reply []
answered m s reply Con why by e = refl
answered m s reply Ack why by e = refl
answered m s reply Rst why by e = refl
answered m s reply Non (refused.Request (refusal.BadOption n)) by e = cc
answered m s reply Non (refused.Request refusal.Proxy) by e =
    rw (none_bad m (Some refusal.Proxy) by (λ n h. cc)) refl
answered m s reply Non (refused.Request refusal.Path) by e =
    rw (none_bad m (Some refusal.Path) by (λ n h. cc)) refl
answered m s reply Non (refused.Request refusal.Method) by e =
    rw (none_bad m (Some refusal.Method) by (λ n h. cc)) refl
answered m s reply Non (refused.Request refusal.Block) by e =
    rw (none_bad m (Some refusal.Block) by (λ n h. cc)) refl
answered m s reply Non (refused.Request refusal.Accept) by e =
    rw (none_bad m (Some refusal.Accept) by (λ n h. cc)) refl
answered m s reply Non (refused.Request refusal.Format) by e =
    rw (none_bad m (Some refusal.Format) by (λ n h. cc)) refl
answered m s reply Non refused.Query by e = rw (none_bad m None by (λ n h. cc)) refl
answered m s reply Non refused.Payload by e = rw (none_bad m None by (λ n h. cc)) refl
