use Rattle.std.proofs.Common.{arith, ap, ◌∙◌}
use Rattle.exchange_core.specs.declared.resends.Again.TheVariants as again
use Rattle.exchange_core.specs.Retransmissions.{kept_due, kept_after}
use Rattle.exchange_core.proofs.ResendLaws.{due_waits, due_sends, due_ends}
use Rattle.exchange_core.proofs.resends.Resend.at_tick.Goals as goal

pub returns-then-saturating_sub-from-clause-due : goal.returns-then-saturating_sub-from-clause-due
returns-then-saturating_sub-from-clause-due c =
    due_waits c.args.now.0 (record
    { sent = c.self.inside.sent.0; wait = c.self.inside.wait; again = c.self.inside.again })
    (omega (arith, c.if-saturating_sub-from.true, c.saturating_sub.ensures, c.from.ensures))
    ∙ ap (kept_due c.args.now.0) c.self.view_is

pub returns-then-saturating_sub-from-clause-kept : goal.returns-then-saturating_sub-from-clause-kept
returns-then-saturating_sub-from-clause-kept c =
    ap (λ due. kept_after due c.args.now.0 c.args.self.now)
    (returns-then-saturating_sub-from-clause-due c)

pub returns-then-self-eq-MAX_RETRANSMIT-clause-due
    : goal.returns-then-self-eq-MAX_RETRANSMIT-clause-due
returns-then-self-eq-MAX_RETRANSMIT-clause-due c =
    due_ends c.args.now.0 (record
    { sent = c.self.inside.sent.0; wait = c.self.inside.wait; again = c.self.inside.again })
    (omega (arith, c.if-saturating_sub-from.false, c.saturating_sub.ensures, c.from.ensures))
    c.self.invariant.0 c.if-self-eq-MAX_RETRANSMIT.true
    ∙ ap (kept_due c.args.now.0) c.self.view_is

pub returns-then-self-eq-MAX_RETRANSMIT-clause-kept
    : goal.returns-then-self-eq-MAX_RETRANSMIT-clause-kept
returns-then-self-eq-MAX_RETRANSMIT-clause-kept c =
    ap (λ due. kept_after due c.args.now.0 c.args.self.now)
    (returns-then-self-eq-MAX_RETRANSMIT-clause-due c)

pub returns-clause-due : goal.returns-clause-due
returns-clause-due c =
    due_sends c.args.now.0 (record
    { sent = c.self.inside.sent.0; wait = c.self.inside.wait; again = c.self.inside.again })
    (omega (arith, c.if-saturating_sub-from.false, c.saturating_sub.ensures, c.from.ensures))
    c.self.invariant.0 (omega (arith, c.self.invariant.1, c.if-self-eq-MAX_RETRANSMIT.false))
    ∙ ap (kept_due c.args.now.0) c.self.view_is

pub returns-clause-kept : goal.returns-clause-kept
returns-clause-kept c =
    ap (λ r. kept_after again.Send c.args.now.0 r) c.self.view_is
    ∙ ap (λ due. kept_after due c.args.now.0 c.args.self.now) (returns-clause-due c)
