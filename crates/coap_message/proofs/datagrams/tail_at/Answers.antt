use Rattle.std.proofs.Common.{sym}
use Rattle.message_model.proofs.ByteLemmas.{AreBytes-from_Fits}
use Rattle.message_model.proofs.TailLemmas.{option_shortens}
use Rattle.coap_message.proofs.ViewLemmas.{
  Walked-init,
  Walked-more,
  ends_at_end,
  ends_at_marker,
  ends_at_payload,
  ends_at_bad,
  alone_at_end,
  alone_at_payload,
}
use Rattle.coap_message.proofs.datagrams.tail_at.Goals as goal

pub options-init : goal.options-init
options-init c = Walked-init c.args.bytes.now

pub options-smaller : goal.options-smaller
options-smaller c =
    let fewer =
    option_shortens c.options.before c.options.rest.now (
      (c.in_ok-option.option.number, c.in_ok-option.option.value.now),
      c.in_ok-option.after.now,
    ) (sym c.in_ok-option.ensures.value) in
    fewer

pub options-preserved : goal.options-preserved
options-preserved c =
    Walked-more c.args.bytes.now c.options.before c.options.rest.now
    ((c.in_ok-option.option.number, c.in_ok-option.option.value.now), c.in_ok-option.after.now)
    (AreBytes-from_Fits c.args.bytes.now c.type_inv.bytes) c.options.invariant
    (sym c.in_ok-option.ensures.value)

pub returns-in_err-payload-clause-parts : goal.returns-in_err-payload-clause-parts
returns-in_err-payload-clause-parts c =
    rw c.from_residual.ensures
    (ends_at_marker c.args.bytes.now c.options.before c.options.rest.now c.in-Some.first
    c.in-Some.following.now c.options.invariant c.in-Some.ensures c.if-first.true
    c.in_err-payload.ensures)

pub returns-then-first-clause-parts : goal.returns-then-first-clause-parts
returns-then-first-clause-parts c =
    rw c.before_end.ensures
    (ends_at_payload c.args.bytes.now c.options.before c.options.rest.now c.in-Some.first
    c.in-Some.following.now c.in_ok-payload.payload.now c.options.invariant
    c.in-Some.ensures c.if-first.true c.in_ok-payload.ensures)

pub returns-in_err-option-clause-parts : goal.returns-in_err-option-clause-parts
returns-in_err-option-clause-parts c =
    rw c.from_residual-in_err-option.ensures
    (ends_at_bad c.args.bytes.now c.options.before c.options.rest.now c.in-Some.first
    c.in-Some.following.now c.options.invariant c.in-Some.ensures c.if-first.false
    c.in_err-option.ensures.value)

pub returns-clause-parts : goal.returns-clause-parts
returns-clause-parts c =
    ends_at_end c.args.bytes.now c.options.before c.options.rest.now c.options.invariant
    c.in_default.ensures

pub returns-then-first-clause-alone : goal.returns-then-first-clause-alone
returns-then-first-clause-alone c =
    rw c.before_end.ensures
    (alone_at_payload c.args.bytes.now c.options.before c.options.rest.now c.options.invariant)

pub returns-clause-alone : goal.returns-clause-alone
returns-clause-alone c =
    alone_at_end c.args.bytes.now c.options.before c.options.rest.now c.options.invariant
    c.in_default.ensures
