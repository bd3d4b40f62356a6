use Rattle.std.proofs.Common.{◌≡◌, ◌<◌, [], length, sym, ap, arith}
use Rattle.coap_message.specs.OptionsAt.{options_at}
use Rattle.coap_message.specs.OptionsLeft.{options_left}
use Rattle.coap_message.proofs.OptionsAtLemmas.{options_at-none, options_at-some}
use Rattle.coap_message.proofs.options.OptionsIterIterator.next.Goals as goal

pub returns-in_err-option-clause-steps : goal.returns-in_err-option-clause-steps
returns-in_err-option-clause-steps c =
    let nothing : options_left c.args.self.now ≡ [] =
    options_at-none _ _ (sym c.in_err-option.ensures.value) in
    rw c.from_residual.ensures (nothing, nothing)

pub returns-clause-steps : goal.returns-clause-steps
returns-clause-steps c = options_at-some _ _ _ (sym c.in_ok-option.ensures.value)

pub returns-clause-goes : goal.returns-clause-goes
returns-clause-goes c =
    let steps = ap length (options_at-some _ _ _ (sym c.in_ok-option.ensures.value)) in
    let fewer : length (options_at c.in_ok-option.option.number c.in_ok-option.rest.now) < length
    (options_left c.args.self.now) =
    omega (arith, steps) in
    record { on = λ _. (tt, tt, fewer); keeps = tt; rests = λ _. tt }
