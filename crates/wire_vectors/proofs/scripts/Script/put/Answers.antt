use Rattle.std.proofs.Common.{◌≡◌, ap, ◌∙◌, arith}
use Rattle.message_model.specs.Message.{Message, end_number}
use Rattle.message_model.proofs.OrderLemmas.{end_number-push}
use Rattle.wire_vectors.proofs.scripts.Script.put.Goals as goal

pub invariant_of-self-2-clause-ascends : goal.invariant_of-self-2-clause-ascends
invariant_of-self-2-clause-ascends c =
    let last : end_number 0 c.option.new.self.options ≡ c.args.number
    = ap (λ (m : Message). end_number 0 m.options) c.in-Ok.ensures.ok
    ∙ end_number-push 0 c.args.self.now.writer.options (c.args.number, c.args.value.now) in
    omega (arith, last)
