use Rattle.std.proofs.Common.{ℕ, List, sym, ap, ◌∙◌}
use Rattle.client_model.specs.Asks.{registration}
use Rattle.commission_list.proofs.JudgeLaws.{text_other, text_asked}
use Rattle.commission_list.proofs.judging.ask_read.Goals as goal

pub returns-in_default-clause-exact : goal.returns-in_default-clause-exact
returns-in_default-clause-exact c =
    text_other c.args.uri.now c.args.body.now c.in_default.ensures.cases.0

pub returns-in-Ok-register_ask-clause-exact : goal.returns-in-Ok-register_ask-clause-exact
returns-in-Ok-register_ask-clause-exact c =
    text_asked c.args.uri.now c.in-Ok.uri.now c.args.body.now c.in-Ok-register_ask.ask
    c.based.result c.in-Ok.ensures.cases.0 c.in-Ok.ensures.cases.1
    (ap (λ (body : List ℕ). registration c.in-Ok.uri.now body) (sym c.as_slice.ensures.value)
    ∙ c.in-Ok-register_ask.ensures.exact)
    c.based.ensures.exact
