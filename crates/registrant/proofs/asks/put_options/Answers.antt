use Rattle.std.proofs.Common.{
  ◌≡◌,
  ◌<◌,
  List,
  ℕ,
  ◌∷◌,
  length,
  sym,
  ap,
  subst,
  ◌∙◌,
}
use Rattle.message_model.specs.Message.{Message}
use Rattle.message_model.specs.Spelling.{spelling}
use Rattle.coap_message.specs.PartialMessages.{longest_datagram}
use Rattle.registrant.specs.Asking.{with_options}
use Rattle.registrant.proofs.AskLaws.{IsPutting, putting_step, putting_long, on_err}
use Rattle.registrant.proofs.asks.put_options.Goals as goal

pub returns-in_err-option-clause-too_long : goal.returns-in_err-option-clause-too_long
returns-in_err-option-clause-too_long c =
    let o = c.in-Some.option.now in
    let steps : c.options.left.now ≡ (o.0, c.as_slice.result.now) ∷ c.in-Some.more.now =
    c.in-Some.ensures.cases.0
    ∙ ap (λ (v : List ℕ). (o.0, v) ∷ c.in-Some.more.now) (sym c.as_slice.ensures.value) in
    on_err
    c.from_residual.result
    (longest_datagram < length (spelling (with_options c.args.message.now c.args.options.now)))
    (putting_long
    c.args.message.now
    c.options.message
    c.args.options.now
    c.options.left.now
    c.in-Some.more.now
    (o.0, c.as_slice.result.now)
    longest_datagram
    steps
    c.options.invariant
    c.in_err-option.ensures.too_long)

pub options-preserved : goal.options-preserved
options-preserved c =
    let o = c.in-Some.option.now in
    let steps : c.options.left.now ≡ (o.0, c.as_slice.result.now) ∷ c.in-Some.more.now =
    c.in-Some.ensures.cases.0
    ∙ ap (λ (v : List ℕ). (o.0, v) ∷ c.in-Some.more.now) (sym c.as_slice.ensures.value) in
    subst
    (λ (m : Message). IsPutting c.args.message.now m c.args.options.now c.in-Some.more.now)
    (sym c.in_ok-option.ensures.ok)
    (putting_step
    c.args.message.now
    c.options.message
    c.args.options.now
    c.options.left.now
    c.in-Some.more.now
    (o.0, c.as_slice.result.now)
    steps
    c.options.invariant)
