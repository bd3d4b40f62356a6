use Rattle.std.proofs.Common.{
  ◌≡◌,
  List,
  ℕ,
  [],
  ◌∷◌,
  ◌++◌,
  option_map,
  sym,
  ap,
  subst,
  ◌∙◌,
}
use Rattle.percent_encoding.specs.Percent.{percent_decode}
use Rattle.message_model.specs.Message.{Opt}
use Rattle.client_model.specs.Asks.{is_part, decoded_parts, parts_at}
use Rattle.registrant.specs.Parts.{parts_left}
use Rattle.registrant.proofs.OptionLaws.{
  IsAdding,
  adding_step,
  adding_bad,
  adds_bad,
  cut_steps,
  cut_smaller,
}
use Rattle.registrant.proofs.options.push_parts.Goals as goal

pub returns-in-Err : goal.returns-in-Err
returns-in-Err c =
    let part = c.cut.result.0.now in
    let left = option_map (λ t. t.now) c.parts.left in
    let more = option_map (λ t. t.now) c.cut.result.1 in
    let steps =
    cut_steps
    c.args.mark
    c.parts.left
    c.in-Some.text
    part
    more
    c.in-Some.is
    c.cut.ensures.before
    c.cut.ensures.after in
    adds_bad
    c.args.number
    part
    (decoded_parts (parts_at c.args.mark c.args.text.now))
    c.args.options.now
    c.parts.options
    c.in-Err.bad
    c.in-Err.ensures
    (λ bad.
    adding_bad
    is_part
    c.args.number
    c.args.options.now
    c.parts.options
    (decoded_parts (parts_at c.args.mark c.args.text.now))
    (decoded_parts (parts_left c.args.mark left))
    (decoded_parts (parts_left c.args.mark more))
    (percent_decode part)
    steps
    bad
    c.parts.invariant)

pub parts-smaller : goal.parts-smaller
parts-smaller c =
    cut_smaller c.parts.left c.in-Some.text c.cut.result.1 c.in-Some.is c.cut.ensures.lengths

pub parts-preserved : goal.parts-preserved
parts-preserved c =
    let part = c.cut.result.0.now in
    let left = option_map (λ t. t.now) c.parts.left in
    let more = option_map (λ t. t.now) c.cut.result.1 in
    let all = decoded_parts (parts_at c.args.mark c.args.text.now) in
    let steps =
    cut_steps
    c.args.mark
    c.parts.left
    c.in-Some.text
    part
    more
    c.in-Some.is
    c.cut.ensures.before
    c.cut.ensures.after in
    let pushed : c.push.new.self
    ≡ c.parts.options ++ (c.args.number, percent_decode part) ∷ [] =
    c.in_ok-push.ensures.ok
    ∙ ap
    (λ (v : List ℕ). c.parts.options ++ (c.args.number, v) ∷ [])
    c.in-Ok.ensures.0 in
    subst
    (λ (now : List Opt).
    IsAdding is_part c.args.number c.args.options.now now all
    (decoded_parts (parts_left c.args.mark more)))
    (sym pushed)
    (adding_step
    is_part
    c.args.number
    c.args.options.now
    c.parts.options
    all
    (decoded_parts (parts_left c.args.mark left))
    (decoded_parts (parts_left c.args.mark more))
    (percent_decode part)
    steps
    c.in-Ok.ensures.1
    c.parts.invariant)
