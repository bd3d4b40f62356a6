use Rattle.std.proofs.Common.{rules}
use Rattle.coap_message.specs.OptionsAt.{options_at}
use Rattle.coap_message.specs.OptionsLeft.{option_in, options_left}
use Rattle.coap_options.proofs.OptionOrder.{options_ascend}
use Rattle.coap_options.proofs.OptionWalks.{walked_further, walked_more, walked_bad}
use Rattle.coap_options.proofs.option_walks.meaning.Goals as goal

pub returns-in_err-add_option-clause-bad : goal.returns-in_err-add_option-clause-bad
returns-in_err-add_option-clause-bad c =
    let option = option_in c.in-Some.option in
    let left = options_left c.next.new.self in
    let further =
    walked_further (options_at 0 c.args.view.now.options.now) option left
    (options_left c.options.option-iterator) c.options.found c.options.invariant
    (options_ascend c.args.view.now.options.now) c.in-Some.ensures.steps in
    let bad =
    walked_bad (options_at 0 c.args.view.now.options.now) option left
    (options_left c.options.option-iterator) c.options.found c.in_err-add_option.field-0.0.0
    c.options.invariant c.in-Some.ensures.steps
    (c.in_err-add_option.ensures.bad c.options.invariant.front c.options.invariant.found further)
    in
    search (rules, bad)

pub options-preserved : goal.options-preserved
options-preserved c =
    let option = option_in c.in-Some.option in
    let left = options_left c.next.new.self in
    let further =
    walked_further (options_at 0 c.args.view.now.options.now) option left
    (options_left c.options.option-iterator) c.options.found c.options.invariant
    (options_ascend c.args.view.now.options.now) c.in-Some.ensures.steps in
    walked_more (options_at 0 c.args.view.now.options.now) option left
    (options_left c.options.option-iterator) c.options.found c.add_option.new.found
    c.options.invariant c.in-Some.ensures.steps
    (c.in_ok-add_option.ensures.found c.options.invariant.front c.options.invariant.found further)
