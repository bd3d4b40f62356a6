use Rattle.std.proofs.Common.{List, filter, length, subst, sym}
use Rattle.message_model.specs.Message.{Message, Opt, end_number}
use Rattle.message_model.specs.Spelling.{spelling}
use Rattle.coap_message.specs.OptionsLeft.{option_in, options_left}
use Rattle.coap_stream.specs.Requests.{is_not_observe, with_options}
use Rattle.coap_stream.proofs.HeardLaws.{IsLeft, left_more, room_first}
use Rattle.coap_stream.proofs.heard.put_options.Goals as goal

pub put_option-requires-clause-room : goal.put_option-requires-clause-room
put_option-requires-clause-room c =
    let option = option_in c.in-Some.option in
    let target = with_options c.args.writer.now
    (filter is_not_observe (options_left c.args.options)) in
    let left = subst (λ (l : List Opt).
    IsLeft c.options.writer target 1280 (filter is_not_observe l))
    c.in-Some.ensures.steps c.options.invariant in
    room_first (is_not_observe option) (length (spelling c.options.writer))
    (end_number 0 c.options.writer.options) 1280 option
    (filter is_not_observe (options_left c.next.new.self)) left.room

pub options-preserved : goal.options-preserved
options-preserved c =
    let option = option_in c.in-Some.option in
    let others = filter is_not_observe (options_left c.next.new.self) in
    let target = with_options c.args.writer.now
    (filter is_not_observe (options_left c.args.options)) in
    let left = subst (λ (l : List Opt).
    IsLeft c.options.writer target 1280 (filter is_not_observe l))
    c.in-Some.ensures.steps c.options.invariant in
    subst (λ (m : Message). IsLeft m target 1280 others) (sym c.put_option.ensures)
    (left_more (is_not_observe option) c.options.writer target 1280 option others left)
