use Rattle.coap_message.specs.OptionsLeft.{option_in}
use Rattle.coap_stream.proofs.HeardLaws.{put_room}
use Rattle.coap_stream.proofs.heard.put_option.Goals as goal

pub unreachable-requires : goal.unreachable-requires
unreachable-requires c =
    put_room c.args.writer.now (option_in c.args.option.now) 1280 c.requires.open
    c.if-option-eq-OBSERVE.false c.requires.room c.in_default.ensures.too_long
