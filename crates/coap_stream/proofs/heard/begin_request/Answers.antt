use Rattle.std.proofs.Common.{ap}
use Rattle.message_model.specs.Message.{Message}
use Rattle.message_model.specs.declared.messages.Kind4.TheVariants.{Con}
use Rattle.stream_reader.specs.Shown.{frame_shown}
use Rattle.coap_stream.proofs.HeardLaws.{begun_order, begun_room, heard_size}
use Rattle.coap_stream.proofs.heard.begin_request.Goals as goal

pub put_options-requires-clause-order : goal.put_options-requires-clause-order
put_options-requires-clause-order c =
    begun_order c.start-writer.result _ _ (ap (λ (m : Message). m.options) c.start-writer.ensures)
    c.options_in.ensures c.requires.options

pub put_options-requires-clause-room : goal.put_options-requires-clause-room
put_options-requires-clause-room c =
    begun_room c.start-writer.result Con c.args.mid (frame_shown c.args.frame.now) _
    c.start-writer.ensures c.options_in.ensures c.requires

pub returns-clause-fits : goal.returns-clause-fits
returns-clause-fits c = heard_size c.args.mid (frame_shown c.args.frame.now) c.requires
