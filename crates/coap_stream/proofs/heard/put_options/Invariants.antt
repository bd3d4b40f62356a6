use Rattle.std.proofs.Common.{length, filter}
use Rattle.coap_message.specs.OptionsLeft.{options_left}
use Rattle.coap_message.specs.PartialMessages.{longest_datagram}
use Rattle.coap_stream.specs.Requests.{is_not_observe, with_options}
use Rattle.coap_stream.proofs.HeardLaws.{IsLeft}
use Rattle.coap_stream.proofs.heard.put_options.Given as goal

-- What is left to be put makes the whole of what was put, and has room.
abbrev pub invariant-options : goal.invariant-options
invariant-options l =
    IsLeft l.writer
    (with_options l.fn.writer (filter is_not_observe (options_left l.options)))
    longest_datagram (filter is_not_observe (options_left l.left))

abbrev pub decreases-options : goal.decreases-options
decreases-options l = length (options_left l.left)
