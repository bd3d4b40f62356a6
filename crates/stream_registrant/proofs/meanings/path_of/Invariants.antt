use Rattle.std.proofs.Common.{◌≡◌, true, ◌++◌}
use Rattle.std.specs.List.{list_all}
use Rattle.std.specs.Str.{is_utf8}
use Rattle.message_model.specs.Request.{locations_in}
use Rattle.coap_message.specs.Views.{message_in}
use Rattle.coap_options.specs.ValuesLeft.{locations_left}
use Rattle.stream_registrant.proofs.meanings.path_of.Given as goal

-- The path so far, which is text, and the segments that are left.
abbrev pub invariant-segments : goal.invariant-segments
invariant-segments l =
    (l.path ++ locations_left l.octets-iterator ≡ locations_in (message_in l.meaning.view))
    × (list_all is_utf8 l.path ≡ true)
