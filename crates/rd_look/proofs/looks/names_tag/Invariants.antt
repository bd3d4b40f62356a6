use Rattle.std.proofs.Common.{◌≡◌, bytes_eq}
use Rattle.std.specs.List.{list_any}
use Rattle.message_model.specs.Request.{etags_in}
use Rattle.coap_message.specs.Views.{message_in}
use Rattle.coap_options.specs.ValuesLeft.{etags_left}
use Rattle.rd_look.proofs.looks.names_tag.Given as goal

-- the tag is among those that are left where it is among all
abbrev pub invariant-tags : goal.invariant-tags
invariant-tags l =
    list_any (bytes_eq l.tag.0) (etags_left l.named-iterator)
    ≡ list_any (bytes_eq l.tag.0) (etags_in (message_in l.meaning.view))
