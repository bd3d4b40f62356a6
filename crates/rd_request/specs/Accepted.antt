-- The message of a request that is not refused by its content alone.
use Rattle.message_model.specs.Message.{Message}
use Rattle.coap_message.specs.Views.{message_in}
use Rattle.rd_request.specs.declared.accepted.Request.{Request}

-- Returns the message whose options were read.
abbrev pub message_of : Request → Message
message_of request = message_in request.meaning.view
