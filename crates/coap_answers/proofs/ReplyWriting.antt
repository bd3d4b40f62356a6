-- What may be written next of a reply.
use Rattle.std.proofs.Common.{◌≡◌, ℕ, List, sym, subst, arith}
use Rattle.message_model.specs.Message.{Message, end_number}
use Rattle.coap_message.specs.PartialMessages.{with_last_option}
use Rattle.message_model.proofs.OrderLemmas.{end_number-push}
use Rattle.coap_answers.specs.Writing.{IsReadyFor}

-- after an option of a number others of that number may follow
pub ready_after : (number : ℕ) (value : List ℕ) (m after : Message)
    → IsReadyFor number m
    → after ≡ with_last_option m (number, value)
    → IsReadyFor number after
ready_after number value m after ready is = subst (IsReadyFor number) (sym is) (record {
  filled = ready.filled;
  open_end = ready.open_end;
  ascends = let last = end_number-push 0 m.options (number, value) in omega (arith, last);
})
