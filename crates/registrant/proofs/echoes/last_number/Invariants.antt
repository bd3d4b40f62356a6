use Rattle.std.proofs.Common.{◌≡◌, length}
use Rattle.message_model.specs.Message.{end_number}
use Rattle.registrant.proofs.echoes.last_number.Given as goal

-- what follows the options that were passed ends as all of them do
abbrev pub invariant-options : goal.invariant-options
invariant-options l = end_number l.number l.left ≡ end_number 0 l.options

abbrev pub decreases-options : goal.decreases-options
decreases-options l = length l.left
