-- How the loan of a writer that lent its octets ends.
use Rattle.std.specs.Prelude.{◌≡◌, Result, ⊤, MatchResult}
use Rattle.std.specs.Borrow.{follows_so, MutBor, Fml}
use mathlib.Core.Option.{none}
use Rattle.message_model.specs.Message.{Message}
use Rattle.coap_message.specs.contracts.writers.Writer.{the_row}

-- States that the writer ends with a message of which `P` holds.
abbrev pub ends_so : MutBor Message → (Message → Type 0) → Fml
ends_so w P = follows_so the_row the_row w.ghost_name none (λ _ _. ⊤) P

-- States that the writer ends with the message that was made, or, after an error, with the one from
-- before.
abbrev pub EndsAs : {T E : Type 0} → Result T E → Message → Message → Message → Type 0
EndsAs result made before end = MatchResult result (λ _. end ≡ made) (λ _. end ≡ before)
