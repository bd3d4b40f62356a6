-- The size of messages, each part at its edge.
use Rattle.std.proofs.Common.{◌≡◌, ℕ, List, [], ◌∷◌, refl}
use Rattle.message_model.specs.declared.messages.Kind4.TheVariants.{Ack, Rst}
use Rattle.message_model.specs.Codes as codes_of
use Rattle.message_model.specs.Message.{Message}
use Rattle.message_model.specs.OptionTable as table
use Rattle.journal_model.specs.Effects.{empty_message}
use Rattle.journal_model.specs.MessageSizes.{extension_size, message_size}

-- ---- what extends a nibble

twelve : extension_size 12 ≡ 0
unfolding extension_size
twelve = refl

thirteen : extension_size 13 ≡ 1
unfolding extension_size
thirteen = refl

last_of_one : extension_size 268 ≡ 1
unfolding extension_size
last_of_one = refl

first_of_two : extension_size 269 ≡ 2
unfolding extension_size
first_of_two = refl

-- ---- messages

-- a Reset is a header alone
reset_size : message_size (empty_message Rst 16) ≡ 4
reset_size = refl

-- ACK 2.05 m=0010 t=c1 [4 0000000000000000][23 0/0/1024]
abbrev answer : List ℕ → Message
answer payload = record {
  kind = Ack;
  code = codes_of.content;
  mid = 16;
  token = 193 ∷ [];
  options = (table.etag, 0 ∷ 0 ∷ 0 ∷ 0 ∷ 0 ∷ 0 ∷ 0 ∷ 0 ∷ []) ∷ (table.block2, 6 ∷ []) ∷ [];
  payload = payload;
}

-- no marker stands before an empty payload
empty_size : message_size (answer []) ≡ 17
unfolding extension_size
empty_size = refl

-- and one before any other
two_size : message_size (answer (97 ∷ 98 ∷ [])) ≡ 20
unfolding extension_size
two_size = refl
