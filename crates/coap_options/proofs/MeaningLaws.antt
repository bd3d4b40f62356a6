-- What a meaning says, as one record.
use Rattle.std.proofs.Common.{refl}
use Rattle.coap_message.specs.Views.{message_in}
use Rattle.coap_options.specs.declared.meanings.Meaning.{Meaning}
use Rattle.coap_options.specs.Meanings.{IsMeaning}

-- A meaning is that of its message.
pub is_meaning : (meaning : Meaning) → IsMeaning (message_in meaning.view) meaning
is_meaning meaning = record {
  view = refl;
  path = meaning.path_said;
  observe = meaning.observe_said;
  accept = meaning.accept_said;
  format = meaning.format_said;
  block1 = meaning.block1_said;
  block2 = meaning.block2_said;
  proxy = meaning.proxy_said;
  echo = meaning.echo_said;
}
