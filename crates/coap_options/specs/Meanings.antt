-- The meaning of a message.
use Rattle.std.specs.Prelude.{◌≡◌, ◌≤◌, length, option_map, IsSome}
use Rattle.std.specs.Option.{ForSome}
use Rattle.message_model.specs.Blocks.{block_read}
use Rattle.message_model.specs.Message.{Message}
use Rattle.message_model.specs.Request.{
  path_in,
  observe_in,
  accept_in,
  format_in,
  block1_in,
  block2_in,
  echo_in,
  has_proxy,
}
use Rattle.coap_message.specs.Views.{message_in}
use Rattle.coap_options.specs.declared.meanings.Meaning.{Meaning}

-- A meaning each of whose parts is that of the message (RFC 7252 section 5.10, RFC 7641 section 2,
-- RFC 7959 section 2.1, RFC 9175 section 2.2.1).
pub record IsMeaning (m : Message) (meaning : Meaning) : Type 0 where
  pub view : message_in meaning.view ≡ m
  pub path : meaning.path ≡ path_in m
  pub observe : meaning.observe ≡ observe_in m
  pub accept : meaning.accept ≡ accept_in m
  pub format : meaning.format ≡ format_in m
  pub block1 : option_map (λ v. v.now) meaning.block1 ≡ block1_in m
  pub block2 : option_map (λ v. v.now) meaning.block2 ≡ block2_in m
  pub proxy : meaning.proxy ≡ has_proxy m
  pub echo : option_map (λ v. v.now) meaning.echo ≡ echo_in m

-- A meaning whose values of Block options have at most three octets (RFC 7959 section 2.2).
pub record HasShortBlocks (meaning : Meaning) : Type 0 where
  pub block1 : ForSome meaning.block1 (λ value. length value.now ≤ 3)
  pub block2 : ForSome meaning.block2 (λ value. length value.now ≤ 3)

-- A meaning whose values of Block options encode blocks: neither has the reserved exponent (RFC
-- 7959 section 2.2).
pub record HasReadableBlocks (meaning : Meaning) : Type 0 where
  pub block1 : ForSome meaning.block1 (λ value. IsSome (block_read value.now))
  pub block2 : ForSome meaning.block2 (λ value. IsSome (block_read value.now))
