-- The definitions that an example opens, so that they compute on bytes that are written out.
use Rattle.std.specs.Prelude.{⊤}
use Rattle.message_model.specs.Numbers.{uint_bytes}
use Rattle.message_model.specs.Spelling.{
  header_spelling,
  nibble_of,
  extension_of,
  option_spelling,
  options_spelling,
  payload_spelling,
  spelling,
}
use Rattle.message_model.specs.Reading.{
  header_at,
  extended_at,
  option_at,
  short_tail,
  tail_at,
  body_at,
  reading,
}
use Rattle.message_model.specs.OptionTable.{
  definition_of,
  preceded_options,
  recognized_options,
  first_bad_option,
  values,
}
use Rattle.message_model.specs.Blocks.{block_read, block_value, block_of}
use Rattle.message_model.specs.Request.{location_of, path_of}
use Rattle.message_model.specs.Refusals.{refusal_after_options, refusal_of}
use Rattle.message_model.specs.RequestKey.{key_of}

-- Opened by an example, it opens all that a message computes with.
unfoldable pub messages_on_literals : ⊤
unfolding uint_bytes header_spelling nibble_of extension_of option_spelling options_spelling
    payload_spelling spelling header_at extended_at option_at short_tail tail_at body_at reading
    definition_of preceded_options recognized_options first_bad_option values block_read block_value
    block_of location_of path_of refusal_after_options refusal_of key_of
messages_on_literals = tt
