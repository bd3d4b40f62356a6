-- The request by which the directory fetches a device's links (RFC 9176 section 5.1).
use Rattle.std.specs.Prelude.{ℕ, List, [], ◌∷◌, Option, Some, None, codes}
use Rattle.message_model.specs.declared.blocks.Block.{Block}
use Rattle.message_model.specs.declared.messages.Kind4.TheVariants.{Con}
use Rattle.message_model.specs.Codes as codes_of
use Rattle.message_model.specs.Message.{Message, Opt}
use Rattle.message_model.specs.OptionTable as table
use Rattle.message_model.specs.Blocks.{block_value}

-- Returns the Block2 option that asks for a block of a fetch, or no option for the first block.
abbrev pub fetched_block : Option Block → List Opt
fetched_block None = []
fetched_block (Some b) = (table.block2, block_value b) ∷ []

-- Returns the request of a fetch: a confirmable GET of `/.well-known/core`. It has no options
-- except the path and the block (RFC 9176 section 5.1).
abbrev pub fetch_request : ℕ → List ℕ → Option Block → Message
fetch_request mid token b = record {
  kind = Con;
  code = codes_of.get;
  mid = mid;
  token = token;
  options =
      (table.uri_path, codes ".well-known") ∷ (table.uri_path, codes "core") ∷ fetched_block b;
  payload = [];
}
