-- The block of a body that a request asks for.
use Rattle.std.specs.Prelude.{ℕ, Bool, List, Option, is_some}
use Rattle.message_model.specs.declared.blocks.Block.{Block}
use Rattle.message_model.specs.Blocks.{block_of}
use Rattle.journal_model.specs.Requests.{number_of, szx_of}

-- Returns whether a body has the requested block (RFC 7959 section 2.2).
abbrev pub has_asked_block : Option Block → List ℕ → Bool
has_asked_block asked body = is_some (block_of body (number_of asked) (szx_of asked))
