-- Answers to blocks of an upload (RFC 7959 sections 2.5 and 2.9).
use Rattle.std.specs.Prelude.{
  ℕ,
  ◌+◌,
  Bool,
  true,
  false,
  nat_lt,
  List,
  ◌++◌,
  length,
  Option,
  Some,
  None,
}
use Rattle.message_model.specs.declared.blocks.Block.{Block}
use Rattle.message_model.specs.Uploads.{max_body, collected_before, is_one_too_many}
use Rattle.transfers.specs.declared.collecting.Upload.{Upload}
use Rattle.transfers.specs.declared.collecting.Upload.TheVariants as upload

-- Returns the answer to a block that is accepted: it is stored if more blocks follow, and completes
-- the body otherwise.
abbrev pub answer_taken : Bool → List ℕ → Upload
answer_taken true body = upload.More
answer_taken false body = upload.Whole body

-- Returns the answer to a block that continues what is stored: a refusal if the body becomes too
-- large or too many uploads are in progress.
abbrev pub answer_unless : Bool → Bool → Bool → List ℕ → Upload
answer_unless true too_many more body = upload.TooLarge
answer_unless false true more body = upload.FullUploads
answer_unless false false more body = answer_taken more body

-- Returns the answer to a block, by what is stored before it.
abbrev pub answer_after : Option (List ℕ) → List ℕ → Bool → Bool → Upload
answer_after None piece too_many more = upload.OutOfOrder
answer_after (Some collected) piece too_many more =
    answer_unless (nat_lt max_body (length collected + length piece)) too_many more
    (collected ++ piece)

-- Returns the answer to a block with these octets, by the live upload of its name and by how many
-- uploads are live.
unfoldable pub answer_to : Block → List ℕ → Option (List ℕ) → ℕ → Upload
answer_to b piece body live =
    answer_after (collected_before b body) piece (is_one_too_many b body live) b.more
