-- The uploads of a table, in the order in which they began: which one is found, and what a block
-- changes (RFC 7959 section 2.5).
use Rattle.std.specs.Prelude.{
  ℕ,
  Bool,
  not,
  ◌&&◌,
  ◌==◌,
  List,
  [],
  ◌∷◌,
  ◌++◌,
  find,
  filter,
  Option,
  option_map,
  if◌then◌else◌,
}
use Rattle.rd_base.specs.Firsts.{changed_first}
use Rattle.message_model.specs.declared.blocks.Block.{Block}
use Rattle.event_model.specs.Same.{RequestName, is_same_request}
use Rattle.event_model.specs.Events.{is_young}
use Rattle.event_model.specs.Uploads.{Upload}

-- Returns whether this is the upload of a name.
abbrev pub is_of : RequestName → Upload → Bool
is_of name u = is_same_request name u.name

-- Returns whether this is the live upload of a name.
abbrev pub is_live_as : ℕ → RequestName → Upload → Bool
is_live_as now name u = is_of name u && is_young now u.moment

-- Returns what is stored under a name, if its upload is live.
unfoldable pub live_body : ℕ → RequestName → List Upload → Option (List ℕ)
live_body now name us = option_map (λ u. u.body) (find (is_live_as now name) us)

-- Returns the live uploads.
abbrev pub young_uploads : ℕ → List Upload → List Upload
young_uploads now us = filter (λ u. is_young now u.moment) us

-- Returns the live uploads of other names.
abbrev pub other_uploads : ℕ → RequestName → List Upload → List Upload
other_uploads now name us = filter (λ u. is_young now u.moment && not (is_of name u)) us

-- Returns the uploads of other names.
abbrev pub without_upload : RequestName → List Upload → List Upload
without_upload name us = filter (λ u. not (is_of name u)) us

-- Returns an upload that begins with a block.
abbrev pub first_block : RequestName → List ℕ → ℕ → Upload
first_block name octets now = record { name = name; body = octets; moment = now }

-- Returns an upload with a further block.
abbrev pub with_block : List ℕ → ℕ → Upload → Upload
with_block octets now u = record { name = u.name; body = u.body ++ octets; moment = now }

-- Returns the uploads after the upload of a name begins anew. The live uploads of other names
-- remain.
unfoldable pub begun : ℕ → RequestName → List ℕ → List Upload → List Upload
begun now name octets us = other_uploads now name us ++ first_block name octets now ∷ []

-- Returns the uploads after the live upload of a name continues.
unfoldable pub gone_on : ℕ → RequestName → List ℕ → List Upload → List Upload
gone_on now name octets us = changed_first (is_live_as now name) (with_block octets now) us

-- Returns the uploads after a block was stored.
abbrev pub taken : Block → ℕ → RequestName → List ℕ → List Upload → List Upload
taken b now name octets us =
    if b.num == 0 then begun now name octets us else gone_on now name octets us
