-- The refusals that a request alone decides, in the order of the checks.
use Rattle.std.specs.Prelude.{
  ℕ,
  Bool,
  true,
  false,
  not,
  ◌&&◌,
  ◌||◌,
  List,
  length,
  Option,
  Some,
  None,
  is_none,
  codes,
  ◌==◌,
  if◌then◌else◌,
}
use Rattle.message_model.specs.declared.formats.TheConstants.{LINK_FORMAT}
use Rattle.message_model.specs.declared.blocks.Block.{Block}
use Rattle.message_model.specs.declared.requests.Path.{Path}
use Rattle.message_model.specs.declared.requests.Path.TheVariants as path
use Rattle.message_model.specs.declared.requests.Refusal.{Refusal}
use Rattle.message_model.specs.declared.requests.Refusal.TheVariants as refusal
use Rattle.message_model.specs.Codes as code_named
use Rattle.message_model.specs.Message.{Message}
use Rattle.message_model.specs.OptionTable.{first_bad_option}
use Rattle.message_model.specs.Blocks.{block_read, is_misfit}
use Rattle.message_model.specs.Request.{
  path_in,
  accept_in,
  format_in,
  block1_in,
  block2_in,
  has_proxy,
  allowed,
}

-- The number of the format of link documents (RFC 7252 section 12.3).
abbrev pub link_format : ℕ
link_format = LINK_FORMAT

-- Returns whether a path names no resource.
abbrev pub is_nowhere : Path → Bool
is_nowhere path.Other = true
is_nowhere path.Core = false
is_nowhere path.SimpleRd = false
is_nowhere path.Rd = false
is_nowhere (path.Location n) = false
is_nowhere path.Res = false
is_nowhere path.Ep = false

-- Returns whether a path is that of registration, `/rd`.
abbrev pub is_rd : Path → Bool
is_rd path.Rd = true
is_rd path.Core = false
is_rd path.SimpleRd = false
is_rd (path.Location n) = false
is_rd path.Res = false
is_rd path.Ep = false
is_rd path.Other = false

-- Returns whether a path is that of one registration, its location.
abbrev pub is_of_registration : Path → Bool
is_of_registration path.Rd = false
is_of_registration path.Core = false
is_of_registration path.SimpleRd = false
is_of_registration (path.Location n) = true
is_of_registration path.Res = false
is_of_registration path.Ep = false
is_of_registration path.Other = false

-- Returns whether a request is a registration: a POST to `/rd` (RFC 9176 section 5).
abbrev pub is_registration : Message → Bool
is_registration m = m.code == code_named.post && is_rd (path_in m)

-- Returns whether a request replaces the links of a registration: a PUT on its location (RFC 9176
-- section 5.3.3).
abbrev pub is_replacement : Message → Bool
is_replacement m = m.code == code_named.put && is_of_registration (path_in m)

-- Returns whether a request brings links, as a document, whole or in blocks: a registration or a
-- replacement.
abbrev pub brings_links : Message → Bool
brings_links m = is_registration m || is_replacement m

-- Returns whether a Block option has the reserved exponent (RFC 7959 section 2.2).
abbrev pub says_no_block : Option (List ℕ) → Bool
says_no_block None = false
says_no_block (Some value) = is_none (block_read value)

-- Returns whether a payload of this length does not fit its block, if it is a block.
abbrev pub does_not_fit : Option Block → ℕ → Bool
does_not_fit None size = false
does_not_fit (Some b) size = is_misfit b size

-- Returns whether a payload of this length does not fit the block that the value of a Block option
-- encodes, if it encodes one.
abbrev pub is_misfit_of : Option (List ℕ) → ℕ → Bool
is_misfit_of None size = false
is_misfit_of (Some value) size = does_not_fit (block_read value) size

-- Returns whether a Block option has the reserved exponent, or the payload of a request that brings
-- links does not fit its Block1 (RFC 7959 sections 2.2 and 2.5).
abbrev pub has_bad_block : Message → Bool
has_bad_block m =
    says_no_block (block1_in m) || says_no_block (block2_in m)
    || (brings_links m && is_misfit_of (block1_in m) (length m.payload))

-- Returns whether a format is named that is not that of link documents.
abbrev pub is_other_format : Option ℕ → Bool
is_other_format None = false
is_other_format (Some format) = not (format == link_format)

-- Returns the first refusal after that of an unrecognized critical option: proxy, path, method,
-- block, accept, format.
unfoldable pub refusal_after_options : Message → Option Refusal
refusal_after_options m =
    if has_proxy m then Some refusal.Proxy
    else if is_nowhere (path_in m) then Some refusal.Path
    else if not (allowed (path_in m) m.code) then Some refusal.Method
    else if has_bad_block m then Some refusal.Block
    else if m.code == code_named.get && is_other_format (accept_in m) then Some refusal.Accept
    else if brings_links m && is_other_format (format_in m) then Some refusal.Format
    else None

-- Returns the refusal of a first unrecognized critical option, or the later refusal if all are
-- recognized (RFC 7252 section 5.4.1).
abbrev pub option_refusal_or : Option ℕ → Option Refusal → Option Refusal
option_refusal_or (Some number) later = Some (refusal.BadOption number)
option_refusal_or None later = later

-- Returns the first refusal of a request that is decided before its query is read.
unfoldable pub refusal_of : Message → Option Refusal
refusal_of m = option_refusal_or (first_bad_option m.options) (refusal_after_options m)

-- Returns the code of a refusal (RFC 7252 section 5.9).
abbrev pub refusal_code : Refusal → ℕ
refusal_code (refusal.BadOption number) = code_named.bad_option
refusal_code refusal.Proxy = code_named.proxying_not_supported
refusal_code refusal.Path = code_named.not_found
refusal_code refusal.Method = code_named.method_not_allowed
refusal_code refusal.Block = code_named.bad_request
refusal_code refusal.Accept = code_named.not_acceptable
refusal_code refusal.Format = code_named.unsupported_content_format

-- Returns the diagnostic payload of a refusal (RFC 7252 section 5.5.2).
abbrev pub diagnostic_of : Refusal → List ℕ
diagnostic_of (refusal.BadOption number) = codes "option"
diagnostic_of refusal.Proxy = codes "proxy"
diagnostic_of refusal.Path = codes "path"
diagnostic_of refusal.Method = codes "method"
diagnostic_of refusal.Block = codes "block"
diagnostic_of refusal.Accept = codes "accept"
diagnostic_of refusal.Format = codes "format"
