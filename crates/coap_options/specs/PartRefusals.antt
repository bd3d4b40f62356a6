-- The refusals by the parts of a request.
use Rattle.std.specs.Prelude.{
  ℕ,
  Bool,
  not,
  ◌&&◌,
  ◌||◌,
  List,
  Option,
  Some,
  None,
  ◌==◌,
  if◌then◌else◌,
}
use Rattle.message_model.specs.declared.requests.Path.{Path}
use Rattle.message_model.specs.declared.requests.Refusal.{Refusal}
use Rattle.message_model.specs.declared.requests.Refusal.TheVariants as refusal
use Rattle.message_model.specs.Codes as code_named
use Rattle.message_model.specs.Request.{allowed}
use Rattle.message_model.specs.Refusals.{
  is_nowhere,
  is_rd,
  is_of_registration,
  says_no_block,
  is_misfit_of,
  is_other_format,
}

-- Returns whether a request brings links, as a document: a POST to `/rd` registers, and a PUT on
-- the location of a registration replaces its links (RFC 9176 sections 5 and 5.3.3).
abbrev pub brings_links : ℕ → Path → Bool
brings_links code path =
    (code == code_named.post && is_rd path) || (code == code_named.put && is_of_registration path)

-- Returns whether a Block option has the reserved exponent, or the payload of a request that brings
-- links does not fit its Block1 (RFC 7959 sections 2.2 and 2.5).
abbrev pub has_bad_block : Bool → Option (List ℕ) → Option (List ℕ) → ℕ → Bool
has_bad_block with_links block1 block2 size =
    says_no_block block1 || says_no_block block2 || (with_links && is_misfit_of block1 size)

-- Returns the first refusal after that of an unrecognized critical option. The arguments are
-- method, path, proxy, both blocks, accepted format, format and length of the payload.
unfoldable pub refusal_of_parts : ℕ
    → Path
    → Bool
    → Option (List ℕ)
    → Option (List ℕ)
    → Option ℕ
    → Option ℕ
    → ℕ
    → Option Refusal
refusal_of_parts code path proxy block1 block2 accept format size =
    if proxy then Some refusal.Proxy
    else if is_nowhere path then Some refusal.Path
    else if not (allowed path code) then Some refusal.Method
    else if has_bad_block (brings_links code path) block1 block2 size then Some refusal.Block
    else if code == code_named.get && is_other_format accept then Some refusal.Accept
    else if brings_links code path && is_other_format format then Some refusal.Format
    else None
