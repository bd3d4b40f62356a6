-- The requests of fetches are short.
use Rattle.std.proofs.Common.{
  ◌≡◌,
  ℕ,
  ltb,
  true,
  ◌+◌,
  ◌≤◌,
  ◌<◌,
  List,
  [],
  ◌∷◌,
  ◌++◌,
  length,
  codes,
  refl,
  ap,
  sym,
  ◌∙◌,
  lt-ltb,
  arith,
  None,
  Some,
}
use Rattle.std.proofs.lemmas.List.{append-nil, length-append}
use Rattle.message_model.specs.declared.messages.Kind4.TheVariants.{Con}
use Rattle.message_model.specs.declared.blocks.Block.{Block}
use Rattle.message_model.specs.Codes as codes_of
use Rattle.message_model.specs.Message.{Message, Opt, longest_token}
use Rattle.message_model.specs.OptionTable as table
use Rattle.message_model.specs.Spelling.{
  header_spelling,
  nibble_of,
  extension_of,
  option_spelling,
  options_spelling,
  payload_spelling,
  spelling,
}
use Rattle.message_model.specs.FetchRequests.{fetch_request}
use Rattle.coap_message.specs.PartialMessages.{longest_datagram}

-- a request with these options
request_with : ℕ → List ℕ → List Opt → Message
request_with mid token options = record {
  kind = Con;
  code = codes_of.get;
  mid = mid;
  token = token;
  options = options;
  payload = [];
}

-- it is as long as its token and its options, and four octets more
request_size : (mid : ℕ) (token : List ℕ) (options : List Opt)
    → length (spelling (request_with mid token options))
    ≡ 4 + (length token + length (options_spelling 0 options))
unfolding request_with spelling header_spelling payload_spelling
request_size mid token options =
    let rest = length-append token (options_spelling 0 options ++ []) in
    let end = ap length (append-nil (options_spelling 0 options)) in
    omega (arith, rest, end)

-- its options
path : Opt
path = (table.uri_path, codes ".well-known")

core : Opt
core = (table.uri_path, codes "core")

path_size : length (options_spelling 0 (path ∷ [])) ≡ 12
unfolding path options_spelling option_spelling nibble_of extension_of
path_size = refl

core_size : length (options_spelling 0 (path ∷ core ∷ [])) ≡ 17
unfolding path core options_spelling option_spelling nibble_of extension_of
core_size = refl

-- with a value of at most three octets
block_size_is : (value : List ℕ)
    → length value ≤ 3
    → length (options_spelling 0 (path ∷ core ∷ (table.block2, value) ∷ [])) ≡ 18 + length value
unfolding path core options_spelling option_spelling nibble_of extension_of
block_size_is value short =
    let few : ltb (length value) 13 ≡ true = lt-ltb (length value) 13 (omega (arith, short)) in
    let whole = ap length (append-nil value) in
    rw few (omega (arith, whole))

pub short_path : (mid : ℕ) (token : List ℕ)
    → length token ≤ longest_token
    → length
    (spelling (record {
      kind = Con;
      code = codes_of.get;
      mid = mid;
      token = token;
      options =
          (table.uri_path, codes ".well-known")
          ∷ [];
      payload = [];
    }))
    ≤ longest_datagram
unfolding request_with path
short_path mid token short =
    let size = request_size mid token (path ∷ []) in
    let options = path_size in omega (arith, size, options, short)

pub short_core : (mid : ℕ) (token : List ℕ)
    → length token ≤ longest_token
    → length (spelling (fetch_request mid token None)) ≤ longest_datagram
unfolding request_with path core
short_core mid token short =
    let size = request_size mid token (path ∷ core ∷ []) in
    let options = core_size in omega (arith, size, options, short)

pub short_block : (mid : ℕ) (token value : List ℕ) → length token ≤ longest_token → length value ≤ 3
    → length
    (spelling (record {
      kind = Con;
      code = codes_of.get;
      mid = mid;
      token = token;
      options =
          (table.uri_path, codes ".well-known")
          ∷ (table.uri_path, codes "core")
          ∷ (table.block2, value)
          ∷ [];
      payload = [];
    }))
    ≤ longest_datagram
unfolding request_with path core
short_block mid token value short few =
    let size = request_size mid token (path ∷ core ∷ (table.block2, value) ∷ []) in
    let options = block_size_is value few in omega (arith, size, options, short, few)

-- a message is spelled in octets
pub spelled_some : (m : Message) → 0 < length (spelling m)
unfolding spelling header_spelling
spelled_some m = omega arith
