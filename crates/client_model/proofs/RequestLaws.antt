-- How long the datagram of an ask is: neither its Message ID nor the octets of its token matter.
use Rattle.std.proofs.Common.{◌≡◌, ℕ, List, length, ◌++◌, arith}
use Rattle.std.proofs.Math.ListN.{length-append}
use Rattle.message_model.specs.Spelling.{
  header_spelling,
  options_spelling,
  payload_spelling,
  spelling,
}
use Rattle.client_model.specs.declared.asks.TheConstants.{TOKEN_SIZE}
use Rattle.client_model.specs.declared.asks.Ask.{Ask}
use Rattle.client_model.specs.Requests.{message_of, ask_size}

pub size_of_message :
    (ask : Ask) (mid : ℕ) (token : List ℕ)
    → length token ≡ TOKEN_SIZE
    → length (spelling (message_of ask mid token)) ≡ ask_size ask
unfolding spelling header_spelling
size_of_message ask mid token eight =
    let options = options_spelling 0 ask.options in
    let payload = payload_spelling ask.payload in
    let whole = length-append token (options ++ payload) in
    let rest = length-append options payload in
    omega arith
