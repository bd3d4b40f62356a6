-- The octets of a request, by its datagram.
use Rattle.std.proofs.Common.{
  ◌≡◌,
  ℕ,
  ◌+◌,
  ◌-◌,
  ◌*◌,
  ◌≤◌,
  List,
  [],
  ◌∷◌,
  ◌++◌,
  length,
  drop,
  refl,
  sym,
  ap,
  ◌∙◌,
  append_assoc,
  arith,
}
use Rattle.std.proofs.lemmas.List.{length-append}
use Rattle.message_model.specs.Spelling.{
  header_spelling,
  options_spelling,
  payload_spelling,
  spelling,
}
use Rattle.stream_model.specs.declared.signals.TheConstants as signals
use Rattle.stream_model.specs.Messages.{nibble_of, extension_of, lengths_spelling}
use Rattle.client_model.specs.declared.asks.Ask.{Ask}
use Rattle.client_model.specs.Requests.{CanBeSent, ask_size, message_of}
use Rattle.client_model.proofs.RequestLaws.{size_of_message}
use Rattle.stream_registrant.specs.Saying.{abort, request_octets}

abbrev tail_of : Ask → List ℕ
tail_of ask = options_spelling 0 ask.options ++ payload_spelling ask.payload

rest_in : (ask : Ask) (token d : List ℕ)
    → d ≡ spelling (message_of ask 0 token)
    → drop 4 d ≡ token ++ tail_of ask
unfolding spelling header_spelling
rest_in ask token d is = ap (drop 4) is

-- The lengths, the code, and what stands behind the header of the datagram are the message.
pub request_put : (ask : Ask) (token d rest before octets : List ℕ) (code n : ℕ)
    → length token ≡ 8
    → code ≡ ask.code
    → d ≡ spelling (message_of ask 0 token)
    → rest ≡ drop 4 d
    → n ≡ length rest - 8
    → octets
    ≡ ((before ++ ((nibble_of n * 16 + 8) ∷ extension_of n)) ++ code ∷ []) ++ rest
    → octets ≡ before ++ request_octets ask token
unfolding lengths_spelling
request_put ask token d rest before octets code n eight code_is is parts size put =
    let rest_is = parts ∙ rest_in ask token d is in
    let whole : n ≡ length (tail_of ask) =
    (let both = ap (λ (x : List ℕ). length x) rest_is ∙ length-append token (tail_of ask) in
    omega (arith, size, both, eight)) in
    put
    ∙ ap (λ (x : List ℕ). ((before ++ ((nibble_of n * 16 + 8) ∷ extension_of n)) ++ code ∷ []) ++ x)
    rest_is
    ∙ ap (λ (x : ℕ). ((before ++ ((nibble_of n * 16 + 8) ∷ extension_of n)) ++ x ∷ [])
    ++ (token ++ tail_of ask)) code_is
    ∙ ap (λ (x : ℕ). ((before ++ ((nibble_of x * 16 + 8) ∷ extension_of x)) ++ ask.code ∷ [])
    ++ (token ++ tail_of ask)) whole
    ∙ ap (λ (x : ℕ). ((before ++ ((nibble_of (length (tail_of ask)) * 16 + x)
    ∷ extension_of (length (tail_of ask)))) ++ ask.code ∷ []) ++ (token ++ tail_of ask))
    (sym eight)
    ∙ append_assoc
    (before ++ ((nibble_of (length (tail_of ask)) * 16 + length token)
    ∷ extension_of (length (tail_of ask))))
    (ask.code ∷ []) (token ++ tail_of ask)
    ∙ append_assoc before
    ((nibble_of (length (tail_of ask)) * 16 + length token)
    ∷ extension_of (length (tail_of ask)))
    (ask.code ∷ (token ++ tail_of ask))

-- How long the datagram of an ask is.
pub datagram_fits : (ask : Ask) (token d : List ℕ)
    → length token ≡ 8
    → CanBeSent ask
    → d ≡ spelling (message_of ask 0 token)
    → (12 ≤ length d) × (length d ≤ 1280)
datagram_fits ask token d eight sent is =
    let size : length d ≡ ask_size ask =
    ap (λ (x : List ℕ). length x) is ∙ size_of_message ask 0 token eight in
    let most : ask_size ask ≤ 1280 = sent.size in
    (omega (arith, size), omega (arith, size, most))

-- The octets of an Abort.
pub abort_octets : 0 ∷ signals.ABORT ∷ [] ≡ abort
unfolding lengths_spelling nibble_of extension_of
abort_octets = refl
