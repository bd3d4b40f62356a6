-- Traces of as many uploads, and as many fetches, as there may be, and of one more.
use Rattle.std.proofs.Common.{◌≡◌, ℕ, ◌+◌, List, [], ◌∷◌, ◌++◌, flat_map, codes, decimal, refl}
use Rattle.std.specs.List.{range_with_len}
use Rattle.message_model.specs.declared.messages.Kind4.TheVariants.{Con, Ack}
use Rattle.message_model.specs.Codes as codes_of
use Rattle.message_model.specs.Message.{Message, Opt}
use Rattle.message_model.specs.OptionTable as table
use Rattle.message_model.specs.Spelling.{spelling}
use Rattle.line_model.specs.Datagrams.{datagram_text}
use Rattle.trace_model.specs.Output.{output}
use Rattle.trace_model.proofs.OnLiterals.{output_on_literals}
use Rattle.trace_model.proofs.OutputLines.{lines, writes}

-- the peers 192.0.3.1 to 192.0.3.64, by their last number
abbrev peers : List ℕ
peers = range_with_len 1 64

-- a message that comes from a peer, and is done at once
abbrev posts : Message → ℕ → List (List ℕ)
posts m k =
    (codes "in 0 5 192.0.3." ++ (decimal k ++ (codes ":5683 " ++ datagram_text (spelling m))))
    ∷ codes "go 0 5"
    ∷ []

-- a message that is sent to a peer
abbrev sent : List ℕ → ℕ → List ℕ
sent octets k = codes "out 0 192.0.3." ++ (decimal k ++ (codes ":5683 " ++ octets))

-- the first block of a body: CON 0.02 m=0001 [11 rd][15 ep=n][27 x08] | 0123456789abcdef
abbrev first_block : Message
first_block = record {
  kind = Con;
  code = codes_of.post;
  mid = 1;
  token = [];
  options =
      (table.uri_path, codes "rd") ∷ (table.uri_query, codes "ep=n") ∷ (table.block1, 8 ∷ []) ∷ [];
  payload = codes "0123456789abcdef";
}

-- 64 uploads get 2.31, and the next 5.03 `uploads`
full_of_uploads : output 1 (lines (flat_map (posts first_block) peers ++ posts first_block 65))
    ≡ writes (flat_map (λ k. sent (codes "605f0001d10e08") k ∷ []) peers
    ++ sent (codes "60a30001ff75706c6f616473") 65
    ∷ codes "end 0 0 0"
    ∷ [])
unfolding output_on_literals
full_of_uploads = refl

-- a simple registration with an Echo, where there is one: CON 0.02 [11 .well-known][11 rd][15 ep=s]
abbrev simple : ℕ → List Opt → Message
simple mid echo = record {
  kind = Con;
  code = codes_of.post;
  mid = mid;
  token = [];
  options =
      (table.uri_path, codes ".well-known")
      ∷ (table.uri_path, codes "rd")
      ∷ (table.uri_query, codes "ep=s")
      ∷ echo;
  payload = [];
}

-- the value by which a peer is challenged, after so many challenges
abbrev value : ℕ → List ℕ
value made = 0 ∷ 0 ∷ 0 ∷ 0 ∷ 0 ∷ 0 ∷ 0 ∷ made ∷ []

-- a peer asks, is challenged after so many challenges, and asks with that value
abbrev asks : ℕ → ℕ → List (List ℕ)
asks made k =
    (codes "in 0 5 192.0.3."
    ++ (decimal k ++ (codes ":5683 " ++ datagram_text (spelling (simple 4 [])))))
    ∷ posts (simple 5 ((table.echo, value made) ∷ [])) k

-- the challenge
abbrev challenge : ℕ → Message
challenge made = record {
  kind = Ack;
  code = codes_of.unauthorized;
  mid = 4;
  token = [];
  options = (table.echo, value made) ∷ [];
  payload = [];
}

-- the request of the fetch of a peer: CON 0.01 m=0000 t=0000000000000001 [11 .well-known][11 core],
-- one more for each
abbrev asked : ℕ → Message
asked k = record {
  kind = Con;
  code = codes_of.get;
  mid = k;
  token = 0 ∷ 0 ∷ 0 ∷ 0 ∷ 0 ∷ 0 ∷ 0 ∷ (k + 1) ∷ [];
  options = (table.uri_path, codes ".well-known") ∷ (table.uri_path, codes "core") ∷ [];
  payload = [];
}

abbrev challenged : ℕ → List ℕ
challenged k = sent (datagram_text (spelling (challenge k))) (k + 1)

abbrev fetched : ℕ → List (List ℕ)
fetched k =
    challenged k
    ∷ sent (codes "60440005") (k + 1)
    ∷ sent (datagram_text (spelling (asked k))) (k + 1)
    ∷ []

-- 64 fetches start, and the next is refused by 5.03 `fetches`
full_of_fetches :
    output 1 (lines (flat_map (λ k. asks k (k + 1)) (range_with_len 0 64) ++ asks 64 65))
    ≡ writes (flat_map fetched (range_with_len 0 64)
    ++ challenged 64
    ∷ sent (codes "60a30005ff66657463686573") 65
    ∷ codes "end 0 0 0"
    ∷ [])
unfolding output_on_literals
full_of_fetches = refl
