-- A generated trace is read as the lines that it was generated as.
use Rattle.std.proofs.Common.{
  ◌≡◌,
  ◌≢◌,
  ℕ,
  zero,
  suc,
  lit<,
  lit≤,
  ◌+◌,
  ◌*◌,
  ◌/◌,
  ◌%◌,
  ◌<◌,
  ◌≤◌,
  ◌^◌,
  ◌==◌,
  Bool,
  true,
  false,
  inl,
  inr,
  List,
  [],
  ◌∷◌,
  ◌++◌,
  map,
  length,
  codes,
  decimal,
  Result,
  Ok,
  slice_index,
  refl,
  sym,
  ap,
  ◌∙◌,
  arith,
  append_assoc,
  cond,
}
use Rattle.std.proofs.Math.Nat.{mod-lt}
use Rattle.std.proofs.lemmas.Bool.{ne_eqb}
use Rattle.std.proofs.lemmas.Option.{none-some}
use Rattle.std.proofs.lemmas.Fmt.{decimal_is_IsNumeral}
use Rattle.std.proofs.lemmas.Str.Parse.{digit_at}
use Rattle.std.proofs.lemmas.List.Elements.{All-from_get_or, recursion_from_All}
use Rattle.std.specs.List.{AllByRecursion, onto_first}
use Rattle.std.specs.Net.Text.{ipv4_text}
use Rattle.std.proofs.NetLemmas.Alphabet.{IsDigitOrDot, All-ipv4_text}
use Rattle.hex.specs.Hex.{IsBytes, encode_with, encode_lower, lower_digits, hex_digit_value}
use Rattle.hex.proofs.HexLemmas.{IsDigits-lower_digits}
use Rattle.rd_base.specs.declared.peers.Host.TheVariants as host
use Rattle.rd_base.specs.Peers.{peer_text}
use Rattle.rd_base.proofs.lemmas.Choices.{chosen_false}
use Rattle.rd_base.proofs.lemmas.Each.{each_append}
use Rattle.message_model.specs.Numbers.{AreBytes}
use Rattle.message_model.specs.Spelling.{spelling}
use Rattle.line_model.specs.declared.lines.Line.{Line}
use Rattle.line_model.specs.declared.lines.Line.TheVariants as line
use Rattle.line_model.specs.declared.lines.Reason.{Reason}
use Rattle.line_model.specs.Datagrams.{datagram_text}
use Rattle.line_model.specs.Lines.{space, joined, line_of, line_text, IsLine, come, go, tick}
use Rattle.line_model.specs.Texts.{line_feed, lines_of}
use Rattle.line_model.specs.Generator.{
  pace,
  device_registration,
  observation,
  divides,
  observer_lines,
  tick_lines,
  device_lines,
  lines_up_to,
  text_of,
  generated_lines,
  generated,
}
use Rattle.line_model.proofs.PrintedLines.{line_of-line_text}
use Rattle.trace_text.proofs.GeneratedRequests.{registration_short, observation_short}

-- ---- texts that no line feed parts

abbrev IsInside : ℕ → Type 0
IsInside b = (b == line_feed) ≡ false

abbrev IsOneLine : List ℕ → Type 0
IsOneLine text = AllByRecursion IsInside text

other : (b : ℕ) → b ≢ line_feed → IsInside b
other b h = ne_eqb b line_feed h

decimal_inside : (n : ℕ) → n < 2 ^ 64 → IsOneLine (decimal n)
decimal_inside n small =
    recursion_from_All IsInside (decimal n) (All-from_get_or IsInside (decimal n) 0 λ i h.
    let range = digit_at (decimal n) i (decimal_is_IsNumeral n small).0.1 h in
    other _ (λ e. omega (arith, e, range)))

digit_or_dot : (b : ℕ) → IsDigitOrDot b → IsInside b
digit_or_dot b (inl r) = other b (λ e. omega (arith, e, r))
digit_or_dot b (inr r) = other b (λ e. omega (arith, e, r))

-- a peer with an IPv4 address
peer_inside : (octets : List ℕ) (port : ℕ)
    → ((k : ℕ) → slice_index octets k < 2 ^ 8)
    → port < 2 ^ 16
    → IsOneLine (peer_text (record { host = host.V4 octets; port = port }))
unfolding peer_text
peer_inside octets port fits small =
    each_append IsInside (ipv4_text octets ++ codes ":") (decimal port)
    (each_append IsInside (ipv4_text octets) (codes ":")
    (recursion_from_All IsInside (ipv4_text octets)
    (λ k d h. digit_or_dot _ (All-ipv4_text octets fits k d h))) (refl, tt))
    (decimal_inside port (omega arith))

-- a line feed is no digit
lower_digit : (d : ℕ) → d < 16 → slice_index lower_digits d ≢ line_feed
lower_digit d h e = none-some d (sym (ap hex_digit_value e) ∙ IsDigits-lower_digits d h)

digits_inside : (octets : List ℕ) → AreBytes octets → IsOneLine (encode_lower octets)
unfolding encode_with
digits_inside [] h = tt
digits_inside (octet ∷ octets) h =
    let small = h.0 in (
      other _ (lower_digit (octet / 16) (omega (arith, small))),
      (other _ (lower_digit (octet % 16) (omega arith)), digits_inside octets h.1),
    )

datagram_inside : (octets : List ℕ) → AreBytes octets → IsOneLine (datagram_text octets)
datagram_inside [] h = (refl, tt)
datagram_inside (octet ∷ octets) h = digits_inside (octet ∷ octets) h

-- fields with spaces between them
joined_inside : (part : List ℕ) (parts : List (List ℕ))
    → IsOneLine part
    → AllByRecursion IsOneLine parts
    → IsOneLine (joined (part ∷ parts))
joined_inside part [] h k = h
joined_inside part (next ∷ parts) h k =
    each_append IsInside part (space ∷ joined (next ∷ parts)) h
    (refl, joined_inside next parts k.0 k.1)

-- ---- lines that are read back, each from its own text

record IsReadBack (l : Line) : Type 0 where
  inside : IsOneLine (line_text l)
  is : IsLine l

places : (octets : List ℕ) → AreBytes octets → IsBytes octets
places [] h k = lit< tt
places (octet ∷ octets) h zero = h.0
places (octet ∷ octets) h (suc k) = places octets h.1 k

four_places : (a b c d : ℕ)
    → a < 2 ^ 8
    → b < 2 ^ 8
    → c < 2 ^ 8
    → d < 2 ^ 8
    → (k : ℕ)
    → slice_index (a ∷ b ∷ c ∷ d ∷ []) k < 2 ^ 8
four_places a b c d ha hb hc hd zero = ha
four_places a b c d ha hb hc hd (suc zero) = hb
four_places a b c d ha hb hc hd (suc (suc zero)) = hc
four_places a b c d ha hb hc hd (suc (suc (suc zero))) = hd
four_places a b c d ha hb hc hd (suc (suc (suc (suc k)))) = lit< tt

-- a datagram that comes from an IPv4 address
come_back : (worker moment a b c d port : ℕ) (octets : List ℕ)
    → worker < 16
    → moment < 1_000_000
    → ((k : ℕ) → slice_index (a ∷ b ∷ c ∷ d ∷ []) k < 2 ^ 8)
    → 1 ≤ port → port < 2 ^ 16 → AreBytes octets → length octets ≤ 256
    → IsReadBack (line.Come worker (record { 0 = moment })
    (record { host = host.V4 (a ∷ b ∷ c ∷ d ∷ []); port = port }) octets 0)
unfolding line_text
come_back worker moment a b c d port octets few soon fits low high bytes short = record {
  inside =
      joined_inside (codes "in") (decimal worker
      ∷ decimal moment
      ∷ peer_text (record { host = host.V4 (a ∷ b ∷ c ∷ d ∷ []); port = port })
      ∷ datagram_text octets
      ∷ [])
      (refl, (refl, tt)) (
        decimal_inside worker (omega (arith, few)),
        (
          decimal_inside moment (omega (arith, soon)),
          (
            peer_inside (a ∷ b ∷ c ∷ d ∷ []) port fits high,
            (datagram_inside octets bytes, tt),
          ),
        ),
      );
  is =
      come (omega (arith, few)) (omega (arith, soon))
      (record { host = (refl, fits); port_low = low; port_high = high }) (omega (arith, short))
      (places octets bytes) (omega arith);
}

go_back : (worker moment : ℕ)
    → worker < 16
    → moment < 1_000_000
    → IsReadBack (line.Go worker (record { 0 = moment }))
unfolding line_text
go_back worker moment few soon = record {
  inside =
      joined_inside (codes "go") (decimal worker ∷ decimal moment ∷ []) (refl, (refl, tt)) (
        decimal_inside worker (omega (arith, few)),
        (decimal_inside moment (omega (arith, soon)), tt),
      );
  is = go (omega (arith, few)) (omega (arith, soon));
}

tick_back : (worker moment word : ℕ)
    → worker < 16
    → moment < 1_000_000
    → word < 2 ^ 16
    → IsReadBack (line.Tick worker (record { 0 = moment }) word)
unfolding line_text
tick_back worker moment word few soon small = record {
  inside =
      joined_inside (codes "tick")
      (decimal worker ∷ decimal moment ∷ cond (word == 0) [] (decimal word ∷ []))
      (refl, (refl, (refl, (refl, tt)))) (
        decimal_inside worker (omega (arith, few)),
        (decimal_inside moment (omega (arith, soon)), word_inside (word == 0)),
      );
  is = tick (omega (arith, few)) (omega (arith, soon)) (omega (arith, small));
}
  where
    word_inside : (b : Bool) → AllByRecursion IsOneLine (cond b [] (decimal word ∷ []))
    word_inside true = tt
    word_inside false = (decimal_inside word (omega (arith, small)), tt)

-- ---- generated lines

one_if : (b : Bool) (l : Line) → IsReadBack l → AllByRecursion IsReadBack (cond b (l ∷ []) [])
one_if true l h = (h, tt)
one_if false l h = tt

module _ (workers : ℕ) (some_work : 1 ≤ workers) (few : workers ≤ 16) where
  turn : (i : ℕ) → i % workers < 16
  turn i =
      let small = mod-lt i {m = workers} (omega (arith, some_work)) in omega (arith, small, few)

  device_back : (i : ℕ) → i ≤ 4_000 → AllByRecursion IsReadBack (device_lines workers i)
  device_back i small =
      let registered = registration_short i small in
      let observed = observation_short i small in
      let observers =
      one_if (divides 10 i) _
      (come_back (i % workers) (pace * i + 2) 10 1 0 1 40_000 (spelling (observation i))
      (turn i) (omega (arith, small)) (four_places 10 1 0 1 (lit< tt) (lit< tt) (lit<
      tt) (lit< tt)) (lit≤ tt) (lit< tt) observed.bytes observed.short) in
      let ticks =
      one_if (divides 100 i) _
      (tick_back (i % workers) (pace * i + 3) i (turn i) (omega (arith, small)) (omega
      (arith, small))) in (
        come_back (i % workers) (pace * i) 10 0 (i / 256) (i % 256) 5_683
            (spelling (device_registration i)) (turn i) (omega (arith, small))
            (four_places 10 0 (i / 256) (i % 256) (lit< tt) (lit< tt) (omega (arith, small))
            (omega arith)) (lit≤ tt) (lit< tt) registered.bytes registered.short,
        (
          go_back (i % workers) (pace * i + 1) (turn i) (omega (arith, small)),
          each_append IsReadBack (observer_lines workers i) (tick_lines workers i) observers ticks,
        ),
      )

  up_to_back : (n : ℕ) → n ≤ 4_000 → AllByRecursion IsReadBack (lines_up_to workers n)
  up_to_back zero small = tt
  up_to_back (suc n) small =
      each_append IsReadBack (lines_up_to workers n) (device_lines workers (suc n))
      (up_to_back n (omega (arith, small))) (device_back (suc n) small)

  generated_back : (devices : ℕ)
      → devices ≤ 4_000
      → AllByRecursion IsReadBack (generated_lines devices workers)
  unfolding generated_lines
  generated_back devices small =
      each_append IsReadBack (lines_up_to workers devices)
      (line.Tick 0 (record { 0 = pace * devices + 10 }) 0 ∷ [])
      (up_to_back devices small)
      (tick_back 0 (pace * devices + 10) 0 (lit< tt) (omega (arith, small)) (lit< tt), tt)

-- ---- the law

-- a line ends at its line feed
cut_line : (text rest : List ℕ)
    → IsOneLine text
    → lines_of (text ++ line_feed ∷ rest) ≡ text ∷ lines_of rest
unfolding lines_of
cut_line [] rest h = refl
cut_line (b ∷ text) rest h =
    chosen_false (b == line_feed) ([] ∷ lines_of (text ++ line_feed ∷ rest))
    (onto_first b (lines_of (text ++ line_feed ∷ rest))) h.0
    ∙ ap (λ (parts : List (List ℕ)). onto_first b parts) (cut_line text rest h.1)

read_lines : (ls : List Line)
    → AllByRecursion IsReadBack ls
    → map line_of (lines_of (text_of ls)) ≡ map (λ l. Ok l) ls
unfolding lines_of
read_lines [] h = refl
read_lines (l ∷ ls) h =
    ap (λ (text : List ℕ). map line_of (lines_of text))
    (append_assoc (line_text l) (line_feed ∷ []) (text_of ls))
    ∙ ap (λ (parts : List (List ℕ)). map line_of parts)
    (cut_line (line_text l) (text_of ls) h.0.inside)
    ∙ ap (λ (first : Result Line Reason). first ∷ map line_of (lines_of (text_of ls)))
    (line_of-line_text l h.0.is)
    ∙ ap (λ (later : List (Result Line Reason)). Ok l ∷ later) (read_lines ls h.1)

-- who reads a generated trace line by line reads exactly the lines that were generated
-- An end theorem: nothing here cites it.
pub generated-read : (devices workers : ℕ) → devices ≤ 4_000 → 1 ≤ workers → workers ≤ 16
    → map line_of (lines_of (generated devices workers))
    ≡ map (λ l. Ok l) (generated_lines devices workers)
unfolding generated
generated-read devices workers small some_work few =
    read_lines (generated_lines devices workers)
    (generated_back workers some_work few devices small)
