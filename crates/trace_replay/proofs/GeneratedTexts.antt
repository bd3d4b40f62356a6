-- The lines of a generated trace: no printed line has a line feed, so what is read of the text line
-- by line are the lines that were printed.
use Rattle.std.proofs.Common.{
  ◌≡◌,
  ◌≢◌,
  ℕ,
  zero,
  suc,
  lit<,
  ◌+◌,
  ◌*◌,
  ◌/◌,
  ◌%◌,
  ◌<◌,
  ◌≤◌,
  ◌^◌,
  ◌==◌,
  inl,
  inr,
  Bool,
  true,
  false,
  cond,
  List,
  [],
  ◌∷◌,
  ◌++◌,
  map,
  codes,
  decimal,
  slice_index,
  Some,
  None,
  refl,
  ap,
  ◌∙◌,
  arith,
  append_assoc,
}
use Rattle.std.specs.Prelude.{option_map}
use Rattle.std.specs.List.{AllByRecursion}
use Rattle.std.specs.Net.Text.{ipv4_text}
use Rattle.std.proofs.NetLemmas.Alphabet.{IsDigitOrDot, All-ipv4_text}
use Rattle.std.proofs.lemmas.Bool.{ne_eqb}
use Rattle.std.proofs.lemmas.Fmt.{decimal_is_IsNumeral}
use Rattle.std.proofs.lemmas.List.Elements.{All-from_get_or, recursion_from_All}
use Rattle.std.proofs.lemmas.Nat.{mod_below}
use Rattle.std.proofs.lemmas.Str.Parse.{digit_at}
use Rattle.hex.specs.Hex.{encode_with, encode_lower, lower_digits}
use Rattle.rd_base.proofs.lemmas.Each.{each_append}
use Rattle.rd_base.specs.declared.peers.Host.TheVariants as host
use Rattle.rd_base.specs.Peers.{peer_text}
use Rattle.message_model.specs.Spelling.{spelling}
use Rattle.line_model.specs.declared.lines.Line.{Line}
use Rattle.line_model.specs.declared.lines.Line.TheVariants as line
use Rattle.line_model.specs.Datagrams.{datagram_text}
use Rattle.line_model.specs.Generator.{
  pace,
  device_registration,
  observation,
  divides,
  observer_lines,
  tick_lines,
  device_lines,
  lines_up_to,
  generated_lines,
  text_of,
  generated,
}
use Rattle.line_model.specs.Lines.{space, joined, printed_fields, line_text}
use Rattle.line_model.specs.Texts.{line_feed, lines_of}
use Rattle.trace_replay.specs.Fields.{cut, onto_first}
use Rattle.trace_replay.proofs.LineFeeds.{lines_first}

-- ---- printed lines

-- no octet is a line feed
abbrev IsNoFeed : ℕ → Type 0
IsNoFeed b = (b == 10) ≡ false

abbrev HasNoFeed : List ℕ → Type 0
HasNoFeed text = AllByRecursion IsNoFeed text

other : (b : ℕ) → b ≢ 10 → IsNoFeed b
other b h = ne_eqb b 10 h

-- so nothing is cut off there
uncut : (text : List ℕ) → HasNoFeed text → cut 10 text ≡ None
uncut [] h = refl
uncut (b ∷ bs) h =
    ap (λ t. cond t (Some ([], bs)) (option_map (onto_first b) (cut 10 bs))) h.0
    ∙ ap (option_map (onto_first b)) (uncut bs h.1)

appended : (xs ys : List ℕ) → HasNoFeed xs → HasNoFeed ys → HasNoFeed (xs ++ ys)
appended xs ys h k = each_append IsNoFeed xs ys h k

decimal_feedless : (n : ℕ) → n < 2 ^ 64 → HasNoFeed (decimal n)
decimal_feedless n small =
    recursion_from_All IsNoFeed (decimal n) (All-from_get_or IsNoFeed (decimal n) 0 λ i h.
    let range = digit_at (decimal n) i (decimal_is_IsNumeral n small).0.1 h in
    other _ (λ e. omega (arith, e, range)))

digit_or_dot : (b : ℕ) → IsDigitOrDot b → IsNoFeed b
digit_or_dot b (inl r) = other b (λ e. omega (arith, e, r))
digit_or_dot b (inr r) = other b (λ e. omega (arith, e, r))

peer_feedless : (octets : List ℕ) (port : ℕ)
    → ((k : ℕ) → slice_index octets k < 2 ^ 8)
    → port < 2 ^ 16
    → HasNoFeed (peer_text (record { host = host.V4 octets; port = port }))
unfolding peer_text
peer_feedless octets port fits small =
    appended (ipv4_text octets ++ codes ":") (decimal port)
    (appended (ipv4_text octets) (codes ":") (recursion_from_All IsNoFeed (ipv4_text octets)
    (λ k d h. digit_or_dot _ (All-ipv4_text octets fits k d h))) (refl, tt))
    (decimal_feedless port (omega (arith, small)))

-- an element of a list each of which is so, or 0 past its end
at_index : (P : ℕ → Type 0) (xs : List ℕ)
    → AllByRecursion P xs
    → P 0
    → (k : ℕ)
    → P (slice_index xs k)
at_index P [] h past k = past
at_index P (x ∷ xs) h past zero = h.0
at_index P (x ∷ xs) h past (suc k) = at_index P xs h.1 past k

-- a digit, whatever it is of
digit_feedless : (d : ℕ) → IsNoFeed (slice_index lower_digits d)
digit_feedless d =
    at_index IsNoFeed lower_digits (
      refl,
      (
        refl,
        (
          refl,
          (
            refl,
            (
              refl,
              (
                refl,
                (
                  refl,
                  (
                    refl,
                    (
                      refl,
                      (
                        refl,
                        (
                          refl,
                          (
                            refl,
                            (
                              refl,
                              (refl, (refl, (refl, tt))),
                            ),
                          ),
                        ),
                      ),
                    ),
                  ),
                ),
              ),
            ),
          ),
        ),
      ),
    )
    refl d

octets_feedless : (octets : List ℕ) → HasNoFeed (encode_lower octets)
unfolding encode_with
octets_feedless [] = tt
octets_feedless (octet ∷ octets) =
    (digit_feedless (octet / 16), (digit_feedless (octet % 16), octets_feedless octets))

datagram_feedless : (octets : List ℕ) → HasNoFeed (datagram_text octets)
datagram_feedless [] = (refl, tt)
datagram_feedless (octet ∷ octets) = octets_feedless (octet ∷ octets)

-- fields with spaces between them
fields_feedless : (parts : List (List ℕ))
    → AllByRecursion HasNoFeed parts
    → HasNoFeed (joined parts)
fields_feedless [] h = tt
fields_feedless (part ∷ []) h = h.0
fields_feedless (part ∷ next ∷ parts) h =
    appended part (space ∷ joined (next ∷ parts)) h.0 (refl, fields_feedless (next ∷ parts) h.1)

abbrev IsFeedless : Line → Type 0
IsFeedless l = HasNoFeed (line_text l)

come_feedless : (worker at : ℕ) (octets : List ℕ) (port : ℕ) (datagram : List ℕ)
    → worker < 2 ^ 64
    → at < 2 ^ 64
    → ((k : ℕ) → slice_index octets k < 2 ^ 8)
    → port < 2 ^ 16
    → IsFeedless
    (line.Come worker (record { 0 = at }) (record { host = host.V4 octets; port = port })
    datagram 0)
unfolding line_text
come_feedless worker at octets port datagram hw hm fits small =
    fields_feedless (printed_fields
    (line.Come worker (record { 0 = at }) (record { host = host.V4 octets; port = port })
    datagram 0)) (
      (refl, (refl, tt)),
      (
        decimal_feedless worker hw,
        (
          decimal_feedless at hm,
          (peer_feedless octets port fits small, (datagram_feedless datagram, tt)),
        ),
      ),
    )

go_feedless : (worker at : ℕ)
    → worker < 2 ^ 64
    → at < 2 ^ 64
    → IsFeedless (line.Go worker (record { 0 = at }))
unfolding line_text
go_feedless worker at hw hm =
    fields_feedless (printed_fields (line.Go worker (record { 0 = at })))
    ((refl, (refl, tt)), (decimal_feedless worker hw, (decimal_feedless at hm, tt)))

tick_feedless : (worker at word : ℕ)
    → worker < 2 ^ 64
    → at < 2 ^ 64
    → word < 2 ^ 64
    → IsFeedless (line.Tick worker (record { 0 = at }) word)
unfolding line_text
tick_feedless worker at word hw hm hx =
    fields_feedless (printed_fields (line.Tick worker (record { 0 = at }) word)) (
      (refl, (refl, (refl, (refl, tt)))),
      (decimal_feedless worker hw, (decimal_feedless at hm, by (word == 0))),
    )
  where
    by : (b : Bool) → AllByRecursion HasNoFeed (cond b [] (decimal word ∷ []))
    by true = tt
    by false = (decimal_feedless word hx, tt)

-- ---- the lines of a trace

-- what is read of lines that were printed
texts_of : (lines : List Line)
    → AllByRecursion IsFeedless lines
    → lines_of (text_of lines) ≡ map line_text lines
unfolding lines_of
texts_of [] h = refl
texts_of (l ∷ lines) h =
    ap lines_of (append_assoc (line_text l) (line_feed ∷ []) (text_of lines))
    ∙ (lines_first (line_text l) (text_of lines) (uncut (line_text l) h.0)
    ∙ ap (λ (texts : List (List ℕ)). line_text l ∷ texts) (texts_of lines h.1))

-- each line of a generated trace has what each line of a device and the last tick have
one_or_none : (P : Line → Type 0) (b : Bool) (l : Line)
    → P l
    → AllByRecursion P (cond b (l ∷ []) [])
one_or_none P true l h = (h, tt)
one_or_none P false l h = tt

up_to : (P : Line → Type 0) (workers devices : ℕ)
    → ((i : ℕ) → i ≤ devices → AllByRecursion P (device_lines workers i))
    → AllByRecursion P (lines_up_to workers devices)
up_to P workers zero each = tt
up_to P workers (suc n) each =
    each_append P (lines_up_to workers n) (device_lines workers (suc n))
    (up_to P workers n (λ i low. each i (omega (arith, low)))) (each (suc n) (omega arith))

-- the octets of where devices are
device_fits : (i : ℕ)
    → i < 2 ^ 16
    → (k : ℕ)
    → slice_index (10 ∷ 0 ∷ i / 256 ∷ i % 256 ∷ []) k < 2 ^ 8
device_fits i small k =
    at_index (λ x. x < 2 ^ 8) (10 ∷ 0 ∷ i / 256 ∷ i % 256 ∷ [])
    (lit< tt, (lit< tt, (omega (arith, small), (omega arith, tt)))) (lit< tt) k

onlooker_fits : (k : ℕ) → slice_index (10 ∷ 1 ∷ 0 ∷ 1 ∷ []) k < 2 ^ 8
onlooker_fits k =
    at_index (λ x. x < 2 ^ 8) (10 ∷ 1 ∷ 0 ∷ 1 ∷ []) (lit< tt, (lit< tt, (lit< tt, (lit< tt, tt))))
    (lit< tt) k

device_feedless : (workers i : ℕ)
    → 0 < workers
    → workers ≤ 16
    → i ≤ 4_000
    → AllByRecursion IsFeedless (device_lines workers i)
device_feedless workers i some few low =
    let turn = mod_below i workers some in
    let worker : i % workers < 2 ^ 64 = omega (arith, turn, few) in (
      come_feedless (i % workers) (pace * i) (10 ∷ 0 ∷ i / 256 ∷ i % 256 ∷ []) 5_683
          (spelling (device_registration i)) worker (omega (arith, low))
          (device_fits i (omega (arith, low))) (lit< tt),
      (
        go_feedless (i % workers) (pace * i + 1) worker (omega (arith, low)),
        each_append IsFeedless (observer_lines workers i) (tick_lines workers i)
            (one_or_none IsFeedless (divides 10 i) _
            (come_feedless (i % workers) (pace * i + 2) (10 ∷ 1 ∷ 0 ∷ 1 ∷ []) 40_000
            (spelling (observation i)) worker (omega (arith, low)) onlooker_fits (lit< tt)))
            (one_or_none IsFeedless (divides 100 i) _
            (tick_feedless (i % workers) (pace * i + 3) i worker (omega (arith, low))
            (omega (arith, low)))),
      ),
    )

-- the texts of a generated trace are those of its lines
pub generated_texts : (devices workers : ℕ)
    → 1 ≤ workers
    → workers ≤ 16
    → devices ≤ 4_000
    → lines_of (generated devices workers) ≡ map line_text (generated_lines devices workers)
unfolding generated generated_lines
generated_texts devices workers some few low =
    texts_of (generated_lines devices workers)
    (each_append IsFeedless (lines_up_to workers devices)
    (line.Tick 0 (record { 0 = pace * devices + 10 }) 0 ∷ [])
    (up_to IsFeedless workers devices
    (λ i within. device_feedless workers i (omega (arith, some)) few
    (omega (arith, within, low))))
    (tick_feedless 0 (pace * devices + 10) 0 (omega arith) (omega (arith, low)) (omega arith), tt))
