-- A printed line is read back as the line that it prints.
use Rattle.std.proofs.Common.{
  ◌≡◌,
  ℕ,
  ◌+◌,
  ◌≤◌,
  ◌==◌,
  List,
  [],
  ◌∷◌,
  length,
  codes,
  decimal,
  Some,
  Ok,
  Err,
  ok_or,
  nat_lt,
  refl,
  sym,
  ap,
  subst,
  inl,
  inr,
  ◌≢◌,
  ◌∙◌,
  arith,
  length-append,
}
use Rattle.std.specs.List.{AllByRecursion}
use Rattle.std.proofs.lemmas.Bool.{le-ltb, cases_eq, eq-eqb, ne_eqb}
use Rattle.std.proofs.lemmas.Fmt.{length-decimal-le}
use Rattle.hex.specs.Hex.{IsBytes}
use Rattle.rd_base.specs.declared.moments.Moment.{Moment}
use Rattle.rd_base.specs.declared.peers.Peer.{Peer}
use Rattle.line_model.specs.declared.lines.Line.{Line}
use Rattle.line_model.specs.declared.lines.Line.TheVariants as line
use Rattle.line_model.specs.declared.lines.Reason.TheVariants as reason
use Rattle.line_model.specs.Numbers.{max_worker, max_moment, max_word, max_first}
use Rattle.rd_base.specs.Peers.{IsPeer, peer_text}
use Rattle.line_model.specs.Datagrams.{max_datagram, datagram_text}
use Rattle.line_model.specs.Lines.{
  space,
  max_line,
  fields,
  joined,
  come_of,
  go_of,
  tick_of,
  begin_of,
  said_by,
  line_of,
  word_fields,
  printed_fields,
  line_text,
  IsLine,
  come,
  go,
  tick,
  begin,
}
use Rattle.line_model.proofs.Numbers.{number_of-decimal}
use Rattle.rd_base.proofs.PeerTexts.{peer_of-peer_text}
use Rattle.line_model.proofs.Datagrams.{datagram_of-datagram_text}
use Rattle.line_model.proofs.Spaces.{
  HasNoSpace,
  decimal_spaceless,
  peer_spaceless,
  datagram_spaceless,
}
use Rattle.line_model.proofs.Lengths.{length-peer_text, length-datagram_text}
use Rattle.line_model.proofs.Fields.{fields-joined}
use Rattle.rd_base.proofs.lemmas.Choices.{chosen_true, chosen_false}

-- what is said by fields is said by the line that they make, where it is not too long
pub line_of_fields : (text : List ℕ) (l : Line)
    → length text ≤ max_line
    → said_by (fields text) ≡ Some l
    → line_of text ≡ Ok l
unfolding line_of
line_of_fields text l short said =
    chosen_false (nat_lt max_line (length text)) (Err reason.Long)
    (ok_or (said_by (fields text)) reason.Form) (le-ltb max_line (length text) short)
    ∙ ap (λ o. ok_or o reason.Form) said

-- a word of 0 is left out, and any other is not
no_word : (word : ℕ) → word ≡ 0 → word_fields word ≡ []
no_word word e = chosen_true (word == 0) [] (decimal word ∷ []) (eq-eqb word 0 e)

some_word : (word : ℕ) → word ≢ 0 → word_fields word ≡ decimal word ∷ []
some_word word e = chosen_false (word == 0) [] (decimal word ∷ []) (ne_eqb word 0 e)

-- the fields of each kind of line say it: those of a datagram that comes, with the word left out or
-- not
come_0 : (worker : ℕ) (moment : Moment) (peer : Peer) (octets : List ℕ)
    → worker ≤ max_worker
    → moment.0 ≤ max_moment
    → IsPeer peer
    → length octets ≤ max_datagram
    → IsBytes octets
    → said_by (codes "in"
    ∷ decimal worker
    ∷ decimal moment.0
    ∷ peer_text peer
    ∷ datagram_text octets
    ∷ [])
    ≡ Some (line.Come worker moment peer octets 0)
unfolding said_by come_of
come_0 worker moment peer octets hw hm hp hs hb =
    rw (
      number_of-decimal max_worker worker hw (omega arith),
      number_of-decimal max_moment moment.0
          hm (omega arith),
      peer_of-peer_text peer hp,
      datagram_of-datagram_text octets hs hb,
    )

come_word : (worker : ℕ) (moment : Moment) (peer : Peer) (octets : List ℕ) (word : ℕ)
    → worker ≤ max_worker
    → moment.0 ≤ max_moment
    → IsPeer peer
    → length octets ≤ max_datagram
    → IsBytes octets
    → word ≤ max_word
    → said_by (codes "in"
    ∷ decimal worker
    ∷ decimal moment.0
    ∷ peer_text peer
    ∷ datagram_text octets
    ∷ decimal word
    ∷ [])
    ≡ Some (line.Come worker moment peer octets word)
unfolding said_by come_of
come_word worker moment peer octets word hw hm hp hs hb hx =
    rw (
      number_of-decimal max_worker worker hw (omega arith),
      number_of-decimal max_moment moment.0
          hm (omega arith),
      peer_of-peer_text peer hp,
      datagram_of-datagram_text octets hs hb,
      number_of-decimal max_word word hx (omega arith),
    )

come_said : (worker : ℕ) (moment : Moment) (peer : Peer) (octets : List ℕ) (word : ℕ)
    → worker ≤ max_worker
    → moment.0 ≤ max_moment
    → IsPeer peer
    → length octets ≤ max_datagram
    → IsBytes octets
    → word ≤ max_word
    → said_by (printed_fields (line.Come worker moment peer octets word))
    ≡ Some (line.Come worker moment peer octets word)
come_said worker moment peer octets word hw hm hp hs hb hx =
    let front : List (List ℕ) → List (List ℕ) =
    λ ps.
    codes "in"
    ∷ decimal worker
    ∷ decimal moment.0
    ∷ peer_text peer
    ∷ datagram_text octets
    ∷ ps
    in
    elim (cases_eq word 0) [
      | inl e ↦ ap (λ ps. said_by (front ps)) (no_word word e)
          ∙ come_0 worker moment peer octets hw hm hp hs hb
          ∙ ap (λ x. Some (line.Come worker moment peer octets x)) (sym e)
      | inr e ↦ ap (λ ps. said_by (front ps)) (some_word word e)
          ∙ come_word worker moment peer octets word hw hm hp hs hb hx
    ]

go_said : (worker : ℕ) (moment : Moment)
    → worker ≤ max_worker
    → moment.0 ≤ max_moment
    → said_by (printed_fields (line.Go worker moment)) ≡ Some (line.Go worker moment)
unfolding said_by go_of
go_said worker moment hw hm =
    rw (
      number_of-decimal max_worker worker hw (omega arith),
      number_of-decimal max_moment moment.0
          hm (omega arith),
    )

-- the fields of a tick, with the word left out or not
tick_0 : (worker : ℕ) (moment : Moment)
    → worker ≤ max_worker
    → moment.0 ≤ max_moment
    → said_by (codes "tick" ∷ decimal worker ∷ decimal moment.0 ∷ [])
    ≡ Some (line.Tick worker moment 0)
unfolding said_by tick_of
tick_0 worker moment hw hm =
    rw (
      number_of-decimal max_worker worker hw (omega arith),
      number_of-decimal max_moment moment.0
          hm (omega arith),
    )

tick_word : (worker : ℕ) (moment : Moment) (word : ℕ)
    → worker ≤ max_worker
    → moment.0 ≤ max_moment
    → word ≤ max_word
    → said_by (codes "tick" ∷ decimal worker ∷ decimal moment.0 ∷ decimal word ∷ [])
    ≡ Some (line.Tick worker moment word)
unfolding said_by tick_of
tick_word worker moment word hw hm hx =
    rw (
      number_of-decimal max_worker worker hw (omega arith),
      number_of-decimal max_moment moment.0
          hm (omega arith),
      number_of-decimal max_word word hx (omega arith),
    )

tick_said : (worker : ℕ) (moment : Moment) (word : ℕ)
    → worker ≤ max_worker
    → moment.0 ≤ max_moment
    → word ≤ max_word
    → said_by (printed_fields (line.Tick worker moment word)) ≡ Some (line.Tick worker moment word)
tick_said worker moment word hw hm hx =
    let front : List (List ℕ) → List (List ℕ) =
    λ ps. codes "tick" ∷ decimal worker ∷ decimal moment.0 ∷ ps in
    elim (cases_eq word 0) [
      | inl e ↦ ap (λ ps. said_by (front ps)) (no_word word e)
          ∙ tick_0 worker moment hw hm
          ∙ ap (λ x. Some (line.Tick worker moment x)) (sym e)
      | inr e ↦ ap (λ ps. said_by (front ps)) (some_word word e)
          ∙ tick_word worker moment word hw hm hx
    ]

begin_said : (worker : ℕ) (moment : Moment) (first : ℕ)
    → worker ≤ max_worker
    → moment.0 ≤ max_moment
    → first ≤ max_first
    → said_by (printed_fields (line.Begin worker moment first))
    ≡ Some (line.Begin worker moment first)
unfolding said_by begin_of
begin_said worker moment first hw hm hn =
    rw (
      number_of-decimal max_worker worker hw (omega arith),
      number_of-decimal max_moment moment.0
          hm (omega arith),
      number_of-decimal max_first first hn (omega arith),
    )

-- what stands in the fields has no spaces
small_spaceless : (n : ℕ) → n ≤ max_moment → HasNoSpace (decimal n)
small_spaceless n h = decimal_spaceless n (omega arith)

word_spaceless : (word : ℕ) → word ≤ max_word → AllByRecursion HasNoSpace (word_fields word)
word_spaceless word h = elim (cases_eq word 0) [
  | inl e ↦ subst (AllByRecursion HasNoSpace) (sym (no_word word e)) tt
  | inr e ↦ subst (AllByRecursion HasNoSpace) (sym (some_word word e))
      (decimal_spaceless word (omega arith), tt)
]

-- a number of a line has at most 15 digits
length-small : (n : ℕ) → n ≤ max_moment → length (decimal n) ≤ 15
length-small n h = length-decimal-le 15 n (omega arith) (omega arith) (omega arith)

-- a field before the others
length-front : (part next : List ℕ) (parts : List (List ℕ)) (n m : ℕ)
    → length part ≤ n
    → length (joined (next ∷ parts)) ≤ m
    → length (joined (part ∷ next ∷ parts)) ≤ n + 1 + m
length-front part next parts n m h k =
    omega (arith, h, k, length-append part (space ∷ joined (next ∷ parts)))

length-word : (before : List ℕ) (word n : ℕ)
    → length before ≤ n
    → word ≤ max_word
    → length (joined (before ∷ word_fields word)) ≤ n + 16
length-word before word n h small = elim (cases_eq word 0) [
  | inl e ↦ subst (λ ps. length (joined (before ∷ ps)) ≤ n + 16) (sym (no_word word e))
      (omega (arith, h))
  | inr e ↦ subst (λ ps. length (joined (before ∷ ps)) ≤ n + 16) (sym (some_word word e))
      (let k = length-front before (decimal word) [] n 15 h (length-small word (omega arith)) in
      omega (arith, k))
]

-- no printed line is too long
pub length-line_text : (l : Line) → IsLine l → length (line_text l) ≤ max_line
unfolding line_text
length-line_text (line.Come worker moment peer octets word) (come hw hm hp hs hb hx) =
    let d = length-word (datagram_text octets) word 8192 (length-datagram_text octets hs) hx in
    let p =
    length-front (peer_text peer) (datagram_text octets) (word_fields word) 100 8208
    (length-peer_text peer hp) d in
    let m =
    length-front (decimal moment.0) (peer_text peer) (datagram_text octets ∷ word_fields word) 15
    8309 (length-small moment.0 hm) p in
    let w =
    length-front (decimal worker) (decimal moment.0)
    (peer_text peer ∷ datagram_text octets ∷ word_fields word) 15 8325
    (length-small worker (omega arith)) m in
    let all =
    length-front (codes "in") (decimal worker)
    (decimal moment.0 ∷ peer_text peer ∷ datagram_text octets ∷ word_fields word) 2 8341
    (omega arith) w in
    omega (arith, all)
length-line_text (line.Go worker moment) (go hw hm) =
    let w =
    length-front (decimal worker) (decimal moment.0) [] 15 15
    (length-small worker (omega arith)) (length-small moment.0 hm) in
    let all =
    length-front (codes "go") (decimal worker) (decimal moment.0 ∷ []) 2 31 (omega arith) w in
    omega (arith, all)
length-line_text (line.Tick worker moment word) (tick hw hm hx) =
    let m = length-word (decimal moment.0) word 15 (length-small moment.0 hm) hx in
    let w =
    length-front (decimal worker) (decimal moment.0) (word_fields word) 15 31
    (length-small worker (omega arith)) m in
    let all =
    length-front (codes "tick") (decimal worker) (decimal moment.0 ∷ word_fields word) 4 47
    (omega arith) w in
    omega (arith, all)
length-line_text (line.Begin worker moment first) (begin hw hm hn) =
    let m =
    length-front (decimal moment.0) (decimal first) [] 15 15 (length-small moment.0 hm)
    (length-small first (omega arith)) in
    let w =
    length-front (decimal worker) (decimal moment.0) (decimal first ∷ []) 15 31
    (length-small worker (omega arith)) m in
    let all =
    length-front (codes "begin") (decimal worker) (decimal moment.0 ∷ decimal first ∷ []) 5 47
    (omega arith) w in
    omega (arith, all)

-- the fields of a printed line are those that it was printed from
pub fields-line_text : (l : Line) → IsLine l → fields (line_text l) ≡ printed_fields l
unfolding line_text
fields-line_text (line.Come worker moment peer octets word) (come hw hm hp hs hb hx) =
    fields-joined (codes "in")
    (decimal worker
    ∷ decimal moment.0
    ∷ peer_text peer
    ∷ datagram_text octets
    ∷ word_fields word)
    (refl, (refl, tt)) (
      small_spaceless worker (omega arith),
      (
        small_spaceless moment.0 hm,
        (peer_spaceless peer hp, (datagram_spaceless octets hb, word_spaceless word hx)),
      ),
    )
fields-line_text (line.Go worker moment) (go hw hm) =
    fields-joined (codes "go") (decimal worker ∷ decimal moment.0 ∷ []) (refl, (refl, tt))
    (small_spaceless worker (omega arith), (small_spaceless moment.0 hm, tt))
fields-line_text (line.Tick worker moment word) (tick hw hm hx) =
    fields-joined (codes "tick") (decimal worker ∷ decimal moment.0 ∷ word_fields word)
    (refl, (refl, (refl, (refl, tt)))) (
      small_spaceless worker (omega arith),
      (small_spaceless moment.0 hm, word_spaceless word hx),
    )
fields-line_text (line.Begin worker moment first) (begin hw hm hn) =
    fields-joined (codes "begin") (decimal worker ∷ decimal moment.0 ∷ decimal first ∷ [])
    (refl, (refl, (refl, (refl, (refl, tt))))) (
      small_spaceless worker (omega arith),
      (small_spaceless moment.0 hm, (small_spaceless first (omega arith), tt)),
    )

-- and they say it
pub said_by-printed_fields : (l : Line) → IsLine l → said_by (printed_fields l) ≡ Some l
said_by-printed_fields (line.Come worker moment peer octets word) (come hw hm hp hs hb hx) =
    come_said worker moment peer octets word hw hm hp hs hb hx
said_by-printed_fields (line.Go worker moment) (go hw hm) = go_said worker moment hw hm
said_by-printed_fields (line.Tick worker moment word) (tick hw hm hx) =
    tick_said worker moment word hw hm hx
said_by-printed_fields (line.Begin worker moment first) (begin hw hm hn) =
    begin_said worker moment first hw hm hn

-- a printed line is read back as the line that it prints
pub line_of-line_text : (l : Line) → IsLine l → line_of (line_text l) ≡ Ok l
line_of-line_text l h =
    line_of_fields (line_text l) l (length-line_text l h)
    (ap said_by (fields-line_text l h) ∙ said_by-printed_fields l h)
