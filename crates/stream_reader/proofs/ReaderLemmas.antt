-- What a reader knows of the octets that it holds.
use Rattle.std.proofs.Common.{
  ◌≡◌,
  ℕ,
  ◌+◌,
  ◌-◌,
  ◌<◌,
  ◌≤◌,
  Bool,
  List,
  ◌++◌,
  length,
  take,
  drop,
  sym,
  ap,
  subst,
  ◌∙◌,
  append_assoc,
  arith,
}
use Rattle.std.proofs.lemmas.List.{length-append, length-drop, length-take-le, take_rest}
use Rattle.std.proofs.Math.Seq.{take-add}
use Rattle.stream_model.specs.declared.messages.Judged.{Judged}
use Rattle.stream_model.specs.declared.messages.Judged.TheVariants as judged
use Rattle.stream_model.specs.Judging.{judge, FrontsMore}
use Rattle.stream_reader.specs.Wanting.{wanted_of, wanted_by}
use Rattle.stream_reader.specs.Reading.{Held, with_octets, held_as}
use Rattle.stream_reader.proofs.WantingLemmas.{room_for, waits, same_wanted, fronts_wanted}

-- Less than a message is held.
pub record IsOpen (h : Held) (size wanted : ℕ) : Type 0 where
  pub size_is : length h.pending ≡ size
  pub wanted_is : wanted_of h.pending ≡ wanted
  pub less : size < wanted
  pub few : wanted ≤ 1152

pub open_held : (is_first : Bool) (octets : List ℕ) (size wanted : ℕ) (j : Judged) (h : Held)
    → length octets ≡ 1152
    → size ≤ 1152
    → j ≡ judge is_first (take size octets)
    → wanted ≡ wanted_by j (take size octets)
    → record { is_first = is_first; pending = take size octets } ≡ h
    → held_as h ≡ judged.More
    → IsOpen h size wanted
open_held is_first octets size wanted j h all room judged_as wants view more =
    subst (λ (g : Held). held_as g ≡ judged.More → IsOpen g size wanted) view
    (λ same.
    let fits = room_for is_first (take size octets) same in
    let size_is = length-take-le size octets (omega (arith, all, room)) in
    let wanted_is : wanted_of (take size octets) ≡ wanted =
    sym (wants ∙ ap (λ (k : Judged). wanted_by k (take size octets)) (judged_as ∙ same)) in
    record {
      size_is = size_is;
      wanted_is = wanted_is;
      less = omega (arith, fits.less, size_is, wanted_is);
      few = omega (arith, fits.few, wanted_is);
    }) more

-- What holds of octets that go on with those that are held, and are still fewer than are wanted.
pub held_judged : (is_first : Bool) (octets more now : List ℕ) (j : Judged)
    → now ≡ octets ++ more
    → judge is_first octets ≡ judged.More
    → length octets + length more < wanted_of octets
    → j ≡ judge is_first octets
    → j ≡ judge is_first now
held_judged is_first octets more now j is same few judged_as =
    judged_as
    ∙ same
    ∙ sym (ap (judge is_first) is
    ∙ waits is_first octets more same (rw (length-append octets more) few))

pub held_wanted : (is_first : Bool) (octets more now : List ℕ) (j : Judged) (wanted : ℕ)
    → now ≡ octets ++ more
    → judge is_first octets ≡ judged.More
    → length octets + length more < wanted_of octets
    → j ≡ judge is_first octets
    → wanted ≡ wanted_by j octets
    → wanted ≡ wanted_by j now
held_wanted is_first octets more now j wanted is same few judged_as wants =
    let is_more : j ≡ judged.More = judged_as ∙ same in
    wants
    ∙ ap (λ (k : Judged). wanted_by k octets) is_more
    ∙ sym (same_wanted octets more (rw (length-append octets more) few))
    ∙ ap wanted_of (sym is)
    ∙ ap (λ (k : Judged). wanted_by k now) (sym is_more)

-- Octets up to what is wanted have no front that is a message.
pub fronts_of_held : (old new : Held) (octets : List ℕ)
    → held_as old ≡ judged.More
    → new ≡ with_octets old octets
    → length old.pending + length octets ≤ wanted_of old.pending
    → FrontsMore new.is_first new.pending
fronts_of_held old new octets more is few =
    subst (λ (h : Held). FrontsMore h.is_first h.pending) (sym is)
    (fronts_wanted old.is_first old.pending octets more
    (rw (length-append old.pending octets) few))

-- The first octets of a piece, and then some of those behind them.
pub twice_within : (piece : List ℕ) (n m : ℕ)
    → n ≤ length piece
    → m ≤ length (take (length piece - n) (drop n piece))
    → n + m ≤ length piece
twice_within piece n m first second =
    let all = ap (λ (l : List ℕ). length l) (take_rest piece n) ∙ length-drop n piece in
    omega (arith, first, second, all)

pub held_twice : (old middle new : Held) (piece : List ℕ) (n m : ℕ)
    → middle ≡ with_octets old (take n piece)
    → new ≡ with_octets middle (take m (take (length piece - n) (drop n piece)))
    → new ≡ with_octets old (take (n + m) piece)
held_twice old middle new piece n m first second =
    let parts : take n piece ++ take m (take (length piece - n) (drop n piece))
    ≡ take (n + m) piece =
    ap (λ (l : List ℕ). take n piece ++ take m l) (take_rest piece n)
    ∙ sym (take-add n m piece) in
    second
    ∙ ap (λ (h : Held). with_octets h (take m (take (length piece - n) (drop n piece)))) first
    ∙ ap (λ (l : List ℕ). with_pending l)
    (append_assoc old.pending (take n piece) (take m (take (length piece - n) (drop n piece)))
    ∙ ap (λ (l : List ℕ). old.pending ++ l) parts)
  where
    with_pending : List ℕ → Held
    with_pending l = record old { pending = l }
