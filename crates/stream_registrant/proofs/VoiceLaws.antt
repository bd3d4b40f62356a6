-- What is written to a connection, one after the other.
use Rattle.std.proofs.Common.{
  ◌≡◌,
  ℕ,
  ◌+◌,
  ◌≤◌,
  Bool,
  true,
  false,
  List,
  [],
  ◌++◌,
  length,
  take,
  min,
  refl,
  sym,
  ap,
  subst,
  ◌∙◌,
  arith,
}
use Rattle.std.specs.Io.KnownBytes.{Appends}
use Rattle.std.proofs.KnownBytes.{Appends-trans, Appends-nil}
use Rattle.std.proofs.lemmas.List.{length-append, take-append-le, take_min}
use Rattle.std.proofs.Math.Seq.{take-append-add}
use Rattle.rd_base.specs.Outside.{Rose, CountsAll}
use Rattle.stream_registrant.specs.Saying.{Voice, Says, BreaksOff, IsSaid}

-- Nothing is written.
pub Says-none : (v : Voice) → Says [] v v
Says-none v = record { written = Appends-nil v.holds; unfailed = refl }

-- What was written of octets: all, or a front that is no longer than they are.
pub is_said : (before now : Voice) (octets bytes : List ℕ) (all : Bool)
    → octets ≡ bytes
    → (all ≡ true → Appends before.holds now.holds octets)
    → (n : ℕ) × Appends before.holds now.holds (take n octets)
    → CountsAll before.faults now.faults all
    → IsSaid bytes before now all
is_said before now octets bytes true same whole front counts = record {
  written = subst (Appends before.holds now.holds) same (whole refl);
  unfailed = counts;
}
is_said before now octets bytes false same whole front counts = record {
  count = min front.0 (length bytes);
  within = omega arith;
  written = subst (Appends before.holds now.holds) cut front.1;
  never_less = counts.0;
  rose = counts.1;
}
  where
    cut : take front.0 octets ≡ take (min front.0 (length bytes)) bytes
    cut = ap (take front.0) same ∙ sym (take_min front.0 bytes)

-- Octets, and then more of them.
pub Says-then : (a b c : Voice) (xs ys : List ℕ)
    → Says xs a b
    → Says ys b c
    → Says (xs ++ ys) a c
Says-then a b c xs ys r s = record {
  written = Appends-trans a.holds b.holds c.holds xs ys r.written s.written;
  unfailed = s.unfailed ∙ r.unfailed;
}

-- Octets, and then a front of more of them.
pub BreaksOff-then : (a b c : Voice) (xs ys : List ℕ)
    → Says xs a b
    → BreaksOff ys b c
    → BreaksOff (xs ++ ys) a c
BreaksOff-then a b c xs ys r s = record {
  count = length xs + s.count;
  within = (let whole = length-append xs ys in
      let few : s.count ≤ length ys = s.within in omega (arith, whole, few));
  written = subst (Appends a.holds c.holds) (sym (take-append-add xs ys s.count))
      (Appends-trans a.holds b.holds c.holds xs (take s.count ys) r.written s.written);
  never_less = (let least : b.faults ≤ c.faults = s.never_less in
      omega (arith, least, r.unfailed));
  rose = subst (λ (n : ℕ). Rose n c.faults) r.unfailed s.rose;
}

-- A front of octets is a front of them with more behind them.
pub BreaksOff-before : (a b : Voice) (xs ys : List ℕ)
    → BreaksOff xs a b
    → BreaksOff (xs ++ ys) a b
BreaksOff-before a b xs ys r = record {
  count = r.count;
  within = (let whole = length-append xs ys in
      let few : r.count ≤ length xs = r.within in omega (arith, whole, few));
  written = subst (Appends a.holds b.holds) (sym (take-append-le r.count xs ys r.within))
      r.written;
  never_less = r.never_less;
  rose = r.rose;
}
