-- The sums of workers.
use Rattle.std.proofs.Common.{
  ◌≡◌,
  ℕ,
  ◌+◌,
  ◌≤◌,
  List,
  ◌∷◌,
  length,
  Result,
  Ok,
  Err,
  subst,
  ap,
  suc,
  arith,
}
use Rattle.std.specs.Prelude.{IfOk, All, get_or}
use Rattle.rd_server.specs.declared.serving.served.Served.{Served}
use Rattle.rd_server.specs.declared.serving.served.ServeFault.{ServeFault}
use Rattle.rd_server.specs.declared.serving.served.ServeFault.TheVariants as fault
use Rattle.rd_server.specs.serving.Sums.{IsBelow}
use Rattle.rd_server.specs.serving.Endings.{join}
use Rattle.rd_server.proofs.service.SendLaws.{IsBelow-more}

pub below_more : (m n : ℕ) (o : Result Served ServeFault) → m ≤ n → IfOk o (IsBelow m)
    → IfOk o (IsBelow n)
below_more m n (Ok s) le h = IsBelow-more m n s h le
below_more m n (Err f) le h = tt

pub join_below : (m n : ℕ) (a b : Result Served ServeFault) → IfOk a (IsBelow m)
    → IfOk b (IsBelow n) → IfOk (join a b) (IsBelow (m + n))
join_below m n (Ok a) (Ok b) x y = record {
  heard = omega (arith, x.heard, y.heard);
  sent = omega (arith, x.sent, y.sent);
  lost = omega (arith, x.lost, y.lost);
  too_long = omega (arith, x.too_long, y.too_long);
  starved = omega (arith, x.starved, y.starved);
}
join_below m n (Ok a) (Err f) x y = tt
join_below m n (Err f) (Ok b) x y = tt
join_below m n (Err fault.Memory) (Err g) x y = tt
join_below m n (Err fault.Link) (Err g) x y = tt

-- what holds of all of a list holds of its first, and of all of the rest
pub first_of : {E : Type 0} (P : E → Type 0) (left rest : List E) (x : E) → left ≡ x ∷ rest
    → All P left → P x
first_of P left rest x e all = subst (λ (l : List _). P (get_or l 0 x)) e
    (all 0 x (omega (arith, ap (λ (l : List _). length l) e)))

pub rest_of : {E : Type 0} (P : E → Type 0) (left rest : List E) (x : E) → left ≡ x ∷ rest
    → All P left → All P rest
rest_of P left rest x e all k d h = subst (λ (l : List _). P (get_or l (suc k) d)) e
    (all (suc k) d (omega (arith, h, ap (λ (l : List _). length l) e)))
