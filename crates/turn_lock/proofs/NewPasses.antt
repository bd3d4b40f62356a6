-- Passes that have seen nothing, in a list.
use Rattle.std.proofs.Common.{
  ◌≡◌,
  ℕ,
  ◌+◌,
  List,
  [],
  ◌∷◌,
  ◌++◌,
  slice_get,
  Option,
  Some,
  refl,
  ap,
  inl,
  inr,
  ⊎_elim,
  ◌⊎◌,
  arith,
  zero,
  suc,
  length,
}
use Rattle.atomic_table.specs.Table.{Me}
use Rattle.turn_lock.specs.Passes.{IsFresh}
use Rattle.turn_lock.specs.Steps.{kept_view, next_view}
use Rattle.turn_lock.specs.declared.views.View.{View}

-- an item of a list with one more at its end
pub get_end : {A : Type 0} (xs : List A) (a b : A) (i : ℕ)
    → slice_get (xs ++ a ∷ []) i ≡ Some b
    → (slice_get xs i ≡ Some b) ⊎ ((i ≡ length xs) × (a ≡ b))
get_end [] a b zero e = inr (refl, cc)
get_end [] a b (suc i) e = absurd cc
get_end (x ∷ xs) a b zero e = inl e
get_end (x ∷ xs) a b (suc i) e =
    ⊎_elim (λ t. inl t) (λ t. inr (omega (arith, t.0), t.1)) (get_end xs a b i e)

module _ {T R L : Type 0} (lab : L) (passes n : ℕ) (m : Me (Option T) (View R L))
    (f : IsFresh lab passes n m) where
  pub fresh_kept : IsFresh {T = T} lab passes n (kept_view m.0, m.1)
  fresh_kept = record {
    number_is = f.number_is;
    label_is = f.label_is;
    passes_is = f.passes_is;
    idle = f.idle;
    seen = f.seen;
    mine = f.mine;
    slot = f.slot;
  }

  pub fresh_next : IsFresh {T = T} lab passes (n + 1) (next_view m.0, [])
  fresh_next = record {
    number_is = ap (λ (k : ℕ). k + 1) f.number_is;
    label_is = f.label_is;
    passes_is = f.passes_is;
    idle = refl;
    seen = f.seen;
    mine = refl;
    slot = refl;
  }
