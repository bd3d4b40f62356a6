-- Prefixes of texts.
use Rattle.std.proofs.Common.{
  ℕ,
  List,
  [],
  ◌++◌,
  take,
  drop,
  sym,
  ap,
  ◌∙◌,
  append_assoc,
  append-nil,
  take-append-drop,
}
use Rattle.install_list.specs.Printing.{IsFrontOf}

pub front_self : (xs : List ℕ) → IsFrontOf xs xs
front_self xs = ([], sym (append-nil xs))

pub front_trans : (a b c : List ℕ) → IsFrontOf a b → IsFrontOf b c → IsFrontOf a c
front_trans a b c p q =
    (p.0 ++ q.0, q.1 ∙ ap (λ (l : List ℕ). l ++ q.0) p.1 ∙ append_assoc a p.0 q.0)

pub front_take : (n : ℕ) (xs : List ℕ) → IsFrontOf (take n xs) xs
front_take n xs = (drop n xs, sym (take-append-drop n xs))

pub front_behind : (before a b : List ℕ)
    → IsFrontOf a b
    → IsFrontOf (before ++ a) (before ++ b)
front_behind before a b p =
    (p.0, ap (λ (l : List ℕ). before ++ l) p.1 ∙ sym (append_assoc before a p.0))
