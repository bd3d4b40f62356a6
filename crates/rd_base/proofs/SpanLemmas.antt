-- Parts of a text that grows, and places in it and apart from it.
use Rattle.std.proofs.Common.{
  ℕ,
  ◌≡◌,
  ◌-◌,
  ◌+◌,
  List,
  ◌++◌,
  take,
  drop,
  length,
  arith,
  refl,
  sym,
  ap,
  ◌∙◌,
  subst,
}
use Rattle.std.proofs.lemmas.List.{
  take-append-le,
  drop-append-le,
  length-drop,
  length-append,
  take_all,
}
use Rattle.std.proofs.Math.Seq.{drop-append_seam}
use Rattle.std.proofs.lemmas.Str.{IsUtf8-drop, IsCharBoundary-from_take}
use Rattle.std.specs.Prelude.{Option, Some, None, option_map}
use Rattle.std.specs.Str.{IsUtf8}
use Rattle.rd_base.specs.declared.spans.Span.{Span}
use Rattle.rd_base.specs.declared.spans.Stretch.{Stretch}
use Rattle.rd_base.specs.declared.spans.Stretch.TheVariants as stretch
use Rattle.rd_base.specs.Spans.{
  part,
  placed,
  IsWithin,
  IsText,
  IsAt,
  IsTextAt,
  IsStretch,
  IsPlacedAt,
  IsStretchIfAny,
  IsPlacedIfAny,
}

pub part-more : {X : Type 0} (xs ys zs : List X) (s : Span)
    → zs ≡ xs ++ ys
    → IsWithin xs s
    → part zs s ≡ part xs s
part-more xs ys zs s e w =
    rw (
      e,
      drop-append-le s.from xs ys (grind arith),
      take-append-le (s.upto - s.from)
          (drop s.from xs) ys (grind (arith, length-drop)),
    ) refl

pub IsWithin-more : {X : Type 0} (xs ys zs : List X) (s : Span)
    → zs ≡ xs ++ ys
    → IsWithin xs s
    → IsWithin zs s
IsWithin-more xs ys zs s e w = (w.0, rw (e, length-append xs ys) (grind arith))

pub IsText-more : (xs ys zs : List ℕ) (s : Span) → zs ≡ xs ++ ys → IsText xs s → IsText zs s
IsText-more xs ys zs s e a = (IsWithin-more xs ys zs s e a.0, rw (part-more xs ys zs s e a.0) a.1)

pub IsTextAt-more : (xs ys zs : List ℕ) (s : Span) (x : List ℕ)
    → zs ≡ xs ++ ys
    → IsTextAt xs s x
    → IsTextAt zs s x
IsTextAt-more xs ys zs s x e a =
    ((IsWithin-more xs ys zs s e a.0.0, rw (part-more xs ys zs s e a.0.0) a.0.1), a.1)

pub IsText-at : (xs : List ℕ) (s : Span) (x : List ℕ) → IsTextAt xs s x → IsText xs s
IsText-at xs s x a = (a.0.0, rw a.0.1 a.1)

module _ (t m t' a n a' : List ℕ) (et : t' ≡ t ++ m) (ea : a' ≡ a ++ n) where
  pub placed-more : (p : Stretch) → IsStretch t a p → placed t' a' p ≡ placed t a p
  placed-more (stretch.Here s) h = part-more t m t' s et h.0
  placed-more (stretch.Apart s) h = part-more a n a' s ea h.0

  pub IsStretch-more : (p : Stretch) → IsStretch t a p → IsStretch t' a' p
  IsStretch-more (stretch.Here s) h = IsText-more t m t' s et h
  IsStretch-more (stretch.Apart s) h = IsText-more a n a' s ea h

  pub IsPlacedAt-more : (p : Stretch) (x : List ℕ) → IsPlacedAt t a p x → IsPlacedAt t' a' p x
  IsPlacedAt-more (stretch.Here s) x h = IsTextAt-more t m t' s x et h
  IsPlacedAt-more (stretch.Apart s) x h = IsTextAt-more a n a' s x ea h

  pub placed_if_any-more : (o : Option Stretch)
      → IsStretchIfAny t a o
      → option_map (placed t' a') o ≡ option_map (placed t a) o
  placed_if_any-more None h = refl
  placed_if_any-more (Some p) h = ap (λ (x : List ℕ). Some x) (placed-more p h)

  pub IsStretchIfAny-more : (o : Option Stretch) → IsStretchIfAny t a o → IsStretchIfAny t' a' o
  IsStretchIfAny-more None h = h
  IsStretchIfAny-more (Some p) h = IsStretch-more p h

  pub IsPlacedIfAny-more : (o : Option Stretch) (x : Option (List ℕ))
      → IsPlacedIfAny t a o x
      → IsPlacedIfAny t' a' o x
  IsPlacedIfAny-more None None h = h
  IsPlacedIfAny-more None (Some x) h = h
  IsPlacedIfAny-more (Some p) None h = h
  IsPlacedIfAny-more (Some p) (Some x) h = IsPlacedAt-more p x h

-- what stands there is a text, and this one
pub IsStretch-at : (t a : List ℕ) (p : Stretch) (x : List ℕ) → IsPlacedAt t a p x → IsStretch t a p
IsStretch-at t a (stretch.Here s) x h = IsText-at t s x h
IsStretch-at t a (stretch.Apart s) x h = IsText-at a s x h

pub placed-at : (t a : List ℕ) (p : Stretch) (x : List ℕ) → IsPlacedAt t a p x → placed t a p ≡ x
placed-at t a (stretch.Here s) x h = h.0.1
placed-at t a (stretch.Apart s) x h = h.0.1

pub IsStretchIfAny-at : (t a : List ℕ) (o : Option Stretch) (x : Option (List ℕ))
    → IsPlacedIfAny t a o x
    → IsStretchIfAny t a o
IsStretchIfAny-at t a None x h = tt
IsStretchIfAny-at t a (Some p) None h = elim h [ ]
IsStretchIfAny-at t a (Some p) (Some x) h = IsStretch-at t a p x h

pub placed_if_any-at : (t a : List ℕ) (o : Option Stretch) (x : Option (List ℕ))
    → IsPlacedIfAny t a o x
    → option_map (placed t a) o ≡ x
placed_if_any-at t a None None h = refl
placed_if_any-at t a None (Some x) h = elim h [ ]
placed_if_any-at t a (Some p) None h = elim h [ ]
placed_if_any-at t a (Some p) (Some x) h = ap (λ (y : List ℕ). Some y) (placed-at t a p x h)

-- what is appended stands between the lengths before and after
pub appended-at : {X : Type 0} (xs ys zs : List X) (s : Span)
    → zs ≡ xs ++ ys
    → s.from ≡ length xs
    → s.upto ≡ length zs
    → IsAt zs s ys
appended-at xs ys zs s e f u =
    let sum : length zs ≡ length xs + length ys = ap length e ∙ length-append xs ys in
    let rest : drop s.from zs ≡ ys = rw (e, f) (drop-append_seam xs ys) in
    ((omega arith, omega arith), rw rest (take_all (s.upto - s.from) ys (omega arith)))

-- behind a text that begins a text stands one
pub utf8-rest : (whole front rest : List ℕ)
    → whole ≡ front ++ rest
    → IsUtf8 whole
    → IsUtf8 front
    → IsUtf8 rest
utf8-rest whole front rest e w f =
    let sum : length whole ≡ length front + length rest = ap length e ∙ length-append front rest in
    let taken : take (length front) whole ≡ front =
    rw (e, take-append-le (length front) front rest (omega arith))
    (take_all (length front) front (omega arith)) in
    let left : drop (length front) whole ≡ rest = rw e (drop-append_seam front rest) in
    subst IsUtf8 left (IsUtf8-drop whole (length front) w
    (IsCharBoundary-from_take whole (length front) w (omega arith)
    (subst IsUtf8 (sym taken) f)))
