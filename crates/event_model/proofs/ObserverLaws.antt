-- No two observers that stand have the same peer and token.
use Rattle.std.proofs.Common.{
  ◌≡◌,
  Bool,
  true,
  false,
  not,
  List,
  [],
  ◌∷◌,
  ◌++◌,
  filter,
  refl,
  sym,
  subst,
  ◌∙◌,
  append-nil,
}
use Rattle.std.specs.List.{AllByRecursion}
use Rattle.std.proofs.lemmas.Bool.{false≢true}
use Rattle.rd_base.proofs.lemmas.Each.{each_weaker, each_both, each_passes}
use Rattle.rd_base.proofs.lemmas.Pairs.{PairsByRecursion, pairs_filter, pairs_push}
use Rattle.event_model.specs.declared.notes.Note.{Note}
use Rattle.event_model.specs.declared.notes.Note.TheVariants as note
use Rattle.event_model.specs.declared.notes.Observer.{Observer}
use Rattle.event_model.specs.Same.{RequestName, is_same_request}
use Rattle.event_model.specs.Events.{Event}
use Rattle.event_model.specs.Observers.{name_of, is_end_of, observer_added, observers}
use Rattle.event_model.proofs.SameLaws.{is_same_request-Decides}

-- they have different names
abbrev pub Apart : Observer → Observer → Type 0
Apart x y = is_same_request (name_of x) (name_of y) ≡ false

-- whichever comes first
pub apart-sym : (a b : RequestName) → is_same_request a b ≡ false → is_same_request b a ≡ false
apart-sym a b h = by (is_same_request b a) refl
  where
    by : (t : Bool) → is_same_request b a ≡ t → is_same_request b a ≡ false
    by true e =
        absurd (false≢true
        (sym h ∙ (is_same_request-Decides a b).1 (sym ((is_same_request-Decides b a).0 e))))
    by false e = e

-- a negated test
pub not_true : (b : Bool) → not b ≡ true → b ≡ false
not_true true h = absurd (false≢true h)
not_true false h = refl

-- no two observers have the same name
pub observers-apart : (events : List Event) → PairsByRecursion Apart (observers events)
unfolding observers
observers-apart [] = tt
observers-apart (e ∷ before) = by e.note (observers-apart before)
  where
    Left : Note → List Observer
    Left n = filter (λ o. not (is_end_of n (name_of o))) (observers before)

    by : (n : Note)
        → PairsByRecursion Apart (observers before)
        → PairsByRecursion Apart (Left n ++ observer_added n)
    by (note.Watched o) h =
        pairs_push Apart (Left (note.Watched o)) o
        (pairs_filter Apart (λ x. not (is_same_request (name_of o) (name_of x)))
        (observers before) h)
        (each_weaker (λ x. not (is_same_request (name_of o) (name_of x)) ≡ true) (λ x. Apart x o)
        (λ x passes. apart-sym (name_of o) (name_of x)
        (not_true (is_same_request (name_of o) (name_of x)) passes))
        (Left (note.Watched o))
        (each_passes (λ x. not (is_same_request (name_of o) (name_of x))) (observers before)))
    by n h =
        subst (PairsByRecursion Apart) (sym (append-nil (Left n)))
        (pairs_filter Apart (λ o. not (is_end_of n (name_of o))) (observers before) h)

-- among these, only an observer itself has its name
abbrev pub Only : Observer → List Observer → Type 0
Only o standing =
    AllByRecursion (λ x. is_same_request (name_of x) (name_of o) ≡ true → x ≡ o) standing

-- so it is of each that stands
pub apart_only : (standing : List Observer)
    → PairsByRecursion Apart standing
    → AllByRecursion (λ o. Only o standing) standing
apart_only [] h = tt
apart_only (x ∷ standing) h = (
  (
    λ same. refl,
    each_weaker (Apart x) (λ y. is_same_request (name_of y) (name_of x) ≡ true → y ≡ x)
        (λ y apart same. absurd (false≢true (sym (apart-sym (name_of x) (name_of y) apart) ∙ same)))
        standing h.0,
  ),
  each_both (Apart x) (λ o. Only o standing) (λ o. Only o (x ∷ standing))
      (λ o apart only. (λ same. absurd (false≢true (sym apart ∙ same)), only)) standing h.0
      (apart_only standing h.1),
)
