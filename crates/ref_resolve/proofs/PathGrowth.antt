-- A path that grows by the segments of another, at the end of a text.
use Rattle.std.proofs.Common.{
  ◌≡◌,
  ℕ,
  true,
  false,
  ◌||◌,
  List,
  [],
  ◌∷◌,
  ◌++◌,
  length,
  take,
  drop,
  Result,
  Ok,
  Err,
  refl,
  sym,
  ap,
  ◌∙◌,
  arith,
}
use Rattle.std.specs.Prelude.{◌==◌, fold, OnOk}
use Rattle.std.proofs.Math.Seq.{take-append_seam}
use Rattle.std.proofs.lemmas.List.{take-append-drop}
use Rattle.std.proofs.lemmas.Bool.Decides.{nat_tests}
use Rattle.link_model.specs.Characters.{slash, is_empty}
use Rattle.reference_model.specs.References.{before, begins_with, from_first}
use Rattle.reference_model.specs.Resolution.{
  segments_of,
  with_closing_slash,
  is_dot_segment,
  without_leading_dots,
  remove_dot_segments,
}
use Rattle.ref_resolve.specs.Paths.{path_with, closed_segments}
use Rattle.ref_resolve.proofs.Segments.{
  segments_after,
  first_segment,
  closing_after,
  no_slash_after,
}
use Rattle.ref_resolve.proofs.KeptSegments.{dots_removed}

-- ---- the segments that are left

pub one_segment : (rest after segment next : List ℕ)
    → rest ≡ slash ∷ after
    → segment ≡ before slash after
    → next ≡ from_first slash after
    → (length next == 0) ≡ true
    → closed_segments rest ≡ with_closing_slash (segment ∷ [])
unfolding closed_segments
one_segment rest after segment [] e s n h =
    ap closed_segments e
    ∙ ap with_closing_slash (first_segment after
    ∙ ap (λ (x : List ℕ). before slash after ∷ segments_after x) (sym n)
    ∙ ap (λ (x : List ℕ). x ∷ []) (sym s))
one_segment rest after segment (c ∷ cs) e s n h = absurd (grind (arith, nat_tests))

pub more_segments : (rest after segment next : List ℕ)
    → rest ≡ slash ∷ after
    → segment ≡ before slash after
    → next ≡ from_first slash after
    → (length next == 0) ≡ false
    → closed_segments rest ≡ segment ∷ closed_segments next
unfolding closed_segments
more_segments rest after segment [] e s n h = absurd (true_false h)
  where
    true_false : true ≡ false → ⊥
    true_false k = cc
more_segments rest after segment (c ∷ cs) e s n h =
    ap closed_segments e
    ∙ ap with_closing_slash (first_segment after
    ∙ ap (λ (x : List ℕ). before slash after ∷ segments_after x) (sym n)
    ∙ ap (λ (x : List ℕ). x ∷ segments_of cs) (sym s))
    ∙ closing_after segment cs

pub no_segments : (rest : List ℕ)
    → (is_empty rest || begins_with slash rest) ≡ true
    → begins_with slash rest ≡ false
    → closed_segments rest ≡ []
unfolding closed_segments
no_segments rest h k = ap closed_segments (no_slash_after rest h k)

-- ---- the path that grows

pub then_same : {X E : Type 0} (r : Result X E) (x y z : List ℕ)
    → OnOk r (x ≡ y)
    → y ≡ z
    → OnOk r (x ≡ z)
then_same (Ok v) x y z h e = h ∙ e
then_same (Err v) x y z h e = tt

pub grown_last : (path whole rest segment : List ℕ) (all : List (List ℕ))
    → closed_segments rest ≡ with_closing_slash (segment ∷ [])
    → fold path_with path (closed_segments rest) ≡ fold path_with whole all
    → fold path_with path (with_closing_slash (segment ∷ [])) ≡ fold path_with whole all
grown_last path whole rest segment all e h =
    ap (λ (s : List (List ℕ)). fold path_with path s) (sym e) ∙ h

pub grown_more : (path more whole rest next segment : List ℕ) (all : List (List ℕ))
    → closed_segments rest ≡ segment ∷ closed_segments next
    → more ≡ path_with path segment
    → fold path_with path (closed_segments rest) ≡ fold path_with whole all
    → fold path_with more (closed_segments next) ≡ fold path_with whole all
grown_more path more whole rest next segment all e m h =
    ap (λ (p : List ℕ). fold path_with p (closed_segments next)) m
    ∙ ap (λ (s : List (List ℕ)). fold path_with path s) (sym e)
    ∙ h

pub grown_all : (path whole rest : List ℕ) (all : List (List ℕ))
    → closed_segments rest ≡ []
    → fold path_with path (closed_segments rest) ≡ fold path_with whole all
    → path ≡ fold path_with whole all
grown_all path whole rest all e h = ap (λ (s : List (List ℕ)). fold path_with path s) (sym e) ∙ h

-- ---- after what stood there

pub front_kept : (old bytes first new : List ℕ)
    → bytes ≡ old
    → new ≡ old ++ first
    → take (length bytes) new ≡ old
front_kept old bytes first new e n =
    ap (λ (b : List ℕ). take (length b) new) e
    ∙ ap (take (length old)) n
    ∙ take-append_seam old first

path_begun : (old bytes first new : List ℕ)
    → bytes ≡ old
    → new ≡ old ++ first
    → drop (length bytes) new ≡ first
path_begun old bytes first new e n =
    ap (λ (b : List ℕ). drop (length b) new) e ∙ ap (drop (length old)) n ∙ seam old
  where
    seam : (xs : List ℕ) → drop (length xs) (xs ++ first) ≡ first
    seam [] = refl
    seam (x ∷ xs) = seam xs

pub dots_left_out : {X E : Type 0} (r : Result X E)
    (old bytes path cut first rest pushed new : List ℕ)
    → without_leading_dots (with_closing_slash (segments_of path))
    ≡ with_closing_slash (segments_of cut)
    → is_dot_segment (before slash cut) ≡ false
    → first ≡ before slash cut → rest ≡ from_first slash cut → bytes ≡ old → pushed ≡ old ++ first
    → OnOk r (take (length bytes) new ≡ take (length bytes) pushed)
    → OnOk r (drop (length bytes) new
    ≡ fold path_with (drop (length bytes) pushed) (closed_segments rest))
    → OnOk r (new ≡ old ++ remove_dot_segments path)
dots_left_out (Err v) old bytes path cut first rest pushed new e d f g b p front back = tt
dots_left_out (Ok v) old bytes path cut first rest pushed new e d f g b p front back =
    let before_path : take (length bytes) new ≡ old =
    front ∙ front_kept old bytes first pushed b p in
    let begun : drop (length bytes) pushed ≡ before slash cut =
    path_begun old bytes first pushed b p ∙ f in
    let grown : drop (length bytes) new ≡ remove_dot_segments path =
    back
    ∙ ap (λ (t : List ℕ). fold path_with t (closed_segments rest)) begun
    ∙ ap (λ (t : List ℕ). fold path_with (before slash cut) (closed_segments t)) g
    ∙ sym (dots_removed path cut e d) in
    sym (take-append-drop (length bytes) new)
    ∙ ap (λ (t : List ℕ). t ++ drop (length bytes) new) before_path
    ∙ ap (λ (t : List ℕ). old ++ t) grown
