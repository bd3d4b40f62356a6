-- A path that grows segment by segment is that of the segments that are kept.
use Rattle.std.proofs.Common.{
  ◌≡◌,
  ℕ,
  Bool,
  true,
  false,
  not,
  ◌&&◌,
  ◌||◌,
  List,
  [],
  ◌∷◌,
  ◌++◌,
  reverse,
  refl,
  sym,
  ap,
  ◌∙◌,
  append-nil,
  arith,
}
use Rattle.std.specs.Prelude.{◌==◌, fold}
use Rattle.std.specs.List.{concat, list_all}
use Rattle.std.proofs.lemmas.List.Folds.{concat-append}
use Rattle.std.proofs.lemmas.List.{reverse-append}
use Rattle.std.proofs.lemmas.Bool.{and_parts, not-true}
use Rattle.std.proofs.lemmas.Bool.Decides.{nat_tests}
use Rattle.link_model.specs.Characters.{slash}
use Rattle.reference_model.specs.References.{before, from_first, has_octet}
use Rattle.reference_model.specs.Resolution.{
  onto_first_segment,
  segments_of,
  is_single_dot,
  is_double_dot,
  is_dot_segment,
  with_closing_slash,
  without_leading_dots,
  without_last_kept,
  kept_with,
  path_without_dots,
  remove_dot_segments,
}
use Rattle.reference_model.proofs.ReferenceCuts.{has_octet-before}
use Rattle.ref_resolve.specs.Paths.{before_last, path_with, closed_segments}
use Rattle.ref_resolve.proofs.Segments.{leading_none}

-- no slash stands in the text
abbrev pub is_segment : List ℕ → Bool
is_segment text = not (has_octet slash text)

abbrev pub are_segments : List (List ℕ) → Bool
are_segments segments = list_all is_segment segments

-- a slash and a segment
abbrev pub is_after_slash : List ℕ → Bool
is_after_slash [] = false
is_after_slash (c ∷ cs) = c == slash && is_segment cs

abbrev pub is_none : List (List ℕ) → Bool
is_none [] = true
is_none (piece ∷ pieces) = false

-- each piece is a segment after a slash, but for the first of all, which may have no slash
abbrev pub are_kept : List (List ℕ) → Bool
are_kept [] = true
are_kept (piece ∷ kept) =
    (is_after_slash piece || (is_none kept && is_segment piece)) && are_kept kept

-- the text of the pieces
abbrev pub text_of : List (List ℕ) → List ℕ
text_of kept = concat (reverse kept)

-- ---- the last piece is cut off at its slash

pub before_last-slash : (xs cs : List ℕ)
    → has_octet slash cs ≡ false
    → before_last slash (xs ++ slash ∷ cs) ≡ xs
unfolding before_last
before_last-slash [] cs h = rw h refl
before_last-slash (x ∷ xs) cs h =
    rw (here xs) (ap (λ (r : List ℕ). x ∷ r) (before_last-slash xs cs h))
  where
    here : (ys : List ℕ) → has_octet slash (ys ++ slash ∷ cs) ≡ true
    here [] = refl
    here (y ∷ ys) = grind (arith, nat_tests, here ys)

before_last-none : (cs : List ℕ) → has_octet slash cs ≡ false → before_last slash cs ≡ []
unfolding before_last
before_last-none [] h = refl
before_last-none (c ∷ cs) h = grind (arith, nat_tests)

text_more : (piece : List ℕ) (kept : List (List ℕ)) → text_of (piece ∷ kept) ≡ text_of kept ++ piece
text_more piece kept =
    ap concat (reverse-append (piece ∷ []) kept)
    ∙ concat-append (reverse kept) (piece ∷ [])
    ∙ ap (λ (r : List ℕ). text_of kept ++ r) (append-nil piece)

last_cut : (piece : List ℕ) (kept : List (List ℕ))
    → (is_after_slash piece || (is_none kept && is_segment piece)) ≡ true
    → before_last slash (text_of kept ++ piece) ≡ text_of kept
unfolding before_last
last_cut [] kept h = by_kept kept h
  where
    by_kept : (k : List (List ℕ))
        → (is_none k && true) ≡ true
        → before_last slash (text_of k ++ []) ≡ text_of k
    by_kept [] e = refl
    by_kept (x ∷ k) e = absurd (cc)
last_cut (c ∷ cs) kept h = by_slash (c == slash && is_segment cs) refl
  where
    by_kept : (k : List (List ℕ))
        → (is_none k && is_segment (c ∷ cs)) ≡ true
        → before_last slash (text_of k ++ c ∷ cs) ≡ text_of k
    by_kept [] e = before_last-none (c ∷ cs) (not-true (has_octet slash (c ∷ cs)) e)
    by_kept (x ∷ k) e = absurd (cc)

    by_slash : (b : Bool)
        → (c == slash && is_segment cs) ≡ b
        → before_last slash (text_of kept ++ c ∷ cs) ≡ text_of kept
    by_slash true e =
        let parts = and_parts (c == slash) (is_segment cs) e in
        let same : c ≡ slash = grind (arith, nat_tests, parts.0) in
        ap (λ (x : ℕ). before_last slash (text_of kept ++ x ∷ cs)) same
        ∙ before_last-slash (text_of kept) cs (not-true (has_octet slash cs) (parts.1))
    by_slash false e = by_kept kept (rw e at h)

text_without_last : (kept : List (List ℕ))
    → are_kept kept ≡ true
    → before_last slash (text_of kept) ≡ text_of (without_last_kept kept)
unfolding before_last
text_without_last [] h = refl
text_without_last (piece ∷ kept) h =
    let parts =
    and_parts (is_after_slash piece || (is_none kept && is_segment piece)) (are_kept kept) h in
    ap (before_last slash) (text_more piece kept) ∙ last_cut piece kept (parts.0)

-- ---- one segment more

kept_without_last : (kept : List (List ℕ))
    → are_kept kept ≡ true
    → are_kept (without_last_kept kept) ≡ true
kept_without_last [] h = refl
kept_without_last (piece ∷ kept) h =
    (and_parts (is_after_slash piece || (is_none kept && is_segment piece)) (are_kept kept) h).1

one_kept : (kept : List (List ℕ)) (segment : List ℕ)
    → are_kept kept ≡ true
    → is_segment segment ≡ true
    → (are_kept (kept_with kept segment) ≡ true)
    × (text_of (kept_with kept segment) ≡ path_with (text_of kept) segment)
one_kept kept segment h k = by_double (is_double_dot segment) refl
  where
    by_single : is_double_dot segment ≡ false
        → (b : Bool)
        → is_single_dot segment ≡ b
        → (are_kept (kept_with kept segment) ≡ true)
        × (text_of (kept_with kept segment) ≡ path_with (text_of kept) segment)
    by_single d true e = (rw (d, e) h, rw (d, e) refl)
    by_single d false e =
        (rw (d, e) (grind (arith, nat_tests, h, k)), rw (d, e) (text_more (slash ∷ segment) kept))

    by_double : (b : Bool)
        → is_double_dot segment ≡ b
        → (are_kept (kept_with kept segment) ≡ true)
        × (text_of (kept_with kept segment) ≡ path_with (text_of kept) segment)
    by_double true e = (rw e (kept_without_last kept h), rw e (sym (text_without_last kept h)))
    by_double false e = by_single e (is_single_dot segment) refl

pub all_kept : (kept segments : List (List ℕ))
    → are_kept kept ≡ true
    → are_segments segments ≡ true
    → text_of (fold kept_with kept segments) ≡ fold path_with (text_of kept) segments
all_kept kept [] h k = refl
all_kept kept (segment ∷ segments) h k =
    let parts = and_parts (is_segment segment) (are_segments segments) k in
    let one = one_kept kept segment h (parts.0) in
    all_kept (kept_with kept segment) segments (one.0) (parts.1)
    ∙ ap (λ (t : List ℕ). fold path_with t segments) (one.1)

-- ---- the segments of a path have no slash

segments_of-segments : (path : List ℕ) → are_segments (segments_of path) ≡ true
unfolding segments_of
segments_of-segments [] = refl
segments_of-segments (c ∷ cs) = by_slash (c == slash) refl (segments_of-segments cs)
  where
    onto : (segments : List (List ℕ))
        → (c == slash) ≡ false
        → are_segments segments ≡ true
        → are_segments (onto_first_segment c segments) ≡ true
    onto [] e h = rw e refl
    onto (segment ∷ segments) e h = rw e h

    by_slash : (b : Bool)
        → (c == slash) ≡ b
        → are_segments (segments_of cs) ≡ true
        → are_segments (segments_of (c ∷ cs)) ≡ true
    by_slash true e h = rw e h
    by_slash false e h = rw e (onto (segments_of cs) e h)

closing-segments : (segments : List (List ℕ))
    → are_segments segments ≡ true
    → are_segments (with_closing_slash segments) ≡ true
closing-segments [] h = refl
closing-segments (segment ∷ []) h = by_dot (is_dot_segment segment) refl
  where
    by_dot : (b : Bool)
        → is_dot_segment segment ≡ b
        → are_segments (with_closing_slash (segment ∷ [])) ≡ true
    by_dot true e = rw e (rw ((and_parts (is_segment segment) true h).0) refl)
    by_dot false e = rw e h
closing-segments (segment ∷ next ∷ segments) h =
    let parts = and_parts (is_segment segment) (are_segments (next ∷ segments)) h in
    let rest = closing-segments (next ∷ segments) (parts.1) in
    rw (parts.0) rest

closed-segments : (path : List ℕ) → are_segments (closed_segments path) ≡ true
unfolding closed_segments
closed-segments [] = refl
closed-segments (c ∷ cs) = closing-segments (segments_of cs) (segments_of-segments cs)

-- ---- the whole

-- a path without dot segments is its first segment, with the others one by one
pub dots_removed : (path cut : List ℕ)
    → without_leading_dots (with_closing_slash (segments_of path))
    ≡ with_closing_slash (segments_of cut)
    → is_dot_segment (before slash cut) ≡ false
    → remove_dot_segments path
    ≡ fold path_with (before slash cut) (closed_segments (from_first slash cut))
unfolding remove_dot_segments
dots_removed path cut e d =
    let first = before slash cut in
    let rest = closed_segments (from_first slash cut) in
    let kept : are_kept (first ∷ []) ≡ true =
    rw (has_octet-before slash cut) (or_true (is_after_slash first)) in
    ap path_without_dots (e ∙ leading_none cut d)
    ∙ all_kept (first ∷ []) rest kept (closed-segments (from_first slash cut))
    ∙ ap (λ (t : List ℕ). fold path_with t rest) (append-nil first)
  where
    or_true : (b : Bool) → ((b || true) && true) ≡ true
    or_true true = refl
    or_true false = refl
