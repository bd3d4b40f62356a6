-- The segments of a path, cut off one by one.
use Rattle.std.proofs.Common.{◌≡◌, ℕ, Bool, true, false, ◌||◌, List, [], ◌∷◌, refl, sym, ap, ◌∙◌}
use Rattle.std.specs.Prelude.{◌==◌}
use Rattle.link_model.specs.Characters.{slash, is_empty}
use Rattle.reference_model.specs.References.{before, from_first, begins_with}
use Rattle.reference_model.specs.Resolution.{
  onto_first_segment,
  segments_of,
  is_dot_segment,
  with_closing_slash,
  without_leading_dots,
}
use Rattle.ref_resolve.specs.Paths.{closed_segments}
use Rattle.reference_model.proofs.ReferenceCuts.{from_first_fits}

-- the segments of what begins with a slash, or of nothing
abbrev pub segments_after : List ℕ → List (List ℕ)
segments_after [] = []
segments_after (c ∷ cs) = segments_of cs

-- the first segment stands before the first slash
pub first_segment : (path : List ℕ)
    → segments_of path ≡ before slash path ∷ segments_after (from_first slash path)
unfolding segments_of before from_first
first_segment [] = refl
first_segment (c ∷ cs) = by_slash (c == slash) refl (first_segment cs)
  where
    by_slash : (b : Bool)
        → (c == slash) ≡ b
        → segments_of cs ≡ before slash cs ∷ segments_after (from_first slash cs)
        → segments_of (c ∷ cs) ≡ before slash (c ∷ cs) ∷ segments_after (from_first slash (c ∷ cs))
    by_slash true e h = rw e refl
    by_slash false e h = rw e (ap (onto_first_segment c) h)

-- a segment that another follows is not closed
pub closing_after : (segment path : List ℕ)
    → with_closing_slash (segment ∷ segments_of path)
    ≡ segment ∷ with_closing_slash (segments_of path)
closing_after segment path = rw (first_segment path) refl

-- the segments of a path, with what closes them, one by one
pub closing_more : (segment next path : List ℕ)
    → next ≡ slash ∷ path
    → with_closing_slash (segment ∷ segments_after next)
    ≡ segment ∷ with_closing_slash (segments_of path)
closing_more segment next path e =
    ap (λ (n : List ℕ). with_closing_slash (segment ∷ segments_after n)) e
    ∙ closing_after segment path

-- what begins with no slash after a slash is nothing
pub no_slash_after : (path : List ℕ)
    → (is_empty path || begins_with slash path) ≡ true
    → begins_with slash path ≡ false
    → path ≡ []
no_slash_after [] h k = refl
no_slash_after (c ∷ cs) h k = absurd (true_false (sym h ∙ k))
  where
    true_false : true ≡ false → ⊥
    true_false e = cc

-- ---- dot segments that no slash stands before

-- the first segment is one, and another follows
pub leading_more : (path next : List ℕ)
    → is_dot_segment (before slash path) ≡ true
    → from_first slash path ≡ slash ∷ next
    → without_leading_dots (with_closing_slash (segments_of path))
    ≡ without_leading_dots (with_closing_slash (segments_of next))
leading_more path next d e =
    let cut :
    with_closing_slash (segments_of path)
    ≡ before slash path ∷ with_closing_slash (segments_of next) =
    ap with_closing_slash (first_segment path)
    ∙ closing_more (before slash path) (from_first slash path) next e in
    ap without_leading_dots cut ∙ rw d refl

-- the first segment is one, and the last
pub leading_last : (path : List ℕ)
    → is_dot_segment (before slash path) ≡ true
    → begins_with slash (from_first slash path) ≡ false
    → without_leading_dots (with_closing_slash (segments_of path))
    ≡ with_closing_slash (segments_of [])
unfolding segments_of
leading_last path d e =
    let none : from_first slash path ≡ [] =
    no_slash_after (from_first slash path) (from_first_fits path) e in
    let one : segments_of path ≡ before slash path ∷ [] =
    first_segment path ∙ ap (λ (n : List ℕ). before slash path ∷ segments_after n) none in
    let closed : with_closing_slash (segments_of path) ≡ before slash path ∷ [] ∷ [] =
    ap with_closing_slash one ∙ rw d refl in
    ap without_leading_dots closed ∙ rw d refl

-- the first segment is none
pub leading_none : (path : List ℕ)
    → is_dot_segment (before slash path) ≡ false
    → with_closing_slash (segments_of path)
    ≡ before slash path ∷ closed_segments (from_first slash path)
unfolding closed_segments
leading_none path d = ap with_closing_slash (first_segment path) ∙ by_rest (from_first slash path)
  where
    by_rest : (rest : List ℕ)
        → with_closing_slash (before slash path ∷ segments_after rest)
        ≡ before slash path ∷ closed_segments rest
    by_rest [] = rw d refl
    by_rest (c ∷ cs) = closing_after (before slash path) cs

pub not_leading : (path : List ℕ)
    → is_dot_segment (before slash path) ≡ false
    → without_leading_dots (with_closing_slash (segments_of path))
    ≡ with_closing_slash (segments_of path)
not_leading path d =
    let cut = leading_none path d in
    ap without_leading_dots cut ∙ rw d (sym cut)
