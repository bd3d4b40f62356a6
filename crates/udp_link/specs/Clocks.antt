-- What a clock returns of its list.
use Rattle.std.specs.Prelude.{◌≡◌, ◌≤◌, ◌^◌, List, [], ◌∷◌}
use Rattle.rd_base.specs.declared.moments.Moment.{Moment}

-- States that a moment may be passed in: it is at most 10^15 milliseconds.
abbrev pub IsHandedIn : Moment → Type 0
IsHandedIn moment = moment.0 ≤ 10 ^ 15

-- Returns the first element of a list, or `absent` if it is empty.
abbrev pub first_or : {A : Type 0} → A → List A → A
first_or absent [] = absent
first_or absent (x ∷ xs) = x

-- Returns the list without its first element. The last element stays.
abbrev pub but_first : {A : Type 0} → List A → List A
but_first [] = []
but_first (x ∷ []) = x ∷ []
but_first (x ∷ y ∷ ys) = y ∷ ys

-- States that the call returned the first element of the list, or `absent` if it is empty. It
-- removed that element unless it was the last.
abbrev pub GivesFirst : {A : Type 0} → A → A → List A → List A → Type 0
GivesFirst absent result before now = (result ≡ first_or absent before) × (now ≡ but_first before)
