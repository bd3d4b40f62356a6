-- What a list exposes before a call and after it.
use Rattle.std.specs.Prelude.{◌≡◌, List, Option, None, Some, ⊤}

-- States that a list that is exposed before is exposed after too, and that the two are in this
-- relation.
abbrev pub WhereTold : {A : Type 0}
    → (List A → List A → Type 0)
    → Option (List A)
    → Option (List A)
    → Type 0
WhereTold R None now = ⊤
WhereTold R (Some before) None = ⊥
WhereTold R (Some before) (Some now) = R before now

-- States that an exposed list does not change.
abbrev pub Stays : {A : Type 0} → Option (List A) → Option (List A) → Type 0
Stays before now = WhereTold (λ old new. new ≡ old) before now
