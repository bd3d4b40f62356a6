-- Legal histories, one entry after the other.
use Rattle.std.proofs.Common.{
  ◌≡◌,
  ℕ,
  List,
  [],
  ◌∷◌,
  ◌++◌,
  refl,
  sym,
  ap,
  subst,
  ◌∙◌,
  ◌⊎◌,
  inl,
  inr,
  append_assoc,
  ◌≤◌,
  append-nil,
  arith,
}
use Rattle.history_model.specs.declared.entries.Entry.{Entry}
use Rattle.history_model.specs.Live.{IsFront, last_moment}
use Rattle.history_model.specs.Legal.{IsNext, IsLegalFrom}
use Rattle.rd_base.proofs.lemmas.Lists.{by_pushes, push_cases}
use Rattle.history_model.proofs.ReplayLaws.{last_moment_push}

-- no entry
pub IsLegalFrom-nil : (first : ℕ) → IsLegalFrom first []
IsLegalFrom-nil first before after entry e = absurd (nothing before e)
  where
    nothing : (front : List Entry) → front ++ entry ∷ after ≡ [] → ⊥
    nothing [] same = cc
    nothing (f ∷ fs) same = cc

-- one entry more
pub IsLegalFrom_push : (first : ℕ) (history : List Entry) (entry : Entry)
    → IsLegalFrom first history
    → IsNext first history entry
    → IsLegalFrom first (history ++ entry ∷ [])
IsLegalFrom_push first history entry legal next before after x e =
    by (push_cases before after history x entry e)
  where
    by : ((before ≡ history) × (x ≡ entry)) ⊎ ((rest : List Entry) × (before ++ x ∷ rest ≡ history))
        → IsNext first before x
    by (inl same) =
        subst (λ h. IsNext first h x) (sym (same.0))
        (subst (IsNext first history) (sym (same.1)) next)
    by (inr more) = legal before more.0 x more.1

-- the entries before
pub IsLegalFrom-append : (first : ℕ) (history more : List Entry)
    → IsLegalFrom first (history ++ more)
    → IsLegalFrom first history
IsLegalFrom-append first history more legal before after x e =
    legal before (after ++ more) x
    (sym (append_assoc before (x ∷ after) more) ∙ ap (λ h. h ++ more) e)

-- a front of a legal history is legal
pub IsLegalFrom-IsFront : (first : ℕ) (front history : List Entry)
    → IsFront front history
    → IsLegalFrom first history
    → IsLegalFrom first front
IsLegalFrom-IsFront first front history begins legal =
    IsLegalFrom-append first front begins.0 (subst (IsLegalFrom first) (sym (begins.1)) legal)

-- the last entry
pub IsLegalFrom_last : (first : ℕ) (history : List Entry) (entry : Entry)
    → IsLegalFrom first (history ++ entry ∷ [])
    → IsNext first history entry
IsLegalFrom_last first history entry legal = legal history [] entry refl

-- what holds of the empty history, and with one legal entry more, holds of each legal history
pub by_legal_pushes : (first : ℕ) (P : List Entry → Type 0)
    → P []
    → ((history : List Entry) (entry : Entry)
    → IsLegalFrom first history
    → IsNext first history entry
    → P history
    → P (history ++ entry ∷ []))
    → (history : List Entry) → IsLegalFrom first history → P history
by_legal_pushes first P none push = by_pushes (λ h. IsLegalFrom first h → P h) (λ _. none)
    (λ h e holds legal. let before : IsLegalFrom first h = IsLegalFrom-append first h (e ∷ [])
    legal in push h e before (IsLegalFrom_last first h e legal) (holds before))

-- a front of a legal history ends no later
-- An end theorem: nothing here cites it.
pub last_moment-IsFront : (first : ℕ) (front history : List Entry)
    → IsFront front history
    → IsLegalFrom first history
    → last_moment front ≤ last_moment history
last_moment-IsFront first front history begins legal =
    subst (λ h. last_moment front ≤ last_moment h) (begins.1)
    (extends begins.0 (subst (IsLegalFrom first) (sym (begins.1)) legal))
  where
    Extends : List Entry → Type 0
    Extends more =
        IsLegalFrom first (front ++ more) → last_moment front ≤ last_moment (front ++ more)

    push : (more : List Entry) (e : Entry) → Extends more → Extends (more ++ e ∷ [])
    push more e before legal =
        let split : front ++ (more ++ e ∷ []) ≡ (front ++ more) ++ e ∷ [] =
        sym (append_assoc front more (e ∷ [])) in
        let whole : IsLegalFrom first ((front ++ more) ++ e ∷ []) =
        subst (IsLegalFrom first) split legal in
        let order = (IsLegalFrom_last first (front ++ more) e whole).in_time in
        let earlier = before (IsLegalFrom-append first (front ++ more) (e ∷ []) whole) in
        rw (split, last_moment_push (front ++ more) e) (omega (arith, order, earlier))

    extends : (more : List Entry) → Extends more
    extends more = by_pushes Extends (λ _. rw (append-nil front) (omega arith)) push more
