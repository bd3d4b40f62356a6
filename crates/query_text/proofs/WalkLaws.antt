-- The first fault of what is left, one option at a time.
use Rattle.std.proofs.Common.{◌≡◌, ℕ, List, [], ◌∷◌, Option, Some, sym, ap, ◌∙◌}
use Rattle.record_model.specs.declared.readings.Why.{Why}
use Rattle.record_model.specs.Faults.{or_else}
use Rattle.query_text.specs.declared.rules.Named.{Named}
use Rattle.query_text.specs.declared.walks.Walk.{Walk}
use Rattle.query_text.specs.Rules.{fault_after, missing_after}
use Rattle.query_text.specs.Walks.{walk_past, at_index, faults_from, IsPast}

-- none is left
pub ended : (walk : Walk) (left : List (List ℕ)) (reason : Option Why)
    → left ≡ []
    → reason ≡ missing_after walk.kind walk.occurred
    → faults_from walk left ≡ at_index walk.index reason
unfolding faults_from
ended walk left reason e is = ap (faults_from walk) e ∙ ap (at_index walk.index) (sym is)

-- the first is refused
pub refused : (walk : Walk) (left : List (List ℕ)) (query : List ℕ) (rest : List (List ℕ))
    (why : Why)
    → left ≡ query ∷ rest
    → fault_after walk.kind walk.occurred query ≡ Some why
    → faults_from walk left ≡ Some (walk.index, why)
unfolding faults_from
refused walk left query rest why e is =
    ap (faults_from walk) e
    ∙ ap (λ (o : Option Why).
    or_else (at_index walk.index o) (faults_from (walk_past walk query) rest)) is

-- the first is good
pub passed : (walk : Walk) (left : List (List ℕ)) (now : Walk) (rest : List (List ℕ))
    (named : Named)
    → IsPast walk left now rest named
    → faults_from now rest ≡ faults_from walk left
unfolding faults_from
passed walk left now rest named h =
    ap (λ w. faults_from w rest) h.past
    ∙ sym (ap (faults_from walk) h.first
    ∙ ap (λ (o : Option Why).
    or_else (at_index walk.index o) (faults_from (walk_past walk h.query) rest))
    h.good)
