-- Legal histories: moments do not fall, no body is refused, and no entry is refused after those
-- before it.
use Rattle.std.specs.Prelude.{◌≡◌, ℕ, false, ◌<◌, ◌≤◌, List, ◌∷◌, ◌++◌, Some, None, IfSome, ⊤}
use Rattle.rd_base.specs.declared.submitted_links.SubmittedLink.{SubmittedLink}
use Rattle.record_model.specs.Bodies.{linked_references}
use Rattle.record_model.specs.Refusals.{is_refused_as_limited}
use Rattle.history_model.specs.declared.entries.Change.{Change}
use Rattle.history_model.specs.declared.entries.Change.TheVariants as change
use Rattle.history_model.specs.declared.entries.Entry.{Entry}
use Rattle.history_model.specs.Live.{last_moment}
use Rattle.history_model.specs.Refusals.{change_refusal}

-- States that the links are those of a body that is not refused (RFC 6690 section 2, RFC 9176
-- appendix C).
abbrev pub AreOfGoodBody : List SubmittedLink → Type 0
AreOfGoodBody links =
    (body : List ℕ) × (linked_references body ≡ Some links) × (is_refused_as_limited body ≡ false)

-- States that the links that a change brings are those of a body that is not refused.
abbrev pub HasGoodBody : Change → Type 0
HasGoodBody (change.Register params links) = AreOfGoodBody links
HasGoodBody (change.Update number given) = ⊤
HasGoodBody (change.Replace number links) = AreOfGoodBody links
HasGoodBody (change.Remove number) = ⊤
HasGoodBody (change.Begin first) = ⊤

-- An entry that may follow a history: its moment is not below the last one, its body is not
-- refused, and it meets no refusal.
pub record IsNext (first : ℕ) (history : List Entry) (entry : Entry) : Type 0 where
  pub in_time : last_moment history ≤ entry.moment.0
  pub body : HasGoodBody entry.change
  pub accepted : change_refusal first history entry ≡ None

-- States that each entry of a history may follow those before it, if `first` entries were counted
-- before the first.
abbrev pub IsLegalFrom : ℕ → List Entry → Type 0
IsLegalFrom first history =
    (before after : List Entry) (entry : Entry)
    → before ++ entry ∷ after ≡ history
    → IsNext first before entry

-- States that each entry of a history may follow those before it.
abbrev pub IsLegal : List Entry → Type 0
IsLegal history = IsLegalFrom 0 history

-- States that a lifetime that a change gives is not 0 (RFC 9176 section 5, lt).
abbrev pub IsLasting : Change → Type 0
IsLasting (change.Register params links) = 0 < params.lt
IsLasting (change.Update number given) = IfSome given.lt (λ lt. 0 < lt)
IsLasting (change.Replace number links) = ⊤
IsLasting (change.Remove number) = ⊤
IsLasting (change.Begin first) = ⊤
