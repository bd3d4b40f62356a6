-- Events whose admissions are in order, with one event more: what a journal needs to show that its
-- events are.
use Rattle.std.proofs.Common.{◌≡◌, ℕ, false, List, [], ◌∷◌, sym, subst}
use Rattle.std.proofs.lemmas.Bool.{false≢true}
use Rattle.rd_base.specs.declared.peers.Peer.{Peer}
use Rattle.event_model.specs.declared.notes.Note.{Note}
use Rattle.event_model.specs.declared.notes.Note.TheVariants as note
use Rattle.event_model.specs.Events.{Event}
use Rattle.event_model.specs.AdmissionOrder.{AdmitsNew, AdmitsInOrder, IsOrderly}
use Rattle.event_model.specs.Repeats.{is_admitting}

-- none
pub IsOrderly-none : IsOrderly []
unfolding IsOrderly
IsOrderly-none = tt

-- one that admits no write
pub IsOrderly-other : (e : Event) (events : List Event)
    → is_admitting e.note ≡ false
    → IsOrderly events
    → IsOrderly (e ∷ events)
unfolding IsOrderly
IsOrderly-other e events other orderly = (by e.note other, orderly)
  where
    by : (n : Note) → is_admitting n ≡ false → AdmitsInOrder n e events
    by (note.Admitted peer mid) h = absurd (false≢true (sym h))
    by _ h = tt

-- one that admits a new write
pub IsOrderly-admitted : (peer : Peer) (mid : ℕ) (e : Event) (events : List Event)
    → e.note ≡ note.Admitted peer mid
    → AdmitsNew peer mid e events
    → IsOrderly events
    → IsOrderly (e ∷ events)
unfolding IsOrderly
IsOrderly-admitted peer mid e events is new orderly =
    (subst (λ n. AdmitsInOrder n e events) (sym is) new, orderly)
