-- What a tick notes: what it keeps is the listing of an observer's query, under the key of the
-- request that asks for it.
use Rattle.std.proofs.Common.{◌≡◌, ℕ, Bool, true, false, cond, List, [], ◌∷◌, fold, refl, sym, ◌∙◌}
use Rattle.std.specs.List.{AllByRecursion}
use Rattle.std.proofs.lemmas.Bool.{false≢true, and_parts}
use Rattle.rd_base.specs.declared.peers.Peer.{Peer}
use Rattle.history_model.specs.Listing.{listing, tag}
use Rattle.event_model.specs.declared.notes.Note.{Note}
use Rattle.event_model.specs.declared.notes.Note.TheVariants as note
use Rattle.event_model.specs.declared.notes.Observer.{Observer}
use Rattle.event_model.specs.Observers.{name_of, observers, last_body_formed}
use Rattle.journal_model.specs.declared.steps.Step.{Step}
use Rattle.journal_model.specs.declared.rows.Row.{Row}
use Rattle.journal_model.specs.Journal.{entries}
use Rattle.journal_model.specs.Effects.{Effects}
use Rattle.journal_model.specs.Bodies.{is_long}
use Rattle.journal_model.specs.Ticks.{
  first_block,
  listing_for,
  is_unchanged,
  is_looked_at,
  events_with,
  ticking,
  notified_unless,
  notified_if,
  notification_next,
  notifications_again,
  notifications,
  requests_again,
  tick_effects,
}
use Rattle.journal_model.proofs.NoteKinds.{of_again, of_resent, are}
use Rattle.journal_model.proofs.StepNotes.{notifications_again-notes, requests_again-notes}
use Rattle.journal_model.specs.Sought.{listing_of}
use Rattle.journal_model.proofs.notes.LookupNotes.{IsAsking, NoteAsAsked, NotesAsAsked}
use Rattle.journal_model.proofs.flights.NotificationsAgain.{events_after_again}
use Rattle.rd_base.proofs.lemmas.Each.{each_append}

-- notes of a kind that keeps nothing and adds nobody
kind_as_asked : (kind : Note → Bool)
    → ((peer : Peer) (key body current : List ℕ) → kind (note.Kept peer key body current) ≡ false)
    → ((o : Observer) → kind (note.Watched o) ≡ false)
    → (rows : List Row) (moment : ℕ) (notes : List Note)
    → are kind notes ≡ true
    → NotesAsAsked rows moment notes
kind_as_asked kind kept watched rows moment [] fits = tt
kind_as_asked kind kept watched rows moment (n ∷ notes) fits =
    let both = and_parts (kind n) (are kind notes) fits in
    (by n both.0, kind_as_asked kind kept watched rows moment notes both.1)
  where
    by : (x : Note) → kind x ≡ true → NoteAsAsked (entries rows) moment x
    by (note.Kept peer key body current) h =
        absurd (false≢true (sym (kept peer key body current) ∙ h))
    by (note.Watched o) h = absurd (false≢true (sym (watched o) ∙ h))
    by _ h = tt

-- what is retransmitted
again_notes_as_asked : (rows : List Row) (moment : ℕ)
    → NotesAsAsked rows moment (notifications_again rows moment).notes
again_notes_as_asked rows moment =
    kind_as_asked of_again (λ p k b c. refl) (λ o. refl) rows moment
    (notifications_again rows moment).notes (notifications_again-notes rows moment)

-- and requests of fetches
request_notes_as_asked : (rows : List Row) (moment : ℕ)
    → NotesAsAsked rows moment (requests_again rows moment).notes
request_notes_as_asked rows moment =
    kind_as_asked of_resent (λ p k b c. refl) (λ o. refl) rows moment
    (requests_again rows moment).notes (requests_again-notes rows moment)

-- the notifications of a tick
notification_notes_as_asked : (rows : List Row) (moment : ℕ) (s : Step)
    → AllByRecursion IsAsking (observers (events_after_again rows moment s.word))
    → NotesAsAsked rows moment (notifications (ticking rows moment s)
    (notifications_again rows moment)).notes
unfolding notifications
notification_notes_as_asked rows moment s asking =
    folded (observers (events_after_again rows moment s.word)) asking
    (notifications_again rows moment)
    (again_notes_as_asked rows moment)
  where
    kept_one : (o : Observer)
        → IsAsking o
        → (b : Bool)
        → NotesAsAsked rows moment
        (cond b (note.Kept o.peer o.key (listing o.query (entries rows) moment)
        (tag (entries rows) moment)
        ∷ []) [])
    kept_one o asks true =
        (record { sought = listing_of o.query; seeks = asks.asks; found = refl; tag_is = refl }, tt)
    kept_one o asks false = tt

    unless : (b : Bool) (so_far : Effects) (o : Observer)
        → IsAsking o
        → NotesAsAsked rows moment (notified_unless b (ticking rows moment s) so_far o
        (listing_for (ticking rows moment s) o)).notes
    unless true so_far o asks = (tt, tt)
    unless false so_far o asks =
        (tt, kept_one o asks (is_long (first_block o) (listing o.query (entries rows) moment)))

    looked : (b : Bool) (so_far : Effects) (o : Observer)
        → IsAsking o
        → NotesAsAsked rows moment (notified_if b (ticking rows moment s) so_far o).notes
    looked false so_far o asks = tt
    looked true so_far o asks =
        unless (is_unchanged
        (last_body_formed (name_of o) (events_with (ticking rows moment s) so_far))
        (listing_for (ticking rows moment s) o).body) so_far o asks

    folded : (standing : List Observer)
        → AllByRecursion IsAsking standing
        → (so_far : Effects)
        → NotesAsAsked rows moment so_far.notes
        → NotesAsAsked rows moment
        (fold (notification_next (ticking rows moment s)) so_far standing).notes
    folded [] all so_far h = h
    folded (o ∷ standing) all so_far h =
        folded standing all.1 (notification_next (ticking rows moment s) so_far o)
        (each_append (NoteAsAsked (entries rows) moment) so_far.notes
        (notified_if (is_looked_at (ticking rows moment s) so_far o) (ticking rows moment s)
        so_far o).notes h
        (looked (is_looked_at (ticking rows moment s) so_far o) so_far o all.0))

-- all notes of a tick
pub tick_notes_as_asked : (starved : Bool) (rows : List Row) (moment : ℕ) (s : Step)
    → AllByRecursion IsAsking (observers (events_after_again rows moment s.word))
    → NotesAsAsked rows moment (tick_effects starved rows moment s).notes
unfolding tick_effects
tick_notes_as_asked true rows moment s asking =
    each_append (NoteAsAsked (entries rows) moment) (notifications_again rows moment).notes
    (requests_again rows moment).notes (again_notes_as_asked rows moment)
    (request_notes_as_asked rows moment)
tick_notes_as_asked false rows moment s asking =
    each_append (NoteAsAsked (entries rows) moment)
    (notifications (ticking rows moment s) (notifications_again rows moment)).notes
    (requests_again rows moment).notes (notification_notes_as_asked rows moment s asking)
    (request_notes_as_asked rows moment)
