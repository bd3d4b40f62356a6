-- Notes that a table has nothing to do with leave what it shows: one law for each table, and one
-- for the notes of a row.
use Rattle.std.proofs.Common.{
  ◌≡◌,
  ℕ,
  Bool,
  true,
  false,
  not,
  List,
  [],
  ◌∷◌,
  reverse,
  map,
  filter,
  filter_map,
  Option,
  Some,
  None,
  option_map,
  option_and_then,
  refl,
  ap,
  ◌∙◌,
  append-nil,
}
use Rattle.std.specs.List.{cons_option, list_any}
use Rattle.std.proofs.lemmas.List.Elements.{filter_map-append}
use Rattle.std.proofs.lemmas.Grind.{reverse_onto}
use Rattle.rd_base.specs.declared.peers.Peer.{Peer}
use Rattle.rd_base.proofs.lemmas.Filters.{filter_all}
use Rattle.rd_base.proofs.lemmas.Each.{each_one}
use Rattle.event_model.specs.declared.notes.Note.{Note}
use Rattle.event_model.specs.declared.notes.Note.TheVariants as note
use Rattle.event_model.specs.Events.{Event, noted, is_young, events_since, last_said}
use Rattle.event_model.specs.Repeats.{admissions, kept, settled, exchanges_at, exchange_of}
use Rattle.event_model.specs.AdmissionOrder.{is_aside}
use Rattle.event_model.specs.Uploads.{upload, live_upload, uploads, uploads_at, upload_of}
use Rattle.event_model.specs.KeptAnswers.{names_used, kept_answer, kept_answer_of, kept_answers_at}
use Rattle.event_model.specs.Observers.{observers, last_body_formed}
use Rattle.event_model.specs.Flights.{OctetsSent, flight, waiting_notification}
use Rattle.event_model.specs.Due.{Transition, is_due, watching, observers_standing}
use Rattle.event_model.specs.Fetches.{
  Request,
  Fetch,
  request_noted,
  last_request,
  fetches,
  is_start_of,
  block_noted,
  gathered,
  collected,
  fetch_asked,
  fetch_of,
  fetches_running,
}
use Rattle.event_model.specs.Challenges.{
  is_challenge,
  challenges,
  challenges_made,
  latest_challenges,
}
use Rattle.event_model.proofs.NotedLaws.{event_at}
use Rattle.event_model.proofs.AsideLaws.{notes_aside}

-- ---- what each table is about

-- exchanges
abbrev pub about_exchanges : Note → Bool
about_exchanges n = not (is_aside n)

-- uploads
abbrev pub about_uploads : Note → Bool
about_uploads (note.Piece peer key number octets) = true
about_uploads (note.Finished peer key) = true
about_uploads _ = false

-- kept answers
abbrev pub about_answers : Note → Bool
about_answers (note.Kept peer key body tag) = true
about_answers (note.Used peer key) = true
about_answers _ = false

-- observers; a change of the registrations is another transition, and no note about them
abbrev pub about_observers : Note → Bool
about_observers (note.Watched o) = true
about_observers (note.Unwatched peer token) = true
about_observers (note.Formed peer token body mid) = true
about_observers (note.Unchanged peer token) = true
about_observers (note.Again peer mid) = true
about_observers (note.Landed peer mid) = true
about_observers _ = false

-- fetches
abbrev pub about_fetches : Note → Bool
about_fetches (note.Asked peer token mid params number) = true
about_fetches (note.Gathered peer octets tag) = true
about_fetches (note.Resent peer) = true
about_fetches (note.Waiting peer) = true
about_fetches (note.Ceased peer) = true
about_fetches _ = false

-- ---- one event

-- a list with those that pass a test that all pass
all_pass : {A : Type 0} (xs : List A) → filter (λ x. true) xs ≡ xs
all_pass xs = filter_all (λ x. true) xs (each_one (λ x. true ≡ true) (λ x. refl) xs)

-- two functions that give the same for each element find the same
same_found : {A B : Type 0} (f g : A → Option B)
    → ((x : A) → f x ≡ g x)
    → (xs : List A)
    → filter_map f xs ≡ filter_map g xs
same_found f g same [] = refl
same_found f g same (x ∷ xs) =
    rw (same x) (ap (λ ys. cons_option (g x) ys) (same_found f g same xs))

exchanges_at-event : (now : ℕ) (e : Event) (events : List Event)
    → about_exchanges e.note ≡ false
    → exchanges_at now (e ∷ events) ≡ exchanges_at now events
unfolding exchanges_at kept admissions settled last_said
exchanges_at-event now e events other = by e.note other
  where
    by : (n : Note)
        → about_exchanges n ≡ false
        → exchanges_at now (event_at e.place e.moment e.word n ∷ events) ≡ exchanges_at now events
    by (note.Admitted peer mid) h = absurd cc
    by (note.Settled place reply) h = absurd cc
    by (note.Failed place) h = absurd cc
    by _ h =
        ap (λ (xs : List Event).
        filter_map (exchange_of events) (filter (λ a. is_young now a.moment) xs))
        (all_pass (admissions events))

uploads_at-event : (now : ℕ) (e : Event) (events : List Event)
    → about_uploads e.note ≡ false
    → uploads_at now (e ∷ events) ≡ uploads_at now events
unfolding uploads_at uploads live_upload upload
uploads_at-event now e events other = by e.note other
  where
    by : (n : Note)
        → about_uploads n ≡ false
        → uploads_at now (event_at e.place e.moment e.word n ∷ events) ≡ uploads_at now events
    by (note.Piece peer key number octets) h = absurd cc
    by (note.Finished peer key) h = absurd cc
    by _ h =
        ap (filter_map (upload_of now events))
        (append-nil (filter (λ name. true) (uploads events)) ∙ all_pass (uploads events))

-- the names that were used
names_used-event : (e : Event) (events : List Event)
    → about_answers e.note ≡ false
    → names_used (e ∷ events) ≡ names_used events
unfolding names_used
names_used-event e events other = by e.note other
  where
    by : (n : Note)
        → about_answers n ≡ false
        → names_used (event_at e.place e.moment e.word n ∷ events) ≡ names_used events
    by (note.Kept peer key body tag) h = absurd cc
    by (note.Used peer key) h = absurd cc
    by _ h = all_pass (names_used events)

kept_answers_at-event : (now : ℕ) (e : Event) (events : List Event)
    → about_answers e.note ≡ false
    → kept_answers_at now (e ∷ events) ≡ kept_answers_at now events
unfolding kept_answers_at kept_answer last_said
kept_answers_at-event now e events other = by e.note other (names_used-event e events other)
  where
    by : (n : Note)
        → about_answers n ≡ false
        → names_used (event_at e.place e.moment e.word n ∷ events) ≡ names_used events
        → kept_answers_at now (event_at e.place e.moment e.word n ∷ events)
        ≡ kept_answers_at now events
    by (note.Kept peer key body tag) h same = absurd cc
    by (note.Used peer key) h same = absurd cc
    by n h same =
        ap (filter_map (kept_answer_of now (event_at e.place e.moment e.word n ∷ events))) same
        ∙ same_found (kept_answer_of now (event_at e.place e.moment e.word n ∷ events))
        (kept_answer_of now events) (λ name. rw same refl) (names_used events)

observers_standing-event : (octets : OctetsSent) (transitions : List Transition) (e : Event)
    (events : List Event)
    → about_observers e.note ≡ false
    → observers_standing octets (e ∷ events) transitions
    ≡ observers_standing octets events transitions
unfolding observers_standing observers last_body_formed last_said is_due waiting_notification flight
    events_since
observers_standing-event octets transitions e events other = by e.note other
  where
    by : (n : Note)
        → about_observers n ≡ false
        → observers_standing octets (event_at e.place e.moment e.word n ∷ events) transitions
        ≡ observers_standing octets events transitions
    by (note.Watched o) h = absurd cc
    by (note.Unwatched peer token) h = absurd cc
    by (note.Formed peer token body mid) h = absurd cc
    by (note.Unchanged peer token) h = absurd cc
    by (note.Again peer mid) h = absurd cc
    by (note.Landed peer mid) h = absurd cc
    by _ h =
        ap (map (watching octets events transitions))
        (append-nil (filter (λ o. true) (observers events)) ∙ all_pass (observers events))

-- what came to a fetch
gathered-event : (peer : Peer) (e : Event) (events : List Event)
    → about_fetches e.note ≡ false
    → gathered peer (e ∷ events) ≡ gathered peer events
unfolding gathered events_since
gathered-event peer e events other = by e.note other
  where
    none : (n : Note)
        → block_noted peer n ≡ None
        → filter_map (λ x. block_noted peer x.note) (reverse
        (event_at e.place e.moment e.word n ∷ events_since (is_start_of peer) events))
        ≡ gathered peer events
    none n silent =
        ap (filter_map (λ (x : Event). block_noted peer x.note))
        (reverse_onto (events_since (is_start_of peer) events)
        (event_at e.place e.moment e.word n) [])
        ∙ filter_map-append (λ (x : Event). block_noted peer x.note)
        (reverse (events_since (is_start_of peer) events))
        (event_at e.place e.moment e.word n ∷ [])
        ∙ (rw silent (append-nil (gathered peer events)))

    by : (n : Note)
        → about_fetches n ≡ false
        → gathered peer (event_at e.place e.moment e.word n ∷ events) ≡ gathered peer events
    by (note.Asked p token mid params number) h = absurd cc
    by (note.Gathered p octets tag) h = absurd cc
    by (note.Resent p) h = absurd cc
    by (note.Waiting p) h = absurd cc
    by (note.Ceased p) h = absurd cc
    by n h = none n refl

-- two ways to show requests that give the same
fetch_same : (f g : Event → Request → Fetch)
    → ((x : Event) (r : Request) → f x r ≡ g x r)
    → (o : Option Event)
    → option_and_then (λ x. option_map (f x) (request_noted x.note)) o
    ≡ option_and_then (λ x. option_map (g x) (request_noted x.note)) o
fetch_same f g same None = refl
fetch_same f g same (Some x) = by (request_noted x.note)
  where
    by : (r : Option Request) → option_map (f x) r ≡ option_map (g x) r
    by None = refl
    by (Some r) = ap (λ y. Some y) (same x r)

fetches_running-event : (octets : OctetsSent) (e : Event) (events : List Event)
    → about_fetches e.note ≡ false
    → fetches_running octets (e ∷ events) ≡ fetches_running octets events
unfolding fetches_running fetches collected events_since
fetches_running-event octets e events other =
    by e.note other (λ peer. gathered-event peer e events other)
  where
    by : (n : Note)
        → about_fetches n ≡ false
        → ((peer : Peer)
        → gathered peer (event_at e.place e.moment e.word n ∷ events) ≡ gathered peer events)
        → fetches_running octets (event_at e.place e.moment e.word n ∷ events)
        ≡ fetches_running octets events
    by (note.Asked p token mid params number) h same = absurd cc
    by (note.Gathered p blocks tag) h same = absurd cc
    by (note.Resent p) h same = absurd cc
    by (note.Waiting p) h same = absurd cc
    by (note.Ceased p) h same = absurd cc
    by n h same =
        ap (filter_map (fetch_of octets (event_at e.place e.moment e.word n ∷ events)))
        (append-nil (filter (λ p. true) (fetches events)) ∙ all_pass (fetches events))
        ∙ same_found (fetch_of octets (event_at e.place e.moment e.word n ∷ events))
        (fetch_of octets events)
        (λ peer.
        fetch_same (fetch_asked octets (event_at e.place e.moment e.word n ∷ events) peer)
        (fetch_asked octets events peer) (λ x r. rw (same peer) refl)
        (last_request peer events)) (fetches events)

-- challenges: a note that is none is about none of them
latest_challenges-event : (e : Event) (events : List Event)
    → is_challenge e.note ≡ false
    → latest_challenges (e ∷ events) ≡ latest_challenges events
unfolding latest_challenges
latest_challenges-event e events other = by e.note other
  where
    by : (n : Note)
        → is_challenge n ≡ false
        → latest_challenges (event_at e.place e.moment e.word n ∷ events)
        ≡ latest_challenges events
    by (note.Challenged peer value) h = absurd cc
    by _ h = refl

-- how many were made
challenges_made-event : (e : Event) (events : List Event)
    → is_challenge e.note ≡ false
    → challenges_made (e ∷ events) ≡ challenges_made events
unfolding challenges_made challenges
challenges_made-event e events other = by e.note other
  where
    by : (n : Note)
        → is_challenge n ≡ false
        → challenges_made (event_at e.place e.moment e.word n ∷ events)
        ≡ challenges_made events
    by (note.Challenged peer value) h = absurd cc
    by _ h = refl

-- ---- the notes of a row

pub exchanges_at-noted : (now place moment word : ℕ) (notes : List Note) (events : List Event)
    → list_any about_exchanges notes ≡ false
    → exchanges_at now (noted place moment word notes events) ≡ exchanges_at now events
exchanges_at-noted now place moment word notes events none =
    notes_aside about_exchanges (λ past. exchanges_at now past ≡ exchanges_at now events)
    (λ e past other h. exchanges_at-event now e past other ∙ h) place moment word notes events
    none refl

pub uploads_at-noted : (now place moment word : ℕ) (notes : List Note) (events : List Event)
    → list_any about_uploads notes ≡ false
    → uploads_at now (noted place moment word notes events) ≡ uploads_at now events
uploads_at-noted now place moment word notes events none =
    notes_aside about_uploads (λ past. uploads_at now past ≡ uploads_at now events)
    (λ e past other h. uploads_at-event now e past other ∙ h) place moment word notes events
    none refl

pub kept_answers_at-noted : (now place moment word : ℕ) (notes : List Note) (events : List Event)
    → list_any about_answers notes ≡ false
    → kept_answers_at now (noted place moment word notes events) ≡ kept_answers_at now events
kept_answers_at-noted now place moment word notes events none =
    notes_aside about_answers (λ past. kept_answers_at now past ≡ kept_answers_at now events)
    (λ e past other h. kept_answers_at-event now e past other ∙ h) place moment word notes
    events none refl

pub observers_standing-noted : (octets : OctetsSent) (transitions : List Transition)
    (place moment word : ℕ) (notes : List Note) (events : List Event)
    → list_any about_observers notes ≡ false
    → observers_standing octets (noted place moment word notes events) transitions
    ≡ observers_standing octets events transitions
observers_standing-noted octets transitions place moment word notes events none =
    notes_aside about_observers (λ past.
    observers_standing octets past transitions
    ≡ observers_standing octets events transitions)
    (λ e past other h. observers_standing-event octets transitions e past other ∙ h) place moment
    word notes events none refl

pub fetches_running-noted : (octets : OctetsSent) (place moment word : ℕ) (notes : List Note)
    (events : List Event)
    → list_any about_fetches notes ≡ false
    → fetches_running octets (noted place moment word notes events) ≡ fetches_running octets events
fetches_running-noted octets place moment word notes events none =
    notes_aside about_fetches (λ past. fetches_running octets past ≡ fetches_running octets events)
    (λ e past other h. fetches_running-event octets e past other ∙ h) place moment word notes
    events none refl

pub latest_challenges-noted : (place moment word : ℕ) (notes : List Note) (events : List Event)
    → list_any is_challenge notes ≡ false
    → latest_challenges (noted place moment word notes events) ≡ latest_challenges events
latest_challenges-noted place moment word notes events none =
    notes_aside is_challenge (λ past. latest_challenges past ≡ latest_challenges events)
    (λ e past other h. latest_challenges-event e past other ∙ h) place moment word notes events
    none refl

pub challenges_made-noted : (place moment word : ℕ) (notes : List Note) (events : List Event)
    → list_any is_challenge notes ≡ false
    → challenges_made (noted place moment word notes events) ≡ challenges_made events
challenges_made-noted place moment word notes events none =
    notes_aside is_challenge (λ past. challenges_made past ≡ challenges_made events)
    (λ e past other h. challenges_made-event e past other ∙ h) place moment word notes events
    none refl
