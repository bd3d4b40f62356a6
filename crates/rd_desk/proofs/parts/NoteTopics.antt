-- What a note is about: one of the tables of a desk, or the registrations. What is beside a table
-- leaves it.
use Rattle.std.proofs.Common.{◌≡◌, Bool, true, false, List, [], ◌∷◌, refl, sym}
use Rattle.std.specs.List.{list_any, AllByRecursion}
use Rattle.std.proofs.lemmas.Bool.{false≢true}
use Rattle.rd_base.proofs.lemmas.Each.{each_failing, none_pass}
use Rattle.event_model.specs.declared.notes.Note.{Note}
use Rattle.event_model.specs.declared.notes.Note.TheVariants as note
use Rattle.event_model.specs.Observers.{is_forming}
use Rattle.event_model.specs.Challenges.{is_challenge}
use Rattle.event_model.proofs.AsideTables.{
  about_exchanges,
  about_uploads,
  about_answers,
  about_observers,
  about_fetches,
}
use Rattle.journal_model.specs.Effects.{Effects}
use Rattle.journal_model.proofs.EntriesNoted.{entries_in}
use Rattle.coap_answers.specs.Sendings.{IsRequestSent, AreRequestsSent}

pub data Topic : Type 0 where
  exchanges : Topic
  transfers : Topic
  observers : Topic
  fetches : Topic
  challenges : Topic
  registrations : Topic

-- what a note is about
abbrev pub topic_of : Note → Topic
topic_of (note.Admitted peer mid) = exchanges
topic_of (note.Settled place reply) = exchanges
topic_of (note.Failed place) = exchanges
topic_of (note.Entered entry) = registrations
topic_of (note.Piece peer key number octets) = transfers
topic_of (note.Finished peer key) = transfers
topic_of (note.Kept peer key body tag) = transfers
topic_of (note.Used peer key) = transfers
topic_of (note.Watched o) = observers
topic_of (note.Unwatched peer token) = observers
topic_of (note.Formed peer token body mid) = observers
topic_of (note.Unchanged peer token) = observers
topic_of (note.Again peer mid) = observers
topic_of (note.Landed peer mid) = observers
topic_of (note.Asked peer token mid params number) = fetches
topic_of (note.Gathered peer octets tag) = fetches
topic_of (note.Resent peer) = fetches
topic_of (note.Waiting peer) = fetches
topic_of (note.Ceased peer) = fetches
topic_of (note.Challenged peer value) = challenges

-- the topics differ
abbrev pub differ : Topic → Topic → Bool
differ exchanges exchanges = false
differ transfers transfers = false
differ observers observers = false
differ fetches fetches = false
differ challenges challenges = false
differ registrations registrations = false
differ _ _ = true

-- the note is about something else than this
abbrev pub is_beside : Topic → Note → Bool
is_beside one n = differ one (topic_of n)

-- the notes are about this alone
abbrev pub AreAbout : Topic → List Note → Type 0
AreAbout one notes = list_any (is_beside one) notes ≡ false

-- what differs one way differs the other way
clash : (one two : Topic) → differ one two ≡ true → differ two one ≡ false → ⊥
clash exchanges exchanges h g = false≢true h
clash transfers transfers h g = false≢true h
clash observers observers h g = false≢true h
clash fetches fetches h g = false≢true h
clash challenges challenges h g = false≢true h
clash registrations registrations h g = false≢true h
clash _ _ h g = false≢true (sym g)

-- ---- a note about one thing is about no other

beside_exchanges : (one : Topic)
    → differ exchanges one ≡ true
    → (n : Note)
    → is_beside one n ≡ false
    → about_exchanges n ≡ false
beside_exchanges one other (note.Admitted peer mid) h = absurd (clash exchanges one other h)
beside_exchanges one other (note.Settled place reply) h = absurd (clash exchanges one other h)
beside_exchanges one other (note.Failed place) h = absurd (clash exchanges one other h)
beside_exchanges one other _ h = refl

beside_uploads : (one : Topic)
    → differ transfers one ≡ true
    → (n : Note)
    → is_beside one n ≡ false
    → about_uploads n ≡ false
beside_uploads one other (note.Piece peer key number octets) h =
    absurd (clash transfers one other h)
beside_uploads one other (note.Finished peer key) h = absurd (clash transfers one other h)
beside_uploads one other _ h = refl

beside_answers : (one : Topic)
    → differ transfers one ≡ true
    → (n : Note)
    → is_beside one n ≡ false
    → about_answers n ≡ false
beside_answers one other (note.Kept peer key body tag) h = absurd (clash transfers one other h)
beside_answers one other (note.Used peer key) h = absurd (clash transfers one other h)
beside_answers one other _ h = refl

beside_observers : (one : Topic)
    → differ observers one ≡ true
    → (n : Note)
    → is_beside one n ≡ false
    → about_observers n ≡ false
beside_observers one other (note.Watched o) h = absurd (clash observers one other h)
beside_observers one other (note.Unwatched peer token) h = absurd (clash observers one other h)
beside_observers one other (note.Formed peer token body mid) h =
    absurd (clash observers one other h)
beside_observers one other (note.Unchanged peer token) h = absurd (clash observers one other h)
beside_observers one other (note.Again peer mid) h = absurd (clash observers one other h)
beside_observers one other (note.Landed peer mid) h = absurd (clash observers one other h)
beside_observers one other _ h = refl

beside_fetches : (one : Topic)
    → differ fetches one ≡ true
    → (n : Note)
    → is_beside one n ≡ false
    → about_fetches n ≡ false
beside_fetches one other (note.Asked peer token mid params number) h =
    absurd (clash fetches one other h)
beside_fetches one other (note.Gathered peer octets tag) h = absurd (clash fetches one other h)
beside_fetches one other (note.Resent peer) h = absurd (clash fetches one other h)
beside_fetches one other (note.Waiting peer) h = absurd (clash fetches one other h)
beside_fetches one other (note.Ceased peer) h = absurd (clash fetches one other h)
beside_fetches one other _ h = refl

beside_challenges : (one : Topic)
    → differ challenges one ≡ true
    → (n : Note)
    → is_beside one n ≡ false
    → is_challenge n ≡ false
beside_challenges one other (note.Challenged peer value) h = absurd (clash challenges one other h)
beside_challenges one other _ h = refl

-- a note that holds an entry
abbrev is_entering : Note → Bool
is_entering (note.Entered entry) = true
is_entering _ = false

beside_registrations : (one : Topic)
    → differ registrations one ≡ true
    → (n : Note)
    → is_beside one n ≡ false
    → is_entering n ≡ false
beside_registrations one other (note.Entered entry) h = absurd (clash registrations one other h)
beside_registrations one other _ h = refl

-- ---- so are the notes of a part

pub no_exchanges : (one : Topic) (notes : List Note)
    → differ exchanges one ≡ true
    → AreAbout one notes
    → list_any about_exchanges notes ≡ false
no_exchanges one notes other h =
    none_pass (is_beside one) about_exchanges (beside_exchanges one other) notes h

pub no_uploads : (one : Topic) (notes : List Note)
    → differ transfers one ≡ true
    → AreAbout one notes
    → list_any about_uploads notes ≡ false
no_uploads one notes other h =
    none_pass (is_beside one) about_uploads (beside_uploads one other) notes h

pub no_answers : (one : Topic) (notes : List Note)
    → differ transfers one ≡ true
    → AreAbout one notes
    → list_any about_answers notes ≡ false
no_answers one notes other h =
    none_pass (is_beside one) about_answers (beside_answers one other) notes h

pub no_observers : (one : Topic) (notes : List Note)
    → differ observers one ≡ true
    → AreAbout one notes
    → list_any about_observers notes ≡ false
no_observers one notes other h =
    none_pass (is_beside one) about_observers (beside_observers one other) notes h

pub no_fetches : (one : Topic) (notes : List Note)
    → differ fetches one ≡ true
    → AreAbout one notes
    → list_any about_fetches notes ≡ false
no_fetches one notes other h =
    none_pass (is_beside one) about_fetches (beside_fetches one other) notes h

pub no_challenges : (one : Topic) (notes : List Note)
    → differ challenges one ≡ true
    → AreAbout one notes
    → list_any is_challenge notes ≡ false
no_challenges one notes other h =
    none_pass (is_beside one) is_challenge (beside_challenges one other) notes h

-- notes that enter nothing hold no entry
none_entered : (notes : List Note)
    → AllByRecursion (λ n. is_entering n ≡ false) notes
    → entries_in notes ≡ []
none_entered [] h = refl
none_entered (n ∷ notes) h = by n h.0 (none_entered notes h.1)
  where
    by : (x : Note) → is_entering x ≡ false → entries_in notes ≡ [] → entries_in (x ∷ notes) ≡ []
    by (note.Entered entry) g rest = absurd (false≢true (sym g))
    by _ g rest = rest

pub no_entries : (one : Topic) (notes : List Note)
    → differ registrations one ≡ true
    → AreAbout one notes
    → entries_in notes ≡ []
no_entries one notes other h =
    none_entered notes
    (each_failing (is_beside one) (λ n. is_entering n ≡ false) (beside_registrations one other)
    notes h)

-- notes that are not about fetches make no request
pub no_requests : (e : Effects) → list_any about_fetches e.notes ≡ false → AreRequestsSent e
no_requests e none = each_failing about_fetches (IsRequestSent e.sent) by e.notes none
  where
    by : (n : Note) → about_fetches n ≡ false → IsRequestSent e.sent n
    by (note.Asked peer token mid params number) h = absurd (false≢true (sym h))
    by _ h = tt

-- and notes that are not about observers build no body
pub no_bodies : (one : Topic) (notes : List Note)
    → differ observers one ≡ true
    → AreAbout one notes
    → list_any is_forming notes ≡ false
no_bodies one notes other h =
    none_pass about_observers is_forming by notes (no_observers one notes other h)
  where
    by : (n : Note) → about_observers n ≡ false → is_forming n ≡ false
    by (note.Formed peer token body mid) g = absurd (false≢true (sym g))
    by _ g = refl
