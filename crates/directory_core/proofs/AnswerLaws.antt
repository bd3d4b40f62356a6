-- What each change answers, of each history that the version stands for.
use Rattle.std.proofs.Common.{
  ◌≡◌,
  ℕ,
  ◌+◌,
  ◌<◌,
  ◌≤◌,
  max,
  nat_le,
  true,
  List,
  [],
  ◌∷◌,
  ◌++◌,
  find,
  length,
  Option,
  Some,
  None,
  Result,
  Ok,
  Err,
  option_map,
  unwrap_or,
  refl,
  sym,
  ap,
  ◌∙◌,
  subst,
  arith,
}
use Rattle.std.specs.Prelude.{IfOk, IfErr, OnOk}
use Rattle.std.proofs.lemmas.Bool.Decides.{nat_tests}
use Rattle.rd_base.specs.declared.moments.Moment.{Moment}
use Rattle.rd_base.specs.declared.parameters.UpdateParams.{UpdateParams}
use Rattle.rd_base.specs.declared.peers.Peer.{Peer}
use Rattle.rd_base.specs.declared.records.Name.{Name}
use Rattle.rd_base.specs.declared.records.Record.{Record}
use Rattle.rd_base.specs.declared.submitted_links.SubmittedLink.{SubmittedLink}
use Rattle.record_model.specs.AllowedParameters.{IsAllowedChange}
use Rattle.record_model.specs.Records.{updated}
use Rattle.registration.specs.declared.drafts.Draft.{Draft}
use Rattle.registration.specs.Drafts.{IsDraft, recorded}
use Rattle.history_model.specs.declared.entries.Entry.{Entry}
use Rattle.history_model.specs.Leases.{is_live_at, live_among}
use Rattle.history_model.specs.Refusals.{
  max_registrations,
  text_of,
  is_full_of_records,
  change_refusal,
}
use Rattle.history_model.specs.Replay.{is_live_named, number_for, numbered, replaced, replay}
use Rattle.history_model.specs.Versions.{Version, VersionStandsFor}
use Rattle.history_model.proofs.VersionLaws.{number_for-VersionStandsFor}
use Rattle.lease_queue.specs.declared.leases.Lease.{Lease}
use Rattle.directory_core.specs.declared.names.NameSlot.{NameSlot}
use Rattle.directory_core.specs.declared.refusals.Refusal.{Refusal}
use Rattle.directory_core.specs.declared.refusals.Refusal.TheVariants as answer
use Rattle.directory_core.specs.AfterEntries.{renewed, without, after_entry, begun, IsMadeWithRoom}
use Rattle.directory_core.specs.Answers.{IsRefusalOf}
use Rattle.directory_core.specs.Changes.{
  IsRegistrationOf,
  IsUpdateOf,
  IsReplacementOf,
  IsRemovalOf,
  IsBeginning,
}
use Rattle.directory_core.specs.EntryAnswers.{AnswersEntry, with_number}
use Rattle.directory_core.specs.Shown.{IsKept}
use Rattle.directory_core.proofs.EntryLaws.{answers_entry, answers_gone, answers_full}
use Rattle.directory_core.proofs.FitLaws.{
  draft_sound,
  fits_again,
  fits_new,
  fits_update,
  fits_replacement,
  fits_removal,
  fits_beginning,
  new_room,
  register_there,
  gone_update,
  about_update,
  gone_replacement,
  about_replacement,
  gone_removal,
  about_removal,
  number_found,
}

at_moment : (n : ℕ) (now : Moment) (entry : Entry)
    → entry.moment ≡ now
    → n ≤ now.0
    → n ≤ entry.moment.0
at_moment n now entry same order = subst (λ (m : Moment). n ≤ m.0) (sym same) order

-- ---- removals

pub removal_gone : (first : ℕ) (history : List Entry) (v : Version) (now : Moment) (number : ℕ)
    (entry : Entry)
    → v.swept ≤ now.0
    → VersionStandsFor first history v
    → numbered number (live_among now.0 v.records) ≡ None
    → IsRemovalOf now number entry
    → AnswersEntry first history entry v.swept (Err (answer.Gone number))
removal_gone first history v now number entry order stands none h =
    answers_gone first history v entry number (at_moment v.swept now entry h.moment order) stands
    (gone_removal v now number entry none h) (about_removal (replay history) now number entry h)

pub removal_answers : (first : ℕ) (history : List Entry) (v : Version) (names : List NameSlot)
    (leases : List Lease) (count sum : ℕ) (now : Moment) (number : ℕ) (old : Record) (entry : Entry)
    → IsKept v names leases count sum
    → v.at ≤ now.0
    → v.swept ≤ now.0
    → VersionStandsFor first history v
    → numbered number v.records ≡ Some old
    → is_live_at now.0 old ≡ true
    → IsRemovalOf now number entry
    → (made : Result Version Refusal)
    → IsMadeWithRoom 0 v.entries (after_entry v now.0 (without old.number v.records) v.last_number)
    made
    → AnswersEntry first history entry v.swept made
removal_answers first history v names leases count sum now number old entry k after_at order stands
    found live h made is =
    answers_entry first history v names leases count sum entry v.entries 0
    (after_entry v now.0 (without old.number v.records) v.last_number) k
    (at_moment v.at now entry h.moment after_at) (at_moment v.swept now entry h.moment order)
    stands
    (fits_removal v now number old entry found live h) refl made is

-- ---- beginnings

pub beginning_answers : (counted : ℕ) (history : List Entry) (v : Version) (names : List NameSlot)
    (leases : List Lease) (count sum : ℕ) (now : Moment) (first : ℕ) (entry : Entry)
    → IsKept v names leases count sum
    → v.at ≤ now.0
    → v.swept ≤ now.0
    → VersionStandsFor counted history v
    → IsBeginning now first entry
    → (made : Result Version Refusal)
    → IsMadeWithRoom 0 (max v.entries first) (begun v now.0 first) made
    → AnswersEntry counted history entry v.swept made
beginning_answers counted history v names leases count sum now first entry k after_at order stands h
    made is =
    answers_entry counted history v names leases count sum entry (max v.entries first) 0
    (begun v now.0 first) k (at_moment v.at now entry h.moment after_at)
    (at_moment v.swept now entry h.moment order) stands (fits_beginning v now first entry h) refl
    made is

-- ---- updates

pub update_gone : (first : ℕ) (history : List Entry) (v : Version) (now : Moment) (number : ℕ)
    (given : UpdateParams) (peer : Peer) (entry : Entry)
    → v.swept ≤ now.0
    → VersionStandsFor first history v
    → numbered number (live_among now.0 v.records) ≡ None
    → IsUpdateOf now number given peer entry
    → AnswersEntry first history entry v.swept (Err (answer.Gone number))
update_gone first history v now number given peer entry order stands none h =
    answers_gone first history v entry number (at_moment v.swept now entry h.moment order) stands
    (gone_update v now number given peer entry none h)
    (about_update (replay history) now number given peer entry h)

pub update_answers : (first : ℕ) (history : List Entry) (v : Version) (names : List NameSlot)
    (leases : List Lease) (count sum : ℕ) (now : Moment) (number : ℕ) (given : UpdateParams)
    (peer : Peer) (draft : Draft) (old : Record) (entry : Entry)
    → IsKept v names leases count sum
    → v.at ≤ now.0
    → v.swept ≤ now.0
    → VersionStandsFor first history v
    → IsAllowedChange given
    → numbered number v.records ≡ Some old
    → is_live_at now.0 old ≡ true
    → recorded old.number now draft ≡ updated now peer given old
    → IsUpdateOf now number given peer entry → (made : Result Version Refusal)
    → IsMadeWithRoom
    (text_of (renewed (recorded old.number now draft) (live_among now.0 v.records))) v.entries
    (after_entry v now.0 (renewed (recorded old.number now draft) v.records) v.last_number) made
    → AnswersEntry first history entry v.swept made
update_answers first history v names leases count sum now number given peer draft old entry k
    after_at order stands allowed found live same h made is =
    answers_entry first history v names leases count sum entry v.entries
    (text_of (renewed (recorded old.number now draft) (live_among now.0 v.records)))
    (after_entry v now.0 (renewed (recorded old.number now draft) v.records) v.last_number) k
    (at_moment v.at now entry h.moment after_at) (at_moment v.swept now entry h.moment order) stands
    (fits_update v now number given peer draft old entry k.rising allowed found live same h)
    refl made is

-- ---- other links

pub replacement_gone : (first : ℕ) (history : List Entry) (v : Version) (now : Moment) (number : ℕ)
    (links : List SubmittedLink) (entry : Entry)
    → v.swept ≤ now.0
    → VersionStandsFor first history v
    → numbered number (live_among now.0 v.records) ≡ None
    → IsReplacementOf now number links entry
    → AnswersEntry first history entry v.swept (Err (answer.Gone number))
replacement_gone first history v now number links entry order stands none h =
    answers_gone first history v entry number (at_moment v.swept now entry h.moment order) stands
    (gone_replacement v now number links entry none h)
    (about_replacement (replay history) now number links entry h)

pub replacement_answers : (first : ℕ) (history : List Entry) (v : Version) (names : List NameSlot)
    (leases : List Lease) (count sum : ℕ) (now granted : Moment) (number : ℕ)
    (links : List SubmittedLink) (draft : Draft) (old : Record) (entry : Entry)
    → IsKept v names leases count sum
    → v.at ≤ now.0
    → v.swept ≤ now.0
    → VersionStandsFor first history v
    → numbered number v.records ≡ Some old
    → is_live_at now.0 old ≡ true
    → recorded old.number granted draft ≡ replaced links old
    → IsReplacementOf now number links entry → (made : Result Version Refusal)
    → IsMadeWithRoom
    (text_of (renewed (recorded old.number granted draft) (live_among now.0 v.records))) v.entries
    (after_entry v now.0 (renewed (recorded old.number granted draft) v.records) v.last_number) made
    → AnswersEntry first history entry v.swept made
replacement_answers first history v names leases count sum now granted number links draft old entry
    k after_at order stands found live same h made is =
    answers_entry first history v names leases count sum entry v.entries
    (text_of (renewed (recorded old.number granted draft) (live_among now.0 v.records)))
    (after_entry v now.0 (renewed (recorded old.number granted draft) v.records) v.last_number) k
    (at_moment v.at now entry h.moment after_at) (at_moment v.swept now entry h.moment order) stands
    (fits_replacement v now granted number links draft old entry k.rising found live same h)
    refl made is

-- ---- registrations

pub again_answers : (first : ℕ) (history : List Entry) (v : Version) (names : List NameSlot)
    (leases : List Lease) (count sum : ℕ) (now : Moment) (draft : Draft) (old : Record)
    (entry : Entry)
    → IsKept v names leases count sum
    → v.at ≤ now.0
    → v.swept ≤ now.0
    → VersionStandsFor first history v
    → IsDraft draft
    → find (is_live_named draft.name now.0) v.records ≡ Some old
    → IsRegistrationOf now draft entry
    → (made : Result Version Refusal)
    → IsMadeWithRoom
    (text_of (renewed (recorded old.number now draft) (live_among now.0 v.records))) v.entries
    (after_entry v now.0 (renewed (recorded old.number now draft) v.records) v.last_number) made
    → AnswersEntry first history entry v.swept made
again_answers first history v names leases count sum now draft old entry k after_at order stands
    is_draft found h made is =
    answers_entry first history v names leases count sum entry v.entries
    (text_of (renewed (recorded old.number now draft) (live_among now.0 v.records)))
    (after_entry v now.0 (renewed (recorded old.number now draft) v.records) v.last_number) k
    (at_moment v.at now entry h.moment after_at) (at_moment v.swept now entry h.moment order) stands
    (fits_again v now draft old entry k.rising (draft_sound draft is_draft) found h) refl made
    is

pub new_answers : (first : ℕ) (history : List Entry) (v : Version) (names : List NameSlot)
    (leases : List Lease) (count sum : ℕ) (now : Moment) (draft : Draft) (entry : Entry)
    → IsKept v names leases count sum
    → v.at ≤ now.0
    → v.swept ≤ now.0
    → VersionStandsFor first history v
    → IsDraft draft
    → find (is_live_named draft.name now.0) v.records ≡ None
    → length (live_among now.0 v.records) < max_registrations
    → IsRegistrationOf now draft entry
    → (made : Result Version Refusal)
    → IsMadeWithRoom
    (text_of (live_among now.0 v.records ++ recorded (v.last_number + 1) now draft ∷ []))
    v.entries (after_entry v now.0 (v.records ++ recorded (v.last_number + 1) now draft ∷ [])
    (v.last_number + 1)) made
    → AnswersEntry first history entry v.swept made
new_answers first history v names leases count sum now draft entry k after_at order stands is_draft
    none few h made is =
    answers_entry first history v names leases count sum entry v.entries
    (text_of (live_among now.0 v.records ++ recorded (v.last_number + 1) now draft ∷ []))
    (after_entry v now.0 (v.records ++ recorded (v.last_number + 1) now draft ∷ [])
    (v.last_number + 1)) k
    (at_moment v.at now entry h.moment after_at) (at_moment v.swept now entry h.moment order) stands
    (fits_new v now draft entry k.rising (draft_sound draft is_draft) none few h) refl made is

pub full_answers : (first : ℕ) (history : List Entry) (v : Version) (names : List NameSlot)
    (leases : List Lease) (count sum : ℕ) (now : Moment) (draft : Draft) (entry : Entry) (full : ℕ)
    → IsKept v names leases count sum
    → v.at ≤ now.0
    → v.swept ≤ now.0
    → VersionStandsFor first history v
    → find (is_live_named draft.name now.0) v.records ≡ None
    → full ≡ length (live_among now.0 v.records)
    → max_registrations ≤ full
    → IsRegistrationOf now draft entry
    → AnswersEntry first history entry v.swept (Err (answer.FullCount full))
full_answers first history v names leases count sum now draft entry full k after_at order stands
    none counts above h =
    let at : entry.moment.0 ≡ now.0 = ap (λ (m : Moment). m.0) h.moment in
    let many : nat_le max_registrations (length (live_among now.0 v.records)) ≡ true =
    subst (λ n. nat_le max_registrations n ≡ true) counts
    (at_least max_registrations full above) in
    answers_full first history v names leases count sum entry full k
    (at_moment v.at now entry h.moment after_at) (at_moment v.swept now entry h.moment order)
    stands (register_there v now draft entry h)
    (ap (λ m. is_full_of_records (live_among m v.records) entry.change) at
    ∙ new_room now draft entry v.records none h
    ∙ many)
    (counts ∙ ap (λ m. length (live_among m v.records)) (sym at)) above
  where
    at_least : (a b : ℕ) → a ≤ b → nat_le a b ≡ true
    at_least a b h = grind (arith, nat_tests)

-- ---- with the number that was registered

pub numbered_stands : (first : ℕ) (history : List Entry) (entry : Entry) (swept number : ℕ)
    (answer : Result Version Refusal) (result : Result (Version × ℕ) Refusal)
    → AnswersEntry first history entry swept answer
    → result ≡ with_number answer number
    → IfOk result (λ made. VersionStandsFor first (history ++ entry ∷ []) made.0)
numbered_stands first history entry swept number (Ok version) result a is =
    subst (λ (r : Result (Version × ℕ) Refusal).
    IfOk r (λ made. VersionStandsFor first (history ++ entry ∷ []) made.0)) (sym is)
    a.stands
numbered_stands first history entry swept number (Err refusal) result a is =
    subst (λ (r : Result (Version × ℕ) Refusal).
    IfOk r (λ made. VersionStandsFor first (history ++ entry ∷ []) made.0)) (sym is) tt

pub numbered_accepted : (first : ℕ) (history : List Entry) (entry : Entry) (swept number : ℕ)
    (answer : Result Version Refusal) (result : Result (Version × ℕ) Refusal)
    → AnswersEntry first history entry swept answer
    → result ≡ with_number answer number
    → OnOk result (change_refusal first history entry ≡ None)
numbered_accepted first history entry swept number (Ok version) result a is =
    subst (λ (r : Result (Version × ℕ) Refusal). OnOk r (change_refusal first history entry ≡ None))
    (sym is) a.accepted
numbered_accepted first history entry swept number (Err refusal) result a is =
    subst (λ (r : Result (Version × ℕ) Refusal). OnOk r (change_refusal first history entry ≡ None))
    (sym is) tt

pub numbered_refused : (first : ℕ) (history : List Entry) (entry : Entry) (swept number : ℕ)
    (answer : Result Version Refusal) (result : Result (Version × ℕ) Refusal)
    → AnswersEntry first history entry swept answer
    → result ≡ with_number answer number
    → IfErr result (λ refusal. IsRefusalOf first history entry refusal)
numbered_refused first history entry swept number (Ok version) result a is =
    subst (λ (r : Result (Version × ℕ) Refusal).
    IfErr r (λ refusal. IsRefusalOf first history entry refusal)) (sym is) tt
numbered_refused first history entry swept number (Err refusal) result a is =
    subst (λ (r : Result (Version × ℕ) Refusal).
    IfErr r (λ refusal. IsRefusalOf first history entry refusal)) (sym is) a.refused

pub numbered_version : (P : Version → Type 0) (number : ℕ) (answer : Result Version Refusal)
    (result : Result (Version × ℕ) Refusal)
    → IfOk answer P
    → result ≡ with_number answer number
    → IfOk result (λ made. P made.0)
numbered_version P number (Ok version) result p is =
    subst (λ (r : Result (Version × ℕ) Refusal). IfOk r (λ made. P made.0)) (sym is) p
numbered_version P number (Err refusal) result p is =
    subst (λ (r : Result (Version × ℕ) Refusal). IfOk r (λ made. P made.0)) (sym is) tt

pub numbered_number : (P : ℕ → Type 0) (number : ℕ) (answer : Result Version Refusal)
    (result : Result (Version × ℕ) Refusal)
    → P number
    → result ≡ with_number answer number
    → IfOk result (λ made. P made.1)
numbered_number P number (Ok version) result p is =
    subst (λ (r : Result (Version × ℕ) Refusal). IfOk r (λ made. P made.1)) (sym is) p
numbered_number P number (Err refusal) result p is =
    subst (λ (r : Result (Version × ℕ) Refusal). IfOk r (λ made. P made.1)) (sym is) tt

-- the number is that of the history
pub number_again : (first : ℕ) (history : List Entry) (v : Version) (now : ℕ) (name : Name)
    (o : Option Record) (number : ℕ)
    → VersionStandsFor first history v
    → v.swept ≤ now
    → find (is_live_named name now) v.records ≡ o
    → number ≡ unwrap_or (option_map (λ (r : Record). r.number) o) (v.last_number + 1)
    → number ≡ number_for name now (replay history)
number_again first history v now name o number stands order found is =
    is
    ∙ ap (λ n. unwrap_or n (v.last_number + 1)) (sym (number_found name now o v.records found))
    ∙ number_for-VersionStandsFor first history v name now stands order
