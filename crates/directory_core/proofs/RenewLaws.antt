-- One record made anew, one more, or one less: from what each call says, to what is kept and what
-- is answered.
use Rattle.std.proofs.Common.{
  ◌≡◌,
  ℕ,
  ◌+◌,
  ◌-◌,
  ◌*◌,
  ◌^◌,
  ◌<◌,
  ◌≤◌,
  max,
  true,
  List,
  [],
  ◌∷◌,
  ◌++◌,
  length,
  Some,
  Result,
  Err,
  refl,
  sym,
  ap,
  ap₂,
  ◌∙◌,
  subst,
  arith,
}
use Rattle.std.proofs.lemmas.Bool.{ltb-true}
use Rattle.std.proofs.lemmas.List.Sums.{sum_by_push}
use Rattle.rd_base.specs.declared.moments.Moment.{Moment}
use Rattle.rd_base.specs.declared.records.Record.{Record}
use Rattle.rd_base.proofs.lemmas.Each.{each_weaker}
use Rattle.rd_base.proofs.lemmas.Pairs.{PairsByRecursion, pairs_filter}
use Rattle.record_model.specs.ListingLines.{endpoint_line, weight}
use Rattle.registration.specs.declared.drafts.Draft.{Draft}
use Rattle.registration.specs.Drafts.{recorded}
use Rattle.history_model.specs.Leases.{lapse, is_live_at, live_among}
use Rattle.history_model.specs.Refusals.{max_registrations, max_text, max_entries, text_of}
use Rattle.history_model.specs.Replay.{numbered}
use Rattle.history_model.specs.Versions.{Version}
use Rattle.history_model.proofs.NumberLaws.{IsBelow}
use Rattle.lease_queue.specs.declared.leases.Lease.{Lease}
use Rattle.lease_queue.specs.Leases.{with_lease, without_lease}
use Rattle.directory_core.specs.declared.counts.Counts.{Counts}
use Rattle.directory_core.specs.declared.names.NameSlot.{NameSlot}
use Rattle.directory_core.specs.declared.refusals.Refusal.{Refusal}
use Rattle.directory_core.specs.declared.refusals.Refusal.TheVariants as answers
use Rattle.directory_core.specs.AfterEntries.{
  renewed,
  without,
  after_entry,
  IsSound,
  HasRoom,
  IsMadeWithRoom,
}
use Rattle.directory_core.specs.LiveCounts.{counts_of}
use Rattle.directory_core.specs.NameSlots.{hash_of, slot_of, with_slot, without_slot}
use Rattle.directory_core.specs.NumberOrder.{with_record}
use Rattle.directory_core.specs.Shown.{IsStored, IsKept, lease_of}
use Rattle.directory_core.proofs.KeptLaws.{
  IsMade,
  kept_renewed,
  kept_appended,
  kept_without,
  kept_begun,
}
use Rattle.directory_core.proofs.ChangeLaws.{
  with_record-renewed,
  with_record-last,
  numbered-filter,
  sum_renewed,
  sum_without,
  length_without,
}

-- ---- drafts as records

-- where the lease of a draft began no later than a moment, and has not lapsed then
pub record_made : (number : ℕ) (now granted : Moment) (draft : Draft)
    → granted.0 ≤ now.0
    → now.0 < granted.0 + 1000 * draft.lt
    → IsSound draft
    → IsMade now.0 (recorded number granted draft)
unfolding recorded
record_made number now granted draft began lapses sound = record {
  granted = began;
  unlapsed = lapses;
  lasting = sound.lasting;
  references = sound.references;
  against = sound.against;
  of_body = sound.of_body;
  base = sound.base;
}

-- a lease that begins at a moment has not lapsed then
pub begins : (now : Moment) (draft : Draft) → IsSound draft → now.0 < now.0 + 1000 * draft.lt
begins now draft sound = let lasts = sound.lasting.0 in omega (arith, lasts)

-- the lease of a record that is stored began by then
pub began : (v : Version) (now : Moment) (shown old : Record)
    → shown ≡ old
    → IsStored v old
    → v.at ≤ now.0
    → shown.granted.0 ≤ now.0
began v now shown old same stored after_at =
    let granted : shown.granted.0 ≤ v.at =
    subst (λ (r : Record). r.granted.0 ≤ v.at) (sym same) stored.granted in
    omega (arith, granted, after_at)

-- the lease of a live record has not lapsed, with its lifetime
pub stays : (now : Moment) (shown old : Record) (lt : ℕ)
    → shown ≡ old
    → lt ≡ shown.lt
    → is_live_at now.0 old ≡ true
    → now.0 < shown.granted.0 + 1000 * lt
stays now shown old lt same lasts live =
    let above : now.0 < shown.granted.0 + 1000 * shown.lt =
    subst (λ (r : Record). now.0 < r.granted.0 + 1000 * r.lt) (sym same) (ltb-true _ _ live) in
    subst (λ (n : ℕ). now.0 < shown.granted.0 + 1000 * n) (sym lasts) above

-- a draft with the base, the attributes and the links of a record weighs what the record weighs
pub weight_alike : (old : Record) (granted : Moment) (draft : Draft)
    → draft.name ≡ old.name
    → draft.base ≡ old.base
    → draft.attrs ≡ old.attrs
    → draft.items ≡ old.items
    → weight (recorded old.number granted draft) ≡ weight old
unfolding weight endpoint_line recorded
weight_alike old granted draft name base attrs items = rw (name, base, attrs, items) refl

pub record_number : (number : ℕ) (now : Moment) (draft : Draft)
    → (recorded number now draft).number ≡ number
unfolding recorded
record_number number now draft = refl

pub record_name : (number : ℕ) (now : Moment) (draft : Draft)
    → (recorded number now draft).name ≡ draft.name
unfolding recorded
record_name number now draft = refl

pub record_items : (number : ℕ) (now : Moment) (draft : Draft)
    → (recorded number now draft).items ≡ draft.items
unfolding recorded
record_items number now draft = refl

pub record_granted : (number : ℕ) (now : Moment) (draft : Draft)
    → (recorded number now draft).granted ≡ now
unfolding recorded
record_granted number now draft = refl

-- ---- a lease by its parts

lease : Moment → ℕ → Lease
lease lapse number = record { lapse = lapse; number = number }

pub lease_is : (moment : Moment) (number : ℕ) (r : Record)
    → moment.0 ≡ lapse r
    → number ≡ r.number
    → ◌≡◌ {A = Lease} (record { lapse = moment; number = number }) (lease_of r)
lease_is moment number r at same = ap₂ (λ (l n : ℕ). made l n) at same
  where
    made : ℕ → ℕ → Lease
    made l n = record { lapse = record { 0 = l }; number = n }

-- ---- what it weighs

-- the live records weigh as much more as the new record does than the old one
pub renewed_text : (v : Version) (now : ℕ) (r old : Record)
    → PairsByRecursion IsBelow v.records
    → numbered r.number v.records ≡ Some old
    → is_live_at now old ≡ true
    → (text_of (live_among now v.records) - weight old) + weight r
    ≡ text_of (renewed r (live_among now v.records))
renewed_text v now r old up found live =
    let found_live = numbered-filter (is_live_at now) r.number old v.records found live in
    let live_up = pairs_filter IsBelow (is_live_at now) v.records up in
    let sum = sum_renewed weight r old (live_among now v.records) live_up found_live in
    let rest = sum_without weight r.number old (live_among now v.records) live_up found_live in
    omega (arith, sum, rest)

pub old_text : (v : Version) (now number : ℕ) (old : Record)
    → PairsByRecursion IsBelow v.records
    → numbered number v.records ≡ Some old
    → is_live_at now old ≡ true
    → weight old ≤ text_of (live_among now v.records)
old_text v now number old up found live =
    let rest =
    sum_without weight number old (live_among now v.records)
    (pairs_filter IsBelow (is_live_at now) v.records up)
    (numbered-filter (is_live_at now) number old v.records found live) in
    omega (arith, rest)

pub appended_text : (now : ℕ) (r : Record) (rs : List Record)
    → text_of (rs ++ r ∷ []) ≡ text_of rs + weight r
appended_text now r rs = sum_by_push weight rs r

-- ---- one record made anew

-- the record with what it weighs, and what is left of the text
pub record Renewal (v : Version) (now : Moment) (taken : Counts) (old : Record) (began : Moment)
    (draft : Draft) : Type 0 where
  pub after_at : v.at ≤ now.0
  pub after_sweep : v.swept ≤ now.0
  pub moment : now.0 ≤ 10 ^ 15
  pub counts : taken ≡ counts_of (live_among now.0 v.records)
  pub stored : numbered old.number v.records ≡ Some old
  pub live : is_live_at now.0 old ≡ true
  pub granted : began.0 ≤ now.0
  pub unlapsed : now.0 < began.0 + 1000 * draft.lt
  pub named : draft.name ≡ old.name
  pub sound : IsSound draft

module _ (v : Version) (now : Moment) (counted : Counts) (old : Record) (began : Moment)
    (draft : Draft) (a : Renewal v now counted old began draft)
    (up : PairsByRecursion IsBelow v.records) where
  pub text_is : (lost : ℕ)
      → lost ≡ weight old
      → (counted.text - lost) + weight (recorded old.number began draft)
      ≡ text_of (renewed (recorded old.number began draft) (live_among now.0 v.records))
  text_is lost loses =
      let before : counted.text ≡ text_of (live_among now.0 v.records) =
      ap (λ (x : Counts). x.text) a.counts in
      let found : numbered (recorded old.number began draft).number v.records ≡ Some old =
      ap (λ n. numbered n v.records) (record_number old.number began draft) ∙ a.stored in
      let all = renewed_text v now.0 (recorded old.number began draft) old up found a.live in
      ap₂ (λ t l. (t - l) + weight (recorded old.number began draft)) before loses ∙ all

  pub lost_below : (lost : ℕ) → lost ≡ weight old → lost ≤ counted.text
  lost_below lost loses =
      let before : counted.text ≡ text_of (live_among now.0 v.records) =
      ap (λ (x : Counts). x.text) a.counts in
      let less = old_text v now.0 old.number old up a.stored a.live in
      omega (arith, before, loses, less)

-- what each call says of a renewal, and what is kept of it
pub renewal_kept : (v : Version) (names : List NameSlot) (leases : List Lease) (count sum : ℕ)
    (now : Moment) (counted : Counts) (old : Record) (began : Moment) (draft : Draft)
    → IsKept v names leases count sum
    → Renewal v now counted old began draft
    → v.entries < max_entries
    → (text : ℕ)
    → text ≡ text_of (renewed (recorded old.number began draft) (live_among now.0 v.records))
    → text ≤ max_text
    → (records : List Record)
    → records ≡ with_record (recorded old.number began draft) v.records
    → PairsByRecursion IsBelow records
    → (queue : List Lease)
    → queue
    ≡ with_lease (without_lease leases (lease_of old))
    (lease_of (recorded old.number began draft))
    → IsKept (after_entry v now.0 records v.last_number) names queue counted.live text
renewal_kept v names leases count sum now counted old began draft k a room text weighs light
    records put up queue leased =
    let r = recorded old.number began draft in
    let number = record_number old.number began draft in
    let found : numbered r.number v.records ≡ Some old =
    ap (λ n. numbered n v.records) number ∙ a.stored in
    let same : records ≡ renewed r v.records =
    put ∙ with_record-renewed r old v.records k.rising found in
    let made = record_made old.number now began draft a.granted a.unlapsed a.sound in
    let name : r.name ≡ old.name = record_name old.number began draft ∙ a.named in
    let whole =
    kept_renewed v names leases count sum now.0 k a.after_at a.after_sweep a.moment room r old
    text made found a.live name weighs light (subst (PairsByRecursion IsBelow) same up) in
    subst (λ c. IsKept (after_entry v now.0 records v.last_number) names queue c text)
    (sym (ap (λ (x : Counts). x.live) a.counts))
    (subst (λ q.
    IsKept (after_entry v now.0 records v.last_number) names q
    (length (live_among now.0 v.records)) text) (sym leased)
    (subst (λ rs.
    IsKept (after_entry v now.0 rs v.last_number) names
    (with_lease (without_lease leases (lease_of old)) (lease_of r))
    (length (live_among now.0 v.records)) text) (sym same) whole))

pub renewal_records : (v : Version) (now : Moment) (counted : Counts) (old : Record)
    (began : Moment) (draft : Draft)
    → PairsByRecursion IsBelow v.records
    → Renewal v now counted old began draft
    → (records : List Record)
    → records ≡ with_record (recorded old.number began draft) v.records
    → after_entry v now.0 records v.last_number
    ≡ after_entry v now.0 (renewed (recorded old.number began draft) v.records) v.last_number
renewal_records v now counted old began draft up a records put =
    let r = recorded old.number began draft in
    let found : numbered r.number v.records ≡ Some old =
    ap (λ n. numbered n v.records) (record_number old.number began draft) ∙ a.stored in
    ap (λ rs. after_entry v now.0 rs v.last_number)
    (put ∙ with_record-renewed r old v.records up found)

-- ---- one record more

pub record Addition (v : Version) (now : Moment) (taken : Counts) (draft : Draft) : Type 0 where
  pub after_at : v.at ≤ now.0
  pub after_sweep : v.swept ≤ now.0
  pub moment : now.0 ≤ 10 ^ 15
  pub counts : taken ≡ counts_of (live_among now.0 v.records)
  pub few : length (live_among now.0 v.records) < max_registrations
  pub sound : IsSound draft

pub addition_put : (v : Version) (names : List NameSlot) (leases : List Lease) (count sum : ℕ)
    (now : Moment) (draft : Draft)
    → IsKept v names leases count sum
    → with_record (recorded (v.last_number + 1) now draft) v.records
    ≡ v.records ++ recorded (v.last_number + 1) now draft ∷ []
addition_put v names leases count sum now draft k =
    let r = recorded (v.last_number + 1) now draft in
    let number = record_number (v.last_number + 1) now draft in
    with_record-last r v.records (each_weaker (IsStored v) (λ x. x.number < r.number)
    (λ x s. let high = s.numbered.1 in omega (arith, high, number)) v.records k.stored)

pub addition_kept : (v : Version) (names : List NameSlot) (leases : List Lease) (count sum : ℕ)
    (now : Moment) (counted : Counts) (draft : Draft)
    → IsKept v names leases count sum
    → Addition v now counted draft
    → v.entries < max_entries
    → (text : ℕ)
    → text ≡ text_of (live_among now.0 v.records ++ recorded (v.last_number + 1) now draft ∷ [])
    → text ≤ max_text
    → (records : List Record)
    → records ≡ with_record (recorded (v.last_number + 1) now draft) v.records
    → (slots : List NameSlot)
    → slots ≡ with_slot (slot_of (recorded (v.last_number + 1) now draft)) names
    → (queue : List Lease)
    → queue ≡ with_lease leases (lease_of (recorded (v.last_number + 1) now draft))
    → IsKept (after_entry v now.0 records (v.last_number + 1)) slots queue (counted.live + 1) text
addition_kept v names leases count sum now counted draft k a room text weighs light records put
    slots named queue leased =
    let r = recorded (v.last_number + 1) now draft in
    let same = put ∙ addition_put v names leases count sum now draft k in
    let whole =
    kept_appended v names leases count sum now.0 k a.after_at a.after_sweep a.moment room r text
    (record_made (v.last_number + 1) now now draft (omega arith) (begins now draft a.sound) a.sound)
    (record_number (v.last_number + 1) now draft) a.few weighs light in
    subst (λ c. IsKept (after_entry v now.0 records (v.last_number + 1)) slots queue (c + 1) text)
    (sym (ap (λ (x : Counts). x.live) a.counts))
    (subst (λ q.
    IsKept (after_entry v now.0 records (v.last_number + 1)) slots q
    (length (live_among now.0 v.records) + 1) text) (sym leased)
    (subst (λ n.
    IsKept (after_entry v now.0 records (v.last_number + 1)) n
    (with_lease leases (lease_of r)) (length (live_among now.0 v.records) + 1) text)
    (sym named)
    (subst (λ rs.
    IsKept (after_entry v now.0 rs (v.last_number + 1)) (with_slot (slot_of r) names)
    (with_lease leases (lease_of r)) (length (live_among now.0 v.records) + 1) text)
    (sym same) whole)))

pub addition_text : (v : Version) (now : Moment) (counted : Counts) (draft : Draft)
    → Addition v now counted draft
    → counted.text + weight (recorded (v.last_number + 1) now draft)
    ≡ text_of (live_among now.0 v.records ++ recorded (v.last_number + 1) now draft ∷ [])
addition_text v now counted draft a =
    ap (λ t. t + weight (recorded (v.last_number + 1) now draft))
    (ap (λ (x : Counts). x.text) a.counts)
    ∙ sym
    (appended_text now.0 (recorded (v.last_number + 1) now draft) (live_among now.0 v.records))

-- ---- one record less

pub record Removal (v : Version) (now : Moment) (taken : Counts) (old : Record) : Type 0 where
  pub after_at : v.at ≤ now.0
  pub after_sweep : v.swept ≤ now.0
  pub moment : now.0 ≤ 10 ^ 15
  pub counts : taken ≡ counts_of (live_among now.0 v.records)
  pub stored : numbered old.number v.records ≡ Some old
  pub live : is_live_at now.0 old ≡ true

pub removal_fewer : (v : Version) (now : Moment) (counted : Counts) (old : Record)
    → PairsByRecursion IsBelow v.records
    → Removal v now counted old
    → (0 < counted.live) × (weight old ≤ counted.text)
removal_fewer v now counted old up a =
    let live = ap (λ (x : Counts). x.live) a.counts in
    let text = ap (λ (x : Counts). x.text) a.counts in
    let found = numbered-filter (is_live_at now.0) old.number old v.records a.stored a.live in
    let fewer =
    length_without old.number old (live_among now.0 v.records)
    (pairs_filter IsBelow (is_live_at now.0) v.records up) found in
    let less = old_text v now.0 old.number old up a.stored a.live in
    (omega (arith, live, fewer), omega (arith, text, less))

pub removal_kept : (v : Version) (names : List NameSlot) (leases : List Lease) (count sum : ℕ)
    (now : Moment) (counted : Counts) (old : Record)
    → IsKept v names leases count sum
    → Removal v now counted old
    → v.entries < max_entries
    → (live text : ℕ) → live + 1 ≡ counted.live → text + weight old ≡ counted.text
    → (records : List Record)
    → records ≡ without old.number v.records
    → (slots : List NameSlot)
    → slots ≡ without_slot (slot_of old) names
    → (queue : List Lease)
    → queue ≡ without_lease leases (lease_of old)
    → IsKept (after_entry v now.0 records v.last_number) slots queue live text
removal_kept v names leases count sum now counted old k a room live text fewer lighter records taken
    slots unnamed queue ended =
    let whole =
    kept_without v names leases count sum now.0 k a.after_at a.after_sweep a.moment room
    old.number old live text a.stored a.live (fewer ∙ ap (λ (x : Counts). x.live) a.counts)
    (lighter ∙ ap (λ (x : Counts). x.text) a.counts) in
    subst (λ q. IsKept (after_entry v now.0 records v.last_number) slots q live text) (sym ended)
    (subst (λ n.
    IsKept (after_entry v now.0 records v.last_number) n
    (without_lease leases (lease_of old)) live text) (sym unnamed)
    (subst (λ rs.
    IsKept (after_entry v now.0 rs v.last_number) (without_slot (slot_of old) names)
    (without_lease leases (lease_of old)) live text) (sym taken) whole))

-- ---- a beginning

-- a version after a beginning at a moment, with these records, after so many that are counted and
-- with this last number
abbrev pub begun_with : Version → ℕ → List Record → ℕ → ℕ → Version
begun_with v now records entries last_number = record {
  records = records;
  entries = entries + 1;
  at = now;
  last_number = last_number;
  swept_live = 0;
  swept = v.swept;
}

pub beginning_kept : (v : Version) (names : List NameSlot) (leases : List Lease) (count sum : ℕ)
    (now : Moment) (counted : Counts) (first : ℕ)
    → IsKept v names leases count sum
    → v.at ≤ now.0
    → v.swept ≤ now.0
    → now.0 ≤ 10 ^ 15
    → counted ≡ counts_of (live_among now.0 v.records)
    → (entries last_number : ℕ)
    → entries ≡ max v.entries first
    → entries < max_entries
    → last_number ≡ max v.last_number first
    → (records : List Record)
    → records ≡ v.records
    → (slots : List NameSlot)
    → slots ≡ names
    → (queue : List Lease)
    → queue ≡ leases
    → IsKept (begun_with v now.0 records entries last_number) slots queue counted.live counted.text
beginning_kept v names leases count sum now counted first k after_at after_sweep moment counts
    entries last_number lifted room last records shared slots named queue leased =
    let whole =
    kept_begun v names leases count sum now.0 first k after_at after_sweep moment
    (omega (arith, lifted, room)) in
    subst (λ (c : Counts).
    IsKept (begun_with v now.0 records entries last_number) slots queue c.live c.text) (sym counts)
    (subst (λ q.
    IsKept (begun_with v now.0 records entries last_number) slots q
    (length (live_among now.0 v.records)) (text_of (live_among now.0 v.records))) (sym leased)
    (subst (λ n.
    IsKept (begun_with v now.0 records entries last_number) n leases
    (length (live_among now.0 v.records)) (text_of (live_among now.0 v.records))) (sym named)
    (subst (λ rs.
    IsKept (begun_with v now.0 rs entries last_number) names leases
    (length (live_among now.0 v.records)) (text_of (live_among now.0 v.records))) (sym shared)
    (subst (λ e.
    IsKept (begun_with v now.0 v.records e last_number) names leases
    (length (live_among now.0 v.records)) (text_of (live_among now.0 v.records))) (sym lifted)
    (subst (λ l.
    IsKept (begun_with v now.0 v.records (max v.entries first) l) names leases
    (length (live_among now.0 v.records)) (text_of (live_among now.0 v.records))) (sym last)
    whole)))))

-- ---- what has room

pub room_refused : (text entries counted : ℕ) (new : Version) (refusal : Refusal)
    (answer : Result Version Refusal)
    → counted ≡ entries
    → answer ≡ Err refusal
    → HasRoom text counted (Err refusal)
    → IsMadeWithRoom text entries new answer
room_refused text entries counted new refusal answer same is h =
    subst (λ (a : Result Version Refusal). IsMadeWithRoom text entries new a) (sym is)
    (subst (λ n. IsMadeWithRoom text n new (Err refusal)) same (by refusal h))
  where
    by : (refusal : Refusal)
        → HasRoom text counted (Err refusal)
        → IsMadeWithRoom text counted new (Err refusal)
    by (answers.FullText sum) h = h
    by answers.FullEntries h = h
    by answers.Starved h = absurd h
    by (answers.Gone number) h = absurd h
    by (answers.FullCount count) h = absurd h

-- a slot by its parts
pub slot_is : (shown : Record) (number : ℕ) (r : Record)
    → shown ≡ r
    → number ≡ r.number
    → ◌≡◌ {A = NameSlot} (record { hash = hash_of shown.name; number = number }) (slot_of r)
slot_is shown number r same numbered = ap₂ (λ (x : Record) (n : ℕ). made x n) same numbered
  where
    made : Record → ℕ → NameSlot
    made x n = record { hash = hash_of x.name; number = n }
