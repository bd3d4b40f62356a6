-- What a version keeps beside its records still fits them after a change.
use Rattle.std.proofs.Common.{
  ◌≡◌,
  ℕ,
  ◌+◌,
  ◌*◌,
  ◌^◌,
  ◌<◌,
  ◌≤◌,
  max,
  Bool,
  true,
  false,
  not,
  cond,
  List,
  [],
  ◌∷◌,
  ◌++◌,
  map,
  filter,
  length,
  length-append,
  Some,
  refl,
  sym,
  ap,
  ◌∙◌,
  subst,
  arith,
  eqb-true,
  lt-ltb,
}
use Rattle.std.specs.List.{AllByRecursion, list_all}
use Rattle.std.proofs.lemmas.Bool.{true≢false}
use Rattle.std.proofs.lemmas.Bool.Decides.{nat_tests}
use Rattle.std.proofs.lemmas.List.{length-map}
use Rattle.std.proofs.lemmas.List.Elements.{filter-append}
use Rattle.rd_base.specs.declared.records.Record.{Record}
use Rattle.rd_base.proofs.lemmas.Each.{each_weaker, each_map, each_filter, each_push, each_passes}
use Rattle.rd_base.proofs.lemmas.Filters.{filter_swapped}
use Rattle.rd_base.proofs.lemmas.Pairs.{PairsByRecursion, pairs_filter, pairs_push}
use Rattle.record_model.specs.ListingLines.{weight}
use Rattle.record_model.specs.Parameters.{is_base}
use Rattle.registration.specs.Drafts.{has_references}
use Rattle.registration.specs.Submissions.{AreOfBody}
use Rattle.history_model.specs.Leases.{lapse, is_live_at, live_among}
use Rattle.history_model.specs.Refusals.{max_registrations, max_text, max_entries, text_of}
use Rattle.history_model.specs.Replay.{is_numbered, numbered}
use Rattle.history_model.specs.Versions.{Version, state_of}
use Rattle.history_model.proofs.NumberLaws.{IsBelow, HasRisingNumbers}
use Rattle.lease_queue.specs.declared.leases.Lease.{Lease}
use Rattle.lease_queue.specs.Leases.{with_lease, without_lease}
use Rattle.directory_core.specs.declared.names.NameSlot.{NameSlot}
use Rattle.directory_core.specs.AfterEntries.{renewed, without, after_entry, begun}
use Rattle.directory_core.specs.LapseOrder.{in_order_of, in_order_of_lapse}
use Rattle.directory_core.specs.LinksAgainst.{AreAgainst}
use Rattle.directory_core.specs.NameSlots.{hash_of, slot_of, slots_of, with_slot, without_slot}
use Rattle.directory_core.specs.Shown.{counted_at, IsStored, IsKept, lease_of, leases_of}
use Rattle.directory_core.proofs.InOrderLaws.{
  DifferFrom,
  each_in_order,
  in_order-IsOrdered,
  differ_in_order,
  filter_in_order,
}
use Rattle.directory_core.proofs.SlotLaws.{key, below_differ, with_slot-placed, without_slot-filter}
use Rattle.directory_core.proofs.LeaseLaws.{with_lease-placed, without_lease-filter}
use Rattle.directory_core.proofs.CountLaws.{fewer_live, less_text}
use Rattle.directory_core.proofs.ChangeLaws.{
  only_one,
  its_number,
  known_of,
  order_renewed,
  order_kept,
  order_last,
  filter_map_kept,
  numbered-filter,
  length_without,
  sum_without,
}

-- ---- what is known of a version

pub kept-HasRisingNumbers : (v : Version) (names : List NameSlot) (leases : List Lease)
    (count sum : ℕ)
    → IsKept v names leases count sum
    → HasRisingNumbers (state_of v)
kept-HasRisingNumbers v names leases count sum k = record {
  ascending = k.rising;
  each_numbered =
      each_weaker (IsStored v) (λ r. (0 < r.number) × (r.number ≤ v.last_number))
      (λ r s. s.numbered) v.records k.stored;
}

-- at a moment not before its last entry and its last sweep, no more are live and weigh more than
-- may
pub live_few : (v : Version) (names : List NameSlot) (leases : List Lease) (count sum now : ℕ)
    → IsKept v names leases count sum
    → v.at ≤ now
    → v.swept ≤ now
    → length (live_among now v.records) ≤ max_registrations
live_few v names leases count sum now k a b =
    let fewer = fewer_live (counted_at v) now v.records (omega arith) in
    let live = k.live in
    let few = k.few in
    omega (arith, fewer, live, few)

pub live_light : (v : Version) (names : List NameSlot) (leases : List Lease) (count sum now : ℕ)
    → IsKept v names leases count sum
    → v.at ≤ now
    → v.swept ≤ now
    → text_of (live_among now v.records) ≤ max_text
live_light v names leases count sum now k a b =
    let less = less_text (counted_at v) now v.records (omega arith) in
    let text = k.text in
    let light = k.light in
    omega (arith, less, text, light)

-- a record that is stored before an entry is after it
stored_on : (v w : Version) (r : Record)
    → v.last_number ≤ w.last_number
    → v.at ≤ w.at
    → w.swept ≡ v.swept
    → IsStored v r
    → IsStored w r
stored_on v w r a b c s =
    let low = s.numbered.0 in
    let high = s.numbered.1 in
    let granted = s.granted in
    let unswept = s.unswept in
    record {
      numbered = (low, omega arith);
      granted = omega arith;
      unswept = omega (arith, c, unswept);
      lasting = s.lasting;
      references = s.references;
      against = s.against;
      of_body = s.of_body;
      base = s.base;
    }

-- ---- an entry more

-- what is known of a record that an entry makes
pub record IsMade (now : ℕ) (r : Record) : Type 0 where
  pub granted : r.granted.0 ≤ now
  pub unlapsed : now < lapse r
  pub lasting : (0 < r.lt) × (r.lt < 2 ^ 32)
  pub references : list_all has_references r.items ≡ true
  pub against : AreAgainst r.base r.items
  pub of_body : AreOfBody r.items
  pub base : is_base r.base ≡ true

pub made_live : (now moment : ℕ) (r : Record)
    → IsMade now r
    → moment ≤ now
    → is_live_at moment r ≡ true
made_live now moment r m order =
    let lapses : now < r.granted.0 + 1000 * r.lt = m.unlapsed in
    lt-ltb moment (r.granted.0 + 1000 * r.lt) (omega (arith, lapses))

made_stored : (w : Version) (r : Record)
    → IsMade w.at r
    → w.swept ≤ w.at
    → 0 < r.number
    → r.number ≤ w.last_number
    → IsStored w r
made_stored w r m order low high =
    let lapses = m.unlapsed in
    record {
      numbered = (low, high);
      granted = m.granted;
      unswept = omega (arith, lapses);
      lasting = m.lasting;
      references = m.references;
      against = m.against;
      of_body = m.of_body;
      base = m.base;
    }

-- the live records were counted at the moment of the entry
counted_now : (now swept : ℕ) → swept ≤ now → max now swept ≡ now
counted_now now swept order = omega arith

-- with one made anew
module _ (v : Version) (names : List NameSlot) (leases : List Lease) (count sum now : ℕ)
    (k : IsKept v names leases count sum) (after_at : v.at ≤ now) (after_sweep : v.swept ≤ now)
    (moment : now ≤ 10 ^ 15) (room : v.entries < max_entries) where
  unique_in_order : (key : Record → ℕ) (number : ℕ) (old : Record)
      → numbered number v.records ≡ Some old
      → AllByRecursion (λ x. x.number ≡ number → x ≡ old) (in_order_of key v.records)
  unique_in_order key number old found =
      each_in_order key (λ x. x.number ≡ number → x ≡ old) v.records
      (only_one number old v.records k.rising found)

  differ : PairsByRecursion DifferFrom v.records
  differ = below_differ v.records k.rising

  -- the leases without that of the record of a number
  leases_without : (number : ℕ) (old : Record)
      → numbered number v.records ≡ Some old
      → without_lease leases (lease_of old) ≡ leases_of (without number v.records)
  leases_without number old found =
      let same = its_number number old v.records found in
      let only : AllByRecursion (λ x. x.number ≡ old.number → x ≡ old)
      (in_order_of_lapse v.records) =
      subst (λ n. AllByRecursion (λ x. x.number ≡ n → x ≡ old) (in_order_of_lapse v.records))
      (sym same) (unique_in_order lapse number old found) in
      ap (λ queue. without_lease queue (lease_of old)) k.leased
      ∙ without_lease-filter old (in_order_of_lapse v.records) only
      ∙ ap (map lease_of)
      (filter_in_order lapse (λ x. not (is_numbered old.number x)) v.records differ)
      ∙ ap (λ n. leases_of (without n v.records)) same

  pub names_without : (number : ℕ) (old : Record)
      → numbered number v.records ≡ Some old
      → without_slot (slot_of old) names ≡ slots_of (without number v.records)
  names_without number old found =
      let same = its_number number old v.records found in
      let only =
      subst (λ n. AllByRecursion (λ x. x.number ≡ n → x ≡ old) (in_order_of key v.records))
      (sym same) (unique_in_order key number old found) in
      ap (λ slots. without_slot (slot_of old) slots) k.named
      ∙ without_slot-filter old (in_order_of key v.records) (differ_in_order key v.records differ)
      (each_weaker (λ x. x.number ≡ old.number → x ≡ old)
      (λ x. x.number ≡ old.number → x.name ≡ old.name)
      (λ x is here. ap (λ (r : Record). r.name) (is here)) (in_order_of key v.records) only)
      ∙ ap (map slot_of)
      (filter_in_order key (λ x. not (is_numbered old.number x)) v.records differ)
      ∙ ap (λ n. slots_of (without n v.records)) same

  differ_without : (r : Record) (key : Record → ℕ)
      → AllByRecursion (DifferFrom r) (in_order_of key (without r.number v.records))
  differ_without r key = each_in_order key (DifferFrom r) (without r.number v.records)
      (each_weaker (λ x. not (is_numbered r.number x) ≡ true) (DifferFrom r)
      (λ x fails same. absurd (not_both r x fails same)) (without r.number v.records)
      (each_passes (λ x. not (is_numbered r.number x)) v.records))
    where
      not_both : (r x : Record) → not (is_numbered r.number x) ≡ true → r.number ≡ x.number → ⊥
      not_both r x fails same =
          let here : is_numbered r.number x ≡ true = grind (arith, nat_tests) in
          true≢false (sym fails ∙ ap not here)

  pub kept_renewed : (r old : Record) (text : ℕ)
      → IsMade now r
      → numbered r.number v.records ≡ Some old
      → is_live_at now old ≡ true
      → r.name ≡ old.name
      → text ≡ text_of (renewed r (live_among now v.records))
      → text ≤ max_text
      → PairsByRecursion IsBelow (renewed r v.records)
      → IsKept (after_entry v now (renewed r v.records) v.last_number) names
      (with_lease (without_lease leases (lease_of old)) (lease_of r))
      (length (live_among now v.records)) text
  kept_renewed r old text made found live named weighs light rising =
      let w = after_entry v now (renewed r v.records) v.last_number in
      let change : Record → Record = λ x. cond (is_numbered r.number x) r x in
      let only = only_one r.number old v.records k.rising found in
      let its = its_number r.number old v.records found in
      let old_stored = known_of (IsStored v) r.number old v.records k.stored found in
      let low = old_stored.numbered.0 in
      let high = old_stored.numbered.1 in
      let new_stored : IsStored w r =
      made_stored w r made after_sweep (omega (arith, its, low)) (omega (arith, its, high)) in
      let live_new = made_live now now r made (omega arith) in
      let kept_live : live_among now (renewed r v.records) ≡ renewed r (live_among now v.records)
      = filter_map_kept (is_live_at now) change v.records
      (each_weaker (λ x. x.number ≡ r.number → x ≡ old) (λ x. is_live_at now (change x) ≡
      is_live_at now x) (λ x is. same_test r old x live_new live is) v.records only) in
      let at : max now v.swept ≡ now = counted_now now v.swept after_sweep in
      let counted :
      live_among (counted_at w) (renewed r v.records) ≡ renewed r (live_among now v.records) =
      ap (λ m. live_among m (renewed r v.records)) at ∙ kept_live in
      let same_length :
      length (renewed r (live_among now v.records)) ≡ length (live_among now v.records) =
      length-map _ _ in
      let few = live_few v names leases count sum now k after_at after_sweep in
      record {
        rising = rising;
        stored =
            each_map (IsStored w) change v.records
            (each_weaker (IsStored v) (λ x. IsStored w (change x))
            (λ x s.
            stored_change w r x new_stored
            (stored_on v w x (omega arith) after_at refl s)) v.records k.stored);
        named =
            k.named
            ∙ sym (ap (map slot_of) (order_kept key change v.records
            (each_weaker (λ x. x.number ≡ r.number → x ≡ old)
            (λ x. (key (change x) ≡ key x) × ((change x).number ≡ x.number))
            (λ x is. same_place r old x named is) v.records only))
            ∙ slots_changed r old (in_order_of key v.records) named its
            (each_in_order key (λ x. x.number ≡ r.number → x ≡ old) v.records only));
        leased = ap (λ queue. with_lease queue (lease_of r)) (leases_without r.number old found)
            ∙ with_lease-placed r (in_order_of_lapse (without r.number v.records))
            (differ_without r lapse) (in_order-IsOrdered lapse (without r.number v.records)
            (pairs_filter DifferFrom (λ x. not (is_numbered r.number x)) v.records differ))
            ∙ ap (map lease_of) (sym (order_renewed lapse r old v.records k.rising found));
        live = sym (ap length counted ∙ same_length);
        text = weighs ∙ ap text_of (sym counted);
        few = omega (arith, few);
        light = light;
        counted = omega arith;
        numbers = let n = k.numbers in omega (arith, n);
        in_time = moment;
      }
    where
      same_test : (r old x : Record)
          → is_live_at now r ≡ true
          → is_live_at now old ≡ true
          → (x.number ≡ r.number → x ≡ old)
          → is_live_at now (cond (is_numbered r.number x) r x) ≡ is_live_at now x
      same_test r old x a b is = by (is_numbered r.number x) refl
        where
          by : (t : Bool)
              → is_numbered r.number x ≡ t
              → is_live_at now (cond t r x) ≡ is_live_at now x
          by true e = a ∙ sym b ∙ sym (ap (is_live_at now) (is (eqb-true x.number r.number e)))
          by false e = refl

      stored_change : (w : Version) (r x : Record)
          → IsStored w r
          → IsStored w x
          → IsStored w (cond (is_numbered r.number x) r x)
      stored_change w r x a b = by (is_numbered r.number x)
        where
          by : (t : Bool) → IsStored w (cond t r x)
          by true = a
          by false = b

      same_place : (r old x : Record)
          → r.name ≡ old.name
          → (x.number ≡ r.number → x ≡ old)
          → (key (cond (is_numbered r.number x) r x) ≡ key x)
          × ((cond (is_numbered r.number x) r x).number ≡ x.number)
      same_place r old x named is = by (is_numbered r.number x) refl
        where
          by : (t : Bool)
              → is_numbered r.number x ≡ t
              → (key (cond t r x) ≡ key x) × ((cond t r x).number ≡ x.number)
          by true e =
              let here = eqb-true x.number r.number e in
              (ap hash_of (named ∙ ap (λ (y : Record). y.name) (sym (is here))), sym here)
          by false e = (refl, refl)

      slots_changed : (r old : Record) (xs : List Record)
          → r.name ≡ old.name
          → old.number ≡ r.number
          → AllByRecursion (λ x. x.number ≡ r.number → x ≡ old) xs
          → map slot_of (map (λ x. cond (is_numbered r.number x) r x) xs) ≡ map slot_of xs
      slots_changed r old [] named its only = refl
      slots_changed r old (x ∷ xs) named its only =
          let place = same_place r old x named only.0 in
          let hash = place.0 in
          let number = place.1 in
          rw (hash, number)
          (ap (λ rest. slot_of x ∷ rest) (slots_changed r old xs named its only.1))

  -- with one more
  pub kept_appended : (r : Record) (text : ℕ)
      → IsMade now r
      → r.number ≡ v.last_number + 1
      → length (live_among now v.records) < max_registrations
      → text ≡ text_of (live_among now v.records ++ r ∷ []) → text ≤ max_text
      → IsKept (after_entry v now (v.records ++ r ∷ []) (v.last_number + 1))
      (with_slot (slot_of r) names) (with_lease leases (lease_of r))
      (length (live_among now v.records) + 1) text
  kept_appended r text made next space weighs light =
      let w = after_entry v now (v.records ++ r ∷ []) (v.last_number + 1) in
      let below : AllByRecursion (λ x. x.number < r.number) v.records =
      each_weaker (IsStored v) (λ x. x.number < r.number)
      (λ x s. let high = s.numbered.1 in omega (arith, next, high)) v.records k.stored in
      let others : AllByRecursion (DifferFrom r) v.records =
      each_weaker (λ x. x.number < r.number) (DifferFrom r) (λ x low same. omega arith)
      v.records below in
      let live_new = made_live now now r made (omega arith) in
      let at : max now v.swept ≡ now = counted_now now v.swept after_sweep in
      let last : filter (is_live_at now) (r ∷ []) ≡ r ∷ [] = rw live_new refl in
      let counted :
      live_among (counted_at w) (v.records ++ r ∷ []) ≡ live_among now v.records ++ r ∷ []
      = ap (λ m. live_among m (v.records ++ r ∷ [])) at
      ∙ filter-append (is_live_at now) v.records (r ∷ [])
      ∙ ap (λ xs. live_among now v.records ++ xs) last in
      let more = length-append (live_among now v.records) (r ∷ []) in
      record {
        rising = pairs_push IsBelow v.records r k.rising below;
        stored =
            each_push (IsStored w) v.records r (each_weaker (IsStored v) (IsStored w)
            (λ x s. stored_on v w x (omega arith) after_at refl s) v.records k.stored)
            (made_stored w r made after_sweep (omega (arith, next)) (omega (arith, next)));
        named =
            ap (λ slots. with_slot (slot_of r) slots) k.named
            ∙ with_slot-placed r (in_order_of key v.records)
            (each_in_order key (DifferFrom r) v.records others)
            ∙ ap (map slot_of) (sym (order_last key v.records r others));
        leased = ap (λ queue. with_lease queue (lease_of r)) k.leased
            ∙ with_lease-placed r (in_order_of_lapse v.records)
            (each_in_order lapse (DifferFrom r) v.records others)
            (in_order-IsOrdered lapse v.records differ)
            ∙ ap (map lease_of) (sym (order_last lapse v.records r others));
        live = sym (ap length counted ∙ more);
        text = weighs ∙ ap text_of (sym counted);
        few = omega arith;
        light = light;
        counted = omega arith;
        numbers = let n = k.numbers in omega (arith, n);
        in_time = moment;
      }

  -- without one
  pub kept_without : (number : ℕ) (old : Record) (live text : ℕ)
      → numbered number v.records ≡ Some old
      → is_live_at now old ≡ true
      → live + 1 ≡ length (live_among now v.records)
      → text + weight old ≡ text_of (live_among now v.records)
      → IsKept (after_entry v now (without number v.records) v.last_number)
      (without_slot (slot_of old) names) (without_lease leases (lease_of old)) live text
  kept_without number old live text found is_live counts weighs =
      let w = after_entry v now (without number v.records) v.last_number in
      let at : max now v.swept ≡ now = counted_now now v.swept after_sweep in
      let counted :
      live_among (counted_at w) (without number v.records)
      ≡ without number (live_among now v.records)
      = ap (λ m. live_among m (without number v.records)) at
      ∙ filter_swapped (is_live_at now) (λ r. not (is_numbered number r)) v.records in
      let live_rising = pairs_filter IsBelow (is_live_at now) v.records k.rising in
      let live_found = numbered-filter (is_live_at now) number old v.records found is_live in
      let fewer = length_without number old (live_among now v.records) live_rising live_found in
      let lighter =
      sum_without weight number old (live_among now v.records) live_rising live_found in
      let few = live_few v names leases count sum now k after_at after_sweep in
      let light = live_light v names leases count sum now k after_at after_sweep in
      let left = ap length counted in
      let left_text = ap text_of counted in
      record {
        rising = pairs_filter IsBelow (λ r. not (is_numbered number r)) v.records k.rising;
        stored =
            each_filter (IsStored w) (λ r. not (is_numbered number r)) v.records
            (each_weaker (IsStored v) (IsStored w)
            (λ x s. stored_on v w x (omega arith) after_at refl s) v.records k.stored);
        named = names_without number old found;
        leased = leases_without number old found;
        live = omega (arith, counts, fewer, left);
        text = omega (arith, weighs, lighter, left_text);
        few = omega (arith, counts, few);
        light = omega (arith, weighs, light);
        counted = omega arith;
        numbers = let n = k.numbers in omega (arith, n);
        in_time = moment;
      }

-- after a beginning
pub kept_begun : (v : Version) (names : List NameSlot) (leases : List Lease) (count sum now : ℕ)
    (first : ℕ)
    → IsKept v names leases count sum
    → v.at ≤ now
    → v.swept ≤ now
    → now ≤ 10 ^ 15
    → max v.entries first < max_entries
    → IsKept (begun v now first) names leases (length (live_among now v.records))
    (text_of (live_among now v.records))
kept_begun v names leases count sum now first k after_at after_sweep moment room =
    let w = begun v now first in
    let at : counted_at w ≡ now = counted_now now v.swept after_sweep in
    let few = live_few v names leases count sum now k after_at after_sweep in
    let light = live_light v names leases count sum now k after_at after_sweep in
    record {
      rising = k.rising;
      stored =
          each_weaker (IsStored v) (IsStored w)
          (λ x s. stored_on v w x (omega arith) after_at refl s) v.records k.stored;
      named = k.named;
      leased = k.leased;
      live = ap (λ m. length (live_among m v.records)) (sym at);
      text = ap (λ m. text_of (live_among m v.records)) (sym at);
      few = omega (arith, few);
      light = light;
      counted = omega (arith, room);
      numbers = let n = k.numbers in omega (arith, n);
      in_time = moment;
    }
