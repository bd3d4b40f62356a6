-- What is known of an entry that meets no refusal: what it does to the records.
use Rattle.std.proofs.Common.{
  ◌≡◌,
  ℕ,
  ◌+◌,
  ◌<◌,
  ◌≤◌,
  Bool,
  true,
  false,
  not,
  cond,
  List,
  [],
  ◌∷◌,
  ◌++◌,
  filter,
  find,
  Option,
  Some,
  None,
  option_map,
  Decides,
  bytes_eq,
  nat_le,
  max,
  refl,
  sym,
  ap,
  ap₂,
  ◌∙◌,
  arith,
  eqb-true,
  ltb-true,
  lt-ltb,
}
use Rattle.std.specs.List.{AllByRecursion, list_any}
use Rattle.std.proofs.lemmas.Bool.{false≢true, and_parts, and_from, not-false}
use Rattle.std.proofs.lemmas.Slice.Eq.{bytes_eq-Decides}
use Rattle.rd_base.specs.declared.parameters.RegParams.{RegParams}
use Rattle.rd_base.specs.declared.parameters.UpdateParams.{UpdateParams}
use Rattle.rd_base.specs.declared.records.Name.{Name}
use Rattle.rd_base.specs.declared.records.Record.{Record}
use Rattle.rd_base.specs.declared.submitted_links.SubmittedLink.{SubmittedLink}
use Rattle.record_model.specs.Records.{registered, updated}
use Rattle.history_model.specs.declared.entries.Change.{Change}
use Rattle.history_model.specs.declared.entries.Change.TheVariants as change
use Rattle.history_model.specs.declared.entries.Entry.{Entry}
use Rattle.history_model.specs.Leases.{lapse, is_live_at, live_among}
use Rattle.history_model.specs.Names.{is_same_sector, is_same_name}
use Rattle.history_model.specs.Replay.{
  State,
  is_numbered,
  is_live_named,
  number_named,
  with_changed,
  replaced,
  registered_under,
  changed,
  apply,
  lifted,
}
use Rattle.history_model.specs.Refusals.{
  max_entries,
  has_number,
  is_gone,
  is_full_of_records,
  is_full_of_text,
  text_after,
  refusal_in,
}
use Rattle.rd_base.proofs.lemmas.Pairs.{PairsByRecursion}
use Rattle.rd_base.proofs.lemmas.Each.{each_weaker}
use Rattle.history_model.proofs.NumberLaws.{IsBelow, HasRisingNumbers}

-- ---- names

is_same_sector-Decides : (a b : Option (List ℕ)) → Decides (is_same_sector a b) (a ≡ b)
is_same_sector-Decides None None = (λ e. refl, λ e. refl)
is_same_sector-Decides None (Some b) = (λ e. absurd (false≢true e), λ e. absurd cc)
is_same_sector-Decides (Some a) None = (λ e. absurd (false≢true e), λ e. absurd cc)
is_same_sector-Decides (Some a) (Some b) = (
  λ e. ap (λ s. Some s) ((bytes_eq-Decides a b).0 e),
  λ e. (bytes_eq-Decides a b).1 (let same : a ≡ b = cc in same),
)

-- the test of names decides whether they are equal
pub is_same_name-Decides : (a b : Name) → Decides (is_same_name a b) (a ≡ b)
is_same_name-Decides a b = (
  λ e. let both = and_parts (bytes_eq a.ep b.ep) (is_same_sector a.sector b.sector) e in
      ap₂ name ((bytes_eq-Decides a.ep b.ep).0 both.0)
      ((is_same_sector-Decides a.sector b.sector).0 both.1),
  λ e.
      and_from (bytes_eq a.ep b.ep) (is_same_sector a.sector b.sector)
      ((bytes_eq-Decides a.ep b.ep).1 (ap (λ (n : Name). n.ep) e))
      ((is_same_sector-Decides a.sector b.sector).1 (ap (λ (n : Name). n.sector) e)),
)
  where
    name : List ℕ → Option (List ℕ) → Name
    name ep sector = record { ep = ep; sector = sector }

-- ---- leases

-- what is live at a moment was live before
pub is_live_before : (before moment : ℕ) (r : Record)
    → before ≤ moment
    → is_live_at moment r ≡ true
    → is_live_at before r ≡ true
is_live_before before moment r order live =
    let above : moment < lapse r = ltb-true moment (lapse r) live in
    lt-ltb before (lapse r) (omega arith)

-- ---- no refusal

-- none of the four refusals
pub record Accepted (state : State) (entries : ℕ) (entry : Entry) : Type 0 where
  pub there : is_gone (live_among entry.moment.0 state.records) entry.change ≡ false
  pub room : is_full_of_records (live_among entry.moment.0 state.records) entry.change ≡ false
  pub text : is_full_of_text (text_after state entry) entry.change ≡ false
  pub counted : nat_le max_entries (lifted entries entry.change) ≡ false

none_of_four : {A : Type 0} (a b c d : Bool) (w x y z : A)
    → cond a (Some w) (cond b (Some x) (cond c (Some y) (cond d (Some z) None))) ≡ None
    → (a ≡ false) × (b ≡ false) × (c ≡ false) × (d ≡ false)
none_of_four true b c d w x y z e = absurd cc
none_of_four false true c d w x y z e = absurd cc
none_of_four false false true d w x y z e = absurd cc
none_of_four false false false true w x y z e = absurd cc
none_of_four false false false false w x y z e = (refl, refl, refl, refl)

pub accepted : (state : State) (entries : ℕ) (entry : Entry)
    → refusal_in state entries entry ≡ None
    → Accepted state entries entry
unfolding refusal_in
accepted state entries entry e =
    let all =
    none_of_four (is_gone (live_among entry.moment.0 state.records) entry.change)
    (is_full_of_records (live_among entry.moment.0 state.records) entry.change)
    (is_full_of_text (text_after state entry) entry.change)
    (nat_le max_entries (lifted entries entry.change)) _ _ _ _ e in
    record { there = all.0; room = all.1; text = all.2; counted = all.3 }

-- ---- the record that an entry is about

-- none of the records has the number
abbrev NoneNumbered : ℕ → List Record → Type 0
NoneNumbered number records = AllByRecursion (λ r. r.number ≡ number → ⊥) records

-- where one record has the number, no later one has
pub apart : (r : Record) (number : ℕ) (records : List Record)
    → r.number ≡ number
    → AllByRecursion (IsBelow r) records
    → NoneNumbered number records
apart r number records same below =
    each_weaker (IsBelow r) (λ other. other.number ≡ number → ⊥) (λ other lower again. omega arith)
    records below

none_found : (number : ℕ) (test : Record → Bool) (records : List Record)
    → NoneNumbered number records
    → list_any (is_numbered number) (filter test records) ≡ true
    → ⊥
none_found number test [] none e = false≢true e
none_found number test (r ∷ rs) none e =
    by (test r) (is_numbered number r) refl e (none_found number test rs none.1)
  where
    by : (t n : Bool)
        → is_numbered number r ≡ n
        → list_any (is_numbered number) (cond t (r ∷ filter test rs) (filter test rs)) ≡ true
        → (list_any (is_numbered number) (filter test rs) ≡ true → ⊥)
        → ⊥
    by true true n h more = none.0 (eqb-true r.number number n)
    by true false n h more = more (let rest = rw n at h in rest)
    by false n same h more = more h

-- where a live record has the number, the record of the number is live
pub live_numbered : (moment number : ℕ) (records : List Record)
    → PairsByRecursion IsBelow records
    → has_number number (live_among moment records) ≡ true
    → AllByRecursion (λ r. r.number ≡ number → is_live_at moment r ≡ true) records
live_numbered moment number [] pairs there = tt
live_numbered moment number (r ∷ rs) pairs there =
    by (is_live_at moment r) (is_numbered number r) refl refl there
    (live_numbered moment number rs pairs.1)
  where
    by : (l n : Bool)
        → is_live_at moment r ≡ l
        → is_numbered number r ≡ n
        → has_number number (cond l (r ∷ live_among moment rs) (live_among moment rs)) ≡ true
        → (has_number number (live_among moment rs) ≡ true
        → AllByRecursion
        (λ (other : Record). other.number ≡ number → is_live_at moment other ≡ true) rs)
        → (r.number ≡ number → is_live_at moment r ≡ true)
        × AllByRecursion
        (λ (other : Record). other.number ≡ number → is_live_at moment other ≡ true) rs
    by true true l n h more = (
      λ _. l,
      each_weaker (λ other. other.number ≡ number → ⊥)
          (λ other. other.number ≡ number → is_live_at moment other ≡ true)
          (λ other no same. absurd (no same)) rs
          (apart r number rs (eqb-true r.number number n) pairs.0),
    )
    by true false l n h more = (λ _. l, more (let rest = rw n at h in rest))
    by false n l same h more = (
      λ same. absurd
          (none_found number (is_live_at moment) rs (apart r number rs same pairs.0) h),
      more h,
    )

pub none_named : (name : Name) (moment number : ℕ) (records : List Record)
    → NoneNumbered number records
    → number_named name moment records ≡ Some number
    → ⊥
none_named name moment number [] none e = cc
none_named name moment number (r ∷ rs) none e =
    by (is_live_named name moment r) e (none_named name moment number rs none.1)
  where
    by : (b : Bool)
        → option_map (λ (other : Record). other.number)
        (cond b (Some r) (find (is_live_named name moment) rs))
        ≡ Some number
        → (number_named name moment rs ≡ Some number → ⊥)
        → ⊥
    by true h more = let same : r.number ≡ number = cc in none.0 same
    by false h more = more h

-- where a name has a number, the record of the number has the name and is live
pub named_numbered : (name : Name) (moment number : ℕ) (records : List Record)
    → PairsByRecursion IsBelow records
    → number_named name moment records ≡ Some number
    → AllByRecursion (λ r. r.number ≡ number → (is_live_at moment r ≡ true) × (r.name ≡ name))
    records
named_numbered name moment number [] pairs e = tt
named_numbered name moment number (r ∷ rs) pairs e =
    by (is_live_named name moment r) refl e (named_numbered name moment number rs pairs.1)
  where
    by : (b : Bool)
        → is_live_named name moment r ≡ b
        → option_map (λ (other : Record). other.number)
        (cond b (Some r) (find (is_live_named name moment) rs))
        ≡ Some number
        → (number_named name moment rs ≡ Some number
        → AllByRecursion (λ (other : Record).
        other.number ≡ number → (is_live_at moment other ≡ true) × (other.name ≡ name))
        rs)
        → (r.number ≡ number → (is_live_at moment r ≡ true) × (r.name ≡ name))
        × AllByRecursion (λ (other : Record).
        other.number ≡ number → (is_live_at moment other ≡ true) × (other.name ≡ name))
        rs
    by true b h more =
        let same : r.number ≡ number = cc in
        let both = and_parts (is_same_name r.name name) (is_live_at moment r) b in (
          λ _. (both.1, (is_same_name-Decides r.name name).0 both.0),
          each_weaker (λ other. other.number ≡ number → ⊥) (λ other.
              other.number ≡ number → (is_live_at moment other ≡ true) × (other.name ≡ name))
              (λ other no again. absurd (no again)) rs (apart r number rs same pairs.0),
        )
    by false b h more = (
      λ same. absurd (none_named name moment number rs (apart r number rs same pairs.0) h),
      more
          h,
    )

-- where a name has no number, no record of the name is live
pub not_named : (name : Name) (moment : ℕ) (records : List Record)
    → number_named name moment records ≡ None
    → AllByRecursion (λ r. r.name ≡ name → is_live_at moment r ≡ false) records
not_named name moment [] e = tt
not_named name moment (r ∷ rs) e =
    by (is_live_named name moment r) (is_live_at moment r) refl refl e (not_named name moment rs)
  where
    by : (b l : Bool)
        → is_live_named name moment r ≡ b
        → is_live_at moment r ≡ l
        → option_map (λ (other : Record). other.number)
        (cond b (Some r) (find (is_live_named name moment) rs))
        ≡ None
        → (number_named name moment rs ≡ None
        → AllByRecursion
        (λ (other : Record). other.name ≡ name → is_live_at moment other ≡ false) rs)
        → (r.name ≡ name → is_live_at moment r ≡ false)
        × AllByRecursion
        (λ (other : Record). other.name ≡ name → is_live_at moment other ≡ false) rs
    by true l b same h more = absurd cc
    by false false b same h more = (λ _. same, more h)
    by false true b same h more = (
      λ named. absurd (false≢true (sym b
          ∙ and_from (is_same_name r.name name) (is_live_at moment r)
          ((is_same_name-Decides r.name name).1 named) same)),
      more h,
    )

-- ---- what an accepted entry does

-- what is made anew of a live record: it keeps its number and its name
pub record Renews (moment : ℕ) (new : Record → Record) (r : Record) : Type 0 where
  pub live : is_live_at moment r ≡ true
  pub number : (new r).number ≡ r.number
  pub name : (new r).name ≡ r.name

-- the record of the number is made anew
abbrev pub RenewsNumbered : ℕ → ℕ → (Record → Record) → List Record → Type 0
RenewsNumbered moment number new records =
    AllByRecursion (λ r. r.number ≡ number → Renews moment new r) records

-- no record of the name is live
abbrev pub NoneNamed : ℕ → Name → List Record → Type 0
NoneNamed moment name records =
    AllByRecursion (λ r. r.name ≡ name → is_live_at moment r ≡ false) records

registered_again : (number : ℕ) (entry : Entry) (params : RegParams) (links : List SubmittedLink)
    (records : List Record)
    → AllByRecursion
    (λ r. r.number ≡ number → (is_live_at entry.moment.0 r ≡ true) × (r.name ≡ params.name))
    records
    → RenewsNumbered entry.moment.0 number
    (λ r. registered number entry.moment entry.peer params links) records
unfolding registered
registered_again number entry params links records known =
    each_weaker _ (λ r.
    r.number ≡ number
    → Renews entry.moment.0
    (λ r. registered number entry.moment entry.peer params links) r)
    (λ r fits same.
    record
    { live = (fits same).0; number = sym same; name = sym ((fits same).1) })
    records known

updated_again : (number : ℕ) (entry : Entry) (given : UpdateParams) (records : List Record)
    → AllByRecursion (λ r. r.number ≡ number → is_live_at entry.moment.0 r ≡ true) records
    → RenewsNumbered entry.moment.0 number (updated entry.moment entry.peer given) records
unfolding updated
updated_again number entry given records known =
    each_weaker _
    (λ r. r.number ≡ number → Renews entry.moment.0 (updated entry.moment entry.peer given) r)
    (λ r live same. record { live = live same; number = refl; name = refl }) records known

replaced_again : (number moment : ℕ) (links : List SubmittedLink) (records : List Record)
    → AllByRecursion (λ r. r.number ≡ number → is_live_at moment r ≡ true) records
    → RenewsNumbered moment number (replaced links) records
unfolding replaced
replaced_again number moment links records known =
    each_weaker _ (λ r. r.number ≡ number → Renews moment (replaced links) r)
    (λ r live same. record { live = live same; number = refl; name = refl }) records known

-- what holds after each kind of accepted change, holds after an accepted entry
pub by_accepted : (P : State → Type 0) (state : State) (entries : ℕ) (entry : Entry)
    → HasRisingNumbers state
    → Accepted state entries entry
    → ((number : ℕ) (new : Record → Record)
    → RenewsNumbered entry.moment.0 number new state.records
    → P (record state { records = with_changed number new state.records }))
    → ((r : Record)
    → r.number ≡ state.last_number + 1
    → r.granted.0 ≡ entry.moment.0
    → NoneNamed entry.moment.0 r.name state.records
    → P (record { records = state.records ++ r ∷ []; last_number = state.last_number + 1 }))
    → ((number : ℕ)
    → P (record state { records = filter (λ r. not (is_numbered number r)) state.records }))
    → ((first : ℕ) → P (record state { last_number = max state.last_number first }))
    → P (apply state entry)
unfolding apply registered
by_accepted P state entries entry numbered accepts replaces appends removes begins =
    of_change entry.change accepts.there
  where
    of_number : (o : Option ℕ) (params : RegParams) (links : List SubmittedLink)
        → number_named params.name entry.moment.0 state.records ≡ o
        → P (registered_under o state entry.moment entry.peer params links)
    of_number (Some number) params links found =
        replaces number (λ r. registered number entry.moment entry.peer params links)
        (registered_again number entry params links state.records
        (named_numbered params.name entry.moment.0 number state.records numbered.ascending
        found))
    of_number None params links found =
        appends (registered (state.last_number + 1) entry.moment entry.peer params links) refl refl
        (not_named params.name entry.moment.0 state.records found)

    of_change : (c : Change)
        → is_gone (live_among entry.moment.0 state.records) c ≡ false
        → P (changed state entry.moment entry.peer c)
    of_change (change.Register params links) there =
        of_number (number_named params.name entry.moment.0 state.records) params links refl
    of_change (change.Update number given) there =
        replaces number (updated entry.moment entry.peer given)
        (updated_again number entry given state.records
        (live_numbered entry.moment.0 number state.records numbered.ascending
        (not-false _ there)))
    of_change (change.Replace number links) there =
        replaces number (replaced links)
        (replaced_again number entry.moment.0 links state.records
        (live_numbered entry.moment.0 number state.records numbered.ascending
        (not-false _ there)))
    of_change (change.Remove number) there = removes number
    of_change (change.Begin first) there = begins first
