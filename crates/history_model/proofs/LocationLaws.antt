-- The number in the location of a registration: after it, the live record of its name has that
-- number.
use Rattle.std.proofs.Common.{
  ◌≡◌,
  ℕ,
  ◌+◌,
  ◌<◌,
  Bool,
  true,
  false,
  cond,
  List,
  [],
  ◌∷◌,
  find,
  Option,
  Some,
  None,
  option_map,
  unwrap_or,
  refl,
  sym,
  ap,
  subst,
  ◌∙◌,
  arith,
  eq-eqb,
}
use Rattle.std.proofs.lemmas.Bool.{true≢false, and_from}
use Rattle.std.proofs.lemmas.List.Folds.{find-append}
use Rattle.rd_base.specs.declared.parameters.RegParams.{RegParams}
use Rattle.rd_base.specs.declared.records.Name.{Name}
use Rattle.rd_base.specs.declared.records.Record.{Record}
use Rattle.rd_base.specs.declared.submitted_links.SubmittedLink.{SubmittedLink}
use Rattle.record_model.specs.Records.{registered}
use Rattle.history_model.specs.declared.entries.Change.TheVariants as change
use Rattle.history_model.specs.declared.entries.Entry.{Entry}
use Rattle.history_model.specs.Replay.{
  State,
  is_numbered,
  is_live_named,
  number_named,
  number_for,
  with_changed,
  registered_under,
  changed,
  apply,
}
use Rattle.rd_base.proofs.lemmas.Pairs.{PairsByRecursion}
use Rattle.history_model.proofs.NumberLaws.{IsBelow, HasRisingNumbers}
use Rattle.history_model.proofs.Acceptance.{is_same_name-Decides}
use Rattle.history_model.proofs.VersionLaws.{registered_live}
use Rattle.rd_base.proofs.lemmas.Options.{map_none}

-- a registration is found by its name, at its moment
registered_named : (number : ℕ) (entry : Entry) (params : RegParams) (links : List SubmittedLink)
    → 0 < params.lt
    → is_live_named params.name entry.moment.0
    (registered number entry.moment entry.peer params links)
    ≡ true
unfolding registered
registered_named number entry params links lasts =
    and_from _ _ ((is_same_name-Decides params.name params.name).1 refl)
    (registered_live entry.moment.0 number entry params links (omega arith) lasts)

-- where the record that has a name is made anew under the name, it is found by it
changed_named : (name : Name) (moment number : ℕ) (new : Record → Record)
    → ((r : Record) → (is_live_named name moment (new r) ≡ true) × ((new r).number ≡ number))
    → (records : List Record)
    → PairsByRecursion IsBelow records
    → number_named name moment records ≡ Some number
    → number_named name moment (with_changed number new records) ≡ Some number
changed_named name moment number new named [] pairs e = absurd cc
changed_named name moment number new named (r ∷ rs) pairs e =
    by (is_live_named name moment r) (is_numbered number r) refl refl e
    (changed_named name moment number new named rs pairs.1)
  where
    by : (b n : Bool)
        → is_live_named name moment r ≡ b
        → is_numbered number r ≡ n
        → option_map (λ (other : Record). other.number)
        (cond b (Some r) (find (is_live_named name moment) rs))
        ≡ Some number
        → (number_named name moment rs ≡ Some number
        → number_named name moment (with_changed number new rs) ≡ Some number)
        → number_named name moment (cond n (new r) r ∷ with_changed number new rs) ≡ Some number
    by b true eb en h more = rw ((named r).0) (ap (λ (k : ℕ). Some k) ((named r).1))
    by true false eb en h more =
        let same : r.number ≡ number = cc in
        absurd (true≢false (sym (eq-eqb r.number number same) ∙ en))
    by false false eb en h more = rw eb (more h)

-- after a registration the live record of its name has the number that it was to have
-- An end theorem: nothing here cites it.
pub number_named-apply : (state : State) (entry : Entry) (params : RegParams)
    (links : List SubmittedLink)
    → HasRisingNumbers state
    → entry.change ≡ change.Register params links
    → 0 < params.lt
    → number_named params.name entry.moment.0 (apply state entry).records
    ≡ Some (number_for params.name entry.moment.0 state)
unfolding apply registered
number_named-apply state entry params links numbered same lasts =
    subst (λ c.
    number_named params.name entry.moment.0
    (changed state entry.moment entry.peer c).records
    ≡ Some (number_for params.name entry.moment.0 state)) (sym same)
    (of_number (number_named params.name entry.moment.0 state.records) refl)
  where
    of_number : (o : Option ℕ) → number_named params.name entry.moment.0 state.records ≡ o
        → number_named params.name entry.moment.0
        (registered_under o state entry.moment entry.peer params links).records
        ≡ Some (unwrap_or o (state.last_number + 1))
    of_number (Some number) found =
        changed_named params.name entry.moment.0 number
        (λ r. registered number entry.moment entry.peer params links)
        (λ r. (registered_named number entry params links lasts, refl)) state.records
        numbered.ascending found
    of_number None found =
        let new = registered (state.last_number + 1) entry.moment entry.peer params links in
        let none =
        map_none _ (find (is_live_named params.name entry.moment.0) state.records) found in
        let there = registered_named (state.last_number + 1) entry params links lasts in
        rw (
          find-append (is_live_named params.name entry.moment.0) state.records (new ∷ []),
          none,
          there,
        ) refl
