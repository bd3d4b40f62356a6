-- What a version answers of single records.
use Rattle.std.proofs.Common.{
  ◌≡◌,
  ℕ,
  ◌+◌,
  ◌-◌,
  ◌<◌,
  ◌≤◌,
  Bool,
  true,
  false,
  cond,
  List,
  [],
  ◌∷◌,
  filter,
  length,
  Option,
  Some,
  None,
  refl,
  sym,
  ap,
  ◌∙◌,
  arith,
}
use Rattle.std.specs.Prelude.{IfSome}
use Rattle.std.proofs.lemmas.Bool.{true≢false}
use Rattle.rd_base.specs.LinkLines.{submitted}
use Rattle.rd_base.specs.declared.records.Name.{Name}
use Rattle.rd_base.specs.declared.records.Record.{Record}
use Rattle.rd_base.proofs.lemmas.Each.{each_weaker}
use Rattle.rd_base.proofs.lemmas.Pairs.{PairsByRecursion}
use Rattle.history_model.specs.declared.entries.Entry.{Entry}
use Rattle.history_model.specs.Leases.{lapse, live_among, lapsed_between}
use Rattle.history_model.specs.Live.{live}
use Rattle.history_model.specs.Replay.{is_numbered, numbered, number_named, replay}
use Rattle.history_model.specs.Sources.{source}
use Rattle.history_model.specs.Versions.{Version, VersionStandsFor}
use Rattle.history_model.proofs.NumberLaws.{IsBelow}
use Rattle.history_model.proofs.SweepLaws.{number_named-live}
use Rattle.history_model.proofs.VersionLaws.{number_named-VersionStandsFor}
use Rattle.lease_queue.specs.declared.leases.Lease.{Lease}
use Rattle.directory_core.specs.declared.names.NameSlot.{NameSlot}
use Rattle.directory_core.specs.Shown.{IsStored, IsKept}
use Rattle.directory_core.proofs.ChangeLaws.{filter-numbered}
use Rattle.directory_core.proofs.CountLaws.{lapsed_counted}

-- what is not found among records, is not found among some of them
pub filter_unnumbered : (p : Record → Bool) (number : ℕ) (rs : List Record)
    → numbered number rs ≡ None
    → numbered number (filter p rs) ≡ None
filter_unnumbered p number [] found = refl
filter_unnumbered p number (x ∷ xs) found =
    by (is_numbered number x) (p x) refl found (filter_unnumbered p number xs)
  where
    by : (b t : Bool)
        → is_numbered number x ≡ b
        → cond b (Some x) (numbered number xs) ≡ None
        → (numbered number xs ≡ None → numbered number (filter p xs) ≡ None)
        → numbered number (cond t (x ∷ filter p xs) (filter p xs)) ≡ None
    by true t e f more = absurd cc
    by false true e f more = rw e (more f)
    by false false e f more = more f

-- where the record of a number fails a test, none of the number passes it
pub filter_failed : (p : Record → Bool) (number : ℕ) (r : Record) (rs : List Record)
    → PairsByRecursion IsBelow rs
    → numbered number rs ≡ Some r
    → p r ≡ false
    → numbered number (filter p rs) ≡ None
filter_failed p number r rs up found fails = by (numbered number (filter p rs)) refl
  where
    by : (o : Option Record) → numbered number (filter p rs) ≡ o → o ≡ None
    by None e = refl
    by (Some x) e =
        let known = filter-numbered p number x rs up e in
        let same : Some r ≡ Some x = sym found ∙ known.0 in
        let one : r ≡ x = cc in
        absurd (true≢false (sym (known.1) ∙ ap p (sym one) ∙ fails))

-- the number of a name is that among the live records of the history
pub named_in_live : (first : ℕ) (history : List Entry) (version : Version) (name : Name)
    (moment : ℕ)
    → VersionStandsFor first history version
    → version.swept ≤ moment
    → number_named name moment version.records ≡ number_named name moment (live history moment)
unfolding live
named_in_live first history version name moment stands order =
    number_named-VersionStandsFor first history version name moment stands order
    ∙ sym (number_named-live moment moment name (replay history).records (omega arith))

-- how many have lapsed, by how many were counted
pub lapsed-counted : (v : Version) (names : List NameSlot) (leases : List Lease) (count sum now : ℕ)
    → IsKept v names leases count sum
    → v.at ≤ now
    → v.swept ≤ now
    → count ≡ lapsed_between v.at now v.records + length (live_among now v.records)
lapsed-counted v names leases count sum now k a b =
    k.live
    ∙ lapsed_counted v.at v.swept now v.records a b
    (each_weaker (IsStored v) (λ r. v.swept < lapse r) (λ r s. s.unswept) v.records k.stored)

pub tag-counted : (v : Version) (names : List NameSlot) (leases : List Lease)
    (count sum now live : ℕ)
    → IsKept v names leases count sum
    → v.at ≤ now
    → v.swept ≤ now
    → live ≡ length (live_among now v.records)
    → v.swept_live + (count - live) ≡ v.swept_live + lapsed_between v.at now v.records
tag-counted v names leases count sum now live k a b is =
    let all = lapsed-counted v names leases count sum now k a b in omega (arith, all, is)

-- of nothing everything is so
pub none_so : {X : Type 0} (o : Option X) (P : X → Type 0) → o ≡ None → IfSome o P
none_so None P e = tt
none_so (Some x) P e = absurd cc

-- ---- sources

-- nothing of a number that is not live
pub source_none : (number : ℕ) (history : List Entry) (now : ℕ)
    → numbered number (live history now) ≡ None
    → None ≡ source number history now
unfolding source
source_none number history now none = rw none refl

-- and else what the links of its record are as they were submitted
pub source_found : (number : ℕ) (history : List Entry) (now : ℕ) (r : Record) (octets : List ℕ)
    → numbered number (live history now) ≡ Some r
    → octets ≡ submitted r.items
    → Some octets ≡ source number history now
unfolding source
source_found number history now r octets found is = rw (found, is) refl
