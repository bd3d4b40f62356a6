-- What a URI is read as.
use Rattle.std.proofs.Common.{
  ◌≡◌,
  ℕ,
  Bool,
  true,
  false,
  List,
  [],
  ◌∷◌,
  Option,
  Some,
  None,
  Result,
  Ok,
  Err,
  refl,
  sym,
  ap,
  subst,
}
use Rattle.std.specs.Prelude.{ok_or, ◌==◌}
use Rattle.std.specs.List.{onto_first}
use Rattle.rd_base.specs.declared.peers.Peer.{Peer}
use Rattle.reference_model.specs.References.{Components, IsReference, reference, before, after}
use Rattle.reference_model.specs.ReferenceFaults.{IsReferenceFault}
use Rattle.reference_model.proofs.ReferenceLaws.{reference_found}
use Rattle.reference_model.proofs.ReferenceReading.{reference_only}
use Rattle.client_model.specs.declared.asks.Ask.{Ask}
use Rattle.client_model.specs.declared.asks.AskBad.{AskBad}
use Rattle.client_model.specs.declared.asks.AskBad.TheVariants as bad
use Rattle.registrant.specs.Parts.{parts_left}
use Rattle.client_model.specs.Asks.{parts_at, registration, registration_by, IsUnlessStarved}

-- ---- a peer that is read, or not

pub some_peer : {E : Type 0} (found : Option Peer) (e : E) (peer : Peer)
    → Ok peer ≡ ok_or found e
    → Some peer ≡ found
some_peer None e peer same = absurd cc
some_peer (Some p) e peer same = cc

pub no_peer : {E : Type 0} (found : Option Peer) (e f : E) → Err f ≡ ok_or found e
    → None ≡ found
no_peer None e f same = refl
no_peer (Some p) e f same = absurd cc

-- ---- what stands between marks

onto : (c : ℕ) (part : List ℕ) (parts : List (List ℕ)) (all : List (List ℕ))
    → all ≡ part ∷ parts
    → onto_first c all ≡ (c ∷ part) ∷ parts
onto c part parts all e = rw e refl

pub parts_cut : (mark : ℕ) (text : List ℕ)
    → parts_at mark text ≡ before mark text ∷ parts_left mark (after mark text)
unfolding before after
parts_cut mark [] = refl
parts_cut mark (c ∷ text) = by_mark (c == mark) refl (parts_cut mark text)
  where
    by_mark : (b : Bool)
        → (c == mark) ≡ b
        → parts_at mark text ≡ before mark text ∷ parts_left mark (after mark text)
        → parts_at mark (c ∷ text)
        ≡ before mark (c ∷ text) ∷ parts_left mark (after mark (c ∷ text))
    by_mark true e rest = rw e refl
    by_mark false e rest =
        rw e
        (onto c (before mark text) (parts_left mark (after mark text)) (parts_at mark text) rest)

-- ---- a URI that is read, or not

reads_none : (text : List ℕ)
    → ((c : Components) → IsReference text c → ⊥)
    → reference text ≡ None
reads_none text none = by_read (reference text) refl
  where
    by_read : (o : Option Components) → reference text ≡ o → reference text ≡ None
    by_read None e = e
    by_read (Some c) e = absurd (none c (reference_found text c e))

pub registers_read : (text links : List ℕ) (c : Components) (r : Result Ask AskBad)
    → IsReference text c
    → IsUnlessStarved r (registration_by (Some c) links)
    → IsUnlessStarved r (registration text links)
unfolding registration
registers_read text links c r read given =
    subst
    (λ (o : Option Components). IsUnlessStarved r (registration_by o links))
    (sym (reference_only text c read))
    given

pub registers_unread : (text links : List ℕ) (n : ℕ)
    → IsReferenceFault text n
    → registration text links ≡ Err bad.Uri
unfolding registration
registers_unread text links n fault =
    ap (λ (o : Option Components). registration_by o links) (reads_none text fault.refused)
