use Rattle.std.proofs.Common.{
  ◌≡◌,
  ◌≢◌,
  true,
  false,
  sym,
  ap,
  subst,
  ◌∙◌,
  ⊎_elim,
  true≢false,
  List,
  set,
}
use mathlib.Core.Option.{some}
use lib.ListN.{get_elem?}
use Rattle.atomic_table.proofs.Lists.{at_set, at_snoc, set_again}
use Rattle.left_right.specs.Sides.{view}
use Rattle.version_board.specs.Names.{name_of, knowing, unknown}
use Rattle.version_board.specs.declared.readers.Known.{Known}
use Rattle.version_board.proofs.writers.reader.Goals as goal

-- a view that is unknown knows nothing
nothing_known : (v : Known) → unknown ≡ v → v.known ≡ true → false ≡ true
nothing_known v e k = ap (λ (u : Known). u.known) e ∙ k

pub reader-requires : goal.reader-requires
reader-requires c x views h seat v e k = ⊎_elim
    (λ t. h seat v t k)
    (λ (t : unknown ≡ v). absurd (true≢false (sym (nothing_known v t k))))
    (at_snoc views unknown v seat e)

pub tell-note-requires : goal.tell-note-requires
tell-note-requires c x views h at seat v e k =
    let me = view c.args.writer.now.desk.place in
    let id = c.args.writer.now.desk.place.id in
    ⊎_elim
    (λ t. h seat v
    (subst (λ (xs : List Known). get_elem? xs seat ≡ some v) (set_again views id me at) t) k)
    (λ (t : me ≡ v). sym t ∙ h id me at c.requires.known)
    (at_snoc (set views id me) me v seat e)

pub learn-requires-clause-rule : goal.learn-requires-clause-rule
learn-requires-clause-rule c x views h at apart there seat v e k =
    let note = c.tell-note.result in
    let nv = view note in
    let id = c.in_ok-reader.reader.place.id in
    let known : nv.known ≡ true =
    ap (λ (u : Known). u.known) c.tell-note.ensures.given.1 ∙ c.requires.known in
    let here : nv ≡ knowing (name_of x.front.book) = ⊎_elim
    (λ (t : (note.id ≡ id) × (nv ≡ nv)). absurd (apart t.0))
    (λ (t : (note.id ≢ id) × (get_elem? views note.id ≡ some nv)). h note.id nv t.1 known)
    (at_set views id note.id nv nv there) in
    ⊎_elim
    (λ (t : (seat ≡ note.id) × (unknown ≡ v)). absurd (true≢false (sym (nothing_known v t.1 k))))
    (λ (t : (seat ≢ note.id) × (get_elem? (set views id nv) seat ≡ some v)). ⊎_elim
    (λ (u : (seat ≡ id) × (nv ≡ v)). sym u.1 ∙ here)
    (λ (u : (seat ≢ id) × (get_elem? views seat ≡ some v)). h seat v u.1 k)
    (at_set views id seat nv v t.1))
    (at_set (set views id nv) note.id seat unknown v e)
