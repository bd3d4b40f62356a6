use Rattle.std.proofs.Common.{
  rules,
  ◌≡◌,
  ℕ,
  ◌+◌,
  [],
  ◌∷◌,
  length,
  slice_get,
  sym,
  ap,
  ◌∙◌,
  subst,
  ⊎_elim,
  arith,
  length-append,
}
use Rattle.turn_lock.specs.Passes.{IsFresh}
use Rattle.turn_lock.specs.Shown.{seat_of, lock_of}
use Rattle.turn_lock.proofs.NewPasses.{get_end, fresh_kept, fresh_next}
use Rattle.turn_lock.proofs.lock.TurnLock.cut.Goals as goal

pub loop-preserved : goal.loop-preserved
loop-preserved g c =
    let inv = c.loop.invariant in
    let lab = g.T.Replays.label c.args.self.now.table.shared.key.value.value in
    let seats = c.args.seats in
    let tid = c.args.self.now.table.shared.table_id in
    let items = c.loop.passes.items in
    let one = c.new_pass.result in
    let split = c.next-next.ensures.split in
    let long : length c.push_reserved.new.self.items ≡ length items + 1 =
    ap length c.push_reserved.ensures.items ∙ length-append items (one ∷ []) in
    let mine : IsFresh lab seats (length items) c.next-next.new.last.me =
    subst (IsFresh lab seats (length items)) (sym split.kept)
    (fresh_kept lab seats (length items) c.loop.last.me inv.last) in
    let passed : IsFresh lab seats (length items) (seat_of one).me
    = subst (λ x. IsFresh lab seats (length items) x.me) (sym c.new_pass.ensures) mine in
    let of_lock : lock_of one ≡ tid
    = ap (λ x. x.table_id) c.new_pass.ensures ∙ (c.next-next.ensures.lock.0 ∙ inv.table) in
    record {
      count = omega (arith, long, inv.count);
      few = search rules;
      room = search rules;
      each = λ i p e. ⊎_elim
          (λ t. inv.each i p t)
          (λ (t : (i ≡ length items) × (one ≡ p)).
          subst (λ q. IsFresh lab seats i (seat_of q).me × (lock_of q ≡ tid)) t.1
          (subst (λ (n : ℕ). IsFresh lab seats n (seat_of one).me) (sym t.0) passed, of_lock))
          (get_end items one p i
          (ap (λ xs. slice_get xs i) (sym c.push_reserved.ensures.items) ∙ e));
      last =
          subst (λ (n : ℕ). IsFresh lab seats n c.next-next.result.me) (sym long)
          (subst (IsFresh lab seats (length items + 1)) (sym split.next)
          (fresh_next lab seats (length items) c.loop.last.me inv.last));
      table = c.next-next.ensures.lock.1 ∙ inv.table;
      mark = ap (λ m. m.0.last) split.next;
    }

pub returns-clause-passes : goal.returns-clause-passes
returns-clause-passes g c i p e =
    let inv = c.loop.invariant in
    let lab = g.T.Replays.label c.args.self.now.table.shared.key.value.value in
    let seats = c.args.seats in
    let tid = c.args.self.now.table.shared.table_id in
    let items = c.loop.passes.items in
    let one = c.new_pass-2.result in
    let passed : IsFresh lab seats (length items) (seat_of one).me
    = subst (λ x. IsFresh lab seats (length items) x.me) (sym c.new_pass-2.ensures) inv.last in
    let of_lock : lock_of one ≡ tid = ap (λ x. x.table_id) c.new_pass-2.ensures ∙ inv.table in
    ⊎_elim
    (λ t. inv.each i p t)
    (λ (t : (i ≡ length items) × (one ≡ p)).
    subst (λ q. IsFresh lab seats i (seat_of q).me × (lock_of q ≡ tid)) t.1
    (subst (λ (n : ℕ). IsFresh lab seats n (seat_of one).me) (sym t.0) passed, of_lock))
    (get_end items one p i (ap (λ xs. slice_get xs i) (sym c.push_reserved-2.ensures.items) ∙ e))
