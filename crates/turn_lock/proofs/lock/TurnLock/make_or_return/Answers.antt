use Rattle.std.proofs.Common.{◌∷◌, ◌++◌, [], Some, ap, sym, ◌∙◌, subst, slice_get, get_or}
use Rattle.std.proofs.lemmas.Option.{slice_get-get_or}
use Rattle.turn_lock.specs.Rule.{Kept, first_view}
use Rattle.turn_lock.specs.Passes.{IsFresh}
use Rattle.turn_lock.specs.Shown.{seat_of}
use Rattle.atomic_table.specs.Table.{opening}
use Rattle.turn_lock.proofs.SplitMoves.{opens}
use Rattle.turn_lock.proofs.lock.TurnLock.make_or_return.Goals as goal

pub new-requires : goal.new-requires
new-requires g c =
    let items =
    c.push_reserved.ensures.items
    ∙ ap (λ xs. xs ++ Some c.args.value ∷ []) c.in-Ok-with_capacity.ensures.items in
    subst (λ v.
    Kept g.T.Replays.stands g.T.Replays.number g.T.Replays.label (g.T.Replays.label v) c.args.seats
    (opening (0 ∷ []) c.push_reserved.new.self.items
    (first_view (g.T.Replays.label v) c.args.seats)))
    (sym c.of-first.ensures)
    (opens g.T.Replays.stands g.T.Replays.number g.T.Replays.label c.args.value
    c.args.seats c.push_reserved.new.self.items items c.requires.value c.requires.seats.0)

pub returns-clause-fresh : goal.returns-clause-fresh
returns-clause-fresh g c i d e =
    let made = c.in-Ok-new.ensures.ok in
    let items = c.of.result.passes.items in
    let p = get_or items i d in
    subst (λ l. IsFresh l c.args.seats i (seat_of p).me)
    (ap g.T.Replays.label (ap (λ k. k.value.value) made.5 ∙ c.of-first.ensures))
    (c.cut-passes.ensures.passes i p
    (ap (λ xs. slice_get xs i) (sym c.of.ensures) ∙ slice_get-get_or items i d e)).0

pub returns-clause-lock : goal.returns-clause-lock
returns-clause-lock g c i d e =
    let items = c.of.result.passes.items in
    (c.cut-passes.ensures.passes i (get_or items i d)
    (ap (λ xs. slice_get xs i) (sym c.of.ensures) ∙ slice_get-get_or items i d e)).1
