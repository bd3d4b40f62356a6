use Rattle.std.proofs.Common.{slice_set, ap, sym, ◌∙◌}
use Rattle.std.specs.List.{position}
use Rattle.rd_base.proofs.lemmas.Firsts.{changed_first-at, changed_first-nowhere}
use Rattle.observers.specs.Standing.{has_notification, landed}
use Rattle.observers.proofs.WalkLaws.{any-first, any-nowhere}
use Rattle.observers.proofs.walks.land_first.Goals as goal

pub returns-in-Some-clause-found : goal.returns-in-Some-clause-found
returns-in-Some-clause-found c =
    any-first (has_notification c.args.peer.now c.args.mid) c.args.observers.now.items
    c.in-Some.index
    (sym (c.in-Some.ensures
    ∙ ap (position (has_notification c.args.peer.now c.args.mid)) c.as_slice.ensures.value))

pub returns-in-Some-clause-landed : goal.returns-in-Some-clause-landed
returns-in-Some-clause-landed c =
    ap (slice_set c.args.observers.now.items c.in-Some.index) c.land.ensures
    ∙ changed_first-at (has_notification c.args.peer.now c.args.mid) landed
    c.args.observers.now.items
    c.in-Some.index c.index_mut.result.now (sym (c.in-Some.ensures
    ∙ ap (position (has_notification c.args.peer.now c.args.mid)) c.as_slice.ensures.value))
    c.index_mut.ensures.value

pub returns-in-None-clause-found : goal.returns-in-None-clause-found
returns-in-None-clause-found c =
    any-nowhere (has_notification c.args.peer.now c.args.mid) c.args.observers.now.items
    (sym (c.in-None.ensures
    ∙ ap (position (has_notification c.args.peer.now c.args.mid)) c.as_slice.ensures.value))

pub returns-in-None-clause-landed : goal.returns-in-None-clause-landed
returns-in-None-clause-landed c =
    changed_first-nowhere (has_notification c.args.peer.now c.args.mid) landed
    c.args.observers.now.items
    (sym (c.in-None.ensures
    ∙ ap (position (has_notification c.args.peer.now c.args.mid)) c.as_slice.ensures.value))
