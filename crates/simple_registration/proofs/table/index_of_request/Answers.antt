use Rattle.std.proofs.Common.{◌==◌, ap, sym, ◌∙◌}
use Rattle.event_model.specs.Fetches.{Fetch}
use Rattle.simple_registration.specs.Table.{is_of, some_passes}
use Rattle.rd_base.proofs.lemmas.Firsts.{find-at, find-nowhere}
use Rattle.simple_registration.proofs.table.index_of_request.Goals as goal

pub returns-in_default-clause-answer : goal.returns-in_default-clause-answer
returns-in_default-clause-answer c =
    sym (ap (some_passes (λ (f : Fetch). f.waits.mid == c.args.mid))
    (find-nowhere (is_of c.args.peer.now) c.args.rows.now.items (sym c.in_default.ensures)))

pub returns-then-not-has_mid-clause-answer : goal.returns-then-not-has_mid-clause-answer
returns-then-not-has_mid-clause-answer c =
    sym (ap (some_passes (λ (f : Fetch). f.waits.mid == c.args.mid))
    (find-at (is_of c.args.peer.now) c.args.rows.now.items c.in-Some.index
    c.index.result.now (sym c.in-Some.ensures) c.index.ensures)
    ∙ (sym c.has_mid.ensures ∙ c.if-not-has_mid.true))

pub returns-clause-answer : goal.returns-clause-answer
returns-clause-answer c =
    sym (ap (some_passes (λ (f : Fetch). f.waits.mid == c.args.mid))
    (find-at (is_of c.args.peer.now) c.args.rows.now.items c.in-Some.index
    c.index.result.now (sym c.in-Some.ensures) c.index.ensures)
    ∙ (sym c.has_mid.ensures ∙ c.if-not-has_mid.false))
